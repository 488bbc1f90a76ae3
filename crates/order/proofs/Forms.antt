-- What the program tells of a form, in whatever pieces it comes, is what its lines say: the desk stands as they say (Stands), the rows that an
-- answer names are kept, and what is kept of a line means what the line means.
-- Assumes nothing.
use Rattle.std.proofs.Common.{◌≡◌, ℕ, suc, ◌+◌, ◌^◌, ◌<◌, ◌≤◌, Bool, true, false, ◌&&◌, eqb, List, [], ◌∷◌, ◌++◌, map, length, take, sym, refl, ap, ◌∙◌, ap₂, append-nil, arith, eq-eqb, ne_eqb, eqb-true, Option}
use mathlib.Core.List.{flatten}
use borrow.Author.Tests.{eqb-false}
use lib.ListN.{length-map}
use lib.Seq.{append_snoc}
use Rattle.text.specs.Reading.{lines_of, closed_of, pieces_of, after_all}
use Rattle.text.proofs.Pieces.{in_pieces, text_read}
use Rattle.form_text.specs.Form.{entry_of}
use Rattle.form_text.proofs.Long.{start_does}
use Rattle.order_form.specs.declared.row.Row.{Row}
use Rattle.order_form.specs.declared.answer.Answer.{Answer}
use Rattle.order_form.specs.declared.answer.Answer.TheVariants.{AllDiffer, Repeats, Refused}
use Rattle.order_form.specs.declared.answer.Refusal.TheVariants.{Outside, TooMany}
use Rattle.order_form.specs.Check.{most, answer_of}
use Rattle.order_form.specs.Held.{no_row, check_of}
use Rattle.order_form.proofs.Kept.{kept_at, length_snoc}
use Rattle.order_form.proofs.Held.{Holds, holds, added}
use Rattle.order_form.proofs.Demands.{Inside, inside}
use Rattle.free_number.specs.Lowest.{lowest_of}
use Rattle.free_number.specs.Used.{used}
use Rattle.free_number.proofs.Demands.{lowest_added}
use Rattle.order.specs.declared.desk.Desk.{Desk}
use Rattle.order.specs.declared.desk.Notice.TheVariants as notice
use Rattle.order.specs.Written.{is_blank, Line, lines_from, malformed_in, rows_in, line_of, row_of, node_of, free_in, told_by, told_of, malformed_or, written_of}
use Rattle.order.specs.Desk.{desk_of, entered_of, noted_of, line_at, row_at, said_of}
use Rattle.order.specs.Reading.{room}
use Rattle.order.proofs.Stands.{Stands, none_stands, one_line}

-- ---- what is told of the rows that an answer names, where these are the same
told_same : (line line' : ℕ → ℕ) (row row' : ℕ → Row) (n n' : ℕ) (free : Option ℕ) (rows : List Row) (a : Answer) → Inside rows a
    → (length rows ≤ 127 → n ≡ n') → ((i : ℕ) → i < length rows → i < 127 → (line i ≡ line' i) × (row i ≡ row' i))
    → told_by line row n free a ≡ told_by line' row' n' free a
told_same line line' row row' n n' free rows AllDiffer h count at = ap notice.Accepted (count h)
told_same line line' row row' n n' free rows (Repeats c k j) h count at =
    let p = at k h.1 (omega (arith, h.0, h.1)) in
    rw (p.0, p.1, (at j h.2 (omega (arith, h.0, h.2))).0)
told_same line line' row row' n n' free rows (Refused (Outside k)) h count at =
    let p = at k h.1 (omega (arith, h.0, h.1)) in
    rw (p.0, p.1)
told_same line line' row row' n n' free rows (Refused TooMany) h count at = refl

-- ---- what the desk tells after its lines
module _ (d : Desk) (before : List Line) (first : Bool) (k : Stands d before first) where
  abbrev rows : List Row
  rows = map row_of (rows_in before)

  held : Holds d.form rows
  held = rw k.form (holds rows)

  long : length (map line_of (rows_in before)) ≡ length rows
  long = length-map (rows_in before) line_of ∙ sym (length-map (rows_in before) row_of)

  free_rows : lowest_of (used d.numbers) ≡ free_in (rows_in before)
  free_rows = rw k.numbers (lowest_added (map node_of (rows_in before)))

  told_rows : told_by (line_at d) (row_at d) d.form.count (lowest_of (used d.numbers)) (check_of d.form)
      ≡ told_of (rows_in before)
  told_rows =
      ap₂ (told_by (line_at d) (row_at d) d.form.count) free_rows (ap check_of k.form ∙ added rows)
      ∙ told_same _ _ _ _ _ _ (free_in (rows_in before)) rows (answer_of rows) (inside rows)
      (λ few. omega (arith, held.count, few, length-map (rows_in before) row_of))
      (λ i h l. (kept_at most _ _ k.places i 0 (omega (arith, long, h)) l, kept_at most _ _ held.are i no_row h l))

  tells : said_of d ≡ malformed_or (malformed_in before) (told_of (rows_in before))
  unfolding said_of
  tells = rw (k.malformed, told_rows)

-- ---- all lines, one after another
top : (n : ℕ) → eqb (suc n) 1 ≡ eqb n 0
top n = go (eqb n 0) refl
  where
    go : (b : Bool) → eqb n 0 ≡ b → eqb (suc n) 1 ≡ b
    go true e = eq-eqb (suc n) 1 (let z : n ≡ 0 = eqb-true n 0 e in omega arith)
    go false e = ne_eqb (suc n) 1 (λ z. eqb-false n 0 e (omega arith))

reads_on : (ls : List (List ℕ)) (d : Desk) (before : List Line) (first : Bool) → Stands d before first → length before + length ls < 2 ^ 64
    → let all = before ++ lines_from (suc (length before)) first ls in
    said_of (after_all noted_of d ls) ≡ malformed_or (malformed_in all) (told_of (rows_in all))
unfolding noted_of
reads_on [] d before first k few = rw append-nil (tells d before first k)
reads_on (l ∷ ls) d before first k few =
    let e = entry_of l (eqb (suc (length before)) 1) first in
    let line : Line = record { number = suc (length before); entry = e } in
    let same : noted_of d l ≡ entered_of d e = rw (k.lines, k.is_first_lem, top (length before)) in
    let next : Stands (entered_of d e) (before ++ (line ∷ [])) (first && is_blank e) = one_line d before first k (omega arith) e in
    let on = reads_on ls (entered_of d e) (before ++ (line ∷ [])) (first && is_blank e) next (omega (arith, length_snoc before line)) in
    ap (λ (x : Desk). said_of (after_all noted_of x ls)) same ∙ rw (length_snoc, append_snoc) at on

-- ---- the form
noted : (d : Desk) (line : List ℕ) → noted_of d (take room line) ≡ noted_of d line
unfolding noted_of
noted d line = ap (entered_of d) (start_does line (eqb d.lines 0) d.first)

-- lines are counted in 64 bits
pub form_told : (pieces : List (List ℕ)) → length (lines_of (flatten pieces)) < 2 ^ 64
    → said_of (closed_of noted_of (pieces_of noted_of room (record { state = desk_of; text = [] }) pieces)) ≡ written_of (lines_of (flatten pieces))
unfolding written_of
form_told pieces few =
    let ls = lines_of (flatten pieces) in
    ap said_of (rw (in_pieces noted_of room) (text_read noted_of room noted (omega arith) desk_of (flatten pieces)))
    ∙ reads_on ls desk_of [] true none_stands (omega arith)
