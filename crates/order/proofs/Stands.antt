-- What the program keeps is what the lines so far say: line by line, for each sort of line.
-- Assumes nothing.
use Rattle.std.proofs.Common.{◌≡◌, ℕ, suc, ◌+◌, ◌%◌, ◌^◌, ◌<◌, Bool, true, false, cond, ◌&&◌, ltb, List, [], ◌∷◌, ◌++◌, map, length, set, sym, refl, ap, ◌∙◌, append_assoc, append-nil, mod-eq_of_lt, arith, ltb-true, Option, Some, None}
use mathlib.Core.Bool.{and-true, and-false}
use mathlib.Core.List.{map-append}
use lib.ListN.{length-map}
use Rattle.std.specs.Option.{option_or}
use Rattle.form_text.specs.declared.rows.Entry.{Entry}
use Rattle.form_text.specs.declared.rows.Entry.TheVariants as entry
use Rattle.order_form.specs.declared.row.Row.{Row}
use Rattle.order_form.specs.Check.{most}
use Rattle.order_form.specs.Held.{blank_of, add_all}
use Rattle.order_form.proofs.Kept.{Kept, none_kept, one_more, length_snoc}
use Rattle.order_form.proofs.Held.{Holds, holds, room_test, add_snoc}
use Rattle.free_number.specs.Rows.{start, adding}
use Rattle.free_number.specs.Demand.{product, after}
use Rattle.free_number.proofs.Rows.{adding_snoc}
use Rattle.order.specs.declared.desk.Desk.{Desk}
use Rattle.order.specs.Written.{is_blank, is_malformed, Line, malformed_in, Placed, row_at, rows_in, line_of, row_of, node_of}
use Rattle.order.specs.Desk.{desk_of, put_of, next_of, entered_of}

-- the desk after these lines
pub record Stands (d : Desk) (before : List Line) (first : Bool) : Type 0 where
  pub lines : d.lines ≡ length before
  pub is_first_lem : d.first ≡ first
  pub form : d.form ≡ add_all blank_of (map row_of (rows_in before))
  pub places : Kept most (map line_of (rows_in before)) d.places
  pub numbers : d.numbers ≡ after product (adding start (map node_of (rows_in before)))
  pub malformed : d.malformed ≡ malformed_in before

pub none_stands : Stands desk_of [] true
unfolding desk_of after
none_stands = record { lines = refl; is_first_lem = refl; form = refl; places = none_kept desk_of.places; numbers = refl; malformed = refl }

-- ---- lists of lines, with one more
rows_snoc : (before : List Line) (l : Line) → rows_in (before ++ (l ∷ [])) ≡ rows_in before ++ row_at l.number l.entry
rows_snoc [] l = append-nil (row_at l.number l.entry)
rows_snoc (b ∷ before) l =
    ap (λ (ps : List Placed). row_at b.number b.entry ++ ps) (rows_snoc before l)
    ∙ sym (append_assoc (row_at b.number b.entry) (rows_in before) (row_at l.number l.entry))

-- the first malformed line is one of those before, or else the last
abbrev malformed_at : Line → Option ℕ
malformed_at l = cond (is_malformed l.entry) (Some l.number) None

malformed_snoc : (before : List Line) (l : Line) → malformed_in (before ++ (l ∷ [])) ≡ option_or (malformed_in before) (malformed_at l)
malformed_snoc [] l = refl
malformed_snoc (b ∷ before) l =
    elim (is_malformed b.entry) as (λ x. cond x (Some b.number) (malformed_in (before ++ (l ∷ [])))
    ≡ option_or (cond x (Some b.number) (malformed_in before)) (malformed_at l))
    [ true ↦ refl | false ↦ malformed_snoc before l ]

or_none : (o : Option ℕ) → option_or o None ≡ o
or_none None = refl
or_none (Some n) = refl

-- ---- a row more, and its line
put_kept : (xs places : List ℕ) (count line : ℕ) → ltb count most ≡ ltb (length xs) most → (length xs < most → count ≡ length xs)
    → Kept most xs places → Kept most (xs ++ (line ∷ [])) (put_of places count line)
put_kept xs places count line test same k = go (ltb (length xs) most) refl (one_more most xs places line k)
  where
    go : (b : Bool) → ltb (length xs) most ≡ b → Kept most (xs ++ (line ∷ [])) (cond (ltb (length xs) most) (set places (length xs) line) places)
        → Kept most (xs ++ (line ∷ [])) (put_of places count line)
    go true e more = rw (test, e, same (ltb-true (length xs) most e)) (rw e at more)
    go false e more = rw (test, e) (rw e at more)

-- ---- one line more
module _ (d : Desk) (before : List Line) (first : Bool) (k : Stands d before first) (few : suc (length before) < 2 ^ 64) where
  abbrev number : ℕ
  number = suc (length before)

  abbrev now : Entry → List Line
  now e = before ++ (record { number = number; entry = e } ∷ [])

  next_line : next_of d ≡ number
  next_line =
      let e : d.lines + 1 ≡ number = omega (arith, k.lines) in
      ap (λ (n : ℕ). n % 2 ^ 64) e ∙ mod-eq_of_lt few

  line_count : (e : Entry) → next_of d ≡ length (now e)
  line_count e = next_line ∙ sym (length_snoc before (record { number = number; entry = e }))

  -- a line that is no row leaves the rows, and one that is not malformed leaves the first malformed
  same_rows : (e : Entry) → row_at number e ≡ [] → rows_in (now e) ≡ rows_in before
  same_rows e empty = rows_snoc before (record { number = number; entry = e }) ∙ rw (empty, append-nil)

  same_malformed : (e : Entry) → is_malformed e ≡ false → malformed_in (now e) ≡ malformed_in before
  same_malformed e fine = malformed_snoc before (record { number = number; entry = e }) ∙ rw (fine, or_none)

  passed : (e : Entry) (b : Bool) → row_at number e ≡ [] → is_malformed e ≡ false
      → Stands (record { form = d.form; places = d.places; numbers = d.numbers; lines = next_of d; first = b; malformed = d.malformed }) (now e) b
  passed e b no_row fine =
      record {
        lines = line_count e;
        is_first_lem = refl;
        form = rw (same_rows e no_row) k.form;
        places = rw (same_rows e no_row) k.places;
        numbers = rw (same_rows e no_row) k.numbers;
        malformed = rw (same_malformed e fine) k.malformed;
      }

  with_row : (serial node : ℕ) → Stands (entered_of d (entry.Row serial node)) (now (entry.Row serial node)) false
  unfolding after
  with_row serial node =
      record {
        lines = line_count (entry.Row serial node);
        is_first_lem = refl;
        form = rw (k.form, rows, map-append) (sym (add_snoc blank_of (map row_of (rows_in before)) row));
        places = rw (next_line, rows, map-append) (put_kept (map line_of (rows_in before)) d.places d.form.count number test same k.places);
        numbers = rw (k.numbers, rows, map-append, adding_snoc);
        malformed = rw (same_malformed (entry.Row serial node) refl) k.malformed;
      }
    where
      row : Row
      row = record { serial = serial; node = node }

      rows : rows_in (now (entry.Row serial node)) ≡ rows_in before ++ (record { line = number; row = row } ∷ [])
      rows = rows_snoc before (record { number = number; entry = entry.Row serial node })

      held : Holds d.form (map row_of (rows_in before))
      held = rw k.form (holds (map row_of (rows_in before)))

      long : length (map row_of (rows_in before)) ≡ length (map line_of (rows_in before))
      long = length-map (rows_in before) row_of ∙ sym (length-map (rows_in before) line_of)

      test : ltb d.form.count most ≡ ltb (length (map line_of (rows_in before))) most
      test = room_test d.form (map row_of (rows_in before)) held ∙ ap (λ (n : ℕ). ltb n most) long

      same : length (map line_of (rows_in before)) < most → d.form.count ≡ length (map line_of (rows_in before))
      same h = omega (arith, held.count, long)

  not_a_row : Stands (entered_of d entry.Malformed) (now entry.Malformed) false
  not_a_row =
      record {
        lines = line_count entry.Malformed;
        is_first_lem = refl;
        form = rw (same_rows entry.Malformed refl) k.form;
        places = rw (same_rows entry.Malformed refl) k.places;
        numbers = rw (same_rows entry.Malformed refl) k.numbers;
        malformed = rw (k.malformed, next_line) (sym last);
      }
    where
      last : malformed_in (now entry.Malformed) ≡ option_or (malformed_in before) (Some number)
      last = malformed_snoc before (record { number = number; entry = entry.Malformed })

  pub one_line : (e : Entry) → Stands (entered_of d e) (now e) (first && is_blank e)
  one_line entry.Blank = rw (and-true, ← k.is_first_lem) (passed entry.Blank d.first refl refl)
  one_line entry.Heading = rw and-false (passed entry.Heading false refl refl)
  one_line (entry.Row serial node) = rw and-false (with_row serial node)
  one_line entry.Malformed = rw and-false not_a_row
