-- What the clerk is told of a written form, over the list of its lines.
-- Assumes nothing.
use Rattle.std.specs.Prelude.{ℕ, suc, Bool, true, false, cond, ◌&&◌, List, [], ◌∷◌, ◌++◌, map, length, ◌==◌, slice_index, slice_index_or, Option, Some, None}
use Rattle.rows.specs.Among.{among}
use Rattle.form_text.specs.declared.rows.Entry.{Entry}
use Rattle.form_text.specs.declared.rows.Entry.TheVariants as entry
use Rattle.form_text.specs.Form.{entry_of}
use Rattle.order_form.specs.declared.row.Row.{Row}
use Rattle.order_form.specs.declared.row.Column.{Column}
use Rattle.order_form.specs.declared.row.Column.TheVariants.{Serial, Number}
use Rattle.order_form.specs.declared.answer.Answer.{Answer}
use Rattle.order_form.specs.declared.answer.Answer.TheVariants.{AllDiffer, Repeats, Refused}
use Rattle.order_form.specs.declared.answer.Refusal.{Refusal}
use Rattle.order_form.specs.declared.answer.Refusal.TheVariants.{Outside, TooMany}
use Rattle.order_form.specs.Check.{answer_of}
use Rattle.order_form.specs.Held.{no_row}
use Rattle.free_number.specs.Lowest.{lowest_of}
use Rattle.order.specs.declared.desk.Notice.{Notice}
use Rattle.order.specs.declared.desk.Notice.TheVariants as notice

-- ---- the lines
-- a line is passed over wherever it stands; it is none that a form may have
abbrev pub is_blank : Entry → Bool
is_blank entry.Blank = true
is_blank entry.Heading = false
is_blank (entry.Row serial node) = false
is_blank entry.Malformed = false

abbrev pub is_malformed : Entry → Bool
is_malformed entry.Blank = false
is_malformed entry.Heading = false
is_malformed (entry.Row serial node) = false
is_malformed entry.Malformed = true

-- a line: its number, and what it is
pub record Line : Type 0 where
  pub number : ℕ
  pub entry : Entry

-- the lines from the number n on, all of which count; `first` says that those before were blank or comments. The byte order mark may stand in line 1
abbrev pub lines_from : ℕ → Bool → List (List ℕ) → List Line
lines_from n first [] = []
lines_from n first (l ∷ ls) =
    let e = entry_of l (n == 1) first in
    record { number = n; entry = e } ∷ lines_from (suc n) (first && is_blank e) ls

-- the first malformed line
abbrev pub malformed_in : List Line → Option ℕ
malformed_in [] = None
malformed_in (l ∷ ls) = cond (is_malformed l.entry) (Some l.number) (malformed_in ls)

-- ---- the rows
-- a row, and the number of its line
pub record Placed : Type 0 where
  pub line : ℕ
  pub row : Row

abbrev pub row_at : ℕ → Entry → List Placed
row_at n entry.Blank = []
row_at n entry.Heading = []
row_at n (entry.Row serial node) = record { line = n; row = record { serial = serial; node = node } } ∷ []
row_at n entry.Malformed = []

abbrev pub rows_in : List Line → List Placed
rows_in [] = []
rows_in (l ∷ ls) = row_at l.number l.entry ++ rows_in ls

-- ---- what is told
-- of a row that repeats an earlier one in the column: its line, the row, the earlier line, and the number that is free
abbrev pub repeated_by : Column → ℕ → Row → ℕ → Option ℕ → Notice
repeated_by Serial line row earlier free = notice.SameSerial line row.serial earlier free
repeated_by Number line row earlier free = notice.SameNumber line row.node earlier free

-- of rows, by the answer to them: the line of each row, the row, how many there are, and the number that is free
abbrev pub refused_by : (ℕ → ℕ) → (ℕ → Row) → Refusal → Notice
refused_by line row (Outside i) = notice.Outside (line i) (row i).node
refused_by line row TooMany = notice.TooMany

abbrev pub told_by : (ℕ → ℕ) → (ℕ → Row) → ℕ → Option ℕ → Answer → Notice
told_by line row n free AllDiffer = notice.Accepted n
told_by line row n free (Repeats c i j) = repeated_by c (line i) (row i) (line j) free
told_by line row n free (Refused why) = refused_by line row why

abbrev pub line_of : Placed → ℕ
line_of p = p.line

abbrev pub row_of : Placed → Row
row_of p = p.row

abbrev pub node_of : Placed → ℕ
node_of p = p.row.node

-- the lowest number that no row of the form has, be it before or after the row that repeats one
abbrev pub free_in : List Placed → Option ℕ
free_in rows = lowest_of (among (map node_of rows))

abbrev pub told_of : List Placed → Notice
told_of rows =
    told_by (λ i. slice_index (map line_of rows) i) (λ i. slice_index_or (map row_of rows) i no_row) (length rows) (free_in rows) (answer_of (map row_of rows))

-- a malformed line goes before all else
abbrev pub malformed_or : Option ℕ → Notice → Notice
malformed_or None other = other
malformed_or (Some line) other = notice.Malformed line

unfoldable pub written_of : List (List ℕ) → Notice
written_of ls = let all = lines_from 1 true ls in malformed_or (malformed_in all) (told_of (rows_in all))
