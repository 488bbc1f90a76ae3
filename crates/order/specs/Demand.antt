-- What is asked of what the clerk is told of a form: the first malformed line, or else by the answer to the rows (the crate order_form, Demand) and by
-- their places.
-- Assumes nothing.
use Rattle.std.specs.Prelude.{◌≡◌, ℕ, true, List, map, length, slice_index_or, Option, Some, None}
use Rattle.rows.specs.Among.{among}
use Rattle.order_form.specs.declared.row.Column.TheVariants.{Serial, Number}
use Rattle.order_form.specs.declared.answer.Answer.{Answer}
use Rattle.order_form.specs.declared.answer.Answer.TheVariants.{AllDiffer, Repeats, Refused}
use Rattle.order_form.specs.declared.answer.Refusal.TheVariants.{Outside, TooMany}
use Rattle.order_form.specs.Check.{answer_of}
use Rattle.order_form.specs.Held.{no_row}
use Rattle.free_number.specs.Demand.{IsLowest}
use Rattle.order.specs.declared.desk.Notice.{Notice}
use Rattle.order.specs.declared.desk.Notice.TheVariants as notice
use Rattle.order.specs.Written.{lines_from, malformed_in, Placed, rows_in, row_of}

-- row i, and its line
abbrev pub at : List Placed → ℕ → Placed
at rows i = slice_index_or rows i (record { line = 0; row = no_row })

-- the lowest number that no row has, be it before or after the row that repeats one; or that each has a row
abbrev pub IsFree : List Placed → Option ℕ → Type 0
IsFree rows free = IsLowest (among (map (λ (p : Placed). p.row.node) rows)) free

-- a row that repeats an earlier one comes with the number that is free, and nothing else does
abbrev pub Says : List Placed → Answer → Notice → Type 0
Says rows AllDiffer told = told ≡ notice.Accepted (length rows)
Says rows (Repeats Serial i j) told =
    (free : Option ℕ) × (told ≡ notice.SameSerial (at rows i).line (at rows i).row.serial (at rows j).line free) × IsFree rows free
Says rows (Repeats Number i j) told =
    (free : Option ℕ) × (told ≡ notice.SameNumber (at rows i).line (at rows i).row.node (at rows j).line free) × IsFree rows free
Says rows (Refused (Outside i)) told = told ≡ notice.Outside (at rows i).line (at rows i).row.node
Says rows (Refused TooMany) told = told ≡ notice.TooMany

pub record Demanded (told : List (List ℕ) → Notice) : Type 0 where
  pub malformed : (ls : List (List ℕ)) (line : ℕ) → malformed_in (lines_from 1 true ls) ≡ Some line → told ls ≡ notice.Malformed line
  pub says : (ls : List (List ℕ)) → let all = lines_from 1 true ls in malformed_in all ≡ None
      → Says (rows_in all) (answer_of (map row_of (rows_in all))) (told ls)
