-- The answer to an order form, over the list of its rows (document 02, request (iv)).
-- Assumes nothing.
use Rattle.std.specs.Prelude.{ℕ, cond, List, [], ◌∷◌, ◌++◌, ltb, length}
use Rattle.order_form.specs.declared.row.Row.{Row}
use Rattle.order_form.specs.declared.row.Column.{Column}
use Rattle.order_form.specs.declared.row.Column.TheVariants.{Serial, Number}
use Rattle.order_form.specs.declared.answer.Answer.{Answer}
use Rattle.order_form.specs.declared.answer.Answer.TheVariants.{AllDiffer, Repeats, Refused}
use Rattle.order_form.specs.declared.answer.Refusal.{Refusal}
use Rattle.order_form.specs.declared.answer.Refusal.TheVariants.{Outside, TooMany}
use Rattle.order_form.specs.Rows.{value_of, has, is_outside, first_of}

-- the document's numbers
abbrev pub refusal_of : Refusal → ℕ
refusal_of (Outside row) = 7
refusal_of TooMany = 8

-- the most rows
abbrev pub most : ℕ
most = 127

-- the row after these repeats what one of them has in the column; if it does not, the answer is another
abbrev pub repeat_or : Column → List Row → Row → Answer → Answer
repeat_or c before r other =
    let earlier = first_of (has c (value_of c r)) before in
    cond (ltb earlier (length before)) (Repeats c (length before) earlier) other

-- the first of the rows that repeats one before it, and which of the two it repeats: the serial, if both
unfoldable pub repeat_from : List Row → List Row → Answer
repeat_from before [] = AllDiffer
repeat_from before (r ∷ rows) = repeat_or Serial before r (repeat_or Number before r (repeat_from (before ++ (r ∷ [])) rows))

-- 8 for more than 127 rows, and 7 for a number that is not 1..127 in any row; else the answer is another
abbrev pub eight_or : ℕ → Answer → Answer
eight_or count other = cond (ltb most count) (Refused TooMany) other

abbrev pub seven_or : List Row → Answer → Answer
seven_or rows other = cond (ltb (first_of is_outside rows) (length rows)) (Refused (Outside (first_of is_outside rows))) other

-- 8 goes before 7, and 7 before the search
unfoldable pub answer_of : List Row → Answer
answer_of rows = eight_or (length rows) (seven_or rows (repeat_from [] rows))
