-- Checks of an order form that are wrong, each in one thing: proofs/Wrongs shows that none does what is asked (Demand).
-- Assumes nothing.
use Rattle.std.specs.Prelude.{suc, ◌-◌, ◌%◌, cond, ◌&&◌, List, [], ◌∷◌, ◌++◌, map, ltb, length, get_or, take}
use Rattle.order_form.specs.declared.row.Row.{Row}
use Rattle.order_form.specs.declared.row.Column.{Column}
use Rattle.order_form.specs.declared.row.Column.TheVariants.{Serial, Number}
use Rattle.order_form.specs.declared.answer.Answer.{Answer}
use Rattle.order_form.specs.declared.answer.Answer.TheVariants.{AllDiffer, Repeats, Refused}
use Rattle.order_form.specs.declared.answer.Refusal.TheVariants.{Outside, TooMany}
use Rattle.order_form.specs.Rows.{value_of, has}
use Rattle.order_form.specs.Check.{most, repeat_or, eight_or, seven_or, answer_of}
use Rattle.order_form.specs.Held.{no_row}

-- the number first, if both are repeated
abbrev number_search : List Row → List Row → Answer
number_search before [] = AllDiffer
number_search before (r ∷ rows) = repeat_or Number before r (repeat_or Serial before r (number_search (before ++ (r ∷ [])) rows))

abbrev pub number_first : List Row → Answer
number_first rows = eight_or (length rows) (seven_or rows (number_search [] rows))

-- the last row that repeats an earlier one
abbrev last_search : Answer → List Row → List Row → Answer
last_search found before [] = found
last_search found before (r ∷ rows) = last_search (repeat_or Serial before r (repeat_or Number before r found)) (before ++ (r ∷ [])) rows

abbrev pub last_repeat : List Row → Answer
last_repeat rows = eight_or (length rows) (seven_or rows (last_search AllDiffer [] rows))

-- 7 before 8
abbrev pub seven_first : List Row → Answer
seven_first rows = seven_or rows (eight_or (length rows) (answer_of rows))

-- each row is compared with the one before it only
abbrev beside_or : Column → List Row → Row → Answer → Answer
beside_or c before r other =
    let last = length before - 1 in
    cond (ltb 0 (length before) && has c (value_of c r) (get_or before last no_row)) (Repeats c (length before) last) other

abbrev neighbour_search : List Row → List Row → Answer
neighbour_search before [] = AllDiffer
neighbour_search before (r ∷ rows) = beside_or Serial before r (beside_or Number before r (neighbour_search (before ++ (r ∷ [])) rows))

abbrev pub neighbours_only : List Row → Answer
neighbours_only rows = eight_or (length rows) (seven_or rows (neighbour_search [] rows))

-- rows counted from 1
abbrev counted : Answer → Answer
counted AllDiffer = AllDiffer
counted (Repeats c k j) = Repeats c (suc k) (suc j)
counted (Refused (Outside k)) = Refused (Outside (suc k))
counted (Refused TooMany) = Refused TooMany

abbrev pub from_one_of : List Row → Answer
from_one_of rows = counted (answer_of rows)

-- the low 16 bits of a serial only
abbrev low : Row → Row
low r = record { serial = r.serial % 65536; node = r.node }

abbrev pub low_serials : List Row → Answer
low_serials rows = answer_of (map low rows)

-- the rows after the first 127 are dropped
abbrev pub first_rows_of : List Row → Answer
first_rows_of rows = answer_of (take most rows)
