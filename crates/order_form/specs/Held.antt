-- A form that is held by value: room for 127 rows, and how many there are.
-- Assumes nothing.
use Rattle.std.specs.Prelude.{suc, cond, List, [], ◌∷◌, ltb, take, set, replicate}
use Rattle.order_form.specs.declared.row.Row.{Row}
use Rattle.order_form.specs.declared.form.Form.{Form}
use Rattle.order_form.specs.declared.answer.Answer.{Answer}
use Rattle.order_form.specs.Check.{most, eight_or, answer_of}

-- what stands in a place past the count does not matter
abbrev pub no_row : Row
no_row = record { serial = 0; node = 0 }

unfoldable pub blank_of : Form
blank_of = record { rows = replicate most no_row; count = 0 }

-- one row more, while there is room; then only the count says that there are too many
unfoldable pub add_of : Form → Row → Form
add_of f r =
    cond (ltb f.count most)
    (record { rows = set f.rows f.count r; count = suc f.count })
    (record { rows = f.rows; count = suc most })

-- the answer to the rows that it holds
unfoldable pub check_of : Form → Answer
check_of f = eight_or f.count (answer_of (take f.count f.rows))

-- a form after rows, one by one
abbrev pub add_all : Form → List Row → Form
add_all f [] = f
add_all f (r ∷ rows) = add_all (add_of f r) rows
