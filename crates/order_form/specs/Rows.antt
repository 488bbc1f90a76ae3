-- The rows of an order form, and which of them is the first of some kind.
-- Assumes nothing.
use Rattle.std.specs.Prelude.{ℕ, suc, Bool, cond, not, List, [], ◌∷◌, eqb}
use Rattle.head.specs.Calls.{node_fits}
use Rattle.order_form.specs.declared.row.Row.{Row}
use Rattle.order_form.specs.declared.row.Column.{Column}
use Rattle.order_form.specs.declared.row.Column.TheVariants.{Serial, Number}

-- what a row has in a column
abbrev pub value_of : Column → Row → ℕ
value_of Serial r = r.serial
value_of Number r = r.node

abbrev pub has : Column → ℕ → Row → Bool
has c value r = eqb (value_of c r) value

-- its number is none that a head may have
abbrev pub is_outside : Row → Bool
is_outside r = not (node_fits r.node)

-- the place of the first row, counted from 0, of which the test holds; how many rows there are where it holds of none
unfoldable pub first_of : (Row → Bool) → List Row → ℕ
first_of test [] = 0
first_of test (r ∷ rows) = cond (test r) 0 (suc (first_of test rows))
