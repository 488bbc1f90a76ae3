-- `sheet::load::store_rows` meets its contract. After i turns the values are those after a write of each of the first i rows.
use mathlib.Core.Path.{◌≡◌}
use Rattle.sheet.specs.Loading.{stored_rows}
use Rattle.sheet.proofs.load.store_rows.Given as goal

abbrev pub invariant-loop-i : goal.invariant-loop-i
invariant-loop-i l = l.v ≡ stored_rows l.initial.v l.sheet l.i
