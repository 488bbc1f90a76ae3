-- `rows::resets::bus` meets its contract: of the places that are none of the six, one computed test; past the 39 there is none.
use mathlib.Core.Path.{sym}
use native.Mathlib.Omega.{arith}
use borrow.Author.Rules.{rules}
use Rattle.rows.proofs.Groups.{bus_none}
use Rattle.rows.proofs.resets.bus.Goals as goal

pub returns-in_default : goal.returns-in_default
returns-in_default c = sym (bus_none _ (search rules) (omega arith))
