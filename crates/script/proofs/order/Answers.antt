-- `script::order` meets its contract: the arguments are read as the row says, and the row makes the command of them.
use Rattle.std.proofs.Common.{◌≡◌, ◌∙◌, List, Option}
use Rattle.script.specs.declared.Name.{Name}
use Rattle.script.specs.declared.arguments.Arguments.{Arguments}
use Rattle.script.specs.declared.arguments.Last.{Last}
use Rattle.script.specs.Words.{Word}
use Rattle.script.specs.Arguments.{arguments_of}
use Rattle.script.specs.Meaning.{row_of, if_fit, order_of}
use Rattle.script.proofs.order.Goals as goal
use Prim.Native.Nat.{ℕ}

-- by whether the words fit
ordered : (n : Name) (ws : List Word) {limits : List ℕ} {after : Last} {a r : Option Arguments} → limits ≡ (row_of n).limits → after ≡ (row_of n).last
    → a ≡ arguments_of limits after ws → a ≡ r → if_fit r (row_of n).made ≡ order_of n ws
unfolding order_of
ordered n ws p q e f = rw (← f, e, p, q)

pub returns-in-Some : goal.returns-in-Some
returns-in-Some c = c.made.ensures ∙ ordered _ _ c.takes.ensures.limits c.takes.ensures.last c.read.ensures c.in-Some.is

pub returns-in-None : goal.returns-in-None
returns-in-None c = ordered _ _ c.takes.ensures.limits c.takes.ensures.last c.read.ensures c.in-None.is
