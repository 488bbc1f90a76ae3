-- `text::numbers::decimal` meets its contract. The invariant: what the word comes to is what its characters from place i on come to, that
-- follow on others of the value v, and v is no more than the limit.
use Prim.Native.Nat.{◌≤◌}
use mathlib.Core.Path.{◌≡◌}
use lib.ListN.{drop}
use Rattle.text.specs.Numbers.{number_of}
use Rattle.text.proofs.Spelled.{number_from}
use Rattle.text.proofs.numbers.decimal.Given as goal

abbrev pub invariant-loop-b : goal.invariant-loop-b
invariant-loop-b l = (l.v ≤ l.limit) × (number_from l.limit l.v (drop l.b-index l.word) ≡ number_of l.limit l.word)
