-- `text::numbers::decimal` meets its contract. The invariant: what the word comes to is what its characters from place i on come to, that
-- follow on others of the value v, and v is no more than the limit.
use mathlib.Core.Path.{sym, ◌∙◌}
use native.Mathlib.Omega.{arith}
use borrow.Author.Rules.{rules}
use Rattle.text.proofs.Spelled.{number_starts, no_digits, digit_over}
use Rattle.text.proofs.numbers.decimal.Goals as goal

pub returns-then-is_empty : goal.returns-then-is_empty
returns-then-is_empty c = no_digits _ _ (search rules)

pub loop-b-init : goal.loop-b-init
loop-b-init c = (omega arith, number_starts _ _ (search rules))

pub returns-then-most-v : goal.returns-then-most-v
returns-then-most-v c =
    sym (digit_over c.args.limit c.loop-b.v c.args.word.now c.loop-b.b-index c.loop-b-test.true (search rules) (omega arith))
    ∙ c.loop-b.invariant.1
