-- `script::arguments::read` meets its contract. The invariant: what the words that are left at first say is what those that are left now say,
-- from number i on.
use Rattle.std.proofs.Common.{refl, ◌∙◌, length-set}
use Rattle.script.specs.Arguments.{arguments_of}
use Rattle.script.proofs.Taken.{numbers_end, number_unfit, number_on}
use Rattle.script.proofs.arguments.read.Goals as goal

pub loop-i-init : goal.loop-i-init
unfolding arguments_of
loop-i-init c = (refl, refl)

pub returns-in_err-numbers : goal.returns-in_err-numbers
returns-in_err-numbers c =
    let k = c.loop-i in
    c.from_residual.ensures
    ∙ number_unfit _ k.i c.loop-i-test.true _ _ _ _ c.first.ensures c.decimal.ensures c.in_err-numbers.was
    ∙ k.invariant.1

pub loop-i-preserved : goal.loop-i-preserved
loop-i-preserved c =
    let k = c.loop-i in (
      simp length-set k.invariant.0,
      rw c.after-rest.ensures.line
          (number_on _ k.i c.loop-i-test.true _ _ _ _ c.first.ensures c.decimal.ensures c.in_ok-numbers.was c.after-rest.ensures.from ∙ k.invariant.1),
    )

pub returns : goal.returns
returns c = c.ended.ensures ∙ numbers_end _ c.loop-i.i c.loop-i-test.false _ _ _ ∙ c.loop-i.invariant.1
