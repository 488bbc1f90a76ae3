-- Each way out is by what `place` found, or did not, among the rows before.
use mathlib.Core.Path.{sym, ◌∙◌}
use Rattle.order_form.proofs.Repeats.{serial_here, number_here, next, ends}
use Rattle.order_form.proofs.search.first_repeat.Goals as goal

pub returns-in-Some : goal.returns-in-Some
returns-in-Some c = serial_here _ _ c.loop-k-test.true c.loop-k.invariant _ (sym c.place.ensures ∙ c.in-Some.is)

pub returns-in-Some-place : goal.returns-in-Some-place
returns-in-Some-place c =
    number_here _ _ c.loop-k-test.true c.loop-k.invariant (sym c.place.ensures ∙ c.in_default.is) _ (sym c.place-in-loop-k.ensures ∙ c.in-Some-place.is)

pub loop-k-preserved : goal.loop-k-preserved
loop-k-preserved c =
    next _ _ c.loop-k-test.true c.loop-k.invariant (sym c.place.ensures ∙ c.in_default.is) (sym c.place-in-loop-k.ensures ∙ c.in_default-place.is)

pub returns : goal.returns
returns c = ends c.args.rows.now c.loop-k.k c.loop-k-test.false c.loop-k.invariant
