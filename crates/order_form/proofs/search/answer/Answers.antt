-- Each way out is a case of the definition.
use mathlib.Core.Path.{sym, ◌∙◌}
use borrow.Author.Tests.{lt-ltb, le-ltb}
use lib.ListN.{length}
use Rattle.order_form.specs.Rows.{is_outside}
use Rattle.order_form.specs.Check.{most, answer_of}
use Rattle.order_form.proofs.Places.{found, not_found}
use Rattle.order_form.proofs.search.answer.Goals as goal

pub returns-then-rows-gt-MOST : goal.returns-then-rows-gt-MOST
unfolding answer_of
returns-then-rows-gt-MOST c = rw (lt-ltb most _ c.if-rows-gt-MOST.true)

pub returns-in-Some : goal.returns-in-Some
unfolding answer_of
returns-in-Some c =
    let f = found is_outside c.args.rows.now c.in-Some.row (sym c.outside.ensures ∙ c.in-Some.is) in
    rw (le-ltb most _ c.if-rows-gt-MOST.false, f.0, lt-ltb c.in-Some.row _ f.1)

pub returns-in-None : goal.returns-in-None
unfolding answer_of
returns-in-None c =
    let f = not_found is_outside c.args.rows.now (sym c.outside.ensures ∙ c.in-None.is) in
    c.first_repeat.ensures ∙ rw (le-ltb most _ c.if-rows-gt-MOST.false, le-ltb _ (length c.args.rows.now) f)
