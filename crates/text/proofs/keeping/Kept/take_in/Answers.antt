-- By what `lines::take_in` promises of the text.
use Rattle.std.proofs.Common.{◌∙◌, ap}
use Rattle.text.specs.Keeping.{kept_after}
use Rattle.text.proofs.TakenIn.{fit, left, on, over}
use Rattle.text.proofs.keeping.Kept.take_in.Goals as goal
use Rattle.text.proofs.keeping.Kept.take_in.Goals.{then-taken, else-taken}

pub invariant_of-self : goal.invariant_of-self
invariant_of-self g c = fit g.row.ROOM c.self.inside.text _ _ _ c.self.told c.self.invariant c.take_in-taken.ensures.value

pub returns-clause-value : goal.returns-clause-value
returns-clause-value g c =
    elim c.if-taken.branch [
      | then-taken w ↦ w.result-is ∙ on g.row.ROOM c.self.inside.text _ _ _ c.self.told c.self.invariant c.take_in-taken.ensures.value w.if-taken.true
      | else-taken w ↦ w.result-is ∙ over g.row.ROOM c.self.inside.text _ _ _ c.self.told c.self.invariant c.take_in-taken.ensures.value w.if-taken.false
    ]

pub returns-clause-line_after : goal.returns-clause-line_after
returns-clause-line_after g c =
    left g.row.ROOM c.self.inside.text _ _ _ c.self.told c.self.invariant c.take_in-taken.ensures.value c.take_in-taken.ensures.line_after
    ∙ ap (λ t. kept_after g.row.ROOM t c.args.piece.now c.args.from) c.self.view_is
