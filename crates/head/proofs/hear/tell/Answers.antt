-- The short way goes by its law.
use Rattle.std.proofs.Common.{sym, ap, ◌∙◌}
use Rattle.head.proofs.Passes.{unanswered, passes_tell}
use Rattle.head.proofs.hear.tell.Goals as goal

pub returns-then-passes : goal.returns-then-passes
returns-then-passes c =
    ap unanswered c.passed.ensures ∙ sym (passes_tell _ c.args.h _ (sym c.passes.ensures ∙ c.if-passes.true))
