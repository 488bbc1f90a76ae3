-- `judge::verdict::verdict_of` meets its contract: what the first two checks decide, the checks after them do not change.
use mathlib.Core.Path.{sym}
use borrow.Author.Rules.{rules}
use Rattle.judge.specs.Checks.{◌else◌}
use Rattle.judge.specs.Verdicts.{verdict_of}
use Rattle.judge.proofs.Laws.{else_assoc, else_decided}
use Rattle.judge.proofs.verdict.verdict_of.Goals as goal

pub returns-in-Obeyed : goal.returns-in-Obeyed
unfolding verdict_of ◌else◌
returns-in-Obeyed c =
    rw (
      c.late.ensures,
      ← else_assoc,
      ← c.command_of-c.ensures,
      ← c.check_sum.ensures,
      ← c.check_node.ensures,
      ← c.first-early.ensures,
      c.in-Obeyed.is,
    )

pub returns-in_default : goal.returns-in_default
unfolding verdict_of
returns-in_default c =
    rw (
      ← else_assoc,
      ← c.command_of-c.ensures,
      ← c.check_sum.ensures,
      ← c.check_node.ensures,
      ← c.first-early.ensures,
    ) (sym (else_decided _ _ (search rules)))
