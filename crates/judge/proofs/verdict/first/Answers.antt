-- `judge::verdict::first` meets its contract: the definition computes in each arm.
use mathlib.Core.Path.{sym}
use borrow.Author.Rules.{rules}
use Rattle.judge.specs.Checks.{◌else◌}
use Rattle.judge.proofs.Laws.{else_decided}
use Rattle.judge.proofs.verdict.first.Goals as goal

pub returns-in-Obeyed : goal.returns-in-Obeyed
unfolding ◌else◌
returns-in-Obeyed c = search rules

pub returns-in_default : goal.returns-in_default
returns-in_default c = sym (else_decided _ _ (search rules))
