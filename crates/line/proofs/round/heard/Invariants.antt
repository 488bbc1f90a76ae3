-- The loop goes by the laws of a turn.
use Rattle.head.specs.Hear.{step_of}
use Rattle.line.proofs.Laws.{Heard}
use Rattle.line.proofs.round.heard.Given as goal

abbrev pub invariant-loop-h : goal.invariant-loop-h
invariant-loop-h l = Heard (λ h. step_of h l.b l.at) l.initial.heads l.h-index l.heads l.replies
