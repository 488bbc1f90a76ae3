-- The heads so far have heard the tick.
use Rattle.std.proofs.Common.{◌≡◌, ◌++◌, map, take, drop}
use Rattle.line.specs.Round.{ticked_at}
use Rattle.line.proofs.calls.tick_each.Given as goal

abbrev pub invariant-loop-h : goal.invariant-loop-h
invariant-loop-h l = l.heads ≡ map (ticked_at l.at) (take l.h-index l.initial.heads) ++ drop l.h-index l.initial.heads
