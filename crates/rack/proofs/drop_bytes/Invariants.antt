-- The heads so far have dropped their bytes.
use Rattle.std.proofs.Common.{◌≡◌, ◌++◌, map, take, drop}
use Rattle.state.specs.With.{with_ear}
use Rattle.effects.specs.Restart.{empty_ear}
use Rattle.rack.proofs.drop_bytes.Given as goal

abbrev pub invariant-loop-h : goal.invariant-loop-h
invariant-loop-h l = l.heads ≡ map (λ h. with_ear h (empty_ear l.at)) (take l.h-index l.initial.heads) ++ drop l.h-index l.initial.heads
