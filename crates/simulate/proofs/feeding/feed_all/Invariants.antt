-- After each stretch the line is that after so many bytes one at a time.
use Rattle.std.proofs.Common.{◌≡◌, ◌-◌, ◌≤◌, length}
use Rattle.simulate.specs.Feeding.{nth_of, fed_of}
use Rattle.simulate.proofs.feeding.feed_all.Given as goal

abbrev pub invariant-loop-i : goal.invariant-loop-i
invariant-loop-i g l = (l.i ≤ length l.bytes) × (l.l ≡ fed_of (nth_of l.bytes) l.time (length l.space) l.initial.l l.i)

abbrev pub decreases-loop-i : goal.decreases-loop-i
decreases-loop-i g l = length l.bytes - l.i
