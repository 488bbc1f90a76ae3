-- The loop over the bytes goes by the laws of a stretch.
use Rattle.std.proofs.Common.{◌-◌, length, drop}
use Rattle.line.proofs.Stretch.{Going}
use Rattle.line.proofs.calls.until_reply.Given as goal

abbrev pub invariant-loop-next : goal.invariant-loop-next
invariant-loop-next l =
    Going l.at l.l (drop l.from l.bytes) l.from (record { heads = l.heads; count = l.l.count }) (drop l.next l.bytes) l.next l.replies

abbrev pub decreases-loop-next : goal.decreases-loop-next
decreases-loop-next l = length l.bytes - l.next
