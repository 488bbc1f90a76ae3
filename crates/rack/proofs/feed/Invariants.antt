-- The loop over the telegrams goes by the laws of a rack.
use Rattle.rack.specs.Rack.{dropped_of}
use Rattle.rack.proofs.Turns.{Going}
use Rattle.rack.proofs.feed.Given as goal

abbrev pub invariant-loop-ten : goal.invariant-loop-ten
invariant-loop-ten l =
    Going l.bytes l.at (dropped_of l.line l.at) l.initial.space (record { heads = l.heads; count = l.line.count }) l.ten-index l.tally.replies l.tally.collisions l.space
