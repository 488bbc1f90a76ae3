-- What is left of the bytes leads from the head so far to the same head.
use Rattle.std.proofs.Common.{drop, ◌≡◌}
use Rattle.bench.specs.Bench.{fed_of}
use Rattle.bench.proofs.feed.Given as goal

abbrev pub invariant-loop-b : goal.invariant-loop-b
invariant-loop-b g l = fed_of l.head (drop l.b-index l.bytes) ≡ fed_of l.initial.head l.bytes
