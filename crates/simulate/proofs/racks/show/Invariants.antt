-- The words of the first i replies are at the start of the text, and the rest is as it was.
use Rattle.std.proofs.Common.{◌≡◌, ◌*◌}
use Rattle.simulate.proofs.Words.{shown_so_far}
use Rattle.simulate.proofs.racks.show.Given as goal

abbrev pub invariant-loop-i : goal.invariant-loop-i
invariant-loop-i l = (l.kept ≡ 21 * l.i) × (l.out ≡ shown_so_far l.initial.out l.replies l.i)
