-- The flag says whether the heads so far pass the test and their serial numbers, which stand gathered then, differ.
use Rattle.std.proofs.Common.{◌≡◌, ◌&&◌, take}
use Rattle.line.specs.Round.{all_pass_of}
use Rattle.line.specs.Serials.{serials_of, all_differ}
use Rattle.line.proofs.calls.fits_by.Given as goal

abbrev pub invariant-loop-i : goal.invariant-loop-i
invariant-loop-i l = record {
  ok : l.ok ≡ (all_pass_of l.bringing l.i l.h-items && all_differ (serials_of l.i l.h-items));
  gathered : take l.i l.serials ≡ serials_of l.i l.h-items;
}
