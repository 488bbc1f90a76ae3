-- `text::lines::take_in` meets its contract: what is left of the piece, taken into the line as it is, gives what was asked for.
use Prim.Native.Nat.{◌+◌}
use mathlib.Core.Path.{◌≡◌}
use lib.ListN.{length, drop}
use Rattle.text.specs.Lines.{front_of, taken_of, filled_of}
use Rattle.text.proofs.Filled.{taken_at}
use Rattle.text.proofs.lines.take_in.Given as goal

abbrev pub invariant-loop-i : goal.invariant-loop-i
invariant-loop-i l =
    (length l.line ≡ length l.initial.line)
    × (taken_at (length l.initial.line) l.k (l.from + l.i) (drop l.i l.rest) ≡ taken_of (length l.initial.line) l.kept l.piece l.from)
    × (filled_of l.line l.k (front_of (drop l.i l.rest)) ≡ filled_of l.initial.line l.kept (front_of (drop l.from l.piece)))
