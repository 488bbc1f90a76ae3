-- What is left of the piece leads from how far it is read to the same end.
use Rattle.std.proofs.Common.{◌≡◌, ◌-◌, length, drop}
use Rattle.text.specs.Reading.{read_of}
use Rattle.office.specs.Reading.{noted_of, progress_of, most}
use Rattle.office.proofs.reading.Reading.take_in.Given as goal

abbrev pub invariant-loop-next : goal.invariant-loop-next
invariant-loop-next g l =
    read_of noted_of most (progress_of l.self l.line) (drop l.from l.piece) ≡ read_of noted_of most (progress_of l.initial.self l.initial.line) l.piece

abbrev pub decreases-loop-next : goal.decreases-loop-next
decreases-loop-next g l = length l.piece - l.from
