-- What is left of the piece leads from how far it is read to the same end.
use Rattle.std.proofs.Common.{◌≡◌, ◌-◌, length, drop}
use Rattle.text.specs.Reading.{read_of}
use Rattle.order.specs.Reading.{progress_of, room}
use Rattle.order.specs.Desk.{noted_of}
use Rattle.order.proofs.desk.Desk.take_in.Given as goal

abbrev pub invariant-loop-next : goal.invariant-loop-next
invariant-loop-next l =
    read_of noted_of room (progress_of l.self l.line) (drop l.from l.piece) ≡ read_of noted_of room (progress_of l.initial.self l.initial.line) l.piece

abbrev pub decreases-loop-next : goal.decreases-loop-next
decreases-loop-next l = length l.piece - l.from
