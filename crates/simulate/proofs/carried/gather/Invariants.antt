-- The first i bytes are the first i of the word.
use Rattle.std.proofs.Common.{◌≡◌, ◌≤◌, length, take}
use Rattle.script.specs.Meaning.{byte_at_of, read}
use Rattle.simulate.proofs.carried.gather.Given as goal

abbrev pub invariant-loop-i : goal.invariant-loop-i
invariant-loop-i l = (l.n ≤ length l.bytes) × (take l.i l.bytes ≡ read (byte_at_of l.text l.from) l.i)
