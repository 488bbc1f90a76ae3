-- `hex_digits::spell` meets its contract. After i turns the text starts with the digits of the first i bytes, and the rest is as it was.
use Prim.Native.Nat.{◌≤◌, ◌*◌}
use mathlib.Core.Path.{◌≡◌}
use mathlib.Core.List.{◌++◌}
use lib.ListN.{length, take, drop}
use Rattle.hex_digits.specs.Digits.{digits_of}
use Rattle.hex_digits.proofs.spell.Given as goal

abbrev pub invariant-loop-i : goal.invariant-loop-i
invariant-loop-i l =
    (length l.text ≡ length l.initial.text)
    × (l.text ≡ digits_of (take l.i l.bytes) ++ drop (2 * l.i) l.initial.text)
    × (2 * length l.bytes ≤ length l.initial.text)
