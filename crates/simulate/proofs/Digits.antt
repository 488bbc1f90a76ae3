-- Digits that fill a text.
-- Assumes nothing.
use Rattle.std.proofs.Common.{◌≡◌, ℕ, ◌*◌, ◌/◌, ◌≤◌, List, length, append-nil, arith, drop_of_length-le, le-ltb}
use Rattle.hex_digits.specs.Digits.{digits_of, spelled_on}

-- a text of two characters for each byte
pub filled : (text bytes : List ℕ) → length text ≡ 2 * length bytes → spelled_on text bytes ≡ digits_of bytes
unfolding spelled_on
filled text bytes e =
    let room : length bytes ≤ length text / 2 = omega arith in
    simp (le-ltb (length text / 2) (length bytes) room, drop_of_length-le text {i = 2 * length bytes} (omega arith), append-nil)
