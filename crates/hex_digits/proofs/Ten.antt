-- Ten bytes as a line: their digits and the newline fill a text of 21 characters.
-- Assumes nothing.
use Prim.Native.Nat.{ℕ}
use Prim.Native.Char.{code}
use mathlib.Core.List.{List}
use mathlib.Core.Path.{◌≡◌}
use lib.ListN.{length, replicate}
use Rattle.hex_digits.specs.Digits.{line_of, spelled_on}

pub ten_line : (ten : List ℕ) → length ten ≡ 10 → spelled_on (replicate 21 (code "\n")) ten ≡ line_of ten
unfolding spelled_on
ten_line ten e = rw e
