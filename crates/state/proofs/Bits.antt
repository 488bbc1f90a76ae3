-- A word that is a sum of bits, by its size: a bit is its weight once or not at all, so the bits below one stay under its weight.
-- Assumes nothing.
use Prim.Native.Nat.{ℕ, ◌+◌, ◌*◌, ◌/◌, ◌%◌, ◌^◌, ◌≤◌, ◌<◌}
use mathlib.Core.Path.{◌≡◌}
use mathlib.Core.Bool.{Bool, true, false}
use native.Mathlib.Omega.{arith}
use native.Mathlib.Nat.{pow-le-pow_right, div-eq_of_lt}
use Rattle.state.specs.Bits.{bit, bit_set}

pub bit_most : (n : ℕ) (on : Bool) → bit n on ≤ 2 ^ n
bit_most n true = omega arith
bit_most n false = omega arith

-- by the weight and the lowest bit
pub bit_weighs : (n : ℕ) (on : Bool) → bit n on ≡ 2 ^ n * bit 0 on
bit_weighs n true = omega arith
bit_weighs n false = omega arith

-- bit 5 is what stands between the bits below it and those above
pub bit_five : (low high : ℕ) (on : Bool) → low < 2 ^ 5 → bit_set (low + bit 5 on + 2 ^ 6 * high) 5 ≡ on
bit_five low high true h = let e : (low + bit 5 true + 2 ^ 6 * high) / 2 ^ 5 % 2 ≡ 1 = omega arith in rw e
bit_five low high false h = let e : (low + bit 5 false + 2 ^ 6 * high) / 2 ^ 5 % 2 ≡ 0 = omega arith in rw e

-- a word of sixteen bits has none past bit 15
pub none_past : (word n : ℕ) → word < 65536 → 16 ≤ n → bit_set word n ≡ false
none_past word n w h =
    let p : 2 ^ 16 ≤ 2 ^ n = pow-le-pow_right (omega arith) h in
    let e : word / 2 ^ n ≡ 0 = div-eq_of_lt (omega arith) in
    rw e
