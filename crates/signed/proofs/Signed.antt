-- Tests and sums of numbers at i64, as the code's tests and sums are left to an author.
-- Assumes nothing.
use Prim.Native.Nat.{◌≤◌, ◌<◌}
use mathlib.Core.Path.{◌≡◌}
use mathlib.Core.Bool.{false}
use native.Mathlib.Omega.{arith}
use lib.IntN.{ℤ, pos, negsuc, nat_abs, ◌-ℤ◌}
use lib.Signed.{lt_z, mag, nat_abs-le}
use mir.Syntax.{w32, w64}
use mir.Val.{SFits, to_z, of_z}
use mir.Facts.{to_z-of_z, sfits_widen}
use Rattle.signed.proofs.Sizes.{above, abs_sub}

-- a number fits where its size does
pub abs_fits : (z : ℤ) → nat_abs z < 9223372036854775808 → SFits w64 z
abs_fits (pos n) h = record { sfits = h }
abs_fits (negsuc n) h = record { sfits = omega arith }

-- numbers of 32 bits, and their difference, at i64
pub wider : {z : ℤ} → SFits w32 z → SFits w64 z
wider h = sfits_widen tt h

pub abs_word : {z : ℤ} → SFits w32 z → nat_abs z ≤ 2147483648
abs_word {z} h = nat_abs-le z h.sfits

pub diff_fits : {a b : ℤ} → SFits w32 a → SFits w32 b → SFits w64 (a -ℤ b)
diff_fits {a} {b} f g = abs_fits _ (omega (arith, abs_sub a b, abs_word f, abs_word g))

-- the code's `v < 0` failed: `v` is not negative
pub pos_is : {v : ℤ} → SFits w64 v → lt_z (to_z w64 (of_z w64 v)) (pos 0) ≡ false → v ≡ pos (mag v)
pos_is {v} f t = above v (rw (to_z-of_z f) at t)
