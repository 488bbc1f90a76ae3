-- Numbers with a sign by their sizes, which `omega` reads: what a test against 0 tells, and the size of a sum.
-- Assumes nothing.
use Prim.Native.Nat.{ℕ, zero, suc, ◌+◌, ◌≤◌, ◌<◌}
use mathlib.Core.Path.{◌≡◌, refl}
use mathlib.Core.Logic.{◌⊎◌, inl, inr, ⊎_elim}
use mathlib.Core.Bool.{Bool, true, false, true≢false}
use native.Mathlib.Omega.{arith}
use borrow.Author.Tests.{lt-ltb, le-ltb, ltb-true, ltb-false}
use lib.Dec.{ltb}
use lib.IntN.{ℤ, pos, negsuc, nat_abs, neg_ℤ, sub_ℕ, ◌+ℤ◌, ◌-ℤ◌}
use lib.Signed.{lt_z, mag}
use Rattle.signed.specs.Number.{minus}

pub less_or_not : (a b : ℕ) → (a < b) ⊎ (b ≤ a)
less_or_not a b = go (ltb a b) refl
  where
    go : (t : Bool) → ltb a b ≡ t → (a < b) ⊎ (b ≤ a)
    go true e = inl (ltb-true a b e)
    go false e = inr (ltb-false a b e)

-- a number that is not below 0: `mag` is its size
pub above : (v : ℤ) → lt_z v (pos 0) ≡ false → v ≡ pos (mag v)
above (pos n) e = refl
above (negsuc n) e = absurd (true≢false e)

-- a number is its size with its sign
pub minus_size : (z : ℤ) → lt_z z (pos 0) ≡ true → minus (nat_abs z) ≡ z
minus_size (pos n) e = absurd (omega (arith, ltb-true n 0 e))
minus_size (negsuc n) e = refl

pub plus_size : (z : ℤ) → lt_z z (pos 0) ≡ false → pos (nat_abs z) ≡ z
plus_size (pos n) e = refl
plus_size (negsuc n) e = absurd (true≢false e)

-- the sizes of a sum and of a difference
pub abs_neg : (z : ℤ) → nat_abs (neg_ℤ z) ≡ nat_abs z
abs_neg (pos zero) = refl
abs_neg (pos (suc n)) = refl
abs_neg (negsuc n) = refl

abs_subℕ : (a b : ℕ) → nat_abs (sub_ℕ a b) ≤ a + b
abs_subℕ a b = ⊎_elim (λ h. simp (lt-ltb a b h) (omega arith)) (λ h. simp (le-ltb a b h) (omega arith)) (less_or_not a b)

pub abs_add : (a b : ℤ) → nat_abs (a +ℤ b) ≤ nat_abs a + nat_abs b
abs_add (pos a) (pos b) = omega arith
abs_add (pos a) (negsuc b) = abs_subℕ a (suc b)
abs_add (negsuc a) (pos b) = omega (arith, abs_subℕ b (suc a))
abs_add (negsuc a) (negsuc b) = omega arith

pub abs_sub : (a b : ℤ) → nat_abs (a -ℤ b) ≤ nat_abs a + nat_abs b
abs_sub a b = omega (arith, abs_add a (neg_ℤ b), abs_neg b)
