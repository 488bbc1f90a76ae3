-- A difference by cases of the two signs: its sign is the order's.
-- Assumes nothing.
use Prim.Native.Nat.{ℕ, zero, suc, ◌+◌, ◌-◌}
use mathlib.Core.Path.{◌≡◌, refl, ap, ◌∙◌}
use mathlib.Core.Logic.{⊎_elim}
use native.Mathlib.Omega.{arith}
use borrow.Author.Tests.{lt-ltb, le-ltb}
use lib.Dec.{ltb, leb-suc-suc}
use lib.IntN.{ℤ, pos, negsuc, sub_ℕ, ◌-ℤ◌, +ℤ_idr}
use lib.Signed.{lt_z}
use Rattle.signed.proofs.Sizes.{less_or_not}

pos_sub : (a b : ℕ) → pos a -ℤ pos b ≡ sub_ℕ a b
pos_sub a zero = simp (le-ltb a 0 (omega arith)) (ap pos (omega arith))
pos_sub a (suc b) = refl

neg_sub : (a b : ℕ) → negsuc a -ℤ pos b ≡ negsuc (a + b)
neg_sub a zero = +ℤ_idr (negsuc a) ∙ ap negsuc (omega arith)
neg_sub a (suc b) = ap negsuc (omega arith)

-- a difference is below 0 where the first number is below the second
sub_less : (a b : ℕ) → lt_z (sub_ℕ a b) (pos 0) ≡ ltb a b
sub_less a b =
    ⊎_elim (λ h. simp (lt-ltb a b h)) (λ h. simp (le-ltb a b h) (le-ltb (a - b) 0 (omega arith))) (less_or_not a b)

pub less_sub : (a b : ℤ) → lt_z (a -ℤ b) (pos 0) ≡ lt_z a b
less_sub (pos a) (pos b) = rw pos_sub (sub_less a b)
less_sub (pos a) (negsuc b) = le-ltb (a + suc b) 0 (omega arith)
less_sub (negsuc a) (pos b) = rw neg_sub
less_sub (negsuc a) (negsuc b) = sub_less (suc b) (suc a) ∙ leb-suc-suc (suc b) a
