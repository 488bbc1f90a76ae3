-- What holds of the numbers for any caller: words and numbers are one another's readings, and no number grows by rounding or holding.
-- Assumes nothing.
use Prim.Native.Nat.{ℕ, zero, suc, ◌-◌, ◌^◌, ◌≤◌, ◌<◌}
use mathlib.Core.Path.{◌≡◌, refl, ap}
use mathlib.Core.Logic.{⊎_elim}
use mathlib.Core.Bool.{Bool, true, false, true≢false}
use native.Mathlib.Nat.{mod-eq_of_lt}
use native.Mathlib.Omega.{arith}
use borrow.Author.Tests.{lt-ltb, le-ltb, ltb-true}
use lib.IntN.{ℤ, pos, negsuc, nat_abs, ◌+ℤ◌, ◌-ℤ◌}
use lib.Signed.{lt_z, mag}
use Rattle.signed.specs.Number.{minus, number_of, word_of, with_sign}
use Rattle.signed.specs.Rounding.{divisor_of, nearest_of, rounded_of}
use Rattle.signed.specs.Difference.{held_of}
use Rattle.signed.specs.Position.{absolute_of}
use Rattle.signed.proofs.Sizes.{less_or_not, abs_neg, abs_add, abs_sub}
use Rattle.signed.proofs.Rounds.{nearest_small}

-- a word is the word of its number, and a number of 32 bits the number of its word
pub word_number : (w : ℕ) → w < 4294967296 → word_of (number_of w) ≡ w
unfolding word_of number_of
word_number w h =
    ⊎_elim
    (λ l. simp (lt-ltb w 2147483648 l) (omega arith))
    (λ l. simp (le-ltb w 2147483648 l, lt-ltb w 4294967296 h) (omega arith))
    (less_or_not w 2147483648)

pub number_word : (v : ℤ) → mag v < 2147483648 → number_of (word_of v) ≡ v
unfolding word_of number_of
number_word (pos n) h = rw (mod-eq_of_lt {n = n} {m = 4294967296} (omega arith)) (simp (lt-ltb n 2147483648 h))
number_word (negsuc n) h =
    rw (mod-eq_of_lt {n = n} {m = 4294967296} (omega arith))
    (simp
    (le-ltb (4294967295 - n) 2147483648 (omega arith), lt-ltb (4294967295 - n) 4294967296 (omega arith))
    (ap negsuc (omega arith)))

pub word_fits : (v : ℤ) → word_of v < 4294967296
unfolding word_of
word_fits (pos n) = omega arith
word_fits (negsuc n) = omega arith

pub number_small : (w : ℕ) → w < 4294967296 → mag (number_of w) < 2147483648
unfolding number_of
number_small w h =
    ⊎_elim
    (λ l. simp (lt-ltb w 2147483648 l) l)
    (λ l. simp (le-ltb w 2147483648 l, lt-ltb w 4294967296 h) (omega arith))
    (less_or_not w 2147483648)

-- the divisor of each of the four values of 0Bh is a power of 10
pub divisor_power : (k : ℕ) → k ≤ 3 → divisor_of k ≡ 10 ^ k
unfolding divisor_of
divisor_power zero h = refl
divisor_power (suc zero) h = refl
divisor_power (suc (suc zero)) h = refl
divisor_power (suc (suc (suc zero))) h = refl
divisor_power (suc (suc (suc (suc k)))) h = absurd (omega arith)

abs_sign : (negative : Bool) (n : ℕ) → nat_abs (with_sign negative n) ≡ n
abs_sign true n = abs_neg (pos n)
abs_sign false n = refl

pub rounded_small : (p : ℤ) (k : ℕ) → nat_abs (rounded_of p k) ≤ nat_abs p
unfolding rounded_of
rounded_small p k =
    omega (arith, nearest_small (nat_abs p) k, abs_sign (lt_z p (pos 0)) (nearest_of (nat_abs p) (divisor_of k)))

-- what is held is within the limits, and what is within them is kept
pub held_small : (v : ℤ) → nat_abs (held_of v) ≤ 5242880
unfolding held_of
held_small (pos n) =
    ⊎_elim
    (λ l. simp (lt-ltb 5242880 n l) (omega arith))
    (λ l. simp (le-ltb 5242880 n l) l)
    (less_or_not 5242880 n)
held_small (negsuc n) =
    ⊎_elim
    (λ l. simp (lt-ltb 5242879 n l) (omega arith))
    (λ l. simp (le-ltb 5242879 n l) (omega arith))
    (less_or_not 5242879 n)

pub held_same : (v : ℤ) → nat_abs v ≤ 5242880 → held_of v ≡ v
unfolding held_of
held_same (pos n) h = simp (le-ltb 5242880 n h)
held_same (negsuc n) h = simp (le-ltb 5242879 n (omega arith))

-- what lies beyond a limit is held at it
pub held_low : (v : ℤ) → lt_z v (pos 0) ≡ true → 5242880 < nat_abs v → held_of v ≡ minus 5242880
unfolding held_of
held_low (pos n) t h = absurd (omega (arith, ltb-true n 0 t))
held_low (negsuc n) t h = simp (lt-ltb 5242879 n (omega arith))

pub held_high : (v : ℤ) → lt_z v (pos 0) ≡ false → 5242880 < nat_abs v → held_of v ≡ pos 5242880
unfolding held_of
held_high (pos n) t h = simp (lt-ltb 5242880 n h)
held_high (negsuc n) t h = absurd (true≢false t)

-- a position is within what is shown, where its parts are within theirs
pub absolute_small : (m zero : ℤ) (adopted offset : ℕ) → nat_abs m ≤ 2500000 → nat_abs zero ≤ 2500000 → nat_abs (number_of adopted) ≤ 99999 → nat_abs (number_of offset) ≤ 19999 → nat_abs (absolute_of m zero adopted offset) ≤ 5242880
unfolding absolute_of
absolute_small m z adopted offset hm hz ha ho =
    omega (arith, abs_sub m z, abs_add (m -ℤ z) (number_of adopted), abs_add (m -ℤ z +ℤ number_of adopted) (number_of offset))
