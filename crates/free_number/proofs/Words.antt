-- One word: its bits, one of them turned over, how many are set, and the lowest that is clear.
-- Assumes nothing.
use Rattle.std.specs.Prelude.{Some, Option}
use mathlib.Core.Path.{◌≡◌, refl, sym, ap, ◌∙◌}
use mathlib.Core.Bool.{Bool, cond, not}
use mathlib.Core.List.{List, ◌++◌}
use Prim.Native.Nat.{ℕ, zero, suc, ◌+◌, ◌-◌, ◌*◌, ◌/◌, ◌%◌, ◌^◌, ◌≤◌, ◌<◌}
use native.Mathlib.Nat.{add-zero, zero-add, suc-add, add-suc, div-one, div-div-eq-div-mul, pow-suc, pow-succ', mod-lt, mod-one, not-suc-le-zero, le_of_suc-le-suc, zero-lt-suc}
use native.Mathlib.Numerals.{add-one, one-add}
use native.Mathlib.Omega.{arith}
use lib.Dec.{ltb, eqb, eqb-zero-suc, eqb-suc-zero, eqb-suc-suc, leb-suc-zero, leb-suc-suc}
use lib.Pow.{shr-shr, high, field, mod-mod-pow}
use lib.Bits.{bit_xor, block_half, block_odd, xor_shr, xor_mod, xor_zero_r}
use lib.Count.{ones, ones_step, count_trailing_zeros, under}
use borrow.Author.Tests.{lt-ltb}
use Rattle.free_number.specs.Lowest.{span, first_free, how_many}
use Rattle.free_number.specs.Used.{bit}

-- ---- a bit, from the lowest on
pub bit_zero : (w : ℕ) → bit w 0 ≡ eqb (w % 2) 1
unfolding bit
bit_zero w = ap (λ (x : ℕ). eqb (x % 2) 1) (div-one w)

pub bit_suc : (w k : ℕ) → bit w (suc k) ≡ bit (w / 2) k
unfolding bit
bit_suc w k = ap (λ (x : ℕ). eqb (x % 2) 1) (ap (λ (x : ℕ). w / x) (pow-succ' 2 k) ∙ sym (div-div-eq-div-mul w 2 (2 ^ k)))

-- ---- the bits of two words in one number: those of the lower, and then those of the higher
pub bit_low : (K h l k : ℕ) → k < K → bit (h * 2 ^ K + l) k ≡ bit l k
bit_low zero h l k lt = absurd (not-suc-le-zero lt)
bit_low (suc K) h l zero lt = bit_zero (h * 2 ^ suc K + l) ∙ ap (λ (x : ℕ). eqb x 1) (block_odd h K l) ∙ sym (bit_zero l)
bit_low (suc K) h l (suc k) lt =
    bit_suc (h * 2 ^ suc K + l) k ∙ ap (λ (x : ℕ). bit x k) (block_half h K l) ∙ bit_low K h (l / 2) k (le_of_suc-le-suc lt) ∙ sym (bit_suc l k)

pub bit_high : (K h l j : ℕ) → l < 2 ^ K → bit (h * 2 ^ K + l) (K + j) ≡ bit h j
unfolding bit
bit_high K h l j lt = ap (λ (x : ℕ). eqb (x % 2) 1) (sym (shr-shr (h * 2 ^ K + l) K j) ∙ ap (λ (x : ℕ). x / 2 ^ j) (high h K lt))

-- ---- the bit at k turned over, and no other
halved : (k : ℕ) → 2 ^ suc k / 2 ≡ 2 ^ k
halved k = omega (arith, pow-suc 2 k)

even : (k : ℕ) → 2 ^ suc k % 2 ≡ 0
even k = omega (arith, pow-suc 2 k)

turned_low : (d : ℕ) → d < 2 → eqb (bit_xor d 1) 1 ≡ not (eqb d 1)
turned_low zero h = refl
turned_low (suc zero) h = refl
turned_low (suc (suc d)) h = absurd (not-suc-le-zero (le_of_suc-le-suc (le_of_suc-le-suc h)))

pub flip_bit : (w k i : ℕ) → bit (bit_xor w (2 ^ k)) i ≡ cond (eqb i k) (not (bit w i)) (bit w i)
flip_bit w zero zero =
    bit_zero (bit_xor w 1) ∙ ap (λ (x : ℕ). eqb x 1) (xor_mod w 1 1) ∙ turned_low (w % 2) (mod-lt w (zero-lt-suc 1)) ∙ ap not (sym (bit_zero w))
flip_bit w zero (suc i) =
    bit_suc (bit_xor w 1) i ∙ ap (λ (x : ℕ). bit x i) (xor_shr w 1 1 ∙ xor_zero_r (w / 2)) ∙ sym (bit_suc w i)
    ∙ rw (eqb-suc-zero i)
flip_bit w (suc k) zero =
    bit_zero (bit_xor w (2 ^ suc k)) ∙ ap (λ (x : ℕ). eqb x 1) (xor_mod w (2 ^ suc k) 1 ∙ ap (bit_xor (w % 2)) (even k) ∙ xor_zero_r (w % 2))
    ∙ sym (bit_zero w) ∙ rw (eqb-zero-suc k)
flip_bit w (suc k) (suc i) =
    bit_suc (bit_xor w (2 ^ suc k)) i ∙ ap (λ (x : ℕ). bit x i) (xor_shr w (2 ^ suc k) 1 ∙ ap (bit_xor (w / 2)) (halved k))
    ∙ flip_bit (w / 2) k i ∙ rw (eqb-suc-suc i k, bit_suc w i)

-- ---- the set bits of the j lowest are as many as `ones` counts
counts : (d h : ℕ) → d < 2 → cond (eqb d 1) (suc h) h ≡ d + h
counts zero h lt = sym (zero-add h)
counts (suc zero) h lt = sym (one-add h)
counts (suc (suc d)) h lt = absurd (not-suc-le-zero (le_of_suc-le-suc (le_of_suc-le-suc lt)))

ones_suc : (w j : ℕ) → ones (w % 2 ^ suc j) ≡ w % 2 + ones (w / 2 % 2 ^ j)
ones_suc w j = rw (← add-one j, ones_step (w % 2 ^ (j + 1)), mod-mod-pow w j 1, field w j 1)

pub tally : (j a w : ℕ) (p : ℕ → Bool) → ((i : ℕ) → i < j → p (a + i) ≡ bit w i) → how_many p (span a j) ≡ ones (w % 2 ^ j)
unfolding how_many span ones
tally zero a w p same = rw (mod-one w)
tally (suc j) a w p same =
    let here : p a ≡ eqb (w % 2) 1 = ap p (sym (add-zero a)) ∙ same 0 (zero-lt-suc j) ∙ bit_zero w in
    let rest : how_many p (span (suc a) j) ≡ ones (w / 2 % 2 ^ j) =
    tally j (suc a) (w / 2) p (λ i lt. ap p (suc-add a i ∙ sym (add-suc a i)) ∙ same (suc i) (omega arith) ∙ bit_suc w i) in
    rw (here, rest) (counts (w % 2) (ones (w / 2 % 2 ^ j)) (mod-lt w (zero-lt-suc 1))) ∙ sym (ones_suc w j)

-- ---- the lowest clear bit of the j lowest is where the trailing zeros of the complement end
step : (a j t d : ℕ) (r f : Option ℕ) → d < 2 → f ≡ cond (ltb t j) (Some (suc a + t)) r
    → cond (eqb d 1) f (Some a) ≡ cond (ltb (under (1 - d) t) (suc j)) (Some (a + under (1 - d) t)) r
step a j t zero r f h e = rw (lt-ltb 0 (suc j) (zero-lt-suc j), add-zero a)
step a j t (suc zero) r f h e = e ∙ rw (leb-suc-suc (suc t) j, add-suc a t, suc-add a t)
step a j t (suc (suc d)) r f h e = absurd (not-suc-le-zero (le_of_suc-le-suc (le_of_suc-le-suc h)))

abbrev pub clear : ℕ → ℕ → ℕ
clear K w = count_trailing_zeros K (2 ^ K - 1 - w)

clear_suc : (K w : ℕ) → w < 2 ^ suc K → clear (suc K) w ≡ under (1 - w % 2) (clear K (w / 2))
unfolding count_trailing_zeros
clear_suc K w lt =
    let low : (2 ^ suc K - 1 - w) % 2 ≡ 1 - w % 2 = omega (arith, pow-suc 2 K) in
    let up : (2 ^ suc K - 1 - w) / 2 ≡ 2 ^ K - 1 - w / 2 = omega (arith, pow-suc 2 K) in
    rw (low, up)

pub seek : (j K a w : ℕ) (p : ℕ → Bool) (more : List ℕ) → j ≤ K → w < 2 ^ K → ((i : ℕ) → i < j → p (a + i) ≡ bit w i)
    → first_free p (span a j ++ more) ≡ cond (ltb (clear K w) j) (Some (a + clear K w)) (first_free p more)
unfolding first_free span
seek zero K a w p more le lt same = rw (leb-suc-zero (clear K w))
seek (suc j) zero a w p more le lt same = absurd (not-suc-le-zero le)
seek (suc j) (suc K) a w p more le lt same =
    let here : p a ≡ eqb (w % 2) 1 = ap p (sym (add-zero a)) ∙ same 0 (zero-lt-suc j) ∙ bit_zero w in
    let half : w / 2 < 2 ^ K = omega (arith, pow-suc 2 K) in
    let rest = seek j K (suc a) (w / 2) p more (le_of_suc-le-suc le) half (λ i l. ap p (suc-add a i ∙ sym (add-suc a i)) ∙ same (suc i) (omega arith) ∙ bit_suc w i) in
    rw (here, clear_suc K w lt) (step a j (clear K (w / 2)) (w % 2) (first_free p more) (first_free p (span (suc a) j ++ more)) (mod-lt w (zero-lt-suc 1)) rest)
