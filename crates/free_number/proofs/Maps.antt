-- A map of two words: which numbers are used, one of them turned over, the lowest that is free, and how many are used.
-- Assumes nothing.
use Rattle.std.specs.Prelude.{Some, None}
use mathlib.Core.Path.{◌≡◌, refl, sym, ap, ◌∙◌}
use mathlib.Core.Bool.{Bool, true, false, cond, not}
use mathlib.Core.List.{[], ◌++◌}
use Prim.Native.Nat.{ℕ, ◌+◌, ◌-◌, ◌*◌, ◌/◌, ◌%◌, ◌^◌, ◌≤◌, ◌<◌}
use native.Mathlib.Nat.{add_comm, mod-lt}
use native.Mathlib.Omega.{arith}
use lib.Dec.{ltb, eqb, lit≤}
use lib.Pow.{pow-lt, pow_pos, split}
use lib.Bits.{bit_xor, xor_lt}
use lib.Count.{ones, ones_cat}
use borrow.Author.Tests.{eq-eqb, ne_eqb, eqb-true, eqb-false}
use Rattle.free_number.specs.declared.map.Map.{Map}
use Rattle.free_number.specs.Lowest.{span, first_free, lowest_of, count_of}
use Rattle.free_number.specs.Used.{bit, whole, of_whole, used, flipped}
use Rattle.free_number.proofs.Words.{bit_low, bit_high, flip_bit, tally, seek, clear}

-- ---- a number is used: by the word that has it
pub used_low : (m : Map) (n : ℕ) → 1 ≤ n → n ≤ 64 → used m n ≡ bit m.low (n - 1)
unfolding used whole
used_low m n pos le = bit_low 64 m.high m.low (n - 1) (omega arith)

pub used_high : (m : Map) (n : ℕ) → m.low < 2 ^ 64 → 64 < n → used m n ≡ bit m.high (n - 65)
unfolding used whole
used_high m n fits lt =
    let e : n - 1 ≡ 64 + (n - 65) = omega arith in
    ap (bit (m.high * 2 ^ 64 + m.low)) e ∙ bit_high 64 m.high m.low (n - 65) fits

-- ---- a number turned over
pub flipped_fits : (m : Map) (n : ℕ) → m.low < 2 ^ 64 → m.high < 2 ^ 64 → 1 ≤ n → n ≤ 127 → (flipped m n).low < 2 ^ 64 × ((flipped m n).high < 2 ^ 64)
unfolding flipped whole of_whole
flipped_fits m n low_fits high_fits pos le =
    let fits = xor_lt 128 (m.high * 2 ^ 64 + m.low) (2 ^ (n - 1)) (omega arith) (pow-lt {j = 128} (omega arith)) in
    (mod-lt _ (pow_pos 64), omega (arith, fits))

same_place : (k n : ℕ) → 1 ≤ k → 1 ≤ n → eqb (k - 1) (n - 1) ≡ eqb k n
same_place k n a b = go (eqb k n) refl
  where
    go : (t : Bool) → eqb k n ≡ t → eqb (k - 1) (n - 1) ≡ t
    go true e = eq-eqb (k - 1) (n - 1) (ap (λ (x : ℕ). x - 1) (eqb-true k n e))
    go false e = ne_eqb (k - 1) (n - 1) (λ q. eqb-false k n e (omega arith))

-- for any map, whatever its 128th bit
pub used_flipped : (m : Map) (n k : ℕ) → 1 ≤ n → 1 ≤ k → used (flipped m n) k ≡ cond (eqb k n) (not (used m k)) (used m k)
unfolding used flipped whole of_whole
used_flipped m n k a b =
    ap (λ (w : ℕ). bit w (k - 1)) (split (bit_xor (m.high * 2 ^ 64 + m.low) (2 ^ (n - 1))) 64)
    ∙ flip_bit (m.high * 2 ^ 64 + m.low) (n - 1) (k - 1) ∙ rw (same_place k n b a)

-- ---- the lowest free number, and the count, from both words as one number
agree : (m : Map) (i : ℕ) → used m (1 + i) ≡ bit (whole m) i
unfolding used
agree m i = let e : 1 + i - 1 ≡ i = omega arith in ap (bit (whole m)) e

all : span 1 127 ≡ span 1 127 ++ []
unfolding span
all = refl

pub lowest_whole : (m : Map) → whole m < 2 ^ 128 → lowest_of (used m) ≡ cond (ltb (clear 128 (whole m)) 127) (Some (1 + clear 128 (whole m))) None
unfolding lowest_of first_free
lowest_whole m fits = ap (first_free (used m)) all ∙ seek 127 128 1 (whole m) (used m) [] (lit≤ tt) fits (λ i lt. agree m i)

-- ---- the same from the two words, each by itself
agree_low : (m : Map) (i : ℕ) → i < 64 → used m (1 + i) ≡ bit m.low i
agree_low m i lt = let e : 1 + i - 1 ≡ i = omega arith in used_low m (1 + i) (omega arith) (omega arith) ∙ ap (bit m.low) e

-- the 128th bit does not matter
agree_high : (m : Map) → m.low < 2 ^ 64 → (i : ℕ) → i < 63 → used m (65 + i) ≡ bit (m.high % 2 ^ 63) i
agree_high m fits i lt =
    let e : 65 + i - 65 ≡ i = omega arith in
    used_high m (65 + i) fits (omega arith) ∙ ap (bit m.high) e ∙ ap (λ (w : ℕ). bit w i) (sym (split m.high 63))
    ∙ bit_low 63 (m.high / 2 ^ 63) (m.high % 2 ^ 63) i lt

two : span 1 127 ≡ span 1 64 ++ (span 65 63 ++ [])
unfolding span
two = refl

pub lowest_words : (m : Map) → m.low < 2 ^ 64
    → lowest_of (used m)
    ≡ cond (ltb (clear 64 m.low) 64) (Some (1 + clear 64 m.low))
    (cond (ltb (clear 64 (m.high % 2 ^ 63)) 63) (Some (65 + clear 64 (m.high % 2 ^ 63))) None)
unfolding lowest_of first_free
lowest_words m fl =
    ap (first_free (used m)) two ∙ seek 64 64 1 m.low (used m) (span 65 63 ++ []) (lit≤ tt) fl (agree_low m)
    ∙ ap (cond (ltb (clear 64 m.low) 64) (Some (1 + clear 64 m.low)))
    (seek 63 64 65 (m.high % 2 ^ 63) (used m) [] (lit≤ tt) (omega (arith, mod-lt m.high (pow_pos 63))) (agree_high m fl))

pub count_whole : (m : Map) → count_of (used m) ≡ ones (whole m % 2 ^ 127)
unfolding count_of
count_whole m = tally 127 1 (whole m) (used m) (λ i lt. agree m i)

-- the count from the two words, each by itself
pub count_words : (m : Map) → m.low < 2 ^ 64 → count_of (used m) ≡ ones m.low + ones (m.high % 2 ^ 63)
unfolding whole
count_words m fits =
    let numbers : (m.high * 2 ^ 64 + m.low) % 2 ^ 127 ≡ m.high % 2 ^ 63 * 2 ^ 64 + m.low = omega arith in
    count_whole m ∙ ap ones numbers ∙ ones_cat 64 (m.high % 2 ^ 63) m.low fits ∙ add_comm _ _
