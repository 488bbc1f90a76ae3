-- Laws of reading a word: what each character adds to a decimal number and to a row of bytes, and that a number too large stays so.
-- Assumes nothing.
use Rattle.std.specs.Prelude.{Some, None, Option}
use Rattle.std.specs.List.{list_all}
use Prim.Native.Nat.{ℕ, suc, ◌+◌, ◌-◌, ◌*◌, ◌/◌, ◌%◌, ◌<◌, ◌≤◌}
use native.Mathlib.Numerals.{add-one}
use native.Mathlib.Omega.{arith}
use mathlib.Core.Path.{◌≡◌, refl, sym, ◌∙◌}
use mathlib.Core.Bool.{Bool, true, false, ◌&&◌, and-false, cond}
use mathlib.Core.List.{List, [], ◌∷◌}
use borrow.Author.Tests.{lt-leb, leb-true}
use lib.Dec.{leb, eqb}
use lib.ListN.{length, get_or, drop}
use lib.Seq.{drop-cons}
use Rattle.text.specs.Numbers.{within, digits, is_decimal, value_from, value_of, number_of, is_hex, in_pairs, bytes_of}

-- what decimal digits come to that follow on others of the value `v`
abbrev pub number_from : ℕ → ℕ → List ℕ → Option ℕ
number_from limit v cs = cond (digits cs && leb (value_from v cs) limit) (Some (value_from v cs)) None

pub number_starts : (limit : ℕ) (cs : List ℕ) → (length cs ≡ 0 → ⊥) → number_from limit 0 cs ≡ number_of limit cs
unfolding number_of
number_starts limit [] h = absurd (h refl)
number_starts limit (c ∷ cs) h = refl

pub no_digits : (limit : ℕ) (cs : List ℕ) → length cs ≡ 0 → None ≡ number_of limit cs
unfolding number_of
no_digits limit [] h = refl
no_digits limit (c ∷ cs) h = absurd (omega arith)

grows : (v : ℕ) (cs : List ℕ) → v ≤ value_from v cs
grows v [] = omega arith
grows v (c ∷ cs) = let k = grows (10 * v + (c - 48)) cs in omega arith

too_large : (limit v : ℕ) (cs : List ℕ) → limit < v → number_from limit v cs ≡ None
too_large limit v cs h =
    let k = grows v cs in
    simp (lt-leb (value_from v cs) limit (omega arith), and-false)

module _ (limit v : ℕ) (w : List ℕ) (i : ℕ) where
  digit_on : i < length w → within 48 57 (get_or w i 0) ≡ true
      → number_from limit v (drop i w) ≡ number_from limit (10 * v + (get_or w i 0 - 48)) (drop (i + 1) w)
  digit_on h d = simp (add-one, drop-cons w i 0 h, d)

  pub digit_over : i < length w → within 48 57 (get_or w i 0) ≡ true → limit < 10 * v + (get_or w i 0 - 48)
      → number_from limit v (drop i w) ≡ None
  digit_over h d k = digit_on h d ∙ too_large limit (10 * v + (get_or w i 0 - 48)) (drop (i + 1) w) k

-- a number that fits is no more than the limit
pub number_within : (limit : ℕ) (cs : List ℕ) {n : ℕ} → number_of limit cs ≡ Some n → n ≤ limit
unfolding number_of
number_within limit cs {n} e = go (is_decimal cs) (leb (value_of cs) limit) refl e
  where
    go : (a b : Bool) → leb (value_of cs) limit ≡ b → cond (a && b) (Some (value_of cs)) None ≡ Some n → n ≤ limit
    go true true h k = let q : value_of cs ≡ n = cc in omega (arith, leb-true (value_of cs) limit h)
    go true false h k = let q : ◌≡◌ {A = ℕ} 0 1 = cc in omega arith
    go false b h k = let q : ◌≡◌ {A = ℕ} 0 1 = cc in omega arith

-- a row of bytes: two characters for each, and all of them hex digits
turned : (p q r s : Bool) → p && q && (r && s) ≡ r && (p && (q && s))
turned true true r s = refl
turned true false r s = sym (and-false r)
turned false q r s = sym (and-false r)

pub in_pairs_is : (cs : List ℕ) → in_pairs cs ≡ eqb (length cs % 2) 0 && list_all is_hex cs
in_pairs_is [] = refl
in_pairs_is (a ∷ []) = refl
in_pairs_is (a ∷ b ∷ cs) =
    let e : suc (suc (length cs)) % 2 ≡ length cs % 2 = omega arith in
    rw (e, in_pairs_is cs) (turned (is_hex a) (is_hex b) (eqb (length cs % 2) 0) (list_all is_hex cs))

pub half : (cs : List ℕ) → length (bytes_of cs) ≡ length cs / 2
half [] = refl
half (a ∷ []) = refl
half (a ∷ b ∷ cs) = omega (arith, half cs)
