-- A number in decimal digits: the library's are the definition's, no more than twenty, and read back as the number. By induction over how many digits
-- there may be.
-- Assumes nothing.
use Rattle.std.proofs.Common.{◌≡◌, ℕ, zero, suc, ◌+◌, ◌-◌, ◌*◌, ◌/◌, ◌%◌, ◌^◌, ◌<◌, ◌≤◌, min, Bool, true, false, ltb, List, [], ◌∷◌, ◌++◌, length, sym, refl, ap, ◌∙◌, append_assoc, append-nil, arith, ltb-false, ltb-true, lt-ltb, le-ltb, le-leb, Some}
use Prim.Native.Char.{code}
use native.Mathlib.Nat.{pow-succ'}
use Rattle.std.specs.Fmt.{decimal}
use Rattle.std.proofs.lemmas.Fmt.{decimal_by_steps}
use Rattle.text.specs.Numbers.{within, digits, is_decimal, value_from, value_of, number_of}
use Rattle.office.specs.Decimal.{digits_before, decimal_of}

-- the last digit of a number
abbrev last : ℕ → ℕ
last n = code "0" + n % 10

-- what holds of digits put one by one: of none, of a first one, and where it holds of those before the last
module _ (P : ℕ → ℕ → List ℕ → List ℕ → Type 0) (none : (n : ℕ) (after : List ℕ) → P 0 n after after)
    (one : (most n : ℕ) (after : List ℕ) → n < 10 → P (suc most) n after (last n ∷ after))
    (more : (most n : ℕ) (after r : List ℕ) → 10 ≤ n → P most (n / 10) (last n ∷ after) r → P (suc most) n after r) where
  by_digits : (most n : ℕ) (after : List ℕ) → P most n after (digits_before most n after)
  by_digits zero n after = none n after
  by_digits (suc most) n after = go (ltb n 10) refl (by_digits most (n / 10) (last n ∷ after))
    where
      go : (b : Bool) → ltb n 10 ≡ b → P most (n / 10) (last n ∷ after) (digits_before most (n / 10) (last n ∷ after))
          → P (suc most) n after (digits_before (suc most) n after)
      go true e k = rw e (one most n after (ltb-true n 10 e))
      go false e k = rw e (more most n after (digits_before most (n / 10) (last n ∷ after)) (ltb-false n 10 e) k)

-- ---- no more digits than there may be
pub decimal_short : (n : ℕ) → length (decimal_of n) ≤ 20
unfolding decimal_of
decimal_short n =
    by_digits (λ most n after r. length r ≤ most + length after) (λ n after. omega arith) (λ most n after h. omega arith) (λ most n after r h k. omega arith)
    20 n []

-- ---- as the library spells them
ten_more : (k : ℕ) → 10 ^ suc k ≡ 10 * 10 ^ k
ten_more k = pow-succ' 10 k

-- put before what follows, where there may be enough digits
abbrev Spells : ℕ → List ℕ → Type 0
Spells n ds = (most : ℕ) (after : List ℕ) → n < 10 ^ suc most → digits_before (suc most) n after ≡ ds ++ after

spells_one : (n : ℕ) → n < 10 → Spells n ((48 + n) ∷ [])
spells_one n less most after h = let e : n % 10 ≡ n = omega arith in simp (lt-ltb n 10 less, e)

spells_more : (n : ℕ) (ds : List ℕ) → 10 ≤ n → Spells (n / 10) ds → Spells n (ds ++ ((48 + n % 10) ∷ []))
spells_more n ds more ih zero after h = absurd (omega arith)
spells_more n ds more ih (suc most) after h =
    let tenth : n / 10 < 10 ^ suc most = omega (arith, ten_more (suc most)) in
    simp (le-ltb n 10 more) (ih most (last n ∷ after) tenth ∙ sym (append_assoc ds (last n ∷ []) after))

pub decimal_is : (n : ℕ) → n < 2 ^ 64 → decimal n ≡ decimal_of n
unfolding decimal_of
decimal_is n fits = sym (decimal_by_steps Spells spells_one spells_more n fits 19 [] (omega arith) ∙ append-nil (decimal n))

-- ---- read back
-- the last digit is one, and its value follows on that of the others
is_digit : (n : ℕ) → within (code "0") (code "9") (last n) ≡ true
is_digit n = let h : n % 10 < 10 = omega arith in simp (le-leb (code "0") (last n) (omega arith), le-leb (last n) (code "9") (omega arith))

-- digits before others, one at least, and their value
record Reads (most n : ℕ) (after r : List ℕ) : Type 0 where
  some : min 1 most + length after ≤ length r
  are : digits after ≡ true → digits r ≡ true
  value : n < 10 ^ most → value_of r ≡ value_from n after

reads : (most n : ℕ) (after : List ℕ) → Reads most n after (digits_before most n after)
reads =
    by_digits Reads
    (λ n after. record {
      some = omega arith;
      are = λ h. h;
      value = λ h. let z : 0 ≡ n = omega arith in ap (λ (v : ℕ). value_from v after) z;
    })
    (λ most n after less. record {
      some = omega arith;
      are = λ h. simp (is_digit n, h);
      value = λ h. let v : 10 * 0 + (last n - code "0") ≡ n = omega arith in ap (λ (v : ℕ). value_from v after) v;
    })
    (λ most n after r more k. record {
      some = let q = k.some in omega arith;
      are = λ h. k.are (simp (is_digit n, h));
      value = λ h. let v : 10 * (n / 10) + (last n - code "0") ≡ n = omega arith in
          k.value (omega (arith, ten_more most)) ∙ ap (λ (v : ℕ). value_from v after) v;
    })

decimal_reads : (n : ℕ) → Reads 20 n [] (decimal_of n)
unfolding decimal_of
decimal_reads n = reads 20 n []

some_digits : (r : List ℕ) → 0 < length r → digits r ≡ true → is_decimal r ≡ true
some_digits [] h e = absurd (omega arith)
some_digits (c ∷ cs) h e = e

-- a number of 64 bits is read back from its digits
pub read_back : (limit n : ℕ) → n < 2 ^ 64 → n ≤ limit → number_of limit (decimal_of n) ≡ Some n
unfolding number_of
read_back limit n fits within =
    let k = decimal_reads n in
    let v : value_of (decimal_of n) ≡ n = k.value (omega arith) in
    simp (some_digits (decimal_of n) (let q = k.some in omega arith) (k.are refl), v, le-leb n limit within)
