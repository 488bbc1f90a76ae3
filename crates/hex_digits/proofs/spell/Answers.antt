-- `hex_digits::spell` meets its contract. After i turns the text starts with the digits of the first i bytes, and the rest is as it was.
use Prim.Native.Nat.{ℕ, zero, suc, ◌≤◌, ◌<◌, ◌+◌, ◌*◌, ◌/◌, ◌%◌}
use mathlib.Core.Path.{◌≡◌, refl}
use mathlib.Core.List.{List, [], ◌∷◌, ◌++◌, append_assoc}
use native.Mathlib.Omega.{arith}
use native.Mathlib.Numerals.{add-one}
use native.Mathlib.Nat.{le_of_suc-le-suc, not-suc-le-zero}
use lib.ListN.{length, take, drop, get_or, set, length-set}
use lib.Seq.{drop-cons}
use Rattle.hex_digits.specs.Digits.{digit_of, digits_of}
use Rattle.hex_digits.proofs.spell.Goals as goal

-- the digits of one byte more
more : (i : ℕ) (x : List ℕ) → i < length x
    → digits_of (take (suc i) x) ≡ digits_of (take i x) ++ (digit_of (get_or x i 0 / 16) ∷ (digit_of (get_or x i 0 % 16) ∷ []))
more i [] h = absurd (not-suc-le-zero h)
more zero (b ∷ x) h = refl
more (suc i) (b ∷ x) h = rw (more i x (le_of_suc-le-suc h))

-- two digits a byte
twice : (i : ℕ) (x : List ℕ) → i ≤ length x → 2 * i ≡ length (digits_of (take i x))
twice zero x h = refl
twice (suc i) [] h = absurd (not-suc-le-zero h)
twice (suc i) (b ∷ x) h = omega (arith, twice i x (le_of_suc-le-suc h))

-- two stores just after a text that lies over the start of another
put : (p : List ℕ) (a b : ℕ) (rest : List ℕ) (hi lo : ℕ) {n : ℕ} → n ≡ length p
    → set (set (p ++ (a ∷ b ∷ rest)) n hi) (suc n) lo ≡ p ++ (hi ∷ lo ∷ rest)
put [] a b rest hi lo e = rw e
put (x ∷ p) a b rest hi lo e = rw (e, put p a b rest hi lo refl)

-- a turn: two digits more
turn : (x s text : List ℕ) (i : ℕ) → i < length x → suc (2 * i) < length s → text ≡ digits_of (take i x) ++ drop (2 * i) s
    → set (set text (2 * i) (digit_of (get_or x i 0 / 16))) (2 * i + 1) (digit_of (get_or x i 0 % 16))
    ≡ digits_of (take (i + 1) x) ++ drop (2 * (i + 1)) s
turn x s text i h room is =
    let p = digits_of (take i x) in
    let hi = digit_of (get_or x i 0 / 16) in
    let lo = digit_of (get_or x i 0 % 16) in
    let a = get_or s (2 * i) 0 in
    let b = get_or s (suc (2 * i)) 0 in
    let rest = drop (suc (suc (2 * i))) s in
    let two : 2 * (i + 1) ≡ suc (suc (2 * i)) = omega arith in
    let left : drop (2 * i) s ≡ a ∷ b ∷ rest = rw (drop-cons s (2 * i) 0 (omega arith), drop-cons s (suc (2 * i)) 0 room) in
    rw (is, left, two, add-one (2 * i), add-one i, more i x h, append_assoc) (put p a b rest hi lo (twice i x (omega arith)))

pub loop-i-preserved : goal.loop-i-preserved
loop-i-preserved c =
    let k = c.loop-i in
    let a = c.args in (
      simp length-set k.invariant.0,
      rw (c.digit.ensures, c.digit-in-loop-i.ensures) (turn a.bytes.now a.text.now k.text k.i (omega arith) (omega arith) k.invariant.1),
      k.invariant.2,
    )
