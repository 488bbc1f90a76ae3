-- `text::numbers::signed` meets its contract: at each return the tests and the callee say which case of the definition holds.
use Rattle.std.specs.Prelude.{Option, Some}
use Rattle.std.specs.Cmp.Lexicographic.{pointwise}
use Prim.Native.Nat.{ℕ, zero, suc, ◌≤◌}
use mathlib.Core.Path.{◌≡◌, refl, sym, ap, ◌∙◌}
use mathlib.Core.Bool.{true, false, and-true}
use mathlib.Core.List.{List, [], ◌∷◌}
use native.Mathlib.Omega.{arith}
use lib.Dec.{eqb}
use lib.IntN.{ℤ, pos, neg_ℤ, ◌-ℤ◌, +ℤ_idl}
use lib.ListN.{get_or, take, drop}
use mir.Syntax.{w32, w64}
use mir.Val.{SFits, to_z, of_z}
use mir.Facts.{to_z-of_z, to_z_pos, sfits_widen}
use Rattle.text.specs.Numbers.{number_of, plain, negative, signed_of}
use Rattle.text.proofs.Spelled.{number_within}
use Rattle.text.proofs.numbers.signed.Goals as goal

-- the negative of a number up to 2147483648 is one of 32 bits with a sign, and its own reading
minus-fits : (n : ℕ) → n ≤ 2147483648 → SFits w32 (neg_ℤ (pos n))
minus-fits zero h = record { sfits = omega arith }
minus-fits (suc n) h = record { sfits = omega arith }

module _ (n : ℕ) (h : n ≤ 2147483648) {z : ℤ} (is : z ≡ pos n) where
  wide : to_z w64 (of_z w64 z) ≡ pos n
  wide = to_z-of_z {w = w64} (rw is (record { sfits = omega arith })) ∙ is

  turned : pos 0 -ℤ to_z w64 (of_z w64 z) ≡ neg_ℤ (pos n)
  turned = rw wide (+ℤ_idl (neg_ℤ (pos n)))

  turned_fits : SFits w64 (pos 0 -ℤ to_z w64 (of_z w64 z))
  turned_fits = rw turned (sfits_widen tt (minus-fits n h))

  narrowed : to_z w64 (of_z w64 (pos 0 -ℤ to_z w64 (of_z w64 z))) ≡ neg_ℤ (pos n)
  narrowed = to_z-of_z turned_fits ∙ turned

  narrowed-fits : SFits w32 (to_z w64 (of_z w64 (pos 0 -ℤ to_z w64 (of_z w64 z))))
  narrowed-fits = rw narrowed (minus-fits n h)

  minus : to_z w32 (of_z w32 (to_z w64 (of_z w64 (pos 0 -ℤ to_z w64 (of_z w64 z))))) ≡ neg_ℤ (pos n)
  minus = to_z-of_z narrowed-fits ∙ narrowed

-- the word starts with a minus sign
starts : (cs : List ℕ) → pointwise eqb (take 1 cs) (45 ∷ []) ≡ eqb (get_or cs 0 0) 45
starts [] = refl
starts (c ∷ cs) = and-true (eqb c 45)

-- what the callee says of the word past its minus sign, and of the whole word
module _ (cs : List ℕ) {r x : Option ℕ} (k : r ≡ x) where
  signed-minus : {rest : List ℕ} → pointwise eqb (take 1 cs) (45 ∷ []) ≡ true → rest ≡ drop 1 cs → r ≡ number_of 2147483648 rest → negative x ≡ signed_of cs
  unfolding signed_of
  signed-minus e d q = simp (sym (starts cs) ∙ e, ← d, sym k ∙ q)

  signed-plain : pointwise eqb (take 1 cs) (45 ∷ []) ≡ false → r ≡ number_of 2147483647 cs → plain x ≡ signed_of cs
  unfolding signed_of
  signed-plain e q = simp (sym (starts cs) ∙ e, sym k ∙ q)

pub returns-in_err-n-in-Some : goal.returns-in_err-n-in-Some
returns-in_err-n-in-Some c =
    let s = c.in-Some.ensures.cases in
    c.from_residual.ensures ∙ signed-minus _ c.in_err-n-in-Some.was s.0 s.1 c.decimal.ensures

pub overflow_cast-result : goal.overflow_cast-result
overflow_cast-result c = narrowed-fits _ (number_within 2147483648 _ (sym c.decimal.ensures ∙ c.in_ok-n-in-Some.was)) c.from.ensures

pub returns-in_ok-n-in-Some : goal.returns-in_ok-n-in-Some
returns-in_ok-n-in-Some c =
    let s = c.in-Some.ensures.cases in
    ap Some (minus _ (number_within 2147483648 _ (sym c.decimal.ensures ∙ c.in_ok-n-in-Some.was)) c.from.ensures)
    ∙ signed-minus _ c.in_ok-n-in-Some.was s.0 s.1 c.decimal.ensures

pub returns-in_err-n-in-None : goal.returns-in_err-n-in-None
returns-in_err-n-in-None c =
    c.from_residual-in_err-n-in-None.ensures ∙ signed-plain _ c.in_err-n-in-None.was c.in-None.ensures.cases c.decimal-in-None.ensures

pub overflow_cast-result-in-None : goal.overflow_cast-result-in-None
overflow_cast-result-in-None c =
    let h = number_within 2147483647 _ (sym c.decimal-in-None.ensures ∙ c.in_ok-n-in-None.was) in record { sfits = omega arith }

pub returns-in_ok-n-in-None : goal.returns-in_ok-n-in-None
returns-in_ok-n-in-None c =
    let h = number_within 2147483647 _ (sym c.decimal-in-None.ensures ∙ c.in_ok-n-in-None.was) in
    ap Some (to_z_pos w32 {n = c.in_ok-n-in-None.n} (omega arith)) ∙ signed-plain _ c.in_ok-n-in-None.was c.in-None.ensures.cases c.decimal-in-None.ensures
