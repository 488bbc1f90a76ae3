-- Whether a number is on a list: by one number more, and by the places of the list.
-- Assumes nothing.
use Prim.Native.Nat.{ℕ, zero, suc, ◌<◌}
use mathlib.Core.Path.{◌≡◌, refl, sym, ◌∙◌}
use mathlib.Core.Bool.{Bool, true, false, ◌||◌, or-true}
use mathlib.Core.List.{List, [], ◌∷◌}
use mathlib.Core.Logic.{◌≢◌}
use native.Mathlib.Omega.{arith}
use borrow.Author.Tests.{eqb-true, eqb-false, eq-eqb, ne_eqb}
use lib.Dec.{eqb}
use lib.ListN.{length, get_or}
use Rattle.rows.specs.Among.{among}

pub eqb_turned : (a b : ℕ) → eqb a b ≡ eqb b a
eqb_turned a b = go (eqb b a) refl
  where
    go : (t : Bool) → eqb b a ≡ t → eqb a b ≡ t
    go true e = eq-eqb a b (sym (eqb-true b a e))
    go false e = ne_eqb a b (λ q. eqb-false b a e (sym q))

pub among_more : (x : ℕ) (xs : List ℕ) (a : ℕ) → among (x ∷ xs) a ≡ (eqb a x || among xs a)
among_more x [] a = elim (eqb a x) as (λ b. b ≡ (b || false)) [ true ↦ refl | false ↦ refl ]
among_more x (y ∷ xs) a = refl

-- a number at a place of a list is on it, and one that is at none is not
pub among_at : (xs : List ℕ) (i : ℕ) → i < length xs → among xs (get_or xs i 0) ≡ true
among_at [] i p = absurd (omega arith)
among_at (x ∷ xs) zero p = among_more x xs x ∙ rw (eq-eqb x x refl)
among_at (x ∷ xs) (suc i) p = among_more x xs (get_or xs i 0) ∙ rw (among_at xs i (omega arith)) (or-true (eqb (get_or xs i 0) x))

pub among_none : (xs : List ℕ) (a : ℕ) → ((i : ℕ) → i < length xs → get_or xs i 0 ≢ a) → among xs a ≡ false
among_none [] a n = refl
among_none (x ∷ xs) a n = among_more x xs a ∙ rw (ne_eqb a x (λ e. n 0 (omega arith) (sym e))) (among_none xs a (λ i p. n (suc i) (omega arith)))
