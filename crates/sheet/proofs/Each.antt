-- A test of each number below n: what follows from it, and what it follows from.
-- Assumes nothing.
use Prim.Native.Nat.{ℕ, zero, suc, ◌<◌}
use mathlib.Core.Path.{◌≡◌, refl, sym}
use mathlib.Core.Bool.{Bool, true, false, and-eq-true_iff}
use mathlib.Core.Logic.{◌⊎◌, inl, inr, ⊎_elim, ◌↔◌}
use native.Mathlib.Nat.{not-suc-le-zero}
use native.Mathlib.Omega.{arith}
use lib.Dec.{eqb}
use borrow.Author.Tests.{eqb-true, eqb-false}
use Rattle.sheet.specs.Each.{each}

-- the last of the numbers below suc n, or one before it
pub last : (i n : ℕ) → i < suc n → (i ≡ n) ⊎ (i < n)
last i n p = go (eqb i n) refl
  where
    go : (t : Bool) → eqb i n ≡ t → (i ≡ n) ⊎ (i < n)
    go true e = inl (eqb-true i n e)
    go false e = let d : (i ≡ n → ⊥) = eqb-false i n e in inr (omega arith)

pub each_at : (test : ℕ → Bool) (n : ℕ) → each test n ≡ true → (i : ℕ) → i < n → test i ≡ true
each_at test zero h i p = absurd (not-suc-le-zero p)
each_at test (suc n) h i p =
    ⊎_elim (λ e. rw e ((and-eq-true_iff (each test n) (test n)).0 h).1)
    (λ q. each_at test n ((and-eq-true_iff (each test n) (test n)).0 h).0 i q)
    (last i n p)

pub each_all : (test : ℕ → Bool) (n : ℕ) → ((i : ℕ) → i < n → test i ≡ true) → each test n ≡ true
each_all test zero h = refl
each_all test (suc n) h = rw (each_all test n (λ i p. h i (omega arith)), h n (omega arith))

-- an answer that is true just where each number passes is that test
pub each_answered : (test : ℕ → Bool) (n : ℕ) (answer : Bool) → ((answer ≡ true) ↔ ((i : ℕ) → i < n → test i ≡ true)) → answer ≡ each test n
each_answered test n true h = sym (each_all test n (h.0 refl))
each_answered test n false h = go (each test n) refl
  where
    go : (t : Bool) → each test n ≡ t → false ≡ t
    go true e = h.1 (each_at test n e)
    go false e = refl
