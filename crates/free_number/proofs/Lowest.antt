-- The lowest number that is not used and how many are, by any test: what the search finds, and that it looks at the numbers from 1 to 127 alone.
-- Assumes nothing.
use Rattle.std.specs.Prelude.{Some, None, Option}
use Prim.Native.Nat.{ℕ, zero, suc, ◌+◌, ◌≤◌, ◌<◌}
use mathlib.Core.Path.{◌≡◌, refl, sym, ap, ◌∙◌}
use mathlib.Core.Bool.{Bool, true, false, cond, true≢false}
use mathlib.Core.Logic.{◌↔◌}
use native.Mathlib.Nat.{le_refl}
use native.Mathlib.Omega.{arith}
use borrow.Author.Tests.{eqb-true, eqb-false}
use lib.Dec.{eqb}
use Rattle.free_number.specs.Lowest.{span, first_free, how_many, lowest_of, count_of}
use Rattle.free_number.specs.Demand.{IsNode, IsLowest}

-- ---- tests that agree on the span
first_ext : (k a : ℕ) (p q : ℕ → Bool) → ((n : ℕ) → a ≤ n → n < a + k → p n ≡ q n) → first_free p (span a k) ≡ first_free q (span a k)
unfolding first_free span
first_ext zero a p q h = refl
first_ext (suc k) a p q h = rw (h a (le_refl a) (omega arith), first_ext k (suc a) p q (λ n l r. h n (omega arith) (omega arith)))

many_ext : (k a : ℕ) (p q : ℕ → Bool) → ((n : ℕ) → a ≤ n → n < a + k → p n ≡ q n) → how_many p (span a k) ≡ how_many q (span a k)
unfolding how_many span
many_ext zero a p q h = refl
many_ext (suc k) a p q h = rw (h a (le_refl a) (omega arith), many_ext k (suc a) p q (λ n l r. h n (omega arith) (omega arith)))

pub lowest_ext : (p q : ℕ → Bool) → ((n : ℕ) → IsNode n → p n ≡ q n) → lowest_of p ≡ lowest_of q
unfolding lowest_of
lowest_ext p q h = first_ext 127 1 p q (λ n l u. h n (l, omega arith))

pub count_ext : (p q : ℕ → Bool) → ((n : ℕ) → IsNode n → p n ≡ q n) → count_of p ≡ count_of q
unfolding count_of
count_ext p q h = many_ext 127 1 p q (λ n l u. h n (l, omega arith))

-- ---- one number more
many_one : (k a r : ℕ) (p q : ℕ → Bool) → a ≤ r → r < a + k → p r ≡ false → q r ≡ true → ((i : ℕ) → (i ≡ r → ⊥) → q i ≡ p i)
    → how_many q (span a k) ≡ suc (how_many p (span a k))
unfolding how_many span
many_one zero a r p q l u out inn same = absurd (omega arith)
many_one (suc k) a r p q l u out inn same =
    go (λ ne. many_one k (suc a) r p q (omega arith) (omega arith) out inn same) (eqb a r) refl
  where
    step : (b : Bool) (x y : ℕ) → x ≡ suc y → cond b (suc x) x ≡ suc (cond b (suc y) y)
    step true x y e = ap suc e
    step false x y e = e

    go : ((a ≡ r → ⊥) → how_many q (span (suc a) k) ≡ suc (how_many p (span (suc a) k))) → (t : Bool) → eqb a r ≡ t
        → cond (q a) (suc (how_many q (span (suc a) k))) (how_many q (span (suc a) k)) ≡ suc (cond (p a) (suc (how_many p (span (suc a) k))) (how_many p (span (suc a) k)))
    go ih true e =
        let at : a ≡ r = eqb-true a r e in
        rw (ap q at ∙ inn, ap p at ∙ out) (ap suc (many_ext k (suc a) q p (λ n ln un. same n (λ z. omega arith))))
    go ih false e =
        let ne : a ≡ r → ⊥ = eqb-false a r e in
        rw (same a ne) (step (p a) (how_many q (span (suc a) k)) (how_many p (span (suc a) k)) (ih ne))

pub count_one : (r : ℕ) (p q : ℕ → Bool) → IsNode r → p r ≡ false → q r ≡ true → ((i : ℕ) → (i ≡ r → ⊥) → q i ≡ p i) → count_of q ≡ suc (count_of p)
unfolding count_of
count_one r p q h out inn same = many_one 127 1 r p q h.0 (omega (arith, h.1)) out inn same

many_none : (k a : ℕ) → how_many (λ n. false) (span a k) ≡ 0
unfolding how_many span
many_none zero a = refl
many_none (suc k) a = many_none k (suc a)

pub count_none : count_of (λ n. false) ≡ 0
unfolding count_of
count_none = many_none 127 1

-- ---- what the search finds
abbrev IsFirst : (ℕ → Bool) → ℕ → ℕ → Option ℕ → Type 0
IsFirst p a k (Some n) = (a ≤ n) × (n < a + k) × (p n ≡ false) × ((i : ℕ) → a ≤ i → i < n → p i ≡ true)
IsFirst p a k None = (i : ℕ) → a ≤ i → i < a + k → p i ≡ true

first_is : (k a : ℕ) (p : ℕ → Bool) → IsFirst p a k (first_free p (span a k))
unfolding first_free span
first_is zero a p = λ i l u. absurd (omega arith)
first_is (suc k) a p = go (first_is k (suc a) p) (p a) refl
  where
    -- a number from a on is a, or one after it
    from : p a ≡ true → (i : ℕ) → a ≤ i → (suc a ≤ i → p i ≡ true) → (t : Bool) → eqb a i ≡ t → p i ≡ true
    from e i l h true z = ap p (sym (eqb-true a i z)) ∙ e
    from e i l h false z = let ne : a ≡ i → ⊥ = eqb-false a i z in h (omega arith)

    more : p a ≡ true → (f : Option ℕ) → IsFirst p (suc a) k f → IsFirst p a (suc k) f
    more e (Some n) h = (omega (arith, h.0), omega (arith, h.1), h.2, λ i l u. from e i l (λ g. h.3 i g u) (eqb a i) refl)
    more e None h = λ i l u. from e i l (λ g. h i g (omega arith)) (eqb a i) refl

    go : IsFirst p (suc a) k (first_free p (span (suc a) k)) → (b : Bool) → p a ≡ b → IsFirst p a (suc k) (cond b (first_free p (span (suc a) k)) (Some a))
    go h true e = more e (first_free p (span (suc a) k)) h
    go h false e = (le_refl a, omega arith, e, λ i l u. absurd (omega arith))

pub lowest_is : (p : ℕ → Bool) → IsLowest p (lowest_of p)
unfolding lowest_of
lowest_is p = go (first_free p (span 1 127)) (first_is 127 1 p)
  where
    go : (f : Option ℕ) → IsFirst p 1 127 f → IsLowest p f
    go (Some n) h = ((h.0, omega (arith, h.1)), h.2, h.3)
    go None h = λ i n. h i n.0 (omega (arith, n.1))

-- none is free just if all are used
pub none_free : (p : ℕ → Bool) (f : Option ℕ) → IsLowest p f → f ≡ None ↔ ((n : ℕ) → IsNode n → p n ≡ true)
none_free p (Some n) h = (λ e. absurd (true≢false (cc e)), λ all. absurd (true≢false (sym (all n h.0) ∙ h.1)))
none_free p None h = (λ e. h, λ all. refl)
