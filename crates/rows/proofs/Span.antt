-- What a `match` on a number knows in each arm, turned into a claim that antt computes: an arm of single numbers knows that the
-- number is one of them, an arm of ranges that it lies in a span and is none of the single numbers of the other arms.
-- Assumes nothing.
use mathlib.Core.Path.{◌≡◌, refl, subst, sym}
use mathlib.Core.Bool.{Bool, true, false, ◌&&◌, ◌||◌}
use mathlib.Core.List.{List, [], ◌∷◌}
use mathlib.Core.Logic.{◌⊎◌, inl, inr, ⊎_elim}
use Prim.Native.Nat.{ℕ, zero, suc, ◌+◌, ◌<◌, ◌≤◌}
use native.Mathlib.Omega.{arith}
use lib.Dec.{T, eqb, eqb→eq}
use borrow.Author.Tests.{eqb-true, eqb-false}
use Rattle.rows.specs.Among.{among}

pub both : (a b : Bool) → T (a && b) → T a × T b
both true b t = (tt, t)
both false b t = absurd t

pub one_of_two : (a b : Bool) → T (a || b) → T a ⊎ T b
one_of_two true b t = inl tt
one_of_two false b t = inr t

-- the test passes at each of the n numbers from lo on
abbrev pub span : (ℕ → Bool) → ℕ → ℕ → Bool
span f lo zero = true
span f lo (suc n) = f lo && span f (suc lo) n

split : (lo a : ℕ) (b : Bool) → eqb a lo ≡ b → lo ≤ a → (a ≡ lo) ⊎ (suc lo ≤ a)
split lo a true e h = inl (eqb-true a lo e)
split lo a false e h = let n : (a ≡ lo → ⊥) = eqb-false a lo e in inr (omega arith)

pub in_span : (f : ℕ → Bool) (lo n : ℕ) → T (span f lo n) → (a : ℕ) → lo ≤ a → a < lo + n → T (f a)
in_span f lo zero t a h g = absurd (omega arith)
in_span f lo (suc n) t a h g =
    let q = both (f lo) (span f (suc lo) n) t in
    ⊎_elim (λ e. subst (λ (k : ℕ). T (f k)) (sym e) q.0)
    (λ l. in_span f (suc lo) n q.1 a l (omega arith))
    (split lo a (eqb a lo) refl h)

-- the number is one of the list: what an arm of single numbers knows
abbrev pub OneOf : List ℕ → ℕ → Type 0
OneOf [] a = ⊥
OneOf (x ∷ []) a = a ≡ x
OneOf (x ∷ (y ∷ xs)) a = (a ≡ x) ⊎ OneOf (y ∷ xs) a

among_one : (xs : List ℕ) (a : ℕ) → T (among xs a) → OneOf xs a
among_one [] a t = t
among_one (x ∷ []) a t = eqb→eq a x t
among_one (x ∷ (y ∷ xs)) a t =
    ⊎_elim (λ e. inl (eqb→eq a x e)) (λ o. inr (among_one (y ∷ xs) a o)) (one_of_two (eqb a x) (among (y ∷ xs) a) t)

-- the test passes at each number of the list
abbrev pub each : (ℕ → Bool) → List ℕ → Bool
each f [] = true
each f (x ∷ xs) = f x && each f xs

pub in_list : (f : ℕ → Bool) (xs : List ℕ) → T (each f xs) → (a : ℕ) → OneOf xs a → T (f a)
in_list f [] t a h = absurd h
in_list f (x ∷ []) t a h = subst (λ (k : ℕ). T (f k)) (sym h) (both (f x) true t).0
in_list f (x ∷ (y ∷ xs)) t a h =
    let q = both (f x) (each f (y ∷ xs)) t in
    ⊎_elim (λ e. subst (λ (k : ℕ). T (f k)) (sym e) q.0) (λ o. in_list f (y ∷ xs) q.1 a o) h

-- the number is on none of the lists, the last arm's first: what the other arms know
abbrev pub NoneOf : List (List ℕ) → ℕ → Type 0
NoneOf [] a = Unit {0}
NoneOf (ks ∷ kss) a = NoneOf kss a × (OneOf ks a → ⊥)

abbrev pub among_any : List (List ℕ) → ℕ → Bool
among_any [] a = false
among_any (ks ∷ kss) a = among ks a || among_any kss a

none_out : (kss : List (List ℕ)) (a : ℕ) → NoneOf kss a → T (among_any kss a) → ⊥
none_out [] a n t = t
none_out (ks ∷ kss) a n t =
    ⊎_elim (λ h. n.1 (among_one ks a h)) (λ h. none_out kss a n.0 h) (one_of_two (among ks a) (among_any kss a) t)

-- a test that is to pass only at numbers on none of the lists
abbrev pub outside : List (List ℕ) → (ℕ → Bool) → ℕ → Bool
outside kss f a = among_any kss a || f a

pub in_rest : (f : ℕ → Bool) (kss : List (List ℕ)) (lo n : ℕ) → T (span (outside kss f) lo n) → (a : ℕ)
    → NoneOf kss a → lo ≤ a → a < lo + n → T (f a)
in_rest f kss lo n t a out h g =
    ⊎_elim (λ k. absurd (none_out kss a out k)) (λ x. x) (one_of_two (among_any kss a) (f a) (in_span (outside kss f) lo n t a h g))

pub is_true : (b : Bool) → T b → b ≡ true
is_true true t = refl
is_true false t = absurd t
