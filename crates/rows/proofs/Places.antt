-- The place of an address: what the definition's search finds is one of the rows and has the address; two places compared; and what a span of
-- addresses has, as one test over all its numbers, computed.
-- Assumes nothing.
use Rattle.std.specs.Prelude.{Some, None, Option}
use mathlib.Core.Path.{◌≡◌, refl, ap, ◌∙◌}
use mathlib.Core.Bool.{Bool, true, false, cond}
use mathlib.Core.List.{List, [], ◌∷◌}
use Prim.Native.Nat.{ℕ, suc, ◌+◌, ◌-◌, ◌≤◌, ◌<◌}
use native.Mathlib.Omega.{arith}
use lib.Dec.{T, eqb, eqb→eq}
use lib.ListN.{length, get_or}
use borrow.Author.Tests.{eqb-true}
use Rattle.rows.specs.declared.table.Row.{Row}
use Rattle.rows.specs.Table.{address, place_in, place_of}
use Rattle.rows.proofs.Span.{NoneOf, span, outside, in_rest}

-- ---- what a search over any list of rows finds
abbrev Found : Row → List Row → ℕ → ℕ → ℕ → Type 0
Found d rs k a i = (k ≤ i) × (i < k + length rs) × (address (get_or rs (i - k) d) ≡ a)

first_or_rest : (d r : Row) (rs : List Row) (k a i : ℕ) → (place_in rs (suc k) a ≡ Some i → Found d rs (suc k) a i)
    → (t : Bool) → eqb (address r) a ≡ t → cond t (Some k) (place_in rs (suc k) a) ≡ Some i → Found d (r ∷ rs) k a i
first_or_rest d r rs k a i rest true t h =
    let q : k ≡ i = cc in
    let n : i - k ≡ 0 = omega arith in
    (omega arith, omega arith, rw n (eqb-true _ a t))
first_or_rest d r rs k a i rest false t h =
    let f = rest h in
    let n : i - k ≡ suc (i - suc k) = omega arith in
    (omega arith, omega arith, rw n f.2)

pub found : (d : Row) (rs : List Row) (k a : ℕ) {i : ℕ} → place_in rs k a ≡ Some i → Found d rs k a i
found d [] k a e = let z : ◌≡◌ {A = ℕ} 0 1 = cc in absurd (omega arith)
found d (r ∷ rs) k a e = first_or_rest d r rs k a _ (λ h. found d rs (suc k) a h) (eqb (address r) a) refl e

-- ---- two places compared
abbrev pub same : Option ℕ → Option ℕ → Bool
same (Some i) (Some k) = eqb i k
same (Some i) None = false
same None (Some k) = false
same None None = true

pub same_only : (p q : Option ℕ) → T (same p q) → p ≡ q
same_only (Some i) (Some k) t = ap Some (eqb→eq i k t)
same_only (Some i) None t = absurd t
same_only None (Some k) t = absurd t
same_only None None t = refl

-- ---- spans of addresses
-- the addresses that have an arm of their own, the last arm's first
abbrev pub alone : List (List ℕ)
alone = (208 ∷ []) ∷ (40 ∷ []) ∷ []

-- the test of a span: each of its n addresses from lo on, save those, has the place that is said of it
abbrev pub placed : (ℕ → Option ℕ) → ℕ → ℕ → Bool
placed says lo n = span (outside alone (λ k. same (says k) (place_of k))) lo n

in_place : (says : ℕ → Option ℕ) (lo n : ℕ) → T (placed says lo n) → {a : ℕ} → NoneOf alone a → lo ≤ a → a < lo + n → says a ≡ place_of a
in_place says lo n t {a} out h g = same_only (says a) (place_of a) (in_rest (λ k. same (says k) (place_of k)) alone lo n t a out h g)

-- a span whose places follow each other, s below their addresses
pub follows : (s lo n : ℕ) → T (placed (λ k. Some (k - s)) lo n) → {a i : ℕ} → NoneOf alone a → lo ≤ a → a < lo + n → i ≡ a - s → Some i ≡ place_of a
follows s lo n t out h g e = ap Some e ∙ in_place (λ k. Some (k - s)) lo n t out h g

-- a span that has none
pub nowhere : (lo n : ℕ) → T (placed (λ k. None) lo n) → {a : ℕ} → NoneOf alone a → lo ≤ a → a < lo + n → None ≡ place_of a
nowhere lo n t out h g = in_place (λ k. None) lo n t out h g
