-- How many different numbers a list has: as many as places where all differ, fewer where two do not.
-- Assumes nothing.
use Prim.Native.Nat.{ℕ, zero, suc, ◌≤◌, ◌<◌}
use mathlib.Core.Path.{◌≡◌, refl, sym, ap, ◌∙◌}
use mathlib.Core.Bool.{Bool, true, false, cond, ◌||◌}
use mathlib.Core.Logic.{◌≢◌}
use mathlib.Core.List.{List, [], ◌∷◌}
use native.Mathlib.Omega.{arith}
use borrow.Author.Tests.{eqb-true, eq-eqb, ne_eqb}
use lib.Dec.{eqb}
use lib.ListN.{length, get_or}
use Rattle.free_number.specs.Lowest.{span, how_many, count_of}
use Rattle.rows.specs.Among.{among}
use Rattle.rows.proofs.Listed.{among_more, among_at, among_none}
use Rattle.free_number.specs.Rows.{is_node}
use Rattle.free_number.specs.Demand.{IsNode}
use Rattle.free_number.proofs.Lowest.{count_one, count_none, count_ext}
use Rattle.free_number.proofs.Nodes.{is_node_lem, other}

-- ---- how many
many_most : (k a : ℕ) (p : ℕ → Bool) → how_many p (span a k) ≤ k
unfolding how_many span
many_most zero a p = omega arith
many_most (suc k) a p = go (p a) (many_most k (suc a) p)
  where
    go : (b : Bool) → how_many p (span (suc a) k) ≤ k → cond b (suc (how_many p (span (suc a) k))) (how_many p (span (suc a) k)) ≤ suc k
    go true h = omega arith
    go false h = omega arith

pub count_most : (p : ℕ → Bool) → count_of p ≤ 127
unfolding count_of
count_most p = many_most 127 1 p

-- a number more is at most one more, none if it is there already, and one if it is not
module _ (n : ℕ) (ns : List ℕ) where
  twice : among ns n ≡ true → count_of (among (n ∷ ns)) ≡ count_of (among ns)
  twice e = count_ext (among (n ∷ ns)) (among ns) (λ i h. among_more n ns i ∙ go i (eqb i n) refl)
    where
      go : (i : ℕ) (b : Bool) → eqb i n ≡ b → b || among ns i ≡ among ns i
      go i true z = rw (eqb-true i n z) (sym e)
      go i false z = refl

  pub once : IsNode n → among ns n ≡ false → count_of (among (n ∷ ns)) ≡ suc (count_of (among ns))
  once h e =
      count_one n (among ns) (among (n ∷ ns)) h e (among_more n ns n ∙ rw (eq-eqb n n refl)) (λ i ne. among_more n ns i ∙ rw (ne_eqb i n ne))

  no_more : count_of (among (n ∷ ns)) ≤ suc (count_of (among ns))
  no_more = go (is_node n) refl (among ns n) refl
    where
      go : (b : Bool) → is_node n ≡ b → (v : Bool) → among ns n ≡ v → count_of (among (n ∷ ns)) ≤ suc (count_of (among ns))
      go true e true f = omega (arith, twice f)
      go true e false f = omega (arith, once (is_node_lem n e) f)
      go false e v f = omega (arith, count_ext (among (n ∷ ns)) (among ns) (λ i h. among_more n ns i ∙ rw (other i n h e)))

count_list : (ns : List ℕ) → count_of (among ns) ≤ length ns
count_list [] = omega (arith, count_none)
count_list (n ∷ ns) = omega (arith, no_more n ns, count_list ns)

-- two places with one number
pub count_twice : (ns : List ℕ) (j k : ℕ) → j < k → k < length ns → get_or ns j 0 ≡ get_or ns k 0 → count_of (among ns) < length ns
count_twice [] j k l h e = absurd (omega arith)
count_twice (n ∷ ns) j zero l h e = absurd (omega arith)
count_twice (n ∷ ns) zero (suc k) l h e =
    let there : among ns n ≡ true = rw e (among_at ns k (omega arith)) in
    omega (arith, twice n ns there, count_list ns)
count_twice (n ∷ ns) (suc j) (suc k) l h e =
    omega (arith, no_more n ns, count_twice ns j k (omega arith) (omega arith) e)

-- no two places with one number, and all are 1..127
pub count_all : (ns : List ℕ) → ((i : ℕ) → i < length ns → IsNode (get_or ns i 0)) → ((i j : ℕ) → i < j → j < length ns → get_or ns i 0 ≢ get_or ns j 0)
    → count_of (among ns) ≡ length ns
count_all [] all apart = count_none
count_all (n ∷ ns) all apart =
    once n ns (all 0 (omega arith)) (among_none ns n (λ i l e. apart 0 (suc i) (omega arith) (omega arith) (sym e)))
    ∙ ap suc (count_all ns (λ i l. all (suc i) (omega arith)) (λ i j l h. apart (suc i) (suc j) (omega arith) (omega arith)))
