-- The account of the rows, call by call: a call decides whether the number that it names is a row's, and no other; each row has a number of its own.
-- Assumes nothing.
use Prim.Native.Nat.{ℕ, suc}
use mathlib.Core.Path.{◌≡◌, refl, sym, ap, ◌∙◌}
use mathlib.Core.Bool.{Bool, true, false, cond, ◌||◌, or-false, true≢false}
use mathlib.Core.List.{List, [], ◌∷◌, ◌++◌}
use borrow.Author.Tests.{eqb-true}
use lib.Dec.{eqb}
use lib.ListN.{length}
use Rattle.rows.specs.Among.{among}
use Rattle.free_number.specs.Lowest.{count_of}
use Rattle.free_number.specs.Rows.{Call, adds, removes, Calls, start, ◌▸◌, is_node, without, refusal, done, rows_after, named, is_add, last_adds, adding}
use Rattle.free_number.specs.Demand.{IsNode}
use Rattle.free_number.proofs.Nodes.{is_node_lem, other}
use Rattle.free_number.proofs.Lowest.{count_none}
use Rattle.rows.proofs.Listed.{among_more}
use Rattle.free_number.proofs.Among.{once}

-- ---- rows
among_without : (n k : ℕ) (rows : List ℕ) → among (without k rows) n ≡ cond (eqb n k) false (among rows n)
unfolding without
among_without n k [] = elim (eqb n k) as (λ b. false ≡ cond b false false) [ true ↦ refl | false ↦ refl ]
among_without n k (r ∷ rows) = go (among_without n k rows) (eqb k r) refl (eqb n k) refl ∙ ap (cond (eqb n k) false) (sym (among_more r rows n))
  where
    go : among (without k rows) n ≡ cond (eqb n k) false (among rows n) → (b : Bool) → eqb k r ≡ b → (d : Bool) → eqb n k ≡ d
        → among (cond b (without k rows) (r ∷ without k rows)) n ≡ cond d false (eqb n r || among rows n)
    go ih true e true f = ih ∙ rw f
    go ih true e false f = ih ∙ rw (f, ← eqb-true k r e, f)
    go ih false e true f = among_more r (without k rows) n ∙ rw (ih, f, eqb-true n k f, e)
    go ih false e false f = among_more r (without k rows) n ∙ rw (ih, f)

-- a call decides whether the number that it names is a row's, be it refused or not, and leaves all others
pub row_step : (rows : List ℕ) (c : Call) (n : ℕ) → IsNode n
    → among (cond (eqb (refusal rows c) 0) (done rows c) rows) n ≡ cond (eqb n (named c)) (is_add c) (among rows n)
unfolding refusal done
row_step rows (adds k) n h = go (is_node k) refl (among rows k) refl (eqb n k) refl
  where
    go : (b : Bool) → is_node k ≡ b → (v : Bool) → among rows k ≡ v → (t : Bool) → eqb n k ≡ t
        → among (cond (eqb (cond b (cond v 9 0) 7) 0) (k ∷ rows) rows) n ≡ cond t true (among rows n)
    go true e true f true z = rw (eqb-true n k z) f
    go true e true f false z = refl
    go true e false f t z = among_more k rows n ∙ rw z (elim t as (λ x. x || among rows n ≡ cond x true (among rows n)) [ true ↦ refl | false ↦ refl ])
    go false e v f true z = absurd (true≢false (sym z ∙ other n k h e))
    go false e v f false z = refl
row_step rows (removes k) n h = go (is_node k) refl (among rows k) refl (eqb n k) refl
  where
    go : (b : Bool) → is_node k ≡ b → (v : Bool) → among rows k ≡ v → (t : Bool) → eqb n k ≡ t
        → among (cond (eqb (cond b (cond v 0 9) 7) 0) (without k rows) rows) n ≡ cond t false (among rows n)
    go true e true f t z = among_without n k rows ∙ rw z
    go true e false f true z = rw (eqb-true n k z) f
    go true e false f false z = refl
    go false e v f true z = absurd (true≢false (sym z ∙ other n k h e))
    go false e v f false z = refl

-- so a number is a row's just if the last call that names it adds it
pub last_adds_lem : (cs : Calls) (n : ℕ) → IsNode n → among (rows_after cs) n ≡ last_adds cs n
unfolding rows_after last_adds
last_adds_lem start n h = refl
last_adds_lem (cs ▸ c) n h = row_step (rows_after cs) c n h ∙ rw (last_adds_lem cs n h)

-- numbers added one after another: each that is 1..127 is a row's then, however often it came
after_adding : (cs : Calls) (ns : List ℕ) (n : ℕ) → IsNode n → among (rows_after (adding cs ns)) n ≡ among ns n || among (rows_after cs) n
unfolding rows_after
after_adding cs [] n h = refl
after_adding cs (k ∷ ns) n h =
    after_adding (cs ▸ adds k) ns n h ∙ rw (row_step (rows_after cs) (adds k) n h, among_more k ns n) (go (among ns n) (eqb n k) (among (rows_after cs) n))
  where
    go : (a t b : Bool) → a || cond t true b ≡ (t || a) || b
    go true true b = refl
    go true false b = refl
    go false true b = refl
    go false false b = refl

pub after_list : (ns : List ℕ) (n : ℕ) → IsNode n → among (rows_after (adding start ns)) n ≡ among ns n
unfolding rows_after
after_list ns n h = after_adding start ns n h ∙ or-false (among ns n)

pub adding_snoc : (cs : Calls) (ns : List ℕ) (n : ℕ) → adding cs (ns ++ (n ∷ [])) ≡ adding cs ns ▸ adds n
adding_snoc cs [] n = refl
adding_snoc cs (k ∷ ns) n = adding_snoc (cs ▸ adds k) ns n

-- ---- each row has a number of its own, from 1 to 127, so that there are as many numbers as rows
abbrev Apart : List ℕ → Type 0
Apart [] = Unit {0}
Apart (r ∷ rows) = IsNode r × (among rows r ≡ false) × Apart rows

apart_without : (k : ℕ) (rows : List ℕ) → Apart rows → Apart (without k rows)
unfolding without
apart_without k [] s = tt
apart_without k (r ∷ rows) s = go (apart_without k rows s.2) (eqb k r)
  where
    go : Apart (without k rows) → (b : Bool) → Apart (cond b (without k rows) (r ∷ without k rows))
    go ih true = ih
    go ih false = (s.0, among_without r k rows ∙ rw s.1 (elim (eqb r k) as (λ b. cond b false false ≡ false) [ true ↦ refl | false ↦ refl ]), ih)

apart_after : (rows : List ℕ) (c : Call) → Apart rows → Apart (cond (eqb (refusal rows c) 0) (done rows c) rows)
unfolding refusal done
apart_after rows (adds k) s = go (is_node k) refl (among rows k) refl
  where
    go : (b : Bool) → is_node k ≡ b → (v : Bool) → among rows k ≡ v → Apart (cond (eqb (cond b (cond v 9 0) 7) 0) (k ∷ rows) rows)
    go true e true f = s
    go true e false f = (is_node_lem k e, f, s)
    go false e v f = s
apart_after rows (removes k) s =
    elim (eqb (cond (is_node k) (cond (among rows k) 0 9) 7) 0) as (λ b. Apart (cond b (without k rows) rows)) [ true ↦ apart_without k rows s | false ↦ s ]

apart : (cs : Calls) → Apart (rows_after cs)
unfolding rows_after
apart start = tt
apart (cs ▸ c) = apart_after (rows_after cs) c (apart cs)

count_apart : (rows : List ℕ) → Apart rows → count_of (among rows) ≡ length rows
count_apart [] s = count_none
count_apart (r ∷ rows) s = once r rows s.0 s.1 ∙ ap suc (count_apart rows s.2)

pub count_rows : (cs : Calls) → count_of (among (rows_after cs)) ≡ length (rows_after cs)
count_rows cs = count_apart (rows_after cs) (apart cs)
