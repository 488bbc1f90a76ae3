-- Without the spaces at both ends: however many are put there, what is left is the same, nothing goes where there are none, and what goes is spaces.
-- Assumes nothing.
use Prim.Native.Nat.{ℕ, zero, suc}
use Prim.Native.Char.{code}
use mathlib.Core.Path.{◌≡◌, refl, ap, ◌∙◌}
use mathlib.Core.Bool.{true}
use mathlib.Core.List.{List, [], ◌∷◌, ◌++◌, append-nil}
use borrow.Author.Tests.{eqb-true, ne_eqb}
use lib.ListN.{length, replicate}
use lib.Seq.{append_snoc}
use Rattle.form_text.specs.Cuts.{is_space, spaces, trimmed_start_of, trimmed_end_of, trimmed_of}
use Rattle.form_text.proofs.Tests.{by_test, both}
use Rattle.form_text.proofs.Dropped.{end_space, end_other}

abbrev pub gap : ℕ → List ℕ
gap n = replicate n (code " ")

start_gap : (n : ℕ) (cs : List ℕ) → trimmed_start_of (gap n ++ cs) ≡ trimmed_start_of cs
unfolding trimmed_start_of
start_gap zero cs = refl
start_gap (suc n) cs = start_gap n cs

end_gap : (cs : List ℕ) (n : ℕ) → trimmed_end_of (cs ++ gap n) ≡ trimmed_end_of cs
end_gap cs zero = rw append-nil
end_gap cs (suc n) = rw (← append_snoc) (end_gap (cs ++ (32 ∷ [])) n) ∙ end_space cs 32 refl

both_gaps : (cs : List ℕ) (n : ℕ) → trimmed_end_of (trimmed_start_of (cs ++ gap n)) ≡ trimmed_end_of (trimmed_start_of cs)
unfolding trimmed_start_of
both_gaps [] n = ap trimmed_end_of (rw append-nil at (start_gap n []))
both_gaps (c ∷ cs) n = by_test (is_space c) (λ e. simp e (both_gaps cs n)) (λ e. simp e (end_gap (c ∷ cs) n))

pub spaced : (m n : ℕ) (cs : List ℕ) → trimmed_of (gap m ++ (cs ++ gap n)) ≡ trimmed_of cs
unfolding trimmed_of
spaced m n cs = rw (start_gap m (cs ++ gap n)) (both_gaps cs n)

-- what starts and ends with another character stays
pub stays : {x : List ℕ} (c d : ℕ) (after before : List ℕ) → x ≡ c ∷ after → x ≡ before ++ (d ∷ []) → (c ≡ code " " → ⊥) → (d ≡ code " " → ⊥)
    → trimmed_of x ≡ x
unfolding trimmed_of trimmed_start_of
stays c d after before p q first last =
    let whole : trimmed_start_of (c ∷ after) ≡ c ∷ after = simp (ne_eqb c 32 first) in
    rw (p, whole, ← p, q) (end_other before d last)

-- what is dropped is spaces
pub record Around (cs word : List ℕ) : Type 0 where
  pub before : ℕ
  pub after : ℕ
  pub is : cs ≡ gap before ++ (word ++ gap after)

gap_of : (cs : List ℕ) → spaces cs ≡ true → cs ≡ gap (length cs)
gap_of [] h = refl
gap_of (c ∷ cs) h =
    let p = both (is_space c) (spaces cs) h in
    let head : c ≡ 32 = eqb-true c 32 p.0 in
    let tail : cs ≡ gap (length cs) = gap_of cs p.1 in
    cc

at_start : (cs : List ℕ) → (n : ℕ) × (cs ≡ gap n ++ trimmed_start_of cs)
unfolding trimmed_start_of
at_start [] = (0, refl)
at_start (c ∷ cs) =
    by_test (is_space c)
    (λ e. let r = at_start cs in
    let head : c ≡ 32 = eqb-true c 32 e in
    (suc r.0, simp e (let tail = r.1 in cc)))
    (λ e. (0, simp e))

at_end : (cs : List ℕ) → (n : ℕ) × (cs ≡ trimmed_end_of cs ++ gap n)
unfolding trimmed_end_of
at_end [] = (0, refl)
at_end (c ∷ cs) =
    by_test (spaces (c ∷ cs))
    (λ e. (suc (length cs), rw e (gap_of (c ∷ cs) e)))
    (λ e. let r = at_end cs in (r.0, rw e (let tail = r.1 in cc)))

pub around : (cs : List ℕ) → Around cs (trimmed_of cs)
unfolding trimmed_of
around cs =
    let s = at_start cs in
    let t = at_end (trimmed_start_of cs) in
    record { before = s.0; after = t.0; is = s.1 ∙ ap (λ (l : List ℕ). gap s.0 ++ l) t.1 }
