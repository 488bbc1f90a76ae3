-- What is asked of a check leaves nothing open: two checks that do it give every form the same answer. A form is refused by its length or by its
-- first row outside; of any other, two answers that are so name the same row, column and earlier row.
-- Assumes nothing.
use Prim.Native.Nat.{ℕ, ◌≤◌, ◌<◌}
use mathlib.Core.Path.{◌≡◌, refl, sym, ◌∙◌, ap}
use mathlib.Core.Bool.{Bool, true, false, true≢false}
use mathlib.Core.List.{List}
use native.Mathlib.Omega.{arith}
use borrow.Author.Tests.{ltb-true, ltb-false}
use lib.Dec.{ltb}
use lib.ListN.{length}
use lib.Seq.{get_or-take, length-take-le}
use Rattle.order_form.specs.declared.row.Row.{Row}
use Rattle.order_form.specs.declared.row.Column.{Column}
use Rattle.order_form.specs.declared.row.Column.TheVariants.{Serial, Number}
use Rattle.order_form.specs.declared.answer.Answer.{Answer}
use Rattle.order_form.specs.declared.answer.Answer.TheVariants.{AllDiffer, Repeats, Refused}
use Rattle.order_form.specs.declared.answer.Refusal.TheVariants.{Outside, TooMany}
use Rattle.order_form.specs.Rows.{is_outside, first_of}
use Rattle.order_form.specs.Held.{no_row}
use Rattle.order_form.specs.Demand.{at, AllNodes, Same, First, Claims, Refuses, Demanded}
use Rattle.order_form.proofs.Demands.{inside_before, outside_at, inside_all, unrepeated}

pub neither : (a b : ℕ) → (a < b → ⊥) → (b < a → ⊥) → a ≡ b
neither a b p q = go (ltb a b) (ltb b a) refl refl
  where
    go : (x y : Bool) → ltb a b ≡ x → ltb b a ≡ y → a ≡ b
    go true y e f = absurd (p (ltb-true a b e))
    go false true e f = absurd (q (ltb-true b a f))
    go false false e f = omega (arith, ltb-false a b e, ltb-false b a f)

-- ---- where the rows before one do not repeat
module _ (rows : List Row) where
  pub apart_before : (k : ℕ) → First rows k → (c : Column) (i j : ℕ) → i < j → j < k → at c rows i ≡ at c rows j → ⊥
  apart_before k f c i j l h e =
      f.before c i j l (rw (length-take-le k rows (omega (arith, f.inside))) h)
      (rw (get_or-take k rows i no_row (omega arith), get_or-take k rows j no_row h) e)

  -- the first row that repeats one is one row
  same_row : (k l : ℕ) → First rows k → First rows l → (c d : Column) (i j : ℕ) → Same c rows k i → Same d rows l j → k ≡ l
  same_row k l f g c d i j s t =
      neither k l (λ h. apart_before l g c i k s.earlier h s.same) (λ h. apart_before k f d j l t.earlier h t.same)

  -- and the row that it repeats is one row
  pub same_earlier : (k : ℕ) → First rows k → (c : Column) (i j : ℕ) → Same c rows k i → Same c rows k j → i ≡ j
  same_earlier k f c i j s t =
      neither i j (λ h. apart_before k f c i j h t.earlier (s.same ∙ sym t.same)) (λ h. apart_before k f c j i h s.earlier (t.same ∙ sym s.same))

  one : (c : Column) (k l i j : ℕ) → First rows k → First rows l → Same c rows k i → Same c rows l j → Repeats c k i ≡ Repeats c l j
  one c k l i j f g s t =
      let e = same_row k l f g c c i j s t in
      let u : Same c rows k j = rw e t in
      rw (e, same_earlier k f c i j s u)

  one_claim : (a b : Answer) → Claims rows a → Claims rows b → a ≡ b
  one_claim AllDiffer b p q = sym (unrepeated rows b p q)
  one_claim (Repeats c k i) AllDiffer p q = unrepeated rows (Repeats c k i) q p
  one_claim (Repeats Serial k i) (Repeats Serial l j) p q = one Serial k l i j p.0 q.0 p.1 q.1
  one_claim (Repeats Serial k i) (Repeats Number l j) p q =
      absurd (q.2 i (rw (← same_row k l p.0 q.0 Serial Number i j p.1 q.1) p.1))
  one_claim (Repeats Number k i) (Repeats Serial l j) p q =
      absurd (p.2 j (rw (same_row k l p.0 q.0 Number Serial i j p.1 q.1) q.1))
  one_claim (Repeats Number k i) (Repeats Number l j) p q = one Number k l i j p.0 q.0 p.1 q.1
  one_claim (Repeats c k i) (Refused why) p q = absurd q
  one_claim (Refused why) b p q = absurd p

-- ---- the refusals
module _ (check : List Row → Answer) (does : Demanded check) (rows : List Row) where
  eighth : (a : Answer) → Refuses 8 a → a ≡ Refused TooMany
  eighth a (Outside row, is, number) = cc
  eighth a (TooMany, is, number) = is

  -- the first row outside is one row
  seventh : length rows ≤ 127 → first_of is_outside rows < length rows → check rows ≡ Refused (Outside (first_of is_outside rows))
  seventh few less =
      let first = first_of is_outside rows in
      let named = does.seven rows first few less (outside_at rows less) in
      let same : named.0 ≡ first = neither named.0 first (λ h. named.3 (inside_before rows named.0 h)) (λ h. omega (arith, named.1)) in
      named.4 ∙ ap (λ (i : ℕ). Refused (Outside i)) same

  -- the answer that there is
  answer : Answer → Bool → Bool → Answer
  answer a true o = Refused TooMany
  answer a false true = Refused (Outside (first_of is_outside rows))
  answer a false false = a

  is_answer : (m o : Bool) → ltb 127 (length rows) ≡ m → ltb (first_of is_outside rows) (length rows) ≡ o → check rows ≡ answer (check rows) m o
  unfolding answer
  is_answer true o e q = eighth (check rows) (does.eight rows (ltb-true _ _ e))
  is_answer false true e q = seventh (ltb-false _ _ e) (ltb-true _ _ q)
  is_answer false false e q = refl

pub only : (f g : List Row → Answer) → Demanded f → Demanded g → (rows : List Row) → f rows ≡ g rows
unfolding answer
only f g p q rows = go (ltb 127 (length rows)) (ltb (first_of is_outside rows) (length rows)) refl refl
  where
    go : (m o : Bool) → ltb 127 (length rows) ≡ m → ltb (first_of is_outside rows) (length rows) ≡ o → f rows ≡ g rows
    go true o d e = is_answer f p rows true o d e ∙ sym (is_answer g q rows true o d e)
    go false true d e = is_answer f p rows false true d e ∙ sym (is_answer g q rows false true d e)
    go false false d e =
        let few : length rows ≤ 127 = ltb-false _ _ d in
        let all : AllNodes rows = inside_all rows e in
        one_claim rows (f rows) (g rows) (p.answered rows few all) (q.answered rows few all)

-- a form that is sent back is one that may be searched: it has no more than 127 rows, and their numbers are 1..127
pub searched : (check : List Row → Answer) → Demanded check → (rows : List Row) (c : Column) (k j : ℕ) → check rows ≡ Repeats c k j
    → (length rows ≤ 127) × AllNodes rows
unfolding answer
searched check does rows c k j said = go (ltb 127 (length rows)) (ltb (first_of is_outside rows) (length rows)) refl refl
  where
    go : (m o : Bool) → ltb 127 (length rows) ≡ m → ltb (first_of is_outside rows) (length rows) ≡ o → (length rows ≤ 127) × AllNodes rows
    go true o d e = absurd (true≢false (cc (sym said ∙ is_answer check does rows true o d e)))
    go false true d e = absurd (true≢false (cc (sym said ∙ is_answer check does rows false true d e)))
    go false false d e = (ltb-false _ _ d, inside_all rows e)
