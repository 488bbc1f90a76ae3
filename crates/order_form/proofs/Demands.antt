-- The answer does what is asked: the refusals by the first row outside, the rest by what the search claims (Claims).
-- Assumes nothing.
use Prim.Native.Nat.{ℕ, ◌≤◌, ◌<◌}
use mathlib.Core.Path.{◌≡◌, refl, sym, ◌∙◌, ap}
use mathlib.Core.Bool.{Bool, true, false, not, true≢false}
use mathlib.Core.List.{List, []}
use native.Mathlib.Omega.{arith}
use borrow.Author.Tests.{lt-ltb, le-ltb, ltb-true, ltb-false}
use lib.Dec.{ltb}
use lib.ListN.{length, take}
use lib.Seq.{get_or-take, length-take-le}
use Rattle.std.proofs.lemmas.Bool.{not-false}
use Rattle.head.proofs.Nodes.{node_within, node_may}
use Rattle.order_form.specs.declared.row.Row.{Row}
use Rattle.order_form.specs.declared.row.Column.TheVariants.{Number}
use Rattle.order_form.specs.declared.answer.Answer.{Answer}
use Rattle.order_form.specs.declared.answer.Answer.TheVariants.{AllDiffer, Repeats, Refused}
use Rattle.order_form.specs.declared.answer.Refusal.TheVariants.{Outside, TooMany}
use Rattle.order_form.specs.Rows.{is_outside, first_of}
use Rattle.order_form.specs.Check.{most, repeat_from, answer_of}
use Rattle.order_form.specs.Held.{no_row}
use Rattle.order_form.specs.Demand.{at, NoRepeat, IsNode, AllNodes, Claims, Refuses, Demanded}
use Rattle.order_form.proofs.Places.{first_holds, first_before}
use Rattle.order_form.proofs.Claims.{claims}

-- ---- the rows' numbers, by the first row outside
pub inside_before : (rows : List Row) (i : ℕ) → i < first_of is_outside rows → IsNode (at Number rows i)
inside_before rows i h = node_within _ (not-false _ (first_before is_outside rows i h))

pub outside_at : (rows : List Row) → first_of is_outside rows < length rows → IsNode (at Number rows (first_of is_outside rows)) → ⊥
outside_at rows h n =
    true≢false (sym (first_holds is_outside rows h) ∙ ap not (node_may _ n.0 n.1))

all_inside : (rows : List Row) → AllNodes rows → length rows ≤ first_of is_outside rows
all_inside rows all = go (ltb (first_of is_outside rows) (length rows)) refl
  where
    go : (b : Bool) → ltb (first_of is_outside rows) (length rows) ≡ b → length rows ≤ first_of is_outside rows
    go true e = let h = ltb-true _ _ e in absurd (outside_at rows h (all (first_of is_outside rows) h))
    go false e = ltb-false _ _ e

pub inside_all : (rows : List Row) → ltb (first_of is_outside rows) (length rows) ≡ false → AllNodes rows
inside_all rows e i h = inside_before rows i (omega (arith, h, ltb-false (first_of is_outside rows) (length rows) e))

-- ---- the demands
eight : (rows : List Row) → 127 < length rows → Refuses 8 (answer_of rows)
unfolding answer_of
eight rows h = (TooMany, rw (lt-ltb most (length rows) h), refl)

seven : (rows : List Row) (i : ℕ) → length rows ≤ 127 → i < length rows → (IsNode (at Number rows i) → ⊥)
    → (j : ℕ) × (j ≤ i) × AllNodes (take j rows) × (IsNode (at Number rows j) → ⊥) × (answer_of rows ≡ Refused (Outside j)) × Refuses 7 (answer_of rows)
unfolding answer_of
seven rows i few inside out = (first, le, before, outside_at rows less, is, (Outside first, is, refl))
  where
    first : ℕ
    first = first_of is_outside rows

    le : first ≤ i
    le = go (ltb i first) refl
      where
        go : (b : Bool) → ltb i first ≡ b → first ≤ i
        go true e = absurd (out (inside_before rows i (ltb-true _ _ e)))
        go false e = ltb-false _ _ e

    less : first < length rows
    less = omega (arith, le)

    before : AllNodes (take first rows)
    before k h =
        let l : k < first = omega (arith, length-take-le first rows (omega (arith, less)), h) in
        rw (get_or-take first rows k no_row l) (inside_before rows k l)

    is : answer_of rows ≡ Refused (Outside first)
    is = rw (le-ltb most (length rows) few, lt-ltb first (length rows) less)

searched : (rows : List Row) → length rows ≤ 127 → AllNodes rows → answer_of rows ≡ repeat_from [] rows
unfolding answer_of
searched rows few all = rw (le-ltb most (length rows) few, le-ltb _ (length rows) (all_inside rows all))

answered : (rows : List Row) → length rows ≤ 127 → AllNodes rows → Claims rows (answer_of rows)
answered rows few all = rw (searched rows few all) (claims rows [] (λ c i j l h. absurd (omega arith)))

pub unrepeated : (rows : List Row) (a : Answer) → NoRepeat rows → Claims rows a → a ≡ AllDiffer
unrepeated rows AllDiffer n c = refl
unrepeated rows (Repeats d k j) n c = absurd (n d j k c.1.earlier c.0.inside c.1.same)
unrepeated rows (Refused why) n c = absurd c

accepted : (rows : List Row) → answer_of rows ≡ AllDiffer → (length rows ≤ 127) × AllNodes rows × NoRepeat rows
unfolding answer_of
accepted rows e = go (ltb most (length rows)) (ltb (first_of is_outside rows) (length rows)) refl refl
  where
    go : (m o : Bool) → ltb most (length rows) ≡ m → ltb (first_of is_outside rows) (length rows) ≡ o → (length rows ≤ 127) × AllNodes rows × NoRepeat rows
    go true o p q = absurd (true≢false (cc (rw p at e)))
    go false true p q = absurd (true≢false (cc (rw (p, q) at e)))
    go false false p q =
        let few : length rows ≤ 127 = ltb-false _ _ p in
        let all : AllNodes rows = inside_all rows q in
        (few, all, rw e at (answered rows few all))

-- ---- the rows that an answer names are among the form's, which are no more than 127
abbrev pub Inside : List Row → Answer → Type 0
Inside rows AllDiffer = length rows ≤ 127
Inside rows (Repeats c k j) = (length rows ≤ 127) × (k < length rows) × (j < length rows)
Inside rows (Refused (Outside k)) = (length rows ≤ 127) × (k < length rows)
Inside rows (Refused TooMany) = Unit {0}

inside_claim : (rows : List Row) (a : Answer) → length rows ≤ 127 → Claims rows a → Inside rows a
inside_claim rows AllDiffer few c = few
inside_claim rows (Repeats d k j) few c = (few, c.0.inside, omega (arith, c.0.inside, c.1.earlier))
inside_claim rows (Refused why) few c = absurd c

pub inside : (rows : List Row) → Inside rows (answer_of rows)
unfolding answer_of
inside rows = go (ltb most (length rows)) (ltb (first_of is_outside rows) (length rows)) refl refl
  where
    go : (m o : Bool) → ltb most (length rows) ≡ m → ltb (first_of is_outside rows) (length rows) ≡ o → Inside rows (answer_of rows)
    go true o p q = rw p tt
    go false true p q = rw (p, q) (ltb-false most (length rows) p, ltb-true (first_of is_outside rows) (length rows) q)
    go false false p q =
        let few : length rows ≤ 127 = ltb-false most (length rows) p in
        inside_claim rows (answer_of rows) few (answered rows few (inside_all rows q))

pub demanded : Demanded answer_of
demanded =
    record {
      eight = eight;
      seven = seven;
      answered = answered;
      accepts = λ rows few all n. unrepeated rows (answer_of rows) n (answered rows few all);
      accepted = accepted;
    }
