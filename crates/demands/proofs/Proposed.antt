-- The number that is proposed is one that no row has: so a further row with it repeats no number, nor does the row that is given it in place of its own.
-- That there is room for a further row, or a free number at all, is counted: the rows' numbers are as many as the rows where all differ, and fewer
-- where two do not.
-- Assumes nothing.
use Rattle.std.specs.Prelude.{Some, None, Option}
use Prim.Native.Nat.{ℕ, suc, ◌≤◌, ◌<◌}
use mathlib.Core.Path.{◌≡◌, refl, sym, ap, ◌∙◌}
use mathlib.Core.Bool.{Bool, true, false, true≢false}
use mathlib.Core.Logic.{◌≢◌, ◌↔◌}
use mathlib.Core.List.{List, [], ◌∷◌, map}
use native.Mathlib.Omega.{arith}
use borrow.Author.Tests.{ltb-true, ltb-false, eqb-true, eqb-false}
use lib.Dec.{ltb, eqb}
use lib.ListN.{length, get_or, length-map, length-set, get_or-map}
use lib.Seq.{get_or-set_same, get_or-set_other}
use Rattle.rows.specs.Among.{among}
use Rattle.rows.proofs.Listed.{among_at}
use Rattle.order_form.specs.declared.row.Row.{Row}
use Rattle.order_form.specs.declared.row.Column.{Column}
use Rattle.order_form.specs.declared.row.Column.TheVariants.{Serial, Number}
use Rattle.order_form.specs.declared.answer.Answer.{Answer}
use Rattle.order_form.specs.declared.answer.Answer.TheVariants.{AllDiffer, Repeats, Refused}
use Rattle.order_form.specs.Check.{answer_of}
use Rattle.order_form.specs.Held.{no_row}
use Rattle.order_form.specs.Demand as form
use Rattle.order_form.proofs.Kept.{length_snoc}
use Rattle.order_form.proofs.Claims.{before_at, itself, more}
use Rattle.order_form.proofs.Demands as form-proofs
use Rattle.order_form.proofs.Only.{apart_before, same_earlier, searched}
use Rattle.free_number.specs.Lowest.{span, how_many, count_of}
use Rattle.free_number.specs.Rows.{start, adding, rows_after}
use Rattle.free_number.specs.Demand as keeper
use Rattle.free_number.proofs.Lowest.{count_ext}
use Rattle.free_number.proofs.Among.{count_most, count_twice, count_all, once}
use Rattle.free_number.proofs.Rows.{after_list, count_rows}
use Rattle.free_number.proofs.Demands as keeper-proofs
use Rattle.demands.specs.Proposed.{map_of, proposed, further, IsNew, renumbered, LaterThan, Proposed, ProposedRests}

-- ---- the numbers of a form
abbrev numbers : List Row → List ℕ
numbers rows = map (form.of Number) rows

number_at : (rows : List Row) (i : ℕ) → get_or (numbers rows) i 0 ≡ form.at Number rows i
number_at rows i = get_or-map (form.of Number) rows i no_row

long : (rows : List Row) → length (numbers rows) ≡ length rows
long rows = length-map rows (form.of Number)

-- where no two are the same, and all are 1..127, there are as many as rows
count_apart : (rows : List Row) → form.AllNodes rows → form.NoRepeat rows → count_of (among (numbers rows)) ≡ length rows
count_apart rows all apart =
    count_all (numbers rows) (λ i h. rw (number_at rows i) (all i (rw (long rows) at h)))
    (λ i j l h e. apart Number i j l (rw (long rows) at h) (sym (number_at rows i) ∙ e ∙ number_at rows j))
    ∙ long rows

every : count_of (λ i. true) ≡ 127
unfolding count_of how_many span
every = refl

module _ (k : keeper.Keeper) (kept : keeper.Demanded k) (rows : List Row) where
  reads : keeper.Reads k (adding start (numbers rows))
  reads = kept.any_calls (adding start (numbers rows))

  -- the keeper's count is that of the numbers
  counted : k.count (map_of k rows) ≡ count_of (among (numbers rows))
  counted =
      reads.heads ∙ sym (count_rows (adding start (numbers rows)))
      ∙ count_ext (among (rows_after (adding start (numbers rows)))) (among (numbers rows)) (after_list (numbers rows))

  -- a proposed number is 1..127, and no row's
  is_free : (n : ℕ) → proposed k rows ≡ Some n → keeper.IsNode n × (among (numbers rows) n ≡ false)
  is_free n e = let h = lowest in (h.0, sym (after_list (numbers rows) n h.0) ∙ h.1)
    where
      lowest : keeper.IsLowest (among (rows_after (adding start (numbers rows)))) (Some n)
      lowest = rw e at reads.lowest

  no_row_lem : (n : ℕ) → proposed k rows ≡ Some n → (i : ℕ) → i < length rows → form.at Number rows i ≢ n
  no_row_lem n e i h z =
      true≢false (sym (among_at (numbers rows) i (rw (long rows) h)) ∙ ap (among (numbers rows)) (number_at rows i ∙ z) ∙ (is_free n e).1)

  -- so the numbers are fewer than 127
  room : (n : ℕ) → proposed k rows ≡ Some n → suc (count_of (among (numbers rows))) ≤ 127
  room n e = rw (once n (numbers rows) (is_free n e).0 (is_free n e).1) at (count_most (among (n ∷ numbers rows)))

  -- and all are used where none is proposed
  all_used : proposed k rows ≡ None → count_of (among (numbers rows)) ≡ 127
  all_used e =
      count_ext (among (numbers rows)) (λ i. true) (λ i h. sym (after_list (numbers rows) i h) ∙ reads.full.0 e i h) ∙ every

-- ---- a further row with the number that is proposed
module _ (k : keeper.Keeper) (check : List Row → Answer) (kept : keeper.Demanded k) (does : form.Demanded check)
    (rows : List Row) (accepted : check rows ≡ AllDiffer) where
  all : form.AllNodes rows
  all = (does.accepted rows accepted).1

  apart : form.NoRepeat rows
  apart = (does.accepted rows accepted).2

  heads : k.count (map_of k rows) ≡ length rows
  heads = counted k kept rows ∙ count_apart rows all apart

  module _ (n serial : ℕ) (e : proposed k rows ≡ Some n) where
    abbrev row : Row
    row = record { serial = serial; node = n }

    abbrev with_row : List Row
    with_row = further rows serial n

    few : length with_row ≤ 127
    few = omega (arith, length_snoc rows row, room k kept rows n e, count_apart rows all apart)

    nodes : form.AllNodes with_row
    nodes i h = go (ltb i (length rows)) refl
      where
        go : (b : Bool) → ltb i (length rows) ≡ b → form.IsNode (form.at Number with_row i)
        go true z =
            let l = ltb-true i (length rows) z in
            rw (before_at Number rows row [] i l) (all i l)
        go false z =
            let at_end : i ≡ length rows = omega (arith, ltb-false i (length rows) z, length_snoc rows row) in
            rw (at_end, itself Number rows row []) (is_free k kept rows n e).0

    -- it repeats no number
    no_number : (j : ℕ) → form.Same Number with_row (length rows) j → ⊥
    no_number j s =
        no_row_lem k kept rows n e j s.earlier
        (sym (before_at Number rows row [] j s.earlier) ∙ s.same ∙ itself Number rows row [])

    fresh : IsNew serial rows → (c : Column) (j : ℕ) → form.Same c with_row (length rows) j → ⊥
    fresh new Serial j s =
        new j s.earlier
        (sym (before_at Serial rows row [] j s.earlier) ∙ s.same ∙ itself Serial rows row [])
    fresh new Number j s = no_number j s

    accepted_if : IsNew serial rows → check with_row ≡ AllDiffer
    accepted_if new = does.accepts with_row few nodes (more rows row apart (fresh new))

    -- with the serial of row i it repeats that row
    repeats_row : (i : ℕ) → i < length rows → form.at Serial rows i ≡ serial → form.Same Serial with_row (length rows) i
    repeats_row i h z = record { earlier = h; same = before_at Serial rows row [] i h ∙ z ∙ sym (itself Serial rows row []) }

    not_all : (i : ℕ) → i < length rows → form.at Serial rows i ≡ serial → form.NoRepeat with_row → ⊥
    not_all i h z none = none Serial i (length rows) h (omega (arith, length_snoc rows row)) (repeats_row i h z).same

    new_if : check with_row ≡ AllDiffer → IsNew serial rows
    new_if said i h z = not_all i h z (does.accepted with_row said).2

    -- the rows before it do not repeat, so it is the one that does
    is_last : (c : Column) (i j : ℕ) → i < length with_row → form.Same c with_row i j → i ≡ length rows
    is_last c i j h s = go (ltb i (length rows)) refl
      where
        go : (b : Bool) → ltb i (length rows) ≡ b → i ≡ length rows
        go true z =
            let l = ltb-true i (length rows) z in
            absurd (apart c j i s.earlier l
            (sym (before_at c rows row [] j (omega (arith, s.earlier))) ∙ s.same
            ∙ before_at c rows row [] i l))
        go false z = omega (arith, ltb-false i (length rows) z, length_snoc rows row)

    only_serial : (i : ℕ) → i < length rows → form.at Serial rows i ≡ serial → check with_row ≡ Repeats Serial (length rows) i
    only_serial i h z = go (check with_row) (does.answered with_row few nodes)
      where
        go : (a : Answer) → form.Claims with_row a → a ≡ Repeats Serial (length rows) i
        go AllDiffer c = absurd (not_all i h z c)
        go (Repeats Serial x y) c =
            let q = is_last Serial x y c.0.inside c.1 in
            rw (q, same_earlier with_row (length rows) (rw q at c.0) Serial y i (rw q at c.1) (repeats_row i h z))
        go (Repeats Number x y) c =
            let q = is_last Number x y c.0.inside c.1 in
            absurd (no_number y (rw q at c.1))
        go (Refused why) c = absurd c

  full : proposed k rows ≡ None ↔ length rows ≡ 127
  full = (λ e. sym (count_apart rows all apart) ∙ all_used k kept rows e, λ e. go (proposed k rows) refl e)
    where
      go : (f : Option ℕ) → proposed k rows ≡ f → length rows ≡ 127 → proposed k rows ≡ None
      go (Some n) z e = absurd (omega (arith, room k kept rows n z, count_apart rows all apart, e))
      go None z e = z

-- ---- the number that is proposed in the place of one that a row repeats
module _ (k : keeper.Keeper) (check : List Row → Answer) (kept : keeper.Demanded k) (does : form.Demanded check)
    (rows : List Row) (i j : ℕ) (said : check rows ≡ Repeats Number i j) where
  few_rows_lem : length rows ≤ 127
  few_rows_lem = (searched check does rows Number i j said).0

  all_nodes : form.AllNodes rows
  all_nodes = (searched check does rows Number i j said).1

  claim : form.Claims rows (Repeats Number i j)
  claim = rw said at (does.answered rows few_rows_lem all_nodes)

  -- two rows share a number, so that the numbers are fewer than the rows
  has_one : (n : ℕ) × (proposed k rows ≡ Some n)
  has_one = go (proposed k rows) refl
    where
      fewer : count_of (among (numbers rows)) < 127
      fewer =
          let same : get_or (numbers rows) j 0 ≡ get_or (numbers rows) i 0 = number_at rows j ∙ claim.1.same ∙ sym (number_at rows i) in
          omega (arith, few_rows_lem, long rows, count_twice (numbers rows) j i claim.1.earlier (rw (long rows) claim.0.inside) same)

      go : (f : Option ℕ) → proposed k rows ≡ f → (n : ℕ) × (proposed k rows ≡ Some n)
      go (Some n) e = (n, e)
      go None e = absurd (omega (arith, fewer, all_used k kept rows e))

  module _ (n : ℕ) (e : proposed k rows ≡ Some n) where
    abbrev mended : List Row
    mended = renumbered rows i n

    others : (c : Column) (x : ℕ) → x ≢ i → form.at c mended x ≡ form.at c rows x
    others c x ne = ap (form.of c) (get_or-set_other rows i x _ no_row ne)

    here : (c : Column) → form.at c mended i ≡ form.of c (record { serial = form.at Serial rows i; node = n })
    here c = ap (form.of c) (get_or-set_same rows i _ no_row claim.0.inside)

    nodes_still : form.AllNodes mended
    nodes_still x h = go (eqb x i) refl
      where
        go : (b : Bool) → eqb x i ≡ b → form.IsNode (form.at Number mended x)
        go true z = rw (eqb-true x i z, here Number) (is_free k kept rows n e).0
        go false z = rw (others Number x (eqb-false x i z)) (all_nodes x (rw (length-set rows i (record { serial = form.at Serial rows i; node = n })) at h))

    -- the row that was named repeats none any more
    mended_row : (c : Column) (y : ℕ) → form.Same c mended i y → ⊥
    mended_row Serial y s =
        claim.2 y
        (record { earlier = s.earlier; same = sym (others Serial y (λ z. omega (arith, s.earlier))) ∙ s.same ∙ here Serial })
    mended_row Number y s =
        no_row_lem k kept rows n e y (omega (arith, s.earlier, claim.0.inside)) (sym (others Number y (λ z. omega (arith, s.earlier))) ∙ s.same ∙ here Number)

    later : (c : Column) (x y : ℕ) → form.Same c mended x y → i < x
    later c x y s = go (ltb i x) refl (ltb x i) refl
      where
        go : (b : Bool) → ltb i x ≡ b → (d : Bool) → ltb x i ≡ d → i < x
        go true z d w = ltb-true i x z
        go false z true w =
            let l = ltb-true x i w in
            absurd (apart_before rows i claim.0 c y x s.earlier l
            (sym (others c y (λ q. omega (arith, s.earlier, l))) ∙ s.same ∙ others c x (λ q. omega (arith, l))))
        go false z false w =
            let q : x ≡ i = omega (arith, ltb-false i x z, ltb-false x i w) in
            absurd (mended_row c y (rw q at s))

    mends : LaterThan i (check mended)
    mends = go (check mended) (does.answered mended (rw (length-set rows i (record { serial = form.at Serial rows i; node = n })) few_rows_lem) nodes_still)
      where
        go : (a : Answer) → form.Claims mended a → LaterThan i a
        go AllDiffer c = tt
        go (Repeats c x y) h = later c x y h.1
        go (Refused why) c = absurd c

pub proposed_rests : ProposedRests
proposed_rests k check kept does =
    record {
      one_more = λ rows n serial said e. (new_if k check kept does rows said n serial e, accepted_if k check kept does rows said n serial e);
      only_serial = λ rows n i said e h. only_serial k check kept does rows said n (form.at Serial rows i) e i h refl;
      heads = heads k check kept does;
      full = full k check kept does;
      has_one = has_one k check kept does;
      mends = λ rows i j n said e. mends k check kept does rows i j said n e;
      grows_on = λ m safe rows n serial few said e new.
          safe (further rows serial n) (accepted_if k check kept does rows said n serial e new)
          (omega (arith, few, length_snoc rows (record { serial = serial; node = n })));
    }

-- the map and the check that there are
pub worth : Proposed keeper.product answer_of
worth = proposed_rests keeper.product answer_of keeper-proofs.demanded form-proofs.demanded
