-- What the search answers is so: the rows before the one that it has come to do not repeat, and either that row repeats one of
-- them, which is then named, or they do not repeat with it either. By induction over the rows.
-- Assumes nothing.
use Prim.Native.Nat.{ℕ, ◌≤◌, ◌<◌}
use mathlib.Core.Path.{◌≡◌, refl, sym, ◌∙◌, ap}
use mathlib.Core.Bool.{Bool, true, false}
use mathlib.Core.List.{List, [], ◌∷◌, ◌++◌, append-nil}
use native.Mathlib.Omega.{arith}
use borrow.Author.Tests.{ltb-true, ltb-false, eqb-true, eqb-false}
use lib.Dec.{ltb}
use lib.ListN.{length, length-append, get_or-append}
use lib.Seq.{take-append_seam, get_or-append_seam, append_snoc}
use Rattle.order_form.specs.declared.row.Row.{Row}
use Rattle.order_form.specs.declared.row.Column.{Column}
use Rattle.order_form.specs.declared.row.Column.TheVariants.{Serial, Number}
use Rattle.order_form.specs.Rows.{value_of, has, first_of}
use Rattle.order_form.specs.Check.{repeat_from}
use Rattle.order_form.specs.Held.{no_row}
use Rattle.order_form.specs.Demand.{of, at, NoRepeat, Same, First, Claims}
use Rattle.order_form.proofs.Places.{first_holds, first_before}

-- the search looks at the columns that are meant
meant : (c : Column) (r : Row) → of c r ≡ value_of c r
meant Serial r = refl
meant Number r = refl

-- ---- a row after others, and what may follow it
module _ (c : Column) (before : List Row) (r : Row) (rest : List Row) where
  abbrev place : ℕ
  place = first_of (has c (value_of c r)) before

  pub before_at : (i : ℕ) → i < length before → at c (before ++ (r ∷ rest)) i ≡ at c before i
  before_at i h = ap (of c) (get_or-append before (r ∷ rest) no_row i h)

  pub itself : at c (before ++ (r ∷ rest)) (length before) ≡ value_of c r
  itself = ap (of c) (get_or-append_seam before r rest no_row) ∙ meant c r

  repeats : place < length before → Same c (before ++ (r ∷ rest)) (length before) place
  repeats h = record {
    earlier = h;
    same = before_at place h ∙ meant c _ ∙ eqb-true _ _ (first_holds (has c (value_of c r)) before h) ∙ sym itself;
  }

  new : length before ≤ place → (i : ℕ) → Same c (before ++ (r ∷ rest)) (length before) i → ⊥
  new h i s =
      eqb-false _ _ (first_before (has c (value_of c r)) before i (omega (arith, s.earlier)))
      (sym (meant c _) ∙ sym (before_at i s.earlier) ∙ s.same ∙ itself)

-- none of them repeats another, and the row after them repeats none
pub more : (before : List Row) (r : Row) → NoRepeat before → ((c : Column) (i : ℕ) → Same c (before ++ (r ∷ [])) (length before) i → ⊥)
    → NoRepeat (before ++ (r ∷ []))
more before r apart fresh c i j l h e = go (ltb j (length before)) refl
  where
    go : (z : Bool) → ltb j (length before) ≡ z → ⊥
    go true t =
        let k = ltb-true j (length before) t in
        apart c i j l k (sym (before_at c before r [] i (omega arith)) ∙ e ∙ before_at c before r [] j k)
    go false t =
        let q : j ≡ length before = omega (arith, ltb-false j (length before) t, length-append before (r ∷ [])) in
        fresh c i (record { earlier = omega arith; same = e ∙ ap (at c (before ++ (r ∷ []))) q })

-- ---- the search
module _ (before : List Row) (r : Row) (rest : List Row) (apart : NoRepeat before) where
  abbrev all : List Row
  all = before ++ (r ∷ rest)

  here : First all (length before)
  here = record { inside = omega (arith, length-append before (r ∷ rest)); before = rw take-append_seam apart }

  claims_one : (NoRepeat (before ++ (r ∷ [])) → Claims ((before ++ (r ∷ [])) ++ rest) (repeat_from (before ++ (r ∷ [])) rest)) → Claims all (repeat_from before (r ∷ rest))
  unfolding repeat_from
  claims_one ih = go (ltb (place Serial before r rest) (length before)) (ltb (place Number before r rest) (length before)) refl refl
    where
      fresh : length before ≤ place Serial before r rest → length before ≤ place Number before r rest
          → (c : Column) (i : ℕ) → Same c (before ++ (r ∷ [])) (length before) i → ⊥
      fresh s n Serial = new Serial before r [] s
      fresh s n Number = new Number before r [] n

      go : (s n : Bool) → ltb (place Serial before r rest) (length before) ≡ s → ltb (place Number before r rest) (length before) ≡ n
          → Claims all (repeat_from before (r ∷ rest))
      go true n e f = rw e (here, repeats Serial before r rest (ltb-true _ _ e), tt)
      go false true e f = rw (e, f) (here, repeats Number before r rest (ltb-true _ _ f), new Serial before r rest (ltb-false _ _ e))
      go false false e f = rw (e, f) (rw append_snoc at (ih (more before r apart (fresh (ltb-false _ _ e) (ltb-false _ _ f)))))

pub claims : (rest before : List Row) → NoRepeat before → Claims (before ++ rest) (repeat_from before rest)
unfolding repeat_from
claims [] before apart = rw append-nil apart
claims (r ∷ rest) before apart = claims_one before r rest apart (claims rest (before ++ (r ∷ [])))
