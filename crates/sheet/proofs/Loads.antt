-- What loading does to the stored values: each row's value stands at its place, no other place changes, and the values still lie in their rows.
-- Assumes nothing.
use Rattle.std.specs.Prelude.{Some, None, Option}
use Prim.Native.Nat.{ℕ, zero, suc, ◌≤◌, ◌<◌}
use mathlib.Core.Path.{◌≡◌, refl, sym, ap, ◌∙◌}
use mathlib.Core.Bool.{true, true≢false}
use mathlib.Core.Logic.{⊎_elim}
use mathlib.Core.List.{List}
use native.Mathlib.Nat.{not-suc-le-zero}
use native.Mathlib.Omega.{arith}
use lib.ListN.{length, get_or, length-set}
use lib.Seq.{get_or-set_same, get_or-set_other}
use Rattle.rows.specs.declared.range.Range.{Range}
use Rattle.rows.specs.declared.range.Range.TheVariants.{Right, Low, High, Between}
use Rattle.rows.specs.Table.{place_of}
use Rattle.rows.specs.Ranges.{range_of, is_right, all_right_of}
use Rattle.rows.proofs.Laws.{place_below, place_address, range_fits, all_right_set}
use Rattle.sheet.specs.Format.{count_of, address_of}
use Rattle.sheet.specs.Loading.{meant_at, fitting_of, all_fitting_of, check_of, store_at, store_of, stored_rows, load_of}
use Rattle.sheet.proofs.Each.{last, each_at}

-- ---- one store
store_length : (p : Option ℕ) (vs : List ℕ) (w : ℕ) → length (store_at p vs w) ≡ length vs
store_length (Some i) vs w = length-set vs i w
store_length None vs w = refl

store_same : (p : Option ℕ) (vs : List ℕ) (w : ℕ) {i : ℕ} → p ≡ Some i → i < length vs → get_or (store_at p vs w) i 0 ≡ w
store_same p vs w {i} e h = rw e (get_or-set_same vs i w 0 h)

store_other : (p : Option ℕ) (vs : List ℕ) (w i : ℕ) → (p ≡ Some i → ⊥) → get_or (store_at p vs w) i 0 ≡ get_or vs i 0
store_other (Some k) vs w i h = get_or-set_other vs k i w 0 (λ e. h (ap Some (sym e)))
store_other None vs w i h = refl

-- two addresses with the same place are the same
same_place : (a b : ℕ) {i : ℕ} → place_of a ≡ Some i → place_of b ≡ Some i → a ≡ b
same_place a b p q = sym (place_address a p) ∙ place_address b q

module _ (values s : List ℕ) where
  pub stored_length : (n : ℕ) → length (stored_rows values s n) ≡ length values
  unfolding store_of
  stored_length zero = refl
  stored_length (suc n) = store_length (place_of (address_of s n)) (stored_rows values s n) (meant_at s n) ∙ stored_length n

  -- a place whose address is not on the sheet
  pub stored_other : (n a i : ℕ) → place_of a ≡ Some i → ((j : ℕ) → j < n → address_of s j ≡ a → ⊥) → get_or (stored_rows values s n) i 0 ≡ get_or values i 0
  unfolding store_of
  stored_other zero a i p h = refl
  stored_other (suc n) a i p h =
      store_other (place_of (address_of s n)) (stored_rows values s n) (meant_at s n) i (λ q. h n (omega arith) (same_place (address_of s n) a q p))
      ∙ stored_other n a i p (λ j l. h j (omega arith))

  module _ (m : 39 ≤ length values) (rising : (i j : ℕ) → i < j → j < count_of s → address_of s i < address_of s j) where
    -- a row of the sheet
    pub stored_row : (n : ℕ) → n ≤ count_of s → (j i : ℕ) → j < n → place_of (address_of s j) ≡ Some i → get_or (stored_rows values s n) i 0 ≡ meant_at s j
    unfolding store_of
    stored_row zero l j i h p = absurd (not-suc-le-zero h)
    stored_row (suc n) l j i h p =
        ⊎_elim
        (λ e. store_same (place_of (address_of s n)) (stored_rows values s n) (meant_at s n) (rw e at p) (let below = place_below (address_of s j) p in omega (arith, stored_length n)) ∙ rw e)
        (λ k. let up = rising j n k (omega arith) in
        store_other (place_of (address_of s n)) (stored_rows values s n) (meant_at s n) i (λ q. let e = same_place (address_of s n) (address_of s j) q p in omega arith)
        ∙ stored_row n (omega arith) j i k p)
        (last j n h)

-- ---- what is answered is what the check finds
pub loaded_answer : (values s : List ℕ) → (load_of values s).answer ≡ check_of s
unfolding load_of
loaded_answer values s = refl

-- ---- values that lie in their rows still do
right_only : (r : Range) → is_right r ≡ true → r ≡ Right
right_only Right h = refl
right_only Low h = absurd (true≢false (sym h))
right_only High h = absurd (true≢false (sym h))
right_only Between h = absurd (true≢false (sym h))

store_right : (a w : ℕ) (vs : List ℕ) → is_right (range_of a w) ≡ true → all_right_of vs ≡ true → (p : Option ℕ) → place_of a ≡ p → all_right_of (store_at p vs w) ≡ true
store_right a w vs r h (Some i) e = all_right_set vs i w h (range_fits a w e (right_only (range_of a w) r))
store_right a w vs r h None e = h

rows_right : (values s : List ℕ) → all_right_of values ≡ true → (n : ℕ) → ((i : ℕ) → i < n → fitting_of s i ≡ true) → all_right_of (stored_rows values s n) ≡ true
unfolding store_of fitting_of
rows_right values s h zero f = h
rows_right values s h (suc n) f =
    store_right (address_of s n) (meant_at s n) (stored_rows values s n) (f n (omega arith)) (rows_right values s h n (λ i p. f i (omega arith))) (place_of (address_of s n)) refl

pub stored_right : (values s : List ℕ) → all_right_of values ≡ true → all_fitting_of s ≡ true → all_right_of (stored_rows values s (count_of s)) ≡ true
stored_right values s h f = rows_right values s h (count_of s) (each_at (fitting_of s) (count_of s) f)
