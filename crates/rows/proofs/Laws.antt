-- What holds of the rows for any caller: places and addresses, values that lie in their rows, the limits of the node address and of
-- the two signed parameters. What speaks of the 39 rows alone is one computed test over them.
-- Assumes nothing.
use Rattle.std.specs.Prelude.{Some}
use mathlib.Core.Path.{◌≡◌, refl, sym, ◌∙◌}
use mathlib.Core.Bool.{Bool, true, false, cond, true≢false}
use mathlib.Core.List.{List, map}
use Prim.Native.Nat.{ℕ, zero, suc, ◌-◌, ◌<◌, ◌≤◌}
use native.Mathlib.Omega.{arith}
use lib.Dec.{ltb, eqb}
use lib.IntN.{ℤ, pos, negsuc, nat_abs}
use lib.ListN.{get_or, set}
use lib.Signed.{lt_z}
use borrow.Author.Tests.{ltb-true, ltb-false, le-ltb, lt-ltb, ne_eqb}
use Rattle.signed.specs.Number.{number_of}
use Rattle.rows.specs.declared.range.Range.TheVariants.{Right, Low, High}
use Rattle.rows.specs.Table.{address, delivery, rows, blank, row_of, place_of}
use Rattle.rows.specs.Ranges.{is_signed_of, reading_of, unlisted_of, between_of, range_in, other_row_of, range_of, is_right, fits_in, all_right_of}
use Rattle.rows.proofs.Span.{in_span, is_true}
use Rattle.rows.proofs.Places.{found, same, same_only}
use Rattle.rows.proofs.Fits.{each_in, set_in}

-- ---- places and addresses
pub place_below : (a : ℕ) {i : ℕ} → place_of a ≡ Some i → i < 39
unfolding place_of rows
place_below a e = (found blank rows 0 a e).1

pub place_address : (a : ℕ) {i : ℕ} → place_of a ≡ Some i → address (row_of i) ≡ a
unfolding place_of row_of
place_address a {i} e = let n : i - 0 ≡ i = omega arith in rw n at (found blank rows 0 a e).2

pub row_place : (i : ℕ) → i < 39 → place_of (address (row_of i)) ≡ Some i
unfolding place_of row_of rows
row_place i h = same_only _ (Some i) (in_span (λ k. same (place_of (address (row_of k))) (Some k)) 0 39 tt i (omega arith) h)

pub row_below : (i : ℕ) → i < 39 → address (row_of i) < 256
unfolding row_of rows
row_below i h = ltb-true _ 256 (is_true _ (in_span (λ k. ltb (address (row_of k)) 256) 0 39 tt i (omega arith) h))

-- ---- values that lie in their rows
pub range_fits : (a w : ℕ) {i : ℕ} → place_of a ≡ Some i → range_of a w ≡ Right → fits_in (row_of i) w ≡ true
unfolding range_of fits_in
range_fits a w p h = rw (rw p at h)

pub all_right_at : (ws : List ℕ) (i : ℕ) → all_right_of ws ≡ true → i < 39 → fits_in (row_of i) (get_or ws i 0) ≡ true
unfolding all_right_of row_of rows
all_right_at ws i h p = each_in blank rows ws i h p

pub all_right_set : (ws : List ℕ) (i w : ℕ) → all_right_of ws ≡ true → fits_in (row_of i) w ≡ true → all_right_of (set ws i w) ≡ true
unfolding all_right_of row_of
all_right_set ws i w h f = set_in blank rows ws i w h f

pub delivery_fits : (i : ℕ) → i < 39 → fits_in (row_of i) (delivery (row_of i)) ≡ true
unfolding row_of rows fits_in range_in between_of reading_of is_signed_of unlisted_of number_of
delivery_fits i h = is_true _ (in_span (λ k. fits_in (row_of k) (delivery (row_of k))) 0 39 tt i (omega arith) h)

pub delivery_right : all_right_of (map delivery rows) ≡ true
unfolding all_right_of rows fits_in range_in between_of reading_of is_signed_of unlisted_of number_of
delivery_right = refl

-- ---- limits: what is right is neither below low nor above high
limits : (lo hi v : ℤ) (skipped : Bool) → is_right (between_of lo hi v skipped) ≡ true → (lt_z v lo ≡ false) × (lt_z hi v ≡ false)
unfolding between_of
limits lo hi v skipped h = go (lt_z v lo) refl (lt_z hi v) refl
  where
    go : (s : Bool) → lt_z v lo ≡ s → (t : Bool) → lt_z hi v ≡ t → (lt_z v lo ≡ false) × (lt_z hi v ≡ false)
    go true e t g = absurd (true≢false (sym (rw e at h)))
    go false e true g = absurd (true≢false (sym (rw (e, g) at h)))
    go false e false g = (e, g)

pub node_limits : (w : ℕ) → fits_in (row_of 0) w ≡ true → (1 ≤ w) × (w ≤ 127)
unfolding row_of rows fits_in range_in reading_of is_signed_of unlisted_of
node_limits w h = let l = limits (pos 1) (pos 127) (pos w) false h in (ltb-false w 1 l.0, ltb-false 127 w l.1)

pub node_fits_lem : (w : ℕ) → 1 ≤ w → w ≤ 127 → fits_in (row_of 0) w ≡ true
unfolding row_of rows fits_in range_in between_of reading_of is_signed_of unlisted_of
node_fits_lem w l h = simp (le-ltb w 1 l, le-ltb 127 w h)

-- how a number that is offered by D2h lies to its limits, 1 and 31
pub offer_range_lem : (w : ℕ) → range_of 0xD2 w ≡ cond (ltb w 1) Low (cond (ltb 31 w) High Right)
unfolding range_of range_in place_of rows other_row_of between_of reading_of is_signed_of unlisted_of
offer_range_lem w = refl

pub offer_limits : (w : ℕ) → range_of 0xD2 w ≡ Right → (1 ≤ w) × (w ≤ 31)
offer_limits w h = go (ltb w 1) refl (ltb 31 w) refl (sym (offer_range_lem w) ∙ h)
  where
    go : (s : Bool) → ltb w 1 ≡ s → (t : Bool) → ltb 31 w ≡ t → cond s Low (cond t High Right) ≡ Right → (1 ≤ w) × (w ≤ 31)
    go true e t g n = let z : ◌≡◌ {A = ℕ} 0 1 = cc in absurd (omega arith)
    go false e true g n = let z : ◌≡◌ {A = ℕ} 0 1 = cc in absurd (omega arith)
    go false e false g n = (ltb-false w 1 e, ltb-false 31 w g)

-- a number between a low limit below 0 and a high one is no larger than the larger of them
size_limit : (n m : ℕ) (v : ℤ) → suc n ≤ m → (lt_z v (negsuc n) ≡ false) × (lt_z (pos m) v ≡ false) → nat_abs v ≤ m
size_limit n m (pos k) l h = ltb-false m k h.1
size_limit n m (negsuc k) l h = omega (arith, ltb-false n k h.0)

-- 35h's row holds 0 alone
pub retired_row : (w : ℕ) → fits_in (row_of 29) w ≡ eqb w 0
unfolding row_of rows fits_in range_in between_of reading_of is_signed_of unlisted_of
retired_row zero = refl
retired_row (suc w) = simp (le-ltb (suc w) 0 (omega arith), lt-ltb 0 (suc w) (omega arith), ne_eqb (suc w) 0 (λ e. omega arith))

pub offset_limits : (w : ℕ) → fits_in (row_of 18) w ≡ true → nat_abs (number_of w) ≤ 19999
unfolding row_of rows fits_in range_in reading_of is_signed_of unlisted_of
offset_limits w h = size_limit 19998 19999 (number_of w) (omega arith) (limits (negsuc 19998) (pos 19999) (number_of w) false h)

pub calibration_limits : (w : ℕ) → fits_in (row_of 19) w ≡ true → nat_abs (number_of w) ≤ 99999
unfolding row_of rows fits_in range_in reading_of is_signed_of unlisted_of
calibration_limits w h = size_limit 19998 99999 (number_of w) (omega arith) (limits (negsuc 19998) (pos 99999) (number_of w) false h)
