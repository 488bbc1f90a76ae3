-- What holds of a head for any caller: where its settings stand, what a well-formed head is, and how large its values can be.
-- Assumes nothing.
use Rattle.std.specs.Prelude.{Some}
use Prim.Native.Nat.{ℕ, ◌+◌, ◌*◌, ◌%◌, ◌^◌, ◌≤◌, ◌<◌}
use mathlib.Core.Path.{◌≡◌, refl, sym}
use mathlib.Core.Bool.{Bool, true, false, cond, not, ◌&&◌, ◌||◌, and-eq-true_iff}
use mathlib.Core.List.{List, [], ◌∷◌, ◌++◌, map}
use mathlib.Core.Logic.{◌≢◌, ⊎_elim}
use native.Mathlib.Numerals.{add-one}
use native.Mathlib.Omega.{arith}
use lib.Dec.{leb, ltb, eqb}
use lib.IntN.{ℤ, pos, negsuc, nat_abs}
use lib.ListN.{length, drop, set, length-set, length-append, length-drop}
use lib.Seq.{length-take-le, take_all, take-suc, take-set-le, get_or-set_same}
use borrow.Author.Tests.{leb-true, le-leb, lt-ltb, le-ltb, ltb-true, ltb-false, eq-eqb, eqb-true, eqb-false, not-true}
use Rattle.signed.proofs.Sizes.{less_or_not}
use Rattle.signed.proofs.Laws.{absolute_small, rounded_small}
use Rattle.rows.specs.Table.{rows, row_of, place_of}
use Rattle.rows.specs.Ranges.{fits_in, all_right_of}
use Rattle.rows.proofs.Laws.{offset_limits, calibration_limits}
use Rattle.state.specs.declared.parts.ErrorList.{ErrorList}
use Rattle.state.specs.declared.parts.Head.{Head}
use Rattle.state.specs.declared.parts.Stored.{Stored}
use Rattle.state.specs.declared.parts.Faults.{Faults}
use Rattle.state.specs.declared.parts.Measurement.{Measurement}
use Rattle.state.specs.declared.parts.Ear.{Ear}
use Rattle.state.specs.declared.status.Bearing.{Bearing}
use Rattle.state.specs.Bits.{bit, bit_set}
use Rattle.state.specs.Settings.{value_at, node_place, baud_place, timeout_place, response_place, calibration_key_place, divisor_place, interlock_place, direction_place, offset_place, calibration_place, window1_place, mode_place, window2_place, application_place, difference_place, incremental_place, acknowledgement_place}
use Rattle.state.specs.Mode.{display_of}
use Rattle.state.specs.Errors.{entries, entered, remembered_of}
use Rattle.state.specs.Position.{position_of, actual_of, shown_of, position_by, view_of}
use Rattle.state.specs.Status.{aim_bits_of, display_bits_of, rest_bits_of, aimed_of, pending_of, position_status, display_status, status_of, within_of}
use Rattle.state.specs.Wellformed.{in_reach_of, offer_fits, stored_fits, faults_fit, kept_fits, measurement_fits, ear_fits, wellformed_of}
use Rattle.state.proofs.Bits.{bit_most, bit_weighs, bit_five}

-- ---- each place is its address's place
pub places :
    map place_of
    (0x00 ∷ 0x01 ∷ 0x02 ∷ 0x03 ∷ 0x05 ∷ 0x0B ∷ 0x0E ∷ 0x1B ∷ 0x1E ∷ 0x1F ∷ 0x20 ∷ 0x28 ∷ 0x31 ∷ 0x33 ∷ 0x34 ∷ 0x35 ∷ 0x3E ∷ [])
    ≡ map Some
    (node_place ∷ baud_place ∷ timeout_place ∷ response_place ∷ calibration_key_place ∷ divisor_place ∷ interlock_place ∷ direction_place
    ∷ offset_place ∷ calibration_place ∷ window1_place ∷ mode_place ∷ window2_place ∷ application_place ∷ difference_place ∷ incremental_place ∷ acknowledgement_place ∷ [])
unfolding place_of rows
places = refl

-- ---- the status word
-- of a head: whether set point 2 is valid, how A lies to it, and which bits are on
module _ (h : Head) where
  abbrev bearing : Bearing
  bearing = aimed_of h.stored.values h.measurement h.targets

  abbrev aims : Bool
  aims = h.targets.valid2

  abbrev turns : Bool → Bool
  turns clockwise = aims && (not bearing.inside1 && clockwise)

  -- the bits below bit 5, and those above it by its double
  abbrev low : ℕ
  low = bit 0 (turns bearing.clockwise) + bit 1 (turns (not bearing.clockwise)) + bit 3 (aims && bearing.inside2) + bit 2 h.targets.valid1 + bit 4 h.targets.reached

  abbrev high : ℕ
  high =
      bit 0 (aims && bearing.above) + 2 * bit 0 (pending_of h) + 4 * bit 0 h.measurement.frozen + 16 * bit 0 aims
      + 128 * (h.keys % 8)

  low_small : low < 2 ^ 5
  low_small =
      omega (
        arith,
        bit_most 0 (turns bearing.clockwise),
        bit_most 1 (turns (not bearing.clockwise)),
        bit_most 3 (aims && bearing.inside2),
        bit_most 2 h.targets.valid1,
        bit_most 4 h.targets.reached,
      )

  position_is : position_status h ≡ low + bit 5 (aims && bearing.inside1) + 2 ^ 6 * high
  unfolding aim_bits_of rest_bits_of
  position_is =
      omega (
        arith,
        bit_weighs 6 (aims && bearing.above),
        bit_weighs 7 (pending_of h),
        bit_weighs 8 h.measurement.frozen,
        bit_weighs 10 aims,
      )

  position_fits : position_status h < 65536
  position_fits =
      omega (
        arith,
        position_is,
        low_small,
        bit_most 5 (aims && bearing.inside1),
        bit_most 0 (aims && bearing.above),
        bit_most 0 (pending_of h),
        bit_most 0 h.measurement.frozen,
        bit_most 0 aims,
      )

  display_fits : display_status h < 65536
  unfolding display_bits_of rest_bits_of
  display_fits =
      omega (
        arith,
        bit_most 2 h.targets.valid1,
        bit_most 3 h.targets.acknowledged1,
        bit_most 5 h.targets.acknowledged2,
        bit_most 7 (pending_of h),
        bit_most 8 h.measurement.frozen,
        bit_most 9 (bit_set h.targets.word 7),
        bit_most 10 aims,
      )

  pub status_fits : status_of h < 65536
  unfolding status_of
  status_fits = elim (display_of h.stored.values) as (λ b. cond b (display_status h) (position_status h) < 65536) [ true ↦ display_fits | false ↦ position_fits ]

  -- its bit 5 is what sets the static bit, but for alpha-numeric display
  pub within_bit : within_of h.stored.values h.measurement h.targets ≡ (not (display_of h.stored.values) && bit_set (status_of h) 5)
  unfolding within_of status_of
  within_bit =
      elim (display_of h.stored.values) as (λ b. (not b && (aims && bearing.inside1)) ≡ (not b && bit_set (cond b (display_status h) (position_status h)) 5))
      [ true ↦ refl | false ↦ rw position_is (sym (bit_five low high (aims && bearing.inside1) low_small)) ]

-- ---- a list stays one of at most ten
pub remembered_few : (l : ErrorList) (code : ℕ) → l.count ≤ 10 → (remembered_of l code).count ≤ 10
unfolding remembered_of
remembered_few l code h =
    ⊎_elim
    (λ p. simp (lt-ltb l.count 10 p) (omega arith))
    (λ p. let e : l.count ≡ 10 = omega arith in simp (le-ltb l.count 10 p, eq-eqb l.count 10 e) h)
    (less_or_not l.count 10)

-- ---- its entries are those before it and the new one
pub remembers : (l : ErrorList) (code : ℕ) → length l.codes ≡ 10 → l.count ≤ 10 → entries (remembered_of l code) ≡ entered (entries l) code
unfolding remembered_of
remembers l code long few = go (ltb l.count 10) refl
  where
    size : length (entries l) ≡ l.count
    size = length-take-le l.count l.codes (omega arith)

    go : (b : Bool) → ltb l.count 10 ≡ b → entries (remembered_of l code) ≡ entered (entries l) code
    go true e =
        let n : l.count < length l.codes = omega (arith, ltb-true l.count 10 e) in
        let m : l.count < length (set l.codes l.count code) = rw (length-set l.codes l.count code) n in
        rw (size, e, add-one l.count, take-suc (set l.codes l.count code) l.count 0 m, take-set-le l.count l.codes l.count code (omega arith), get_or-set_same l.codes l.count code 0 n)
    go false e =
        let f : l.count ≡ 10 = omega (arith, ltb-false l.count 10 e) in
        let d : length (drop 1 l.codes ++ (code ∷ [])) ≤ 10 = omega (arith, length-append (drop 1 l.codes) (code ∷ []), length-drop 1 l.codes) in
        rw (size, e, f, take_all 10 l.codes (omega arith), take_all 10 _ d)

-- ---- what a well-formed head is
both : (a b : Bool) → (a && b) ≡ true → (a ≡ true) × (b ≡ true)
both a b = (and-eq-true_iff a b).0

-- a measurement in reach, by its size
pub reach_small : (v : ℤ) → in_reach_of v ≡ true → nat_abs v ≤ 2500000
unfolding in_reach_of
reach_small (pos n) h = leb-true n 2500000 h
reach_small (negsuc n) h = omega (arith, leb-true n 2499999 (both (leb n 2499999) true h).0)

pub small_reach : (v : ℤ) → nat_abs v ≤ 2500000 → in_reach_of v ≡ true
unfolding in_reach_of
small_reach (pos n) h = le-leb n 2500000 h
small_reach (negsuc n) h = rw (le-leb n 2499999 (omega arith))

pub record WellStored (s : Stored) : Type 0 where
  pub values : all_right_of s.values ≡ true
  pub number : fits_in (row_of node_place) s.number ≡ true
  pub offer : offer_fits s.number s.offer ≡ true

pub stored_told : (s : Stored) → stored_fits s ≡ true → WellStored s
unfolding stored_fits
stored_told s h =
    let b = both (all_right_of s.values) _ h in
    let d = both (fits_in (row_of node_place) s.number) _ b.1 in
    record { values = b.0; number = d.0; offer = d.1 }

pub stored_holds : (s : Stored) → WellStored s → stored_fits s ≡ true
unfolding stored_fits
stored_holds s w = rw (w.values, w.number, w.offer)

-- nothing is offered, or 1 to 31 at 31
pub none_offered : (number : ℕ) → offer_fits number 0 ≡ true
unfolding offer_fits
none_offered number = refl

pub offer_told : (number offer : ℕ) → offer_fits number offer ≡ true → (offer ≤ 31) × (offer ≢ 0 → number ≡ 31)
unfolding offer_fits
offer_told number offer h = go (eqb offer 0) refl
  where
    go : (none : Bool) → eqb offer 0 ≡ none → (offer ≤ 31) × (offer ≢ 0 → number ≡ 31)
    go true e = let z = eqb-true offer 0 e in (omega arith, λ n. absurd (n z))
    go false e = let b = both (leb offer 31) _ (rw e at h) in (leb-true offer 31 b.0, λ _. eqb-true number 31 b.1)

pub offer_holds : (number offer : ℕ) → offer ≤ 31 → (offer ≢ 0 → number ≡ 31) → offer_fits number offer ≡ true
unfolding offer_fits
offer_holds number offer l at = go (eqb offer 0) refl
  where
    go : (none : Bool) → eqb offer 0 ≡ none → none || (leb offer 31 && eqb number 31) ≡ true
    go true e = refl
    go false e = rw (le-leb offer 31 l, eq-eqb number 31 (at (eqb-false offer 0 e)))

pub record WellFaults (f : Faults) : Type 0 where
  pub memory : f.memory.count ≤ 10
  pub inputs : f.inputs.count ≤ 10
  pub damaged : f.damaged ≤ 2

pub faults_told : (f : Faults) → faults_fit f ≡ true → WellFaults f
unfolding faults_fit
faults_told f h =
    let b = both (leb f.memory.count 10) _ h in
    let d = both (leb f.inputs.count 10) _ b.1 in
    record { memory = leb-true _ _ b.0; inputs = leb-true _ _ d.0; damaged = leb-true _ _ d.1 }

pub faults_holds : (f : Faults) → WellFaults f → faults_fit f ≡ true
unfolding faults_fit
faults_holds f w = rw (le-leb _ _ w.memory, le-leb _ _ w.inputs, le-leb _ _ w.damaged)

pub record WellMeasured (g : Measurement) : Type 0 where
  pub off : g.incremental ≡ false
  pub m : in_reach_of g.m ≡ true
  pub zero : in_reach_of g.zero ≡ true
  pub start : in_reach_of g.start ≡ true
  pub adopted : fits_in (row_of calibration_place) g.adopted ≡ true
  pub kept : nat_abs g.kept ≤ 5242880

pub measurement_told : (g : Measurement) → measurement_fits g ≡ true → WellMeasured g
unfolding measurement_fits kept_fits
measurement_told g h =
    let a = both (not g.incremental) _ h in
    let b = both (in_reach_of g.m) _ a.1 in
    let d = both (in_reach_of g.zero) _ b.1 in
    let e = both (in_reach_of g.start) _ d.1 in
    let f = both (fits_in (row_of calibration_place) g.adopted) _ e.1 in
    record { off = not-true _ a.0; m = b.0; zero = d.0; start = e.0; adopted = f.0; kept = leb-true _ _ f.1 }

pub measurement_holds : (g : Measurement) → WellMeasured g → measurement_fits g ≡ true
unfolding measurement_fits kept_fits
measurement_holds g w = rw (w.off, w.m, w.zero, w.start, w.adopted, le-leb _ _ w.kept)

pub ear_told : (e : Ear) → ear_fits e ≡ true → e.count ≤ 9
unfolding ear_fits
ear_told e h = leb-true e.count 9 h

pub ear_holds : (e : Ear) → e.count ≤ 9 → ear_fits e ≡ true
unfolding ear_fits
ear_holds e h = le-leb e.count 9 h

pub record Wellformed (h : Head) : Type 0 where
  pub stored : stored_fits h.stored ≡ true
  pub faults : faults_fit h.faults ≡ true
  pub measurement : measurement_fits h.measurement ≡ true
  pub ear : ear_fits h.ear ≡ true
  pub keys : h.keys ≤ 7

pub told : (h : Head) → wellformed_of h ≡ true → Wellformed h
unfolding wellformed_of
told h w =
    let b = both (stored_fits h.stored) _ w in
    let d = both (faults_fit h.faults) _ b.1 in
    let e = both (measurement_fits h.measurement) _ d.1 in
    let f = both (ear_fits h.ear) _ e.1 in
    record { stored = b.0; faults = d.0; measurement = e.0; ear = f.0; keys = leb-true _ _ f.1 }

pub holds : (h : Head) → Wellformed h → wellformed_of h ≡ true
unfolding wellformed_of
holds h w = rw (w.stored, w.faults, w.measurement, w.ear, le-leb _ _ w.keys)

-- ---- what a well-formed head shows is within what a value is held to
either_small : (t : Bool) (a b : ℤ) (n : ℕ) → nat_abs a ≤ n → nat_abs b ≤ n → nat_abs (cond t a b) ≤ n
either_small true a b n p q = p
either_small false a b n p q = q

module _ (vs : List ℕ) (g : Measurement) (o : fits_in (row_of offset_place) (value_at vs offset_place) ≡ true) (f : measurement_fits g ≡ true) where
  placed_small : nat_abs (position_by vs g) ≤ 5242880
  unfolding position_of
  placed_small =
      let w = measurement_told g f in
      absolute_small g.m g.zero g.adopted (value_at vs offset_place) (reach_small _ w.m) (reach_small _ w.zero)
      (calibration_limits g.adopted w.adopted) (offset_limits (value_at vs offset_place) o)

  actual_small : nat_abs (view_of vs g).actual ≤ 5242880
  unfolding view_of actual_of
  actual_small =
      either_small (ltb (value_at vs application_place) 2) _ _ 5242880
      (omega (arith, placed_small, rounded_small (position_by vs g) (value_at vs divisor_place)))
      placed_small

  pub shown_small : nat_abs (view_of vs g).shown ≤ 5242880
  unfolding view_of shown_of
  shown_small = either_small (eqb (value_at vs application_place) 0) _ _ 5242880 actual_small placed_small
