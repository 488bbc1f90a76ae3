-- Every effect on a part keeps the part well-formed: what the part has to meet is told as a record of facts, the effect keeps or
-- renews each fact, and the record goes back to the test.
-- Assumes nothing.
use Prim.Native.Nat.{ℕ, suc, ◌+◌, ◌<◌}
use native.Mathlib.Nat.{add-zero, zero-add, add-suc, suc-add}
use native.Mathlib.Omega.{arith}
use mathlib.Core.Path.{◌≡◌, refl}
use mathlib.Core.Bool.{Bool, true, false, cond, not, ◌&&◌, and-eq-true_iff}
use mathlib.Core.List.{List, [], ◌∷◌}
use lib.Dec.{ltb, eqb}
use lib.IntN.{ℤ, pos}
use lib.ListN.{length, get_or}
use borrow.Author.Tests.{ltb-true, eqb-false}
use Rattle.wire.specs.Faults.{code_of}
use Rattle.wire.specs.declared.fault.Fault.TheVariants.{CheckSum}
use Rattle.rows.specs.declared.table.Row.{Row}
use Rattle.rows.specs.Table.{rows, blank, row_of, delivery}
use Rattle.rows.specs.Ranges.{fits_in, all_in, all_right_of}
use Rattle.rows.specs.Resets.{resets_of}
use Rattle.rows.proofs.Laws.{all_right_at, all_right_set, delivery_fits, delivery_right, node_fits_lem}
use Rattle.judge.specs.declared.deed.Deed.{Deed}
use Rattle.judge.specs.declared.deed.Deed.TheVariants.{Nothing, Store, Reset, Restart, Calibrate, Forget, Unlock, Freeze, Aim1, Aim2, ClearStatic, Release, Offer, Withdraw}
use Rattle.judge.proofs.Allowed.{Allowed}
use Rattle.judge.specs.declared.verdict.Verdict.{Verdict}
use Rattle.judge.specs.declared.verdict.Verdict.TheVariants.{Obeyed, Silent, Refused}
use Rattle.state.specs.declared.parts.Head.{Head}
use Rattle.state.specs.declared.parts.Stored.{Stored}
use Rattle.state.specs.declared.parts.Faults.{Faults}
use Rattle.state.specs.declared.parts.Measurement.{Measurement}
use Rattle.state.specs.Bits.{bit_set}
use Rattle.state.specs.Settings.{node_place, offset_place, calibration_place}
use Rattle.state.specs.Errors.{empty_list}
use Rattle.state.specs.Wellformed.{in_reach_of, stored_fits, faults_fit, measurement_fits, ear_fits, wellformed_of}
use Rattle.state.proofs.Laws.{stored_told, stored_holds, none_offered, offer_told, offer_holds, faults_told, faults_holds, measurement_told, measurement_holds, ear_holds, told, holds, remembered_few, small_reach, shown_small}
use Rattle.state.specs.With.{with_pending, with_damaged, with_hit}
use Rattle.effects.specs.Stored.{reset_value, reset_from, reset_of, adopted_stored, restarted_stored, stored_by}
use Rattle.effects.specs.Faults.{raised_of, damaged_of, counted_of, complained_of, acknowledged_of, restarted_faults, faults_by}
use Rattle.effects.specs.Measured.{calibrated_of, frozen_of, released_of, restarted_measurement, moved_of, measurement_by}
use Rattle.effects.specs.Restart.{empty_ear, restarted_of, adopted_of, delivered_of, unpowered, fresh_of}

-- what is chosen by a test fits where both fit, the first only when the test passes
pub either : {A : Type 0} (fits : A → Bool) (b : Bool) (x y : A) → (b ≡ true → fits x ≡ true) → fits y ≡ true → fits (cond b x y) ≡ true
either fits true x y p q = p refl
either fits false x y p q = q

-- ---- the stored part
-- values that a reset gives lie in their rows, the first row being that of place k, where each place's does
reset_in : (k command : ℕ) (rs : List Row) (vs : List ℕ)
    → ((i w : ℕ) → i < length rs → fits_in (get_or rs i blank) w ≡ true → fits_in (get_or rs i blank) (reset_value command (k + i) w) ≡ true)
    → all_in rs vs ≡ true → all_in rs (reset_from k command vs) ≡ true
reset_in k command [] vs each h = refl
reset_in k command (r ∷ rs) [] each h = h
reset_in k command (r ∷ rs) (v ∷ vs) each h =
    let b = (and-eq-true_iff (fits_in r v) (all_in rs vs)).0 h in
    rw (
      rw (add-zero k) at (each 0 v (omega arith) b.0),
      reset_in (suc k) command rs vs (λ i w p f. rw (suc-add k i, ← add-suc k i) (each (suc i) w (omega arith) f)) b.1,
    )

reset_right : (command : ℕ) (vs : List ℕ) → all_right_of vs ≡ true → all_right_of (reset_of command vs) ≡ true
unfolding reset_of reset_value all_right_of row_of rows
reset_right command vs h =
    reset_in 0 command rows vs
    (λ i w p f. rw (zero-add i) (either (fits_in (row_of i)) (resets_of command i) (delivery (row_of i)) w (λ _. delivery_fits i p) f)) h

restarted_stored_lem : (s : Stored) → all_right_of s.values ≡ true → stored_fits (restarted_stored s) ≡ true
unfolding restarted_stored
restarted_stored_lem s h =
    stored_holds _ (record { values = h; number = all_right_at s.values node_place h (omega arith); offer = none_offered _ })

-- what a telegram may do (judge: Allowed) keeps it
pub stored_keeps : (d : Deed) (s : Stored) → Allowed s.number d → stored_fits s ≡ true → stored_fits (stored_by d s) ≡ true
unfolding stored_by
stored_keeps Nothing s f h = h
stored_keeps (Store i w) s f h =
    let k = stored_told s h in
    stored_holds _ (record { values = all_right_set s.values i w k.values f.1; number = k.number; offer = k.offer })
stored_keeps (Reset command) s f h =
    let k = stored_told s h in
    stored_holds _ (record { values = reset_right command s.values k.values; number = k.number; offer = k.offer })
stored_keeps Restart s f h = h
stored_keeps Calibrate s f h = h
stored_keeps Forget s f h = h
stored_keeps (Unlock b) s f h = let k = stored_told s h in stored_holds _ (record { values = k.values; number = k.number; offer = k.offer })
stored_keeps Freeze s f h = h
stored_keeps (Aim1 v w) s f h = h
stored_keeps (Aim2 v w) s f h = h
stored_keeps ClearStatic s f h = h
stored_keeps Release s f h = h
stored_keeps (Offer n) s f h =
    let k = stored_told s h in
    stored_holds _ (record { values = k.values; number = k.number; offer = offer_holds s.number n f.2 (λ _. f.0) })
stored_keeps Withdraw s f h = let k = stored_told s h in stored_holds _ (record { values = k.values; number = k.number; offer = none_offered _ })

-- ---- the errors
pub raised_keeps : (f : Faults) (code : ℕ) → faults_fit f ≡ true → faults_fit (raised_of f code) ≡ true
unfolding raised_of
raised_keeps f code h =
    let k = faults_told f h in
    faults_holds _ (record { memory = remembered_few f.memory code k.memory; inputs = k.inputs; damaged = k.damaged })

none_damaged : (f : Faults) → faults_fit f ≡ true → faults_fit (with_damaged f 0) ≡ true
none_damaged f h = let k = faults_told f h in faults_holds _ (record { memory = k.memory; inputs = k.inputs; damaged = omega arith })

damaged_keeps : (f : Faults) → faults_fit f ≡ true → faults_fit (damaged_of f) ≡ true
damaged_keeps f h =
    let k = faults_told f h in
    either faults_fit (ltb f.damaged 2) _ _
    (λ t. faults_holds _ (record { memory = k.memory; inputs = k.inputs; damaged = omega (arith, ltb-true f.damaged 2 t) }))
    (raised_keeps (with_damaged f 0) (code_of CheckSum) (none_damaged f h))

-- what is kept of a damaged telegram is any byte
pub counted_keeps : (hit : ℕ) (f : Faults) → faults_fit f ≡ true → faults_fit (counted_of hit f) ≡ true
unfolding counted_of faults_fit
counted_keeps hit f h =
    either faults_fit (eqb hit 0) (with_damaged f 0) (damaged_of (with_hit f hit)) (λ _. none_damaged f h) (damaged_keeps (with_hit f hit) h)

pub complained_keeps : (v : Verdict) (f : Faults) → faults_fit f ≡ true → faults_fit (complained_of v f) ≡ true
unfolding complained_of
complained_keeps Obeyed f h = h
complained_keeps Silent f h = h
complained_keeps (Refused fault) f h =
    let k = faults_told f h in
    faults_holds _ (record { memory = k.memory; inputs = remembered_few f.inputs (code_of fault) k.inputs; damaged = k.damaged })

pub pending_keeps : (f : Faults) (code : ℕ) → faults_fit f ≡ true → faults_fit (with_pending f code) ≡ true
pending_keeps f code h =
    let k = faults_told f h in
    faults_holds _ (record { memory = k.memory; inputs = k.inputs; damaged = k.damaged })

acknowledged_keeps : (word last : ℕ) (f : Faults) → faults_fit f ≡ true → faults_fit (acknowledged_of word last f) ≡ true
unfolding acknowledged_of
acknowledged_keeps word last f h =
    either faults_fit (bit_set word 5 && not (bit_set last 5)) (with_pending f 0) f (λ _. pending_keeps f 0 h) h

restarted_faults_lem : (f : Faults) → faults_fit f ≡ true → faults_fit (restarted_faults f) ≡ true
unfolding restarted_faults empty_list
restarted_faults_lem f h = faults_holds _ (record { memory = (faults_told f h).memory; inputs = omega arith; damaged = omega arith })

pub faults_keeps : (d : Deed) (last : ℕ) (f : Faults) → faults_fit f ≡ true → faults_fit (faults_by d last f) ≡ true
unfolding faults_by empty_list
faults_keeps Nothing last f h = h
faults_keeps (Store i w) last f h = h
faults_keeps (Reset n) last f h = h
faults_keeps Restart last f h = h
faults_keeps Calibrate last f h = h
faults_keeps Forget last f h =
    let k = faults_told f h in
    faults_holds _ (record { memory = omega arith; inputs = k.inputs; damaged = k.damaged })
faults_keeps (Unlock b) last f h = h
faults_keeps Freeze last f h = h
faults_keeps (Aim1 v word) last f h = acknowledged_keeps word last f h
faults_keeps (Aim2 v word) last f h = acknowledged_keeps word last f h
faults_keeps ClearStatic last f h = h
faults_keeps Release last f h = h
faults_keeps (Offer n) last f h = h
faults_keeps Withdraw last f h = h

-- ---- the measurement
zero_reach : in_reach_of (pos 0) ≡ true
zero_reach = small_reach (pos 0) (omega arith)

pub calibrated_keeps : (vs : List ℕ) (g : Measurement) → all_right_of vs ≡ true → measurement_fits g ≡ true → measurement_fits (calibrated_of vs g) ≡ true
unfolding calibrated_of
calibrated_keeps vs g a h =
    let k = measurement_told g h in
    measurement_holds _ (record { off = k.off; m = k.m; zero = k.m; start = k.start; adopted = all_right_at vs calibration_place a (omega arith); kept = k.kept })

pub moved_keeps : (m : ℤ) (g : Measurement) → in_reach_of m ≡ true → measurement_fits g ≡ true → measurement_fits (moved_of m g) ≡ true
unfolding moved_of
moved_keeps m g r h =
    let k = measurement_told g h in
    measurement_holds _ (record { off = k.off; m = r; zero = k.zero; start = k.start; adopted = k.adopted; kept = k.kept })

frozen_keeps : (vs : List ℕ) (g : Measurement) → all_right_of vs ≡ true → measurement_fits g ≡ true → measurement_fits (frozen_of vs g) ≡ true
unfolding frozen_of
frozen_keeps vs g a h =
    let k = measurement_told g h in
    measurement_holds _
    (record { off = k.off; m = k.m; zero = k.zero; start = k.start; adopted = k.adopted; kept = shown_small vs g (all_right_at vs offset_place a (omega arith)) h })

released_keeps : (g : Measurement) → measurement_fits g ≡ true → measurement_fits (released_of g) ≡ true
unfolding released_of
released_keeps g h =
    let k = measurement_told g h in
    measurement_holds _ (record { off = k.off; m = k.m; zero = k.zero; start = k.start; adopted = k.adopted; kept = omega arith })

restarted_measurement_lem : (g : Measurement) → measurement_fits g ≡ true → measurement_fits (restarted_measurement g) ≡ true
unfolding restarted_measurement
restarted_measurement_lem g h =
    let k = measurement_told g h in
    measurement_holds _ (record { off = refl; m = k.m; zero = k.zero; start = zero_reach; adopted = k.adopted; kept = omega arith })

pub measurement_keeps : (d : Deed) (vs : List ℕ) (g : Measurement) → all_right_of vs ≡ true → measurement_fits g ≡ true → measurement_fits (measurement_by d vs g) ≡ true
unfolding measurement_by
measurement_keeps Nothing vs g a h = h
measurement_keeps (Store i w) vs g a h = h
measurement_keeps (Reset n) vs g a h = h
measurement_keeps Restart vs g a h = h
measurement_keeps Calibrate vs g a h = calibrated_keeps vs g a h
measurement_keeps Forget vs g a h = h
measurement_keeps (Unlock b) vs g a h = h
measurement_keeps Freeze vs g a h = frozen_keeps vs g a h
measurement_keeps (Aim1 v w) vs g a h = h
measurement_keeps (Aim2 v w) vs g a h = h
measurement_keeps ClearStatic vs g a h = h
measurement_keeps Release vs g a h = released_keeps g h
measurement_keeps (Offer n) vs g a h = h
measurement_keeps Withdraw vs g a h = h

-- ---- the head
pub empty_ear_fits : (at : ℕ) → ear_fits (empty_ear at) ≡ true
unfolding empty_ear
empty_ear_fits at = ear_holds _ (omega arith)

-- a restart asks nothing of the number in force, the targets, the monitor, the ear and the keys
restarted_fits : (h : Head) → all_right_of h.stored.values ≡ true → faults_fit h.faults ≡ true → measurement_fits h.measurement ≡ true
    → wellformed_of (restarted_of h) ≡ true
unfolding restarted_of
restarted_fits h s f m =
    holds _
    (record {
      stored = restarted_stored_lem h.stored s;
      faults = restarted_faults_lem h.faults f;
      measurement = restarted_measurement_lem h.measurement m;
      ear = empty_ear_fits 0;
      keys = omega arith;
    })

pub restarted_keeps : (h : Head) → wellformed_of h ≡ true → wellformed_of (restarted_of h) ≡ true
restarted_keeps h w = let k = told h w in restarted_fits h (stored_told h.stored k.stored).values k.faults k.measurement

-- a number that is offered may be a node number
pub adopted_keeps : (h : Head) → eqb h.stored.offer 0 ≡ false → wellformed_of h ≡ true → wellformed_of (adopted_of h) ≡ true
unfolding adopted_of adopted_stored
adopted_keeps h e w =
    let k = told h w in
    let s = stored_told h.stored k.stored in
    let n = eqb-false h.stored.offer 0 e in
    let l = (offer_told h.stored.number h.stored.offer s.offer).0 in
    restarted_fits _ (all_right_set h.stored.values node_place h.stored.offer s.values (node_fits_lem h.stored.offer (omega arith) (omega arith))) k.faults k.measurement

pub fresh_keeps : (node serial : ℕ) → fits_in (row_of node_place) node ≡ true → wellformed_of (fresh_of node serial) ≡ true
unfolding fresh_of delivered_of empty_list row_of rows
fresh_keeps node serial f =
    restarted_fits (unpowered node serial) (all_right_set _ node_place node delivery_right f)
    (faults_holds _ (record { memory = omega arith; inputs = omega arith; damaged = omega arith }))
    (measurement_holds _
    (record { off = refl; m = zero_reach; zero = zero_reach; start = zero_reach; adopted = delivery_fits calibration_place (omega arith); kept = omega arith }))
