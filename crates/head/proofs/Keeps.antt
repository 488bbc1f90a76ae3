-- Every call keeps a head well-formed, and a new head is well-formed: so a head grown by the calls is never refused with 20.
-- Assumes nothing.
use Rattle.std.proofs.Common.{◌≡◌, ℕ, Bool, true, false, cond, not, ◌&&◌, eqb, ltb, leb, List, ℤ, refl, ap, ◌∙◌, arith, ltb-true, leb-true}
use mathlib.Core.Bool.{and-eq-true_iff}
use borrow.Author.Tests.{not-true}
use Rattle.wire.specs.Check.{hit_of}
use Rattle.wire.specs.Faults.{code_of}
use Rattle.wire.specs.declared.fault.Fault.TheVariants.{Timeout}
use Rattle.wire.specs.Telegram.{fields_of}
use Rattle.rows.proofs.Laws.{node_fits_lem}
use Rattle.judge.specs.declared.judged.Judged.{Judged}
use Rattle.judge.specs.Judged.{judged_of}
use Rattle.judge.proofs.Allowed.{Allowed, deed_allowed}
use Rattle.state.specs.declared.parts.Head.{Head}
use Rattle.state.specs.declared.parts.Stored.{Stored}
use Rattle.state.specs.declared.parts.Ear.{Ear}
use Rattle.state.specs.Settings.{value_at, timeout_place, calibration_key_place, acknowledgement_place}
use Rattle.state.specs.Mode.{display_of}
use Rattle.state.specs.Wellformed.{in_reach_of, ear_fits, wellformed_of}
use Rattle.state.proofs.Laws.{told, holds, stored_told, stored_holds, ear_holds}
use Rattle.state.specs.With.{with_ear, with_keys}
use Rattle.effects.specs.Aimed.{lacking_of}
use Rattle.effects.specs.Restart.{empty_ear, restarted_of, fresh_of}
use Rattle.sheet.specs.Loading.{all_fitting_of}
use Rattle.sheet.proofs.Loads.{stored_right}
use Rattle.effects.proofs.Keeps.{either, stored_keeps, counted_keeps, complained_keeps, faults_keeps, raised_keeps, calibrated_keeps, moved_keeps, measurement_keeps, empty_ear_fits, pending_keeps, restarted_keeps, adopted_keeps, fresh_keeps}
use Rattle.head.specs.declared.hear.Stepped.{Stepped}
use Rattle.head.specs.Hear.{elapsed_of, kept_ear, one_more_of, gathered_on, gathered_of, standing_of, restarts_of, affected_of, told_of, tell_of, step_by, step_of}
use Rattle.head.specs.Moves.{overdue_of, ticked_of, measured_of, left_key, star_key, up_key, pressed_of, left_of, star_of, star_taken, adopts_of, keyed_of}
use Rattle.head.specs.Calls.{node_fits, factory_of, loaded_of}

-- what holds of both ways of a test holds of it
pub same : (P : Head → Type 0) (b : Bool) {x y : Head} → P x → P y → P (cond b x y)
same P true p q = p
same P false p q = q

abbrev Fit : Head → Type 0
Fit h = wellformed_of h ≡ true

-- ---- a telegram
affected_fits : (j : Judged) (h : Head) (at : ℕ) → Allowed h.stored.number j.deed → Fit h → Fit (affected_of j h at)
affected_fits j h at s f =
    let w = told h f in
    holds (affected_of j h at)
    (record {
      stored = stored_keeps j.deed h.stored s w.stored;
      faults = faults_keeps j.deed h.targets.word _ (complained_keeps j.verdict _ (counted_keeps j.hit _ w.faults));
      measurement = measurement_keeps j.deed h.stored.values h.measurement (stored_told h.stored w.stored).values w.measurement;
      ear = empty_ear_fits at;
      keys = w.keys;
    })

told_fits : (j : Judged) (h : Head) (at : ℕ) → Allowed h.stored.number j.deed → Fit h → Fit (told_of j h at)
unfolding told_of
told_fits j h at s f =
    let a = affected_fits j h at s f in
    either wellformed_of (restarts_of j.deed) _ (affected_of j h at) (λ _. restarted_keeps (affected_of j h at) a) a

-- ---- a byte that ends no telegram
kept_few : (e : Ear) (at : ℕ) → ear_fits e ≡ true → ear_fits (kept_ear e at) ≡ true
unfolding kept_ear
kept_few e at f = either ear_fits (ltb 10 (elapsed_of at e.at)) (empty_ear at) e (λ t. empty_ear_fits at) f

ear_fits_lem : (h : Head) (e : Ear) → ear_fits e ≡ true → Fit h → Fit (with_ear h e)
ear_fits_lem h e k f =
    let w = told h f in
    holds (with_ear h e) (record { stored = w.stored; faults = w.faults; measurement = w.measurement; ear = k; keys = w.keys })

tell_fits : (h : Head) (ten : List ℕ) (at : ℕ) → Fit h → Fit (tell_of h ten at).head
unfolding tell_of judged_of standing_of
tell_fits h ten at f =
    told_fits (judged_of ten (standing_of h)) h at (deed_allowed (hit_of ten) (fields_of ten) (standing_of h)) f

by_fits : (h : Head) (b at : ℕ) (e : Ear) → ear_fits e ≡ true → Fit h → Fit (step_by h (gathered_on e b at) at).head
by_fits h b at e k f = go (ltb e.count 9) refl
  where
    go : (t : Bool) → ltb e.count 9 ≡ t → Fit (step_by h (gathered_on e b at) at).head
    go true q = let n = ltb-true e.count 9 q in rw q (ear_fits_lem h (one_more_of e b at) (ear_holds (one_more_of e b at) (omega arith)) f)
    go false q = rw q (tell_fits h _ at f)

pub step_fits : (h : Head) (b at : ℕ) → wellformed_of h ≡ true → wellformed_of (step_of h b at).head ≡ true
unfolding step_of gathered_of
step_fits h b at f = by_fits h b at (kept_ear h.ear at) (kept_few h.ear at (told h f).ear) f

-- ---- tick, measurement, keys, power, a sheet loaded, and a head that is made
pub tick_fits : (h : Head) (at : ℕ) → wellformed_of h ≡ true → wellformed_of (ticked_of h at) ≡ true
unfolding ticked_of
tick_fits h at f =
    let w = told h f in
    either wellformed_of (h.monitor.running && overdue_of (value_at h.stored.values timeout_place) (elapsed_of at h.monitor.since)) _ h
    (λ t. holds _ (record { stored = w.stored; faults = raised_keeps h.faults (code_of Timeout) w.faults; measurement = w.measurement; ear = w.ear; keys = w.keys }))
    f

pub measure_fits : (h : Head) (m : ℤ) → in_reach_of m ≡ true → wellformed_of h ≡ true → wellformed_of (measured_of h m) ≡ true
unfolding measured_of
measure_fits h m r f =
    let w = told h f in
    holds (measured_of h m)
    (record { stored = w.stored; faults = w.faults; measurement = moved_keeps m h.measurement r w.measurement; ear = w.ear; keys = w.keys })

left_fits : (on : Bool) (h : Head) → Fit h → Fit (left_of on h)
unfolding left_of
left_fits on h f =
    let w = told h f in
    either wellformed_of on _ h
    (λ t. either wellformed_of (not (eqb h.faults.pending 0)) _ _
    (λ p. holds _ (record { stored = w.stored; faults = pending_keeps h.faults 0 w.faults; measurement = w.measurement; ear = w.ear; keys = w.keys }))
    (either wellformed_of (display_of h.stored.values && lacking_of h.targets) _ _ (λ a. holds _ (record { stored = w.stored; faults = w.faults; measurement = w.measurement; ear = w.ear; keys = w.keys }))
    (either wellformed_of (eqb (value_at h.stored.values calibration_key_place) 1) _ h
    (λ k. holds _ (record { stored = w.stored; faults = w.faults; measurement = calibrated_keeps h.stored.values h.measurement (stored_told h.stored w.stored).values w.measurement; ear = w.ear; keys = w.keys }))
    f)))
    f

star_fits : (on : Bool) (h : Head) → Fit h → Fit (star_of on h)
unfolding star_of
star_fits on h f =
    let w = told h f in
    either wellformed_of (on && (display_of h.stored.values && eqb (value_at h.stored.values acknowledgement_place) 2)) _ h
    (λ t. holds _ (record { stored = w.stored; faults = w.faults; measurement = w.measurement; ear = w.ear; keys = w.keys }))
    f

-- left and star leave the stored part as it is
left_stored : (on : Bool) (h : Head) → (left_of on h).stored ≡ h.stored
unfolding left_of
left_stored on h =
    same (λ x. x.stored ≡ h.stored) on
    (same (λ x. x.stored ≡ h.stored) (not (eqb h.faults.pending 0)) refl
    (same (λ x. x.stored ≡ h.stored) (display_of h.stored.values && lacking_of h.targets) refl
    (same (λ x. x.stored ≡ h.stored) (eqb (value_at h.stored.values calibration_key_place) 1) refl refl)))
    refl

star_stored : (on : Bool) (h : Head) → (star_of on h).stored ≡ h.stored
unfolding star_of
star_stored on h =
    same (λ x. x.stored ≡ h.stored) (on && (display_of h.stored.values && eqb (value_at h.stored.values acknowledgement_place) 2)) refl refl

pub taken_stored : (h : Head) (k : ℕ) → (star_taken h k).stored ≡ h.stored
taken_stored h k = star_stored _ (left_of (pressed_of k h.keys left_key) (with_keys h k)) ∙ left_stored _ (with_keys h k)

pub keys_fits : (h : Head) (k : ℕ) → leb k 7 ≡ true → wellformed_of h ≡ true → wellformed_of (keyed_of h k).head ≡ true
unfolding keyed_of
keys_fits h k r f =
    let w = told h f in
    let l : Fit (star_taken h k) = star_fits (pressed_of k h.keys star_key) _ (left_fits (pressed_of k h.keys left_key) _ (holds _ (record { stored = w.stored; faults = w.faults; measurement = w.measurement; ear = w.ear; keys = leb-true k 7 r }))) in
    either (λ (s : Stepped). wellformed_of s.head) (adopts_of h k) _ _
    (λ t. adopted_keeps (star_taken h k) (ap (λ (s : Stored). eqb s.offer 0) (taken_stored h k) ∙ not-true (eqb h.stored.offer 0) ((and-eq-true_iff (pressed_of k h.keys up_key) _).0 t).1) l)
    l

pub restart_fits : (h : Head) → wellformed_of h ≡ true → wellformed_of (restarted_of h) ≡ true
restart_fits h f = restarted_keeps h f

pub load_fits : (h : Head) (s : List ℕ) → all_fitting_of s ≡ true → wellformed_of h ≡ true → wellformed_of (loaded_of h s) ≡ true
unfolding loaded_of
load_fits h s r f =
    let w = told h f in
    let k = stored_told h.stored w.stored in
    holds (loaded_of h s)
    (record {
      stored = stored_holds (loaded_of h s).stored (record { values = stored_right h.stored.values s k.values r; number = k.number; offer = k.offer });
      faults = w.faults;
      measurement = w.measurement;
      ear = w.ear;
      keys = w.keys;
    })

pub fresh_fits : (node serial : ℕ) → node_fits node ≡ true → wellformed_of (fresh_of node serial) ≡ true
unfolding node_fits
fresh_fits node serial f = fresh_keeps node serial f

pub factory_fits : (serial : ℕ) → wellformed_of (factory_of serial) ≡ true
unfolding node_fits factory_of
factory_fits serial = fresh_fits 31 serial (node_fits_lem 31 (omega arith) (omega arith))
