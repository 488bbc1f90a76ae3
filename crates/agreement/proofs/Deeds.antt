-- What each one does: each of the engine's steps from head to head is the head after the deed of that name.
-- Assumes nothing.
use Prim.Native.Nat.{ℕ, suc, ◌<◌, ◌≤◌}
use mathlib.Core.Path.{◌≡◌, refl, ◌∙◌}
use mathlib.Core.Bool.{Bool, true, false, cond, ◌&&◌}
use mathlib.Core.Logic.{⊎_elim}
use mathlib.Core.List.{List, [], ◌∷◌}
use native.Mathlib.Omega.{arith}
use borrow.Author.Tests.{le-ltb}
use lib.Dec.{eqb}
use lib.ListN.{length, get_or, drop, set, drop_of_length-le}
use lib.Seq.{drop-cons}
use Rattle.wire.specs.declared.telegram.Telegram.{Telegram}
use Rattle.wire.specs.declared.fault.Fault.{Fault}
use Rattle.wire.specs.Faults.{code_of}
use Rattle.rows.specs.declared.kind.Kind.{Kind}
use Rattle.rows.specs.Table.{row_of, delivery}
use Rattle.rows.specs.Resets.{bus_of, resets_of}
use Rattle.signed.proofs.Sizes.{less_or_not}
use Rattle.judge.specs.declared.command.Command.{Command}
use Rattle.judge.specs.declared.verdict.Verdict.{Verdict}
use Rattle.judge.specs.declared.verdict.Verdict.TheVariants.{Obeyed, Silent, Refused}
use Rattle.judge.specs.declared.deed.Deed.{Deed}
use Rattle.judge.specs.declared.deed.Deed.TheVariants.{Nothing, Store, Reset, Restart, Calibrate, Forget, Unlock, Freeze, Aim1, Aim2, ClearStatic, Release, Offer, Withdraw}
use Rattle.judge.specs.declared.judged.Judged.{Judged}
use Rattle.state.specs.declared.parts.Head.{Head}
use Rattle.state.specs.declared.parts.Targets.{Targets}
use Rattle.state.specs.Settings.{value_at, mode_place}
use Rattle.state.specs.Errors.{remembered_of}
use Rattle.state.specs.Mode.{is_display}
use Rattle.state.specs.With.{with_faults, with_targets, with_inputs}
use Rattle.effects.specs.Stored.{reset_value, reset_from, reset_of, restarted_stored, stored_by}
use Rattle.effects.specs.Faults.{raised_of, counted_of, complained_of, acknowledged_of, restarted_faults, faults_by}
use Rattle.effects.specs.Measured.{calibrated_of, frozen_of, released_of, restarted_measurement, measurement_by}
use Rattle.effects.specs.Aimed.{no_targets, settled_of, first_aimed, second_aimed, given_of, cleared_of, stays_of, turned_of, targets_by}
use Rattle.effects.specs.Restart.{empty_ear, stopped, restarted_of}
use Rattle.effects.proofs.Turns.{turned_same}
use Rattle.head.specs.Hear.{restarts_of, started_of, told_of}
use Rattle.engine.specs.Addresses.{the39, place, default_of}
use Rattle.engine.specs.Shows.{displays}
use Rattle.engine.specs.Does.{alike, invalid, with_the39, store, resets, reset_all, reset, unlock, offer, calibrate, freeze, release, forget_errors, clear_static, acknowledge, aim_first, aim_second, settle, restart}
use Rattle.engine.specs.Way.{counted, hearing}
use Rattle.engine.proofs.Shown.{current_is, settles_is}
use Rattle.engine.proofs.Addressed.{resets_at, default_at}
use Rattle.engine.proofs.Resets.{length_39}

-- the static bit, set where bit 5 holds
settle_is : (k : Head) → settle k ≡ with_targets k (settled_of k.stored.values k.measurement k.targets)
unfolding settled_of
settle_is k = rw (settles_is k)

-- entering or leaving mode 3
turned_is : (before later : ℕ) (t : Targets) → turned_of before later t ≡ cond (alike (is_display before) (is_display later)) t (invalid t)
unfolding turned_of stays_of
turned_is before later t = go (alike (is_display before) (is_display later))
  where
    go : (b : Bool)
        → record { first = t.first; valid1 = b && t.valid1; second = t.second; valid2 = b && t.valid2; word = t.word; reached = b && t.reached; acknowledged1 = b && t.acknowledged1; acknowledged2 = b && t.acknowledged2 }
        ≡ cond b t (invalid t)
    go true = refl
    go false = refl

-- ---- a factory reset, address by address and place by place
at_place : (command i v : ℕ) → i < 39 → cond (resets command (get_or the39 i 0)) (default_of (get_or the39 i 0)) v ≡ reset_value command i v
unfolding reset_value
at_place command i v p = rw (resets_at command i p, default_at i p)

past : (command i v : ℕ) → 39 ≤ i → reset_value command i v ≡ v
unfolding reset_value resets_of bus_of
past command i v p = rw (le-ltb i 39 p) (go (eqb command 1) (eqb command 2) (eqb command 5))
  where
    go : (a b c : Bool) → cond (cond a false (cond b false (cond c false false))) (delivery (row_of i)) v ≡ v
    go true b c = refl
    go false true c = refl
    go false false true = refl
    go false false false = refl

none_left : (command : ℕ) (more : List ℕ) → reset_all command more [] ≡ []
none_left command [] = refl
none_left command (a ∷ more) = refl

reset_from_lem : (command i : ℕ) (vs : List ℕ) → reset_all command (drop i the39) vs ≡ reset_from i command vs
reset_from_lem command i [] = none_left command (drop i the39)
reset_from_lem command i (v ∷ vs) =
    ⊎_elim
    (λ p. rw (drop-cons the39 i 0 (omega (arith, length_39)), at_place command i v p, reset_from_lem command (suc i) vs))
    (λ p.
    let here : length the39 ≤ i = omega (arith, length_39) in
    let next : length the39 ≤ suc i = omega (arith, length_39) in
    let more : vs ≡ reset_from (suc i) command vs = rw (drop_of_length-le the39 next) at (reset_from_lem command (suc i) vs) in
    rw (drop_of_length-le the39 here, past command i v p, ← more))
    (less_or_not i 39)

reset_is : (command : ℕ) (vs : List ℕ) → reset_all command the39 vs ≡ reset_of command vs
unfolding reset_of
reset_is command vs = reset_from_lem command 0 vs

-- a telegram with a verdict and a deed, heard by a head
module _ (t : Telegram) (hit : ℕ) (h : Head) (at : ℕ) (c : Command) (k : Kind) where
  abbrev n : Head
  n = hearing hit at h

  abbrev pub judged : Verdict → Deed → Judged
  judged v d = record { telegram = t; hit = hit; command = c; kind = k; verdict = v; deed = d }

  abbrev pub after : Verdict → Deed → Head
  after v d = told_of (judged v d) h at

  abbrev mode : ℕ
  mode = value_at h.stored.values mode_place

  -- no value is stored
  pub silent_after : n ≡ after Silent Nothing
  unfolding hearing counted told_of stored_by faults_by complained_of counted_of raised_of measurement_by targets_by restarts_of started_of empty_ear
  silent_after = rw (turned_same mode h.targets)

  pub nothing_after : n ≡ after Obeyed Nothing
  unfolding hearing counted told_of stored_by faults_by complained_of counted_of raised_of measurement_by targets_by restarts_of started_of empty_ear
  nothing_after = rw (turned_same mode h.targets)

  -- an error reply enters the input list, and a value of D2h outside its range drops the offer
  pub refused_after : (f : Fault) (drops : Bool)
      → (let x = cond drops (offer 0 n) n in with_faults x (with_inputs x.faults (remembered_of x.faults.inputs (code_of f)))) ≡ after (Refused f) (cond drops Withdraw Nothing)
  unfolding offer hearing counted told_of stored_by faults_by complained_of counted_of raised_of measurement_by targets_by restarts_of started_of empty_ear
  refused_after f true = rw (turned_same mode h.targets)
  refused_after f false = rw (turned_same mode h.targets)

  pub unlock_after : (b : Bool) → unlock b n ≡ after Obeyed (Unlock b)
  unfolding unlock hearing counted told_of stored_by faults_by complained_of counted_of raised_of measurement_by targets_by restarts_of started_of empty_ear
  unlock_after b = rw (turned_same mode h.targets)

  pub offer_after : (number : ℕ) → offer number n ≡ after Obeyed (Offer number)
  unfolding offer hearing counted told_of stored_by faults_by complained_of counted_of raised_of measurement_by targets_by restarts_of started_of empty_ear
  offer_after number = rw (turned_same mode h.targets)

  pub calibrate_after : calibrate n ≡ after Obeyed Calibrate
  unfolding calibrate hearing counted told_of stored_by faults_by complained_of counted_of raised_of measurement_by calibrated_of targets_by restarts_of started_of empty_ear place the39
  calibrate_after = rw (turned_same mode h.targets)

  pub freeze_after : freeze n ≡ after Obeyed Freeze
  unfolding freeze hearing counted told_of stored_by faults_by complained_of counted_of raised_of measurement_by frozen_of targets_by restarts_of started_of empty_ear
  freeze_after = rw (turned_same mode h.targets, ← current_is n)

  pub release_after : release n ≡ after Obeyed Release
  unfolding release hearing counted told_of stored_by faults_by complained_of counted_of raised_of measurement_by released_of targets_by restarts_of started_of empty_ear
  release_after = rw (turned_same mode h.targets)

  pub forget_after : forget_errors n ≡ after Obeyed Forget
  unfolding forget_errors hearing counted told_of stored_by faults_by complained_of counted_of raised_of measurement_by targets_by restarts_of started_of empty_ear
  forget_after = rw (turned_same mode h.targets)

  pub clear_after : clear_static n ≡ after Obeyed ClearStatic
  unfolding clear_static hearing counted told_of stored_by faults_by complained_of counted_of raised_of measurement_by targets_by cleared_of restarts_of started_of empty_ear
  clear_after = rw (turned_same mode (cleared_of h.targets))

  pub restart_after : restart n ≡ after Obeyed Restart
  unfolding restart hearing counted told_of restarted_of stored_by restarted_stored faults_by complained_of counted_of raised_of restarted_faults measurement_by restarted_measurement no_targets restarts_of stopped empty_ear place the39
  restart_after = refl

  pub first_after : (v word : ℕ) → aim_first v word n ≡ after Obeyed (Aim1 v word)
  unfolding aim_first acknowledge hearing counted told_of stored_by faults_by complained_of counted_of raised_of acknowledged_of measurement_by targets_by first_aimed given_of is_display restarts_of started_of empty_ear place the39
  first_after v word = rw (turned_same mode _)

  pub second_after : (v word : ℕ) → aim_second v word n ≡ after Obeyed (Aim2 v word)
  unfolding aim_second acknowledge hearing counted told_of stored_by faults_by complained_of counted_of raised_of acknowledged_of measurement_by targets_by second_aimed given_of settled_of is_display restarts_of started_of empty_ear place the39
  second_after v word =
      settle_is (with_targets (acknowledge word n) (given_of (displays n) word (second_aimed v word n.targets)))
      ∙ rw (turned_same mode _)

  -- values are stored
  pub store_after : (a v : ℕ) → store a v n ≡ after Obeyed (Store (place a) v)
  unfolding store with_the39 hearing counted told_of stored_by faults_by complained_of counted_of raised_of measurement_by targets_by is_display restarts_of started_of empty_ear place the39
  store_after a v = rw (turned_is mode (value_at (set h.stored.values (place a) v) mode_place) h.targets)

  pub reset_after : (command : ℕ) → reset command n ≡ after Obeyed (Reset command)
  unfolding reset with_the39 hearing counted told_of stored_by faults_by complained_of counted_of raised_of measurement_by targets_by is_display restarts_of started_of empty_ear place the39
  reset_after command = rw (reset_is command h.stored.values, turned_is mode (value_at (reset_of command h.stored.values) mode_place) h.targets)
