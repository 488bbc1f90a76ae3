-- What an accepted write or broadcast does, by its address: each deed by itself, and which of them an address is.
-- Assumes nothing.
use Rattle.std.specs.Prelude.{None}
use Prim.Native.Nat.{ℕ}
use mathlib.Core.Path.{◌≡◌, refl, sym, ◌∙◌, ap}
use mathlib.Core.Bool.{Bool, true, false, cond, not, ◌&&◌, ◌||◌, or-false, true≢false}
use borrow.Author.Tests.{eqb-true}
use lib.Dec.{eqb}
use Rattle.rows.specs.Table.{place_of}
use Rattle.rows.specs.Kinds.{kind_of}
use Rattle.judge.specs.declared.deed.Deed.{Deed}
use Rattle.judge.specs.declared.deed.Deed.TheVariants.{Nothing, Store, Reset, Calibrate, Forget, Unlock, Freeze, Aim1, Aim2, Offer}
use Rattle.judge.specs.Deeds.{system_of, done_by}
use Rattle.state.specs.declared.parts.Head.{Head}
use Rattle.state.specs.declared.parts.Ear.{Ear}
use Rattle.state.specs.declared.parts.Faults.{Faults}
use Rattle.state.specs.declared.parts.Measurement.{Measurement}
use Rattle.state.specs.declared.parts.Monitor.{Monitor}
use Rattle.state.specs.declared.parts.Targets.{Targets}
use Rattle.state.specs.Bits.{bit_set}
use Rattle.state.specs.Settings.{mode_place}
use Rattle.state.specs.Mode.{is_display}
use Rattle.state.specs.Status.{aimed_of, within_of}
use Rattle.state.proofs.Laws.{within_bit}
use Rattle.state.specs.With.{with_pending}
use Rattle.effects.specs.Stored.{stored_by}
use Rattle.effects.specs.Faults.{acknowledged_of, faults_by}
use Rattle.effects.specs.Measured.{calibrated_of, frozen_of, measurement_by}
use Rattle.effects.specs.Aimed.{settled_of, first_aimed, second_aimed, given_of, stays_of, turned_of, targets_by}
use Rattle.effects.proofs.Turns.{turned_same}
use Rattle.head.specs.Hear.{retargeted}
use Rattle.demands.specs.Alone.{setting, stays}
use Rattle.demands.specs.Acts.{Act, act_of, Acted}
use Rattle.demands.proofs.Sorts.{Sort, value, system, interlock, assignment, other, sort_of, value_kind, first_kind, second_kind, calibration_kind, freezing_kind, system_kind, interlock_kind, assignment_kind, other_deed, first_nowhere, second_nowhere, calibration_nowhere, freezing_nowhere, value_apart, value_system}

-- ---- the acts: none, and each of the five
abbrev act : Bool → Bool → Bool → Bool → Bool → Act
act first second calibrates freezes empties = record { first = first; second = second; calibrates = calibrates; freezes = freezes; empties = empties }

abbrev idle : Act
idle = act false false false false false

-- a deed, on a head whose errors were counted already
module _ (h : Head) (f : Faults) (pending-is : f.pending ≡ h.faults.pending) (memory-is : f.memory ≡ h.faults.memory)
    (inputs-is : f.inputs ≡ h.faults.inputs) (started : Monitor) (emptied : Ear) where
  abbrev pub after : Deed → Head
  after d =
      record {
        stored = stored_by d h.stored;
        faults = faults_by d h.targets.word f;
        measurement = measurement_by d h.stored.values h.measurement;
        targets = retargeted d h;
        monitor = started;
        ear = emptied;
        keys = h.keys;
      }

  rests : (d : Deed) (v w : ℕ) → targets_by d h.stored.values h.measurement h.targets ≡ h.targets
      → measurement_by d h.stored.values h.measurement ≡ h.measurement → faults_by d h.targets.word f ≡ f → Acted h (after d) idle v w
  unfolding turned_of stays_of is_display
  rests d v w p q r =
      record {
        first = ap (λ (t : Targets). t.first) p;
        valid1 = ap (λ (t : Targets). stays h (after d) && t.valid1) p;
        second = ap (λ (t : Targets). t.second) p;
        valid2 = ap (λ (t : Targets). stays h (after d) && t.valid2) p;
        word = ap (λ (t : Targets). t.word) p;
        reached = ap (λ (t : Targets). stays h (after d) && t.reached) p;
        acknowledged1 = ap (λ (t : Targets). stays h (after d) && t.acknowledged1) p;
        acknowledged2 = ap (λ (t : Targets). stays h (after d) && t.acknowledged2) p;
        pending = ap (λ (g : Faults). g.pending) r ∙ pending-is;
        memory = ap (λ (g : Faults). g.memory) r ∙ memory-is;
        inputs = ap (λ (g : Faults). g.inputs) r ∙ inputs-is;
        zero = ap (λ (g : Measurement). g.zero) q;
        adopted = ap (λ (g : Measurement). g.adopted) q;
        frozen = ap (λ (g : Measurement). g.frozen) q;
        kept = ap (λ (g : Measurement). g.kept) q;
        m = ap (λ (g : Measurement). g.m) q;
        incremental = ap (λ (g : Measurement). g.incremental) q;
        start = ap (λ (g : Measurement). g.start) q;
        keys = refl;
      }

  acknowledges : (x : Bool) → let g = cond x (with_pending f 0) f in
      (g.pending ≡ cond x 0 h.faults.pending) × (g.memory ≡ h.faults.memory) × (g.inputs ≡ h.faults.inputs)
  acknowledges true = (refl, memory-is, inputs-is)
  acknowledges false = (pending-is, memory-is, inputs-is)

  takes_first : (v w : ℕ) → Acted h (after (Aim1 v w)) (act true false false false false) v w
  unfolding stored_by targets_by turned_of stays_of is_display given_of first_aimed measurement_by faults_by acknowledged_of
  takes_first v w =
      let a = acknowledges (bit_set w 5 && not (bit_set h.targets.word 5)) in
      record { first = refl; valid1 = refl; second = refl; valid2 = refl; word = refl; reached = ap (λ (b : Bool). stays h (after (Aim1 v w)) && b) (sym (or-false (h.targets.reached && not (bit_set w 4)))); acknowledged1 = refl; acknowledged2 = refl; pending = a.0; memory = a.1; inputs = a.2; zero = refl; adopted = refl; frozen = refl; kept = refl; m = refl; incremental = refl; start = refl; keys = refl }

  takes_second : (v w : ℕ) → Acted h (after (Aim2 v w)) (act false true false false false) v w
  unfolding stored_by targets_by turned_of stays_of is_display given_of settled_of second_aimed measurement_by faults_by acknowledged_of within_of aimed_of
  takes_second v w =
      let a = acknowledges (bit_set w 5 && not (bit_set h.targets.word 5)) in
      let t = targets_by (Aim2 v w) h.stored.values h.measurement h.targets in
      let e = ap (within_of h.stored.values h.measurement) (sym (turned_same (setting h mode_place) t)) ∙ within_bit (after (Aim2 v w)) in
      record { first = refl; valid1 = refl; second = refl; valid2 = refl; word = refl; reached = ap (λ (b : Bool). stays h (after (Aim2 v w)) && ((h.targets.reached && not (bit_set w 4)) || b)) e; acknowledged1 = refl; acknowledged2 = refl; pending = a.0; memory = a.1; inputs = a.2; zero = refl; adopted = refl; frozen = refl; kept = refl; m = refl; incremental = refl; start = refl; keys = refl }

  calibrating : (v w : ℕ) → Acted h (after Calibrate) (act false false true false false) v w
  unfolding stored_by targets_by turned_of stays_of is_display measurement_by calibrated_of faults_by
  calibrating v w =
      record { first = refl; valid1 = refl; second = refl; valid2 = refl; word = refl; reached = refl; acknowledged1 = refl; acknowledged2 = refl; pending = pending-is; memory = memory-is; inputs = inputs-is; zero = refl; adopted = refl; frozen = refl; kept = refl; m = refl; incremental = refl; start = refl; keys = refl }

  freezing : (v w : ℕ) → Acted h (after Freeze) (act false false false true false) v w
  unfolding stored_by targets_by turned_of stays_of is_display measurement_by frozen_of faults_by
  freezing v w =
      record { first = refl; valid1 = refl; second = refl; valid2 = refl; word = refl; reached = refl; acknowledged1 = refl; acknowledged2 = refl; pending = pending-is; memory = memory-is; inputs = inputs-is; zero = refl; adopted = refl; frozen = refl; kept = refl; m = refl; incremental = refl; start = refl; keys = refl }

  emptying : (v w : ℕ) → Acted h (after Forget) (act false false false false true) v w
  unfolding stored_by targets_by turned_of stays_of is_display measurement_by faults_by
  emptying v w =
      record { first = refl; valid1 = refl; second = refl; valid2 = refl; word = refl; reached = refl; acknowledged1 = refl; acknowledged2 = refl; pending = pending-is; memory = refl; inputs = inputs-is; zero = refl; adopted = refl; frozen = refl; kept = refl; m = refl; incremental = refl; start = refl; keys = refl }

  storing : (i v w : ℕ) → Acted h (after (Store i v)) idle v w
  unfolding targets_by measurement_by faults_by
  storing i v w = rests (Store i v) v w refl refl refl

  -- ---- which deed an address is
  system_acts : (v w : ℕ) → eqb v 9 ≡ false → Acted h (after (system_of v)) (act false false (eqb v 7) false (eqb v 8)) v w
  unfolding system_of targets_by measurement_by faults_by
  system_acts v w n = go (eqb v 7) refl (eqb v 8) refl
    where
      go : (x : Bool) → eqb v 7 ≡ x → (y : Bool) → eqb v 8 ≡ y → Acted h (after (system_of v)) (act false false (eqb v 7) false (eqb v 8)) v w
      go true p y q = rw (eqb-true v 7 p) (calibrating 7 w)
      go false p true q = rw (eqb-true v 8 q) (emptying 8 w)
      go false p false q = rw (p, q, n) (rests (Reset v) v w refl refl refl)

  other_acts : (a v w : ℕ) → place_of a ≡ None → eqb a 0xA0 ≡ false → eqb a 0xA8 ≡ false → eqb a 0xD2 ≡ false
      → Acted h (after (done_by (kind_of a) v w)) (act_of a v) v w
  unfolding done_by targets_by measurement_by faults_by
  other_acts a v w e p q r = go (eqb a 0xFB) refl (eqb a 0xFF) refl (eqb a 0xA7) refl (eqb a 0xAA) refl
    where
      never : {b : Bool} {A : Type 0} → b ≡ true → b ≡ false → A
      never x y = absurd (true≢false (sym x ∙ y))

      go : (x : Bool) → eqb a 0xFB ≡ x → (y : Bool) → eqb a 0xFF ≡ y → (z : Bool) → eqb a 0xA7 ≡ z → (u : Bool) → eqb a 0xAA ≡ u
          → Acted h (after (done_by (kind_of a) v w)) (act_of a v) v w
      go true x y k z l u m = rw (eqb-true a 0xFB x, first_kind) (takes_first v w)
      go false x true k z l u m = rw (eqb-true a 0xFF k, second_kind) (takes_second v w)
      go false x false k true l u m = rw (eqb-true a 0xA7 l, calibration_kind) (calibrating v w)
      go false x false k false l true m = rw (eqb-true a 0xAA m, freezing_kind) (freezing v w)
      go false x false k false l false m =
          rw (x, k, l, m, p)
          (other_deed (λ d. Acted h (after d) idle v w) v w a e p q r (rests Nothing v w refl refl refl) (λ t. never t l) (λ t. never t m) (λ t. never t x) (λ t. never t k))

  pub done_acts : (a v w : ℕ) → (eqb a 0xA0 && eqb v 9) ≡ false → Acted h (after (done_by (kind_of a) v w)) (act_of a v) v w
  unfolding done_by targets_by measurement_by faults_by
  done_acts a v w n = go (sort_of a)
    where
      go : Sort a → Acted h (after (done_by (kind_of a) v w)) (act_of a v) v w
      go (value i e) =
          rw (value_kind a i e, value_apart a i 0xFB e first_nowhere, value_apart a i 0xFF e second_nowhere, value_apart a i 0xA7 e calibration_nowhere, value_apart a i 0xAA e freezing_nowhere, value_system a i e)
          (storing i v w)
      go (system e) = rw (e, system_kind) (system_acts v w (rw e at n))
      go (interlock e) = rw (e, interlock_kind) (rests (Unlock (eqb v 1)) v w refl refl refl)
      go (assignment e) = rw (e, assignment_kind) (rests (Offer v) v w refl refl refl)
      go (other e p q r) = other_acts a v w e p q r
