-- What power, a tick, a measurement and a key state do to a head alone: each sentence, by the tests that it names.
-- Assumes nothing.
use Rattle.std.specs.Prelude.{Ok, Some}
use Prim.Native.Nat.{ℕ, ◌<◌, ◌≤◌}
use native.Mathlib.Omega.{arith}
use mathlib.Core.Path.{◌≡◌, refl, sym, ◌∙◌, ap}
use mathlib.Core.Bool.{Bool, true, false, cond, not, ◌&&◌, ◌||◌, or-false, true≢false}
use mathlib.Core.List.{List, [], ◌∷◌}
use borrow.Author.Tests.{eqb-true, le-leb, le-ltb}
use lib.Dec.{eqb}
use lib.IntN.{ℤ}
use lib.ListN.{length, drop, length-append, length-drop}
use lib.Seq.{get_or-set_same, get_or-set_other, take_at, drop_at}
use Rattle.wire.specs.declared.telegram.Telegram.{Telegram}
use Rattle.wire.specs.Telegram.{fields_of}
use Rattle.wire.proofs.Laws.{built_fields}
use Rattle.rows.specs.Table.{rows}
use Rattle.rows.specs.Ranges.{all_right_of}
use Rattle.state.specs.declared.parts.Head.{Head}
use Rattle.state.specs.declared.parts.Targets.{Targets}
use Rattle.state.specs.Settings.{calibration_key_place, calibration_place}
use Rattle.state.specs.Mode.{is_display}
use Rattle.state.specs.Errors.{empty_list}
use Rattle.state.specs.Status.{aimed_of, status_of, within_of}
use Rattle.state.specs.Wellformed.{in_reach_of, wellformed_of}
use Rattle.state.specs.Older.{older_fits}
use Rattle.state.proofs.Laws.{within_bit, status_fits, told, stored_told, offer_told}
use Rattle.state.specs.With.{with_stored, with_targets, with_keys}
use Rattle.effects.specs.Stored.{adopted_stored, restarted_stored}
use Rattle.effects.specs.Faults.{raised_of, restarted_faults}
use Rattle.effects.specs.Measured.{calibrated_of, moved_of, restarted_measurement}
use Rattle.effects.specs.Aimed.{no_targets, settled_of, lacking_of, all_given_of}
use Rattle.effects.specs.Restart.{empty_ear, stopped, restarted_of, adopted_of, fresh_of}
use Rattle.reply.specs.Reply.{adoption_of}
use Rattle.reply.proofs.Replies.{adoption_sound, adoption_ten}
use Rattle.head.specs.declared.calls.Called.{Called}
use Rattle.head.specs.Hear.{elapsed_of}
use Rattle.head.specs.Moves.{overdue_of, ticked_of, measured_of, pressed_of, left_of, star_of, star_taken, keyed_of}
use Rattle.head.specs.Outcome as alone
use Rattle.head.specs.Calls.{node_fits, made_of, laid_on_of, fed_with, space_with, tick_of, measure_of, keys_of, keys_space_of, power_of, bring_of}
use Rattle.head.proofs.Passes.{unanswered}
use Rattle.demands.specs.Past.{since}
use Rattle.demands.specs.Alone.{Taken, overdue, newly, adopts, setting, displays, lacks, left_gives, star_gives, Restarted, Ticked, Measured, Keyed, Adopted, Announces, Announced, Brought, New}
use Rattle.demands.proofs.Older.{brought}
use Rattle.demands.proofs.Sim.{fresh_values}

pub restarted : (h : Head) → Restarted h (restarted_of h)
unfolding restarted_of restarted_stored restarted_faults restarted_measurement no_targets stopped empty_ear empty_list
restarted h =
    record { values = refl; unlocked = refl; memory = refl; zero = refl; adopted = refl; m = refl; number = refl; baud = refl; offer = refl; first = refl; valid1 = refl; second = refl; valid2 = refl; word = refl; reached = refl; acknowledged1 = refl; acknowledged2 = refl; pending = refl; hit = refl; damaged = refl; inputs = refl; keys = refl; frozen = refl; kept = refl; incremental = refl; start = refl; running = refl; since' = refl; gathered = refl }

pub ticked : (h : Head) (t : ℕ) → Ticked h (ticked_of h t) t
unfolding ticked_of overdue_of elapsed_of since raised_of stopped
ticked h t = go (overdue h t) refl
  where
    go : (late : Bool) → overdue h t ≡ late → Ticked h (ticked_of h t) t
    go true e = record { pending = rw e; memory = rw e; running = rw e; since' = rw e; inputs = rw e; hit = rw e; damaged = rw e; stored = rw e; measurement = rw e; targets = rw e; ear = rw e; keys = rw e }
    go false e = record { pending = rw e; memory = rw e; running = rw e; since' = rw e; inputs = rw e; hit = rw e; damaged = rw e; stored = rw e; measurement = rw e; targets = rw e; ear = rw e; keys = rw e }

pub measured : (h : Head) (m : ℤ) → Measured h (measured_of h m) m
unfolding measured_of moved_of settled_of within_of aimed_of is_display
measured h m =
    record { m = refl; reached = ap (λ (b : Bool). h.targets.reached || b) (within_bit (measured_of h m)); zero = refl; adopted = refl; incremental = refl; start = refl; frozen = refl; kept = refl; first = refl; valid1 = refl; second = refl; valid2 = refl; word = refl; acknowledged1 = refl; acknowledged2 = refl; stored = refl; faults = refl; monitor = refl; ear = refl; keys = refl }

-- ---- a key state: what left does, then star
abbrev Left : Bool → Head → Head → Type 0
Left on x y =
    let giving = on && (eqb x.faults.pending 0 && lacks x) in
    let calibrating = on && (eqb x.faults.pending 0 && (not (lacks x) && eqb (setting x calibration_key_place) 1)) in
    (y.faults.pending ≡ cond on 0 x.faults.pending)
    × (y.measurement.zero ≡ cond calibrating x.measurement.m x.measurement.zero)
    × (y.measurement.adopted ≡ cond calibrating (setting x calibration_place) x.measurement.adopted)
    × (y.measurement.incremental ≡ x.measurement.incremental)
    × (y.measurement.start ≡ x.measurement.start)
    × (y.measurement.m ≡ x.measurement.m)
    × (y.measurement.frozen ≡ x.measurement.frozen)
    × (y.measurement.kept ≡ x.measurement.kept)
    × (y.faults.memory ≡ x.faults.memory)
    × (y.faults.inputs ≡ x.faults.inputs)
    × (y.faults.hit ≡ x.faults.hit)
    × (y.faults.damaged ≡ x.faults.damaged)
    × (y.stored ≡ x.stored)
    × (y.targets ≡ cond giving (all_given_of x.targets) x.targets)
    × (y.monitor ≡ x.monitor)
    × (y.ear ≡ x.ear)
    × (y.keys ≡ x.keys)

left : (on : Bool) (x : Head) → Left on x (left_of on x)
unfolding left_of calibrated_of is_display lacking_of
left false x = (refl, refl, refl, refl, refl, refl, refl, refl, refl, refl, refl, refl, refl, refl, refl, refl, refl)
left true x = go (eqb x.faults.pending 0) refl (lacks x) refl (eqb (setting x calibration_key_place) 1) refl
  where
    go : (clear : Bool) → eqb x.faults.pending 0 ≡ clear → (lacking : Bool) → lacks x ≡ lacking → (may : Bool) → eqb (setting x calibration_key_place) 1 ≡ may
        → Left true x (left_of true x)
    go false e l g may f = rw e (refl, refl, refl, refl, refl, refl, refl, refl, refl, refl, refl, refl, refl, refl, refl, refl, refl)
    go true e true g may f = rw (e, g) (eqb-true x.faults.pending 0 e, refl, refl, refl, refl, refl, refl, refl, refl, refl, refl, refl, refl, refl, refl, refl, refl)
    go true e false g true f = rw (e, g, f) (eqb-true x.faults.pending 0 e, refl, refl, refl, refl, refl, refl, refl, refl, refl, refl, refl, refl, refl, refl, refl, refl)
    go true e false g false f = rw (e, g, f) (eqb-true x.faults.pending 0 e, refl, refl, refl, refl, refl, refl, refl, refl, refl, refl, refl, refl, refl, refl, refl, refl)

-- star touches the targets alone
abbrev Star : Bool → Head → Head → Type 0
Star on x y =
    (y.targets ≡ cond (on && (displays x && eqb (setting x 35) 2)) (all_given_of x.targets) x.targets)
    × (y ≡ with_targets x y.targets)

star : (on : Bool) (x : Head) → Star on x (star_of on x)
unfolding star_of is_display
star on x = go (on && (displays x && eqb (setting x 35) 2)) refl
  where
    go : (b : Bool) → (on && (displays x && eqb (setting x 35) 2)) ≡ b → Star on x (star_of on x)
    go true e = rw e (refl, refl)
    go false e = rw e (refl, refl)

-- what is acknowledged by left, and then by star
twice : (a b : Bool) (t : Targets) → let g = cond b (all_given_of (cond a (all_given_of t) t)) (cond a (all_given_of t) t) in
    (g.acknowledged1 ≡ (t.acknowledged1 || ((a || b) && t.valid1)))
    × (g.acknowledged2 ≡ (t.acknowledged2 || ((a || b) && t.valid2)))
    × (g.first ≡ t.first)
    × (g.valid1 ≡ t.valid1)
    × (g.second ≡ t.second)
    × (g.valid2 ≡ t.valid2)
    × (g.word ≡ t.word)
    × (g.reached ≡ t.reached)
unfolding all_given_of
twice true true t = (again t.acknowledged1 t.valid1, again t.acknowledged2 t.valid2, refl, refl, refl, refl, refl, refl)
  where
    again : (x y : Bool) → ((x || y) || y) ≡ (x || y)
    again true y = refl
    again false true = refl
    again false false = refl
twice true false t = (refl, refl, refl, refl, refl, refl, refl, refl)
twice false true t = (refl, refl, refl, refl, refl, refl, refl, refl)
twice false false t = (sym (or-false t.acknowledged1), sym (or-false t.acknowledged2), refl, refl, refl, refl, refl, refl)

module _ (h : Head) (s : ℕ) where
  -- the head once left is taken, and once star is
  abbrev lefted : Head
  lefted = left_of (newly 1 h s) (with_keys h s)

  abbrev starred : Head
  starred = star_of (newly 2 h s) lefted

  left_told : Left (newly 1 h s) (with_keys h s) lefted
  left_told = left (newly 1 h s) (with_keys h s)

  star_told : Star (newly 2 h s) lefted starred
  star_told = star (newly 2 h s) lefted

  targets_told : starred.targets ≡ (let l = cond (left_gives h s) (all_given_of h.targets) h.targets in cond (star_gives h s) (all_given_of l) l)
  targets_told = star_told.0 ∙ rw (left_told.12, left_told.13)

-- of a key state that adopts no number
pub keyed : (h : Head) (s : ℕ) → Keyed h (star_taken h s) s
unfolding pressed_of
keyed h s =
    let l = left_told h s in
    let k = (star_told h s).1 in
    let g = twice (left_gives h s) (star_gives h s) h.targets in
    let t = targets_told h s in
    record {
      keys = ap (λ (x : Head). x.keys) k ∙ l.16;
      pending = ap (λ (x : Head). x.faults.pending) k ∙ l.0;
      zero = ap (λ (x : Head). x.measurement.zero) k ∙ l.1;
      adopted = ap (λ (x : Head). x.measurement.adopted) k ∙ l.2;
      incremental = ap (λ (x : Head). x.measurement.incremental) k ∙ l.3;
      start = ap (λ (x : Head). x.measurement.start) k ∙ l.4;
      m = ap (λ (x : Head). x.measurement.m) k ∙ l.5;
      frozen = ap (λ (x : Head). x.measurement.frozen) k ∙ l.6;
      kept = ap (λ (x : Head). x.measurement.kept) k ∙ l.7;
      memory = ap (λ (x : Head). x.faults.memory) k ∙ l.8;
      inputs = ap (λ (x : Head). x.faults.inputs) k ∙ l.9;
      hit = ap (λ (x : Head). x.faults.hit) k ∙ l.10;
      damaged = ap (λ (x : Head). x.faults.damaged) k ∙ l.11;
      stored = ap (λ (x : Head). x.stored) k ∙ l.12;
      acknowledged1 = ap (λ (x : Targets). x.acknowledged1) t ∙ g.0;
      acknowledged2 = ap (λ (x : Targets). x.acknowledged2) t ∙ g.1;
      first = ap (λ (x : Targets). x.first) t ∙ g.2;
      valid1 = ap (λ (x : Targets). x.valid1) t ∙ g.3;
      second = ap (λ (x : Targets). x.second) t ∙ g.4;
      valid2 = ap (λ (x : Targets). x.valid2) t ∙ g.5;
      word = ap (λ (x : Targets). x.word) t ∙ g.6;
      reached = ap (λ (x : Targets). x.reached) t ∙ g.7;
      monitor = ap (λ (x : Head). x.monitor) k ∙ l.14;
      ear = ap (λ (x : Head). x.ear) k ∙ l.15;
    }

-- of one that does: the number is stored, which the values have a place for
some_value : (vs : List ℕ) → all_right_of vs ≡ true → 0 < length vs
unfolding all_right_of rows
some_value [] e = absurd (true≢false (sym e))
some_value (v ∷ vs) e = omega arith

adopted : (h : Head) (s : ℕ) → wellformed_of h ≡ true → Adopted h (adopted_of (star_taken h s)) s
unfolding adopted_of adopted_stored pressed_of
adopted h s w =
    let l = left_told h s in
    let k = (star_told h s).1 in
    let st : (starred h s).stored ≡ h.stored = ap (λ (x : Head). x.stored) k ∙ l.12 in
    let n = some_value h.stored.values (stored_told h.stored (told h w).stored).values in
    record {
      before = with_stored (star_taken h s) (adopted_stored (star_taken h s).stored);
      adopting = record {
        node = rw st (get_or-set_same h.stored.values 0 h.stored.offer 0 n);
        values = λ r ne. rw st (get_or-set_other h.stored.values 0 r h.stored.offer 0 ne);
        unlocked = rw st;
        zero = ap (λ (x : Head). x.measurement.zero) k ∙ l.1;
        adopted = ap (λ (x : Head). x.measurement.adopted) k ∙ l.2;
        m = ap (λ (x : Head). x.measurement.m) k ∙ l.5;
        memory = ap (λ (x : Head). x.faults.memory) k ∙ l.8;
      };
      restarted = restarted _;
    }

-- ---- the calls, where they are done
abbrev Never : Type 0
Never = ◌≡◌ {A = ℕ} 0 1

-- what is done was not refused: of a test and what it leads to
taken : (P : Called → Type 0) (b : Bool) (c d : Called) → (d.answer ≡ (Ok tt) → Never) → (c.answer ≡ (Ok tt) → P c)
    → (cond b c d).answer ≡ (Ok tt) → P (cond b c d)
taken P true c d n y e = y e
taken P false c d n y e = let z = n e in absurd (omega arith)

module _ (h : Head) where
  pub powers : (alone.called alone.power h).answer ≡ (Ok tt) → Restarted h (alone.called alone.power h).head
  unfolding alone.called power_of
  powers = taken (λ c. Restarted h c.head) (wellformed_of h) _ _ (λ e. cc) (λ _. restarted h)

  pub brings : (alone.called alone.bring h).answer ≡ (Ok tt) → Brought h (alone.called alone.bring h).head
  unfolding alone.called bring_of
  brings = taken (λ c. Brought h c.head) (older_fits h) _ _ (λ e. cc) (λ _. brought h)

  pub ticks : (t : ℕ) → (alone.called (alone.tick t) h).answer ≡ (Ok tt) → Ticked h (alone.called (alone.tick t) h).head t
  unfolding alone.called tick_of
  ticks t = taken (λ c. Ticked h c.head t) (wellformed_of h) _ _ (λ e. cc) (λ _. ticked h t)

  pub measures : (m : ℤ) → (alone.called (alone.measure m) h).answer ≡ (Ok tt) → Measured h (alone.called (alone.measure m) h).head m
  unfolding alone.called measure_of
  measures m =
      taken (λ c. Measured h c.head m) (wellformed_of h) _ _ (λ e. cc)
      (taken (λ c. Measured h c.head m) (in_reach_of m) _ _ (λ e. cc) (λ _. measured h m))

announces : (number status : ℕ) → number < 4294967296 → status < 65536 → Announces (fields_of (adoption_of status number)) number status
unfolding adoption_of
announces number status n t =
    let x : Telegram = record { command = 1; node = 31; parameter = 0xD2; word = status; value = number } in
    let e = built_fields x (record { command = omega arith; node = omega arith; parameter = omega arith; word = t; value = n }) in
    rw e record { command = refl; node = refl; parameter = refl; word = refl; value = refl }

-- what is laid where a number is adopted
announced : (h : Head) (space : List ℕ) → Taken h space → Announced h space (laid_on_of space (adoption_of (status_of h) h.stored.offer))
unfolding laid_on_of
announced h space k =
    let x = adoption_of (status_of h) h.stored.offer in
    let ten : length x ≡ 10 = adoption_ten (status_of h) h.stored.offer in
    let most = (offer_told _ _ (stored_told h.stored (told h k.well).stored).offer).0 in
    rw (le-ltb (length space) 10 k.room) record {
      long = omega (arith, length-append x (drop 10 space), length-drop 10 space, k.room);
      rest = drop_at x (drop 10 space) 10 ten;
      passes = rw (take_at x (drop 10 space) 10 ten) (adoption_sound (status_of h) h.stored.offer);
      fields = rw (take_at x (drop 10 space) 10 ten) (announces h.stored.offer (status_of h) (omega arith) (status_fits h));
    }

-- the two ways of a key state
keyed_plain : (h : Head) (s : ℕ) → adopts h s ≡ false → keyed_of h s ≡ unanswered (star_taken h s)
unfolding keyed_of pressed_of
keyed_plain h s e = rw e

keyed_adopts : (h : Head) (s : ℕ) → adopts h s ≡ true
    → keyed_of h s ≡ record { head = adopted_of (star_taken h s); reply = Some (adoption_of (status_of h) h.stored.offer) }
unfolding keyed_of pressed_of
keyed_adopts h s e = rw e

-- a key state that is taken: what the head does with it, and the space that it leaves
module _ (h : Head) (s : ℕ) (space : List ℕ) (k : Taken h space) (few : s ≤ 7) where
  pub keys_taken : (keys_of h s (length space) ≡ fed_with (keyed_of h s)) × (keys_space_of h s space ≡ space_with (keyed_of h s) space)
  unfolding keys_of keys_space_of
  keys_taken =
      let p = le-leb s 7 few in let r = le-ltb (length space) 10 k.room in (rw (k.well, p, r), rw (k.well, p, r))

  pub presses : adopts h s ≡ false
      → Keyed h (keys_of h s (length space)).head s × ((keys_of h s (length space)).heard ≡ Ok 0) × (keys_space_of h s space ≡ space)
  presses e =
      rw (keys_taken.0, keys_taken.1, keyed_plain h s e) (keyed h s, refl, refl)

  pub adopting : adopts h s ≡ true
      → Adopted h (keys_of h s (length space)).head s
      × ((keys_of h s (length space)).heard ≡ Ok 1)
      × Announced h space (keys_space_of h s space)
  adopting e =
      rw (keys_taken.0, keys_taken.1, keyed_adopts h s e) (adopted h s k.well, refl, announced h space k)

-- ---- a new head
fresh : (node serial : ℕ) → New (fresh_of node serial) node
unfolding fresh_of restarted_of restarted_stored restarted_faults restarted_measurement no_targets stopped empty_ear empty_list
fresh node serial =
    record { restarted = restarted (fresh_of node serial); memory = refl; unlocked = refl; m = refl; zero = refl; adopted = refl; values = fresh_values node }

pub makes : (node serial : ℕ) → (made_of node serial).answer ≡ (Ok tt) → New (made_of node serial).head node
unfolding made_of
makes node serial = taken (λ c. New c.head node) (node_fits node) _ _ (λ e. cc) (λ _. fresh node serial)
