-- Auto-ID, proved: the verdict on a telegram of D2h computes, and what it does to the offer is told by its deed; a key state that adopts is one call of the
-- account, with which the head agrees (Sim).
-- Assumes nothing.
use Rattle.std.specs.Prelude.{Ok, is_some}
use Prim.Native.Nat.{ℕ, ◌<◌, ◌≤◌}
use native.Mathlib.Omega.{arith}
use mathlib.Core.Path.{◌≡◌, refl, ◌∙◌, ap}
use mathlib.Core.Bool.{Bool, true, false, cond, not, ◌&&◌, ◌||◌, and-eq-true_iff, and-false, or-false, or-true}
use mathlib.Core.Logic.{◌≢◌, ◌⊎◌, inl, inr}
use mathlib.Core.List.{List}
use borrow.Author.Tests.{eqb-true, eq-eqb, ne_eqb, le-ltb, lt-ltb, le-leb}
use lib.Dec.{eqb}
use lib.ListN.{length}
use Rattle.wire.specs.declared.telegram.Telegram.{Telegram}
use Rattle.wire.specs.declared.fault.Fault.TheVariants.{Below, Above, NoAccess, ReadRefused, DeviceState}
use Rattle.wire.specs.Check.{hit_of}
use Rattle.wire.specs.Telegram.{fields_of, ten_in}
use Rattle.rows.specs.Kinds.{kind_of}
use Rattle.rows.proofs.Groups.{either}
use Rattle.judge.specs.declared.deed.Deed.{Deed}
use Rattle.judge.specs.declared.deed.Deed.TheVariants.{Nothing, Restart, Offer, Withdraw}
use Rattle.judge.specs.declared.judged.Judged.{Judged}
use Rattle.judge.specs.declared.verdict.Verdict.TheVariants.{Obeyed, Silent, Refused}
use Rattle.judge.specs.Checks.{◌else◌, sum_check, node_check, range_check}
use Rattle.judge.specs.Commands.{command_of, casts_of}
use Rattle.judge.specs.Deeds.{done_by, shown_by, deed_of}
use Rattle.judge.specs.Judged.{judged_of}
use Rattle.judge.proofs.Laws.{is_obeyed}
use Rattle.judge.proofs.Offers.{offer_range, assignment_of, assignment_is}
use Rattle.state.specs.declared.parts.Head.{Head}
use Rattle.state.specs.declared.parts.Stored as parts
use Rattle.effects.specs.Stored.{stored_by}
use Rattle.effects.specs.Faults.{complained_of, faults_by}
use Rattle.effects.specs.Measured.{measurement_by}
use Rattle.state.specs.Settings.{mode_place}
use Rattle.state.specs.With.{with_stored, with_offer}
use Rattle.effects.specs.Aimed.{targets_by}
use Rattle.effects.proofs.Turns.{turned_same}
use Rattle.reply.specs.Reply.{silence, value_reply, reply_of}
use Rattle.reply.proofs.Replies.{silent_none}
use Rattle.head.specs.Hear.{gathered_of, standing_of, restarts_of, told_of, passed_of}
use Rattle.head.specs.Moves.{pressed_of}
use Rattle.head.proofs.Refused.{refused, unheeded_only}
use Rattle.line.specs.Calls.{keys_of, keys_space_of}
use Rattle.line.proofs.Theorems.{keys_one}
use Rattle.demands.specs.Calls.{Calls, ◌▸◌, keys, Bytes}
use Rattle.demands.specs.Past.{writes, casts, lockable, offerable, accepted, withdrawn, adopting, pressing, pressed, asked, grown, change, look, next, account, count, serials, entry, value, in_force}
use Rattle.demands.specs.Run.{product, after, built, runs, run, head_in}
use Rattle.demands.specs.Alone as alone
use Rattle.demands.specs.Alone.{Taken, Announced}
use Rattle.demands.specs.Lines.{Fits}
use Rattle.demands.specs.Every.{Passed}
use Rattle.demands.specs.Demand3.{ReadsBack}
use Rattle.demands.specs.AutoId.{Assigns, Complains, Offers, TakenAt, adopts_at, offer_at, AutoId, Story, cases, AllOffered}
use Rattle.demands.proofs.Computing.{computing}
use Rattle.demands.proofs.Sorts as sorts
use Rattle.demands.proofs.Sorts.{Sort, sort_of, value_kind, system_kind, interlock_kind, assignment_kind, other_deed}
use Rattle.demands.proofs.Telegram.{system_way, deed_is}
use Rattle.demands.proofs.Answers.{obeys, keeps_silent}
use Rattle.demands.proofs.Telling.{deed_stays, refused_told}
use Rattle.demands.proofs.Every.{passed_keeps, silent_is}
use Rattle.demands.proofs.Alone as keyed
use Rattle.demands.proofs.Lines.{line_presses}
use Rattle.demands.proofs.Sim.{sim, fits, adopts_is}
use Rattle.demands.proofs.Range.{well_at, offer_small}
use Rattle.demands.proofs.Back.{now_back}

-- ---- a telegram of D2h that is sound and for this head: its verdict is that of checks 3 to 7
module _ (h : Head) (ten : List ℕ) where
  abbrev t : Telegram
  t = fields_of ten

  abbrev j : Judged
  j = judged_of ten (standing_of h)

  assigned : (c : ℕ) → Assigns h ten c → j.verdict ≡ assignment_of (command_of c) (eqb h.stored.number 31) (offer_range t.value)
  unfolding judged_of standing_of sum_check node_check ◌else◌
  assigned c a =
      rw (assignment_is (hit_of ten) t (standing_of h) a.assigns, a.sound, a.commanded, eq-eqb t.node h.stored.number a.here, or-true (casts_of (command_of c)))

  -- an offer in range is obeyed, remembered, and not answered
  module _ (a : Assigns h ten 1) (n : h.stored.number ≡ 31) (low : 1 ≤ t.value) (high : t.value ≤ 31) where
    obeyed : j.verdict ≡ Obeyed
    unfolding command_of range_check
    obeyed = assigned 1 a ∙ rw (eq-eqb h.stored.number 31 n, le-ltb t.value 1 low, le-ltb 31 t.value high)

    offers : j.deed ≡ Offer t.value
    unfolding judged_of deed_of done_by command_of
    offers = rw (obeyed, a.commanded, a.assigns, assignment_kind)

    mute : (after : Head) → is_some (reply_of j h after) ≡ false
    unfolding judged_of reply_of value_reply silence command_of
    mute after = rw (obeyed, a.commanded, a.assigns)

    told_offer : (at : ℕ) → told_of j h at ≡ with_stored (passed_of h at) (with_offer h.stored t.value)
    unfolding told_of stored_by faults_by complained_of measurement_by targets_by restarts_of passed_of judged_of
    told_offer at = rw (offers, obeyed, a.sound, turned_same (alone.setting h mode_place) h.targets)

  -- one outside the range is refused, and the offer is dropped
  told_drop : (at : ℕ) → t.parameter ≡ 0xD2 → (j.verdict ≡ Refused Below) ⊎ (j.verdict ≡ Refused Above) → (told_of j h at).stored.offer ≡ 0
  told_drop at p (inl v) = ap (λ (x : Head). x.stored.offer) (unheeded_only h ten at (rw v refused)) ∙ rw (v, p)
  told_drop at p (inr v) = ap (λ (x : Head). x.stored.offer) (unheeded_only h ten at (rw v refused)) ∙ rw (v, p)

  below : Assigns h ten 1 → h.stored.number ≡ 31 → t.value ≡ 0 → j.verdict ≡ Refused Below
  unfolding command_of range_check
  below a n v = assigned 1 a ∙ rw (eq-eqb h.stored.number 31 n, v)

  above : Assigns h ten 1 → h.stored.number ≡ 31 → 31 < t.value → j.verdict ≡ Refused Above
  unfolding command_of range_check
  above a n v = assigned 1 a ∙ rw (eq-eqb h.stored.number 31 n, le-ltb t.value 1 (omega arith), lt-ltb 31 t.value v)

  elsewhere : Assigns h ten 1 → h.stored.number ≢ 31 → j.verdict ≡ Refused DeviceState
  unfolding command_of
  elsewhere a n = assigned 1 a ∙ rw (ne_eqb h.stored.number 31 n)

  unread : Assigns h ten 0 → j.verdict ≡ Refused ReadRefused
  unfolding command_of
  unread a = assigned 0 a

  beyond : (c : ℕ) → 2 < c → Assigns h ten c → j.verdict ≡ Refused NoAccess
  unfolding command_of
  beyond c l a = assigned c a ∙ rw (ne_eqb c 0 (λ z. omega arith), ne_eqb c 1 (λ z. omega arith), ne_eqb c 2 (λ z. omega arith))

  told_passed : (at : ℕ) (a : Assigns h ten 1) → h.stored.number ≡ 31 → 1 ≤ t.value → t.value ≤ 31 → Passed h (told_of j h at) at t.value
  told_passed at a n low high =
      let p = passed_keeps h at in
      rw (told_offer a n low high at)
      (record { values = refl; number = refl; baud = refl; unlocked = refl; offer = refl; memory = p.memory; inputs = p.inputs; pending = p.pending; hit = p.hit; damaged = p.damaged; measurement = p.measurement; targets = p.targets; monitor = p.monitor; gathered = p.gathered; keys = p.keys })

  told_silent : (at : ℕ) → hit_of ten ≡ 0 → j.verdict ≡ Silent → Passed h (told_of j h at) at h.stored.offer
  told_silent at s v = rw (silent_is h ten at s v) (passed_keeps h at)

  uncast : hit_of ten ≡ 0 → t.command ≡ 2 → t.parameter ≡ 0xD2 → j.verdict ≡ Silent
  unfolding judged_of sum_check node_check ◌else◌ command_of
  uncast s c p = rw (assignment_is (hit_of ten) t (standing_of h) p, s, c)

  -- ---- what leaves the offer: every deed but an offer and its dropping
  abbrev Leaves : Deed → Type 0
  Leaves d = (s : parts.Stored) → (stored_by d s).offer ≡ s.offer

  -- what is accepted at D2h, or drops the offer, is a sound write there, at 31
  accepted_assigns : t.parameter ≡ 0xD2 → accepted h.stored.number (standing_of h).locked ten ≡ true → Assigns h ten 1 × (h.stored.number ≡ 31)
  unfolding accepted
  accepted_assigns p e =
      let one = (and-eq-true_iff (eqb (hit_of ten) 0) _).0 e in
      let two = (and-eq-true_iff (writes h.stored.number t || casts t) _).0 one.1 in
      let three = (and-eq-true_iff (not ((standing_of h).locked && lockable t.parameter)) _).0 two.1 in
      let four = (and-eq-true_iff (offerable h.stored.number t.parameter) _).0 three.1 in
      let wrote = (and-eq-true_iff (eqb t.command 1) _).0 (simp (and-false, or-false) at (rw p at two.0)) in
      let mine = (and-eq-true_iff (eqb t.node h.stored.number) _).0 wrote.1 in
      (record { sound = eqb-true _ 0 one.0; commanded = eqb-true _ 1 wrote.0; here = eqb-true _ _ mine.0; assigns = p }, eqb-true _ 31 (rw p at four.0))

  withdrawn_assigns : withdrawn h.stored.number ten ≡ true → Assigns h ten 1 × (h.stored.number ≡ 31)
  unfolding withdrawn
  withdrawn_assigns e =
      let one = (and-eq-true_iff (eqb (hit_of ten) 0) _).0 e in
      let two = (and-eq-true_iff (eqb t.command 1) _).0 one.1 in
      let three = (and-eq-true_iff (eqb t.node h.stored.number) _).0 two.1 in
      let four = (and-eq-true_iff (eqb t.parameter 0xD2) _).0 three.1 in
      let five = (and-eq-true_iff (eqb h.stored.number 31) _).0 four.1 in
      (record { sound = eqb-true _ 0 one.0; commanded = eqb-true _ 1 two.0; here = eqb-true _ _ three.0; assigns = eqb-true _ 0xD2 four.0 }, eqb-true _ 31 five.0)

  module _ (quiet : Assigns h ten 1 → h.stored.number ≢ 31) where
    never : {A : Type 0} → Assigns h ten 1 × (h.stored.number ≡ 31) → A
    never a = absurd (quiet a.0 a.1)

    done_leaves : accepted h.stored.number (standing_of h).locked ten ≡ true → Leaves (done_by (kind_of t.parameter) t.value t.word)
    unfolding stored_by done_by
    done_leaves e = go (sort_of t.parameter)
      where
        go : Sort t.parameter → Leaves (done_by (kind_of t.parameter) t.value t.word)
        go (sorts.value i p) = rw (value_kind t.parameter i p) (λ s. refl)
        go (sorts.system p) = rw (p, system_kind) (system_way Leaves t.value (λ _ s. refl) (λ _ s. refl) (λ _ s. refl) (λ _ s. refl))
        go (sorts.interlock p) = rw (p, interlock_kind) (λ s. refl)
        go (sorts.assignment p) = never (accepted_assigns p e)
        go (sorts.other p q r o) = other_deed Leaves t.value t.word t.parameter p q r o (λ s. refl) (λ _ s. refl) (λ _ s. refl) (λ _ s. refl) (λ _ s. refl)

    deed_leaves : Leaves j.deed
    unfolding stored_by shown_by standing_of
    deed_leaves =
        rw (deed_is ten (standing_of h))
        (go (accepted h.stored.number (standing_of h).locked ten) refl (withdrawn h.stored.number ten) refl (is_obeyed j.verdict))
      where
        go : (x : Bool) → accepted h.stored.number (standing_of h).locked ten ≡ x → (y : Bool) → withdrawn h.stored.number ten ≡ y → (z : Bool)
            → Leaves (cond x (done_by (kind_of t.parameter) t.value t.word) (cond y Withdraw (cond z (shown_by t.parameter) Nothing)))
        go true e y q z = done_leaves e
        go false e true q z = never (withdrawn_assigns q)
        go false e false q true = either Leaves (eqb t.parameter 0xFA) (λ _ s. refl) (either Leaves (eqb t.parameter 0xFE) (λ _ s. refl) (λ s. refl))
        go false e false q false = λ s. refl

    told_leaves : (at : ℕ) → j.deed ≢ Restart → (told_of j h at).stored.offer ≡ h.stored.offer
    unfolding told_of
    told_leaves at n = rw (deed_stays j.deed h.stored n).0 (deed_leaves h.stored)

-- ---- over the byte call
pub offers_met : Offers product
offers_met =
    record {
      remembers = λ h b t space k e a n low high.
          let ten = ten_in (gathered_of h.ear b t).ten in
          let s = keeps_silent h b t space k e (mute h ten a n low high _) in
          (s.0, s.1, rw (obeys h b t space k e) (told_passed h ten t a n low high));
      drops = dropped;
      elsewhere = λ h b t space k e a n. refused_told h b t space k e DeviceState (elsewhere h (ten_in (gathered_of h.ear b t).ten) a n);
      unread = λ h b t space k e a. refused_told h b t space k e ReadRefused (unread h (ten_in (gathered_of h.ear b t).ten) a);
      above = λ h b t space k e c l a. refused_told h b t space k e NoAccess (beyond h (ten_in (gathered_of h.ear b t).ten) c l a);
      uncast = λ h b t space k e s c p.
          let v = uncast h (ten_in (gathered_of h.ear b t).ten) s c p in
          let q = keeps_silent h b t space k e (silent_none _ h _ v) in
          (q.0, q.1, rw (obeys h b t space k e) (told_silent h (ten_in (gathered_of h.ear b t).ten) t s v));
      leaves = λ h b t space k e quiet n.
          ap (λ (x : Head). x.stored.offer) (obeys h b t space k e) ∙ told_leaves h (ten_in (gathered_of h.ear b t).ten) quiet t n;
    }
  where
    dropped : (h : Head) (b t : ℕ) (space : List ℕ) → Taken h space → is_some (gathered_of h.ear b t).ten ≡ true
        → let ten = ten_in (gathered_of h.ear b t).ten in Assigns h ten 1 → h.stored.number ≡ 31 → ((fields_of ten).value ≡ 0) ⊎ (31 < (fields_of ten).value)
        → Complains (product.on_head.byte h b t (length space)).heard (product.on_head.space h b t space) (cond (eqb (fields_of ten).value 0) 0x0182 0x0282)
        × ((product.on_head.byte h b t (length space)).head.stored.offer ≡ 0)
    dropped h b t space k e a n (inl v) =
        let ten = ten_in (gathered_of h.ear b t).ten in
        let is = below h ten a n v in
        rw v (refused_told h b t space k e Below is, ap (λ (x : Head). x.stored.offer) (obeys h b t space k e) ∙ told_drop h ten t a.assigns (inl is))
    dropped h b t space k e a n (inr v) =
        let ten = ten_in (gathered_of h.ear b t).ten in
        let is = above h ten a n v in
        rw (ne_eqb (fields_of ten).value 0 (λ z. omega arith))
        (refused_told h b t space k e Above is, ap (λ (x : Head). x.stored.offer) (obeys h b t space k e) ∙ told_drop h ten t a.assigns (inr is))

-- ---- after any calls: what a key state that is taken changes in the account
module _ (cs : Calls) (k s n : ℕ) (a : TakenAt cs k s n) where
  abbrev ds : Calls
  ds = cs ▸ keys k s n

  pressed_is : change (keys k s n) (count cs) (serials cs) k (entry cs k) ≡ cond (adopts_at cs k s) (adopting (offer_at cs k)) (pressing s)
  unfolding change pressed
  pressed_is = rw (lt-ltb k (count cs) a.there, eq-eqb k k refl, le-leb s 7 a.state, le-leb 10 n a.room)

  others : (r : ℕ) → r ≢ 0 → value ds k r ≡ value cs k r
  unfolding account next look
  others r ne = rw pressed_is (go (adopts_at cs k s))
    where
      go : (x : Bool) → look ((cond x (adopting (offer_at cs k)) (pressing s)).gives r) (value cs k r) ≡ value cs k r
      go true = rw (ne_eqb r 0 ne)
      go false = refl

  there : k < count ds
  unfolding account grown
  there = a.there

  module _ (e : adopts_at cs k s ≡ true) where
    adopted : (value ds k 0 ≡ offer_at cs k) × (in_force ds k ≡ offer_at cs k) × (offer_at ds k ≡ 0) × ((entry ds k).keys ≡ 0)
    unfolding account next look
    adopted = rw (pressed_is, e) (refl, refl, refl, refl)

    in_force_lem : (head_in ds k).stored.number ≡ offer_at cs k
    in_force_lem = (sim ds k there).force_is ∙ adopted.1

    reads_back : Bytes cs → ReadsBack built (head_in ds k) (offer_at cs k) 0 (offer_at cs k)
    reads_back bytes = rw (adopted.0, adopted.1) at (now_back ds k 0 (bytes, tt) there (omega arith))

-- and what the line and the head do
module _ (cs : Calls) (k s : ℕ) (space : List ℕ) (a : TakenAt cs k s (length space)) where
  here : k < (run cs).count
  here = rw (fits cs).counts a.there

  fit : Fits (run cs)
  fit = record { fits = (fits cs).fits; places = (fits cs).places }

  lent : Taken (head_in cs k) space
  lent = record { well = well_at cs k a.there; room = a.room }

  same : alone.adopts (head_in cs k) s ≡ adopts_at cs k s
  unfolding pressed_of
  same = adopts_is (head_in cs k) (entry cs k) (sim cs k a.there) s

  told : adopts_at cs k s ≡ true
      → ((keys_of (run cs) k s (length space)).heard ≡ Ok 1)
      × Announced (head_in cs k) space (keys_space_of (run cs) k s space)
      × ((head_in cs k).stored.offer ≡ offer_at cs k)
  told e =
      let p = line_presses (run cs) fit k s space here in
      let d = keyed.adopting (head_in cs k) s space lent a.state (same ∙ e) in
      (p.1 ∙ d.1, rw p.2 d.2, (sim cs k a.there).offer_is)

  silent : adopts_at cs k s ≡ false
      → ((keys_of (run cs) k s (length space)).heard ≡ Ok 0)
      × (keys_space_of (run cs) k s space ≡ space)
      × ((head_in (cs ▸ keys k s (length space)) k).stored ≡ (head_in cs k).stored)
  unfolding runs after
  silent e =
      let p = line_presses (run cs) fit k s space here in
      let d = keyed.presses (head_in cs k) s space lent a.state (same ∙ e) in
      (p.1 ∙ d.1, p.2 ∙ d.2, ap (λ (x : Head). x.stored) p.0.there ∙ d.0.stored)

apart : (cs : Calls) (k j s n : ℕ) → j ≢ k → head_in (cs ▸ keys k s n) j ≡ head_in cs j
unfolding runs after
apart cs k j s n ne = (keys_one (run cs) k s n).1 j ne

pub auto_id : AutoId product
auto_id =
    record {
      offered = λ cs k lt n. let o = offer_small cs k lt in (o.0, o.1 n);
      adopted = adopted;
      others = λ cs k s n r a. others cs k s n a r;
      in_force_lem = in_force_lem;
      reads_back = λ cs k s n bytes a e. reads_back cs k s n a e bytes;
      told = told;
      silent = silent;
      alone = λ cs k j s n lt ne. apart cs k j s n ne;
    }

-- ---- computed
pub story : Story product
unfolding computing
story =
    record {
      no_reply_lem = refl;
      remembered = (refl, refl);
      first = (refl, refl);
      second = (refl, refl);
      at_five = refl;
      at_six = refl;
      at_none = refl;
      reads = (refl, refl);
    }

pub all_offered : AllOffered cases
unfolding computing asked cases
all_offered = (refl, (refl, (refl, (refl, (refl, (refl, (refl, (refl, (refl, (refl, (refl, (refl, (refl, (refl, (refl, (refl, (refl, tt)))))))))))))))))
