-- Alpha-numeric display: what every call keeps of a head's targets, by the call and by the deed; then of every head that the calls made, by induction over the calls.
-- Assumes nothing.
use Prim.Native.Nat.{ℕ, suc, ◌+◌, ◌*◌, ◌<◌}
use mathlib.Core.Path.{◌≡◌, refl, sym, ◌∙◌, ap, subst}
use mathlib.Core.Bool.{Bool, true, false, cond, not, ◌&&◌, ◌||◌, and-eq-true_iff, and-false, true≢false}
use mathlib.Core.Logic.{◌≢◌, ◌⊎◌, inl, inr}
use mathlib.Core.List.{List, [], ◌∷◌}
use native.Mathlib.Omega.{arith}
use borrow.Author.Tests.{ne_eqb}
use lib.Dec.{leb, eqb}
use lib.ListN.{length, get_or, set}
use lib.Seq.{get_or-set_other}
use lib.IntN.{ℤ}
use Rattle.std.specs.Prelude.{Some, None, is_some}
use Rattle.wire.specs.Telegram.{fields_of, ten_in}
use Rattle.wire.proofs.Laws.{bytes_word}
use Rattle.judge.specs.declared.deed.Deed.{Deed}
use Rattle.judge.specs.declared.deed.Deed.TheVariants.{Nothing, Store, Reset, Restart, Calibrate, Forget, Unlock, Freeze, Aim1, Aim2, ClearStatic, Release, Offer, Withdraw}
use Rattle.judge.specs.declared.judged.Judged.{Judged}
use Rattle.judge.specs.Judged.{judged_of}
use Rattle.state.specs.declared.parts.Head.{Head}
use Rattle.state.specs.declared.parts.Measurement.{Measurement}
use Rattle.state.specs.declared.parts.Stored.{Stored}
use Rattle.state.specs.declared.parts.Targets.{Targets}
use Rattle.state.specs.Bits.{bit_set}
use Rattle.state.specs.Mode.{is_display, display_of}
use Rattle.state.specs.Position.{view_of}
use Rattle.state.specs.Status.{status_of, within_of, difference_of}
use Rattle.state.specs.Edges as edges
use Rattle.state.specs.Wellformed.{wellformed_of}
use Rattle.state.specs.Older.{passes_of, brought_of}
use Rattle.state.specs.With.{with_stored, with_ear}
use Rattle.effects.specs.Stored.{adopted_stored, restarted_stored, stored_by}
use Rattle.effects.specs.Aimed.{no_targets, settled_of, first_aimed, second_aimed, given_of, cleared_of, stays_of, turned_of, targets_by}
use Rattle.effects.proofs.Turns.{stays_same}
use Rattle.effects.specs.Restart.{empty_ear, restarted_of, adopted_of, fresh_of}
use Rattle.reply.specs.Reply.{adoption_of}
use Rattle.head.specs.declared.calls.Called.{Called}
use Rattle.head.specs.declared.calls.Fed.{Fed}
use Rattle.head.specs.declared.hear.Stepped.{Stepped}
use Rattle.head.specs.declared.refusal.Refusal.TheVariants.{Node, Malformed}
use Rattle.head.specs.Hear.{gathered_of, standing_of, restarts_of, affected_of, told_of, tell_of, step_of}
use Rattle.head.specs.Moves.{ticked_of, measured_of, star_taken, adopts_of, keyed_of}
use Rattle.head.specs.Calls as head
use Rattle.head.specs.Outcome as alone
use Rattle.head.proofs.Asked.{called_is}
use Rattle.head.proofs.Keeps.{taken_stored}
use Rattle.head.proofs.Tests.{either}
use Rattle.demands.specs.Calls.{Call, new_head, byte, tick, named, keys, dropped, Calls, ◌▸◌}
use Rattle.demands.specs.Past.{accepted, may_add_of, grown, room, makes, names, account, count, serials}
use Rattle.demands.specs.Run.{head_in, product, alone_of}
use Rattle.demands.specs.Acts.{act_of, Acted}
use Rattle.demands.specs.Alone.{Taken, setting, displays, stays, newly, key_gives, Keyed}
use Rattle.demands.specs.Every.{locked}
use Rattle.demands.specs.Display.{displaying, Bare, Unset, Sound, Kept, Spelled, Display}
use Rattle.demands.proofs.Computing.{computing}
use Rattle.demands.proofs.Heads.{asked_of, keyed_by, head_by}
use Rattle.demands.proofs.Ear.{heard_whole, heard_short}
use Rattle.demands.proofs.Sim.{sim, seen, of_heads}
use Rattle.demands.proofs.Alone.{ticked, keyed}
use Rattle.demands.proofs.Older.{brought}
use Rattle.demands.proofs.Bits.{bits}
use Rattle.demands.proofs.Every.{every}

never : {b : Bool} {A : Type 0} → b ≡ true → b ≡ false → A
never p q = absurd (true≢false (sym p ∙ q))

bare_sound : {d : Bool} {t : Targets} → Bare t → Sound d t
bare_sound b =
    record {
      valid1 = λ e. never e b.acknowledged1;
      valid2 = λ e. never e b.acknowledged2;
      outside = λ _. (b.acknowledged1, b.acknowledged2);
      inside = λ _. b.reached;
    }

none_bare : Bare no_targets
unfolding no_targets
none_bare = record { valid1 = refl; valid2 = refl; reached = refl; acknowledged1 = refl; acknowledged2 = refl }

-- ---- by what is given where a set point is valid
given : (d a b v : Bool) → (a ≡ true → v ≡ true) → (d && (a || (b && v))) ≡ true → v ≡ true
given false a b v f e = absurd (true≢false (sym e))
given true true b v f e = f refl
given true false true v f e = e
given true false false v f e = absurd (true≢false (sym e))

withdrawn : {A : Type 0} → false ≡ true → A
withdrawn e = absurd (true≢false (sym e))

-- what a control word leaves of the static bit
left_of_lem : (r b : Bool) → (r && not b) ≡ true → r ≡ true
left_of_lem r b e = ((and-eq-true_iff r (not b)).0 e).0

left_none : (r b : Bool) → r ≡ false → (r && not b) ≡ false
left_none r b e = rw e

module _ (vs : List ℕ) (g : Measurement) where
  -- in alpha-numeric display nothing is reached
  unreached : (t : Targets) → display_of vs ≡ true → within_of vs g t ≡ false
  unfolding within_of
  unreached t e = rw e

  settled_sound : (t : Targets) → Sound (display_of vs) t → Sound (display_of vs) (settled_of vs g t)
  unfolding settled_of
  settled_sound t s = record { valid1 = s.valid1; valid2 = s.valid2; outside = s.outside; inside = λ e. ap (λ (b : Bool). b || within_of vs g t) (s.inside e) ∙ unreached t e }

  settled_unset : (t : Targets) → display_of vs ≡ true → (settled_of vs g t).reached ≡ true → t.reached ≡ true
  unfolding settled_of
  settled_unset t e = rw (unreached t e) (elim t.reached as (λ b. (b || false) ≡ true → b ≡ true) [ true ↦ λ _. refl | false ↦ λ q. q ])

  aims_sound : (d : Deed) (t : Targets) → Sound (display_of vs) t → Sound (display_of vs) (targets_by d vs g t)
  unfolding targets_by given_of first_aimed second_aimed cleared_of
  aims_sound Nothing t s = s
  aims_sound (Store i w) t s = s
  aims_sound (Reset n) t s = s
  aims_sound Restart t s = s
  aims_sound Calibrate t s = s
  aims_sound Forget t s = s
  aims_sound (Unlock b) t s = s
  aims_sound Freeze t s = s
  aims_sound (Aim1 v w) t s =
      record {
        valid1 = given (display_of vs) false (bit_set w 10) (bit_set w 2) withdrawn;
        valid2 = given (display_of vs) t.acknowledged2 (bit_set w 6) t.valid2 s.valid2;
        outside = λ e. rw e (refl, refl);
        inside = λ e. left_none t.reached (bit_set w 4) (s.inside e);
      }
  aims_sound (Aim2 v w) t s =
      settled_sound _
      (record {
        valid1 = given (display_of vs) t.acknowledged1 (bit_set w 10) t.valid1 s.valid1;
        valid2 = given (display_of vs) false (bit_set w 6) (bit_set w 9) withdrawn;
        outside = λ e. rw e (refl, refl);
        inside = λ e. left_none t.reached (bit_set w 4) (s.inside e);
      })
  aims_sound ClearStatic t s = record { valid1 = s.valid1; valid2 = s.valid2; outside = s.outside; inside = λ e. refl }
  aims_sound Release t s = s
  aims_sound (Offer n) t s = s
  aims_sound Withdraw t s = s

  aims_unset : (d : Deed) (t : Targets) → display_of vs ≡ true → (targets_by d vs g t).reached ≡ true → t.reached ≡ true
  unfolding targets_by given_of first_aimed second_aimed cleared_of
  aims_unset Nothing t e q = q
  aims_unset (Store i w) t e q = q
  aims_unset (Reset n) t e q = q
  aims_unset Restart t e q = q
  aims_unset Calibrate t e q = q
  aims_unset Forget t e q = q
  aims_unset (Unlock b) t e q = q
  aims_unset Freeze t e q = q
  aims_unset (Aim1 v w) t e q = left_of_lem t.reached (bit_set w 4) q
  aims_unset (Aim2 v w) t e q = left_of_lem t.reached (bit_set w 4) (settled_unset _ e q)
  aims_unset ClearStatic t e q = withdrawn q
  aims_unset Release t e q = q
  aims_unset (Offer n) t e q = q
  aims_unset Withdraw t e q = q

-- ---- what a change of 28h does
-- what entering or leaving makes of the targets t: nothing is valid, and the values and the taken control word stay
record Turns (t u : Targets) : Type 0 where
  bare : Bare u
  first : u.first ≡ t.first
  second : u.second ≡ t.second
  word : u.word ≡ t.word

module _ (before after : ℕ) (t : Targets) where
  turned_sound : Sound (is_display before) t → Sound (is_display after) (turned_of before after t)
  unfolding turned_of stays_of
  turned_sound s = go (is_display before) refl (is_display after) refl
    where
      go : (x : Bool) → is_display before ≡ x → (y : Bool) → is_display after ≡ y → Sound (is_display after) (turned_of before after t)
      go true p true q = rw (p, q) (rw p at s)
      go false p false q = rw (p, q) (rw p at s)
      go true p false q = rw (p, q) (bare_sound (record { valid1 = refl; valid2 = refl; reached = refl; acknowledged1 = refl; acknowledged2 = refl }))
      go false p true q = rw (p, q) (bare_sound (record { valid1 = refl; valid2 = refl; reached = refl; acknowledged1 = refl; acknowledged2 = refl }))

  turned_turns : stays_of before after ≡ false → Turns t (turned_of before after t)
  unfolding turned_of
  turned_turns e = record { bare = rw e (record { valid1 = refl; valid2 = refl; reached = refl; acknowledged1 = refl; acknowledged2 = refl }); first = refl; second = refl; word = refl }

  turned_unset : (turned_of before after t).reached ≡ true → t.reached ≡ true
  unfolding turned_of
  turned_unset q = ((and-eq-true_iff (stays_of before after) t.reached).0 q).1

-- ---- what a call makes of a head
record Steps (h k : Head) : Type 0 where
  sound : Kept h → Kept k
  turns : stays h k ≡ false → Turns h.targets k.targets
  unset : displays h ≡ true → Unset h k

-- with 28h as it was
module _ (h k : Head) (e : setting k 23 ≡ setting h 23) where
  same_mode : displays k ≡ displays h
  same_mode = ap (λ (v : ℕ). eqb v 3) e

  same_stays : stays h k ≡ true
  unfolding stays_of is_display
  same_stays = rw e (stays_same (setting h 23))

  same_steps : (Sound (displays h) h.targets → Sound (displays h) k.targets) → (displays h ≡ true → Unset h k) → Steps h k
  same_steps s u =
      record { sound = λ p. subst (λ (d : Bool). Sound d k.targets) (sym same_mode) (s p); turns = λ n. never same_stays n; unset = u }

  bare_steps : Bare k.targets → Steps h k
  bare_steps b = same_steps (λ _. bare_sound b) (λ _ q. never q b.reached)

-- the value of 28h of a stored part
abbrev mode : Stored → ℕ
mode s = get_or s.values 23 0

untouched : (h k : Head) → setting k 23 ≡ setting h 23 → k.targets ≡ h.targets → Steps h k
untouched h k e t = same_steps h k e (λ s. subst (Sound (displays h)) (sym t) s) (λ _ q. ap (λ (u : Targets). u.reached) (sym t) ∙ q)

still : (h k : Head) → k.stored ≡ h.stored → k.targets ≡ h.targets → Steps h k
still h k e t = untouched h k (ap mode e) t

idle : (h : Head) → Steps h h
idle h = still h h refl refl

restarted_bare : (x : Head) → Bare (restarted_of x).targets
unfolding restarted_of
restarted_bare x = none_bare

-- a restart
restarts : (h x : Head) → setting x 23 ≡ setting h 23 → Steps h (restarted_of x)
unfolding restarted_of restarted_stored
restarts h x e = bare_steps h (restarted_of x) e none_bare

-- ---- a telegram
-- what stores leaves the targets, and a restart stores nothing
apart : (d : Deed) (s : Stored) (g : Measurement) (t : Targets)
    → (restarts_of d ≡ true → stored_by d s ≡ s) × ((targets_by d s.values g t ≡ t) ⊎ (stored_by d s ≡ s))
unfolding restarts_of stored_by targets_by
apart Nothing s g t = (λ _. refl, inl refl)
apart (Store i w) s g t = (withdrawn, inl refl)
apart (Reset n) s g t = (withdrawn, inl refl)
apart Restart s g t = (λ _. refl, inl refl)
apart Calibrate s g t = (λ _. refl, inl refl)
apart Forget s g t = (λ _. refl, inl refl)
apart (Unlock b) s g t = (withdrawn, inl refl)
apart Freeze s g t = (λ _. refl, inl refl)
apart (Aim1 v w) s g t = (λ _. refl, inr refl)
apart (Aim2 v w) s g t = (λ _. refl, inr refl)
apart ClearStatic s g t = (λ _. refl, inr refl)
apart Release s g t = (λ _. refl, inl refl)
apart (Offer n) s g t = (withdrawn, inl refl)
apart Withdraw s g t = (withdrawn, inl refl)

module _ (j : Judged) (h : Head) (at : ℕ) where
  abbrev aimed : Targets
  aimed = targets_by j.deed h.stored.values h.measurement h.targets

  affected_turns : stays h (affected_of j h at) ≡ false → Turns h.targets (affected_of j h at).targets
  unfolding stays_of is_display
  affected_turns n = go (apart j.deed h.stored h.measurement h.targets).1
    where
      go : (aimed ≡ h.targets) ⊎ (stored_by j.deed h.stored ≡ h.stored) → Turns h.targets (affected_of j h at).targets
      go (inl e) = subst (λ (t : Targets). Turns t (affected_of j h at).targets) e (turned_turns _ _ aimed n)
      go (inr e) = never (same_stays h (affected_of j h at) (ap mode e)) n

  affected_steps : Steps h (affected_of j h at)
  unfolding is_display
  affected_steps =
      record {
        sound = λ s. turned_sound _ _ aimed (aims_sound h.stored.values h.measurement j.deed h.targets s);
        turns = affected_turns;
        unset = λ d q. aims_unset h.stored.values h.measurement j.deed h.targets d (turned_unset _ _ aimed q);
      }

  told_steps : Steps h (told_of j h at)
  unfolding told_of
  told_steps = go (restarts_of j.deed) refl
    where
      go : (b : Bool) → restarts_of j.deed ≡ b → Steps h (cond b (restarted_of (affected_of j h at)) (affected_of j h at))
      go true e = restarts h (affected_of j h at) (ap mode ((apart j.deed h.stored h.measurement h.targets).0 e))
      go false e = affected_steps

-- a byte
byte_steps : (h : Head) (b at : ℕ) → Steps h (step_of h b at).head
unfolding step_of tell_of
byte_steps h b at = go (is_some (gathered_of h.ear b at).ten)
  where
    go : (whole : Bool) → Steps h (cond {A = Stepped} whole (tell_of h (ten_in (gathered_of h.ear b at).ten) at) (record { head = with_ear h (gathered_of h.ear b at).ear; reply = None })).head
    go true = told_steps (judged_of (ten_in (gathered_of h.ear b at).ten) (standing_of h)) h at
    go false = still h (with_ear h (gathered_of h.ear b at).ear) refl refl

-- ---- the other calls
tick_steps : (h : Head) (t : ℕ) → Steps h (ticked_of h t)
tick_steps h t = let k = ticked h t in still h (ticked_of h t) k.stored k.targets

measure_steps : (h : Head) (m : ℤ) → Steps h (measured_of h m)
unfolding measured_of is_display
measure_steps h m = same_steps h (measured_of h m) refl (settled_sound h.stored.values _ h.targets) (settled_unset h.stored.values _ h.targets)

load_steps : (h : Head) (s : List ℕ) → Steps h (head.loaded_of h s)
unfolding head.loaded_of stays_of is_display
load_steps h s = record { sound = turned_sound _ _ h.targets; turns = turned_turns _ _ h.targets; unset = λ _. turned_unset _ _ h.targets }

bring_steps : (h : Head) → Steps h (brought_of h)
bring_steps h = let b = brought h in untouched h (brought_of h) (b.values 23 (λ e. omega arith)) b.targets

-- a key state: outside alpha-numeric display no key acknowledges
no_gift : (h : Head) (s : ℕ) → displays h ≡ false → key_gives h s ≡ false
no_gift h s e = rw (e, and-false (eqb h.faults.pending 0), and-false (newly 1 h s), and-false (newly 2 h s))

gift : (a g v : Bool) → (a ≡ true → v ≡ true) → (a || (g && v)) ≡ true → v ≡ true
gift true g v f e = f refl
gift false true v f e = e
gift false false v f e = withdrawn e

keyed_steps : (h k : Head) (s : ℕ) → Keyed h k s → Steps h k
keyed_steps h k s e =
    same_steps h k (ap mode e.stored)
    (λ p. record {
      valid1 = λ q. e.valid1 ∙ gift h.targets.acknowledged1 (key_gives h s) h.targets.valid1 p.valid1 (sym e.acknowledged1 ∙ q);
      valid2 = λ q. e.valid2 ∙ gift h.targets.acknowledged2 (key_gives h s) h.targets.valid2 p.valid2 (sym e.acknowledged2 ∙ q);
      outside = λ d. let o = p.outside d in (e.acknowledged1 ∙ rw (no_gift h s d, o.0), e.acknowledged2 ∙ rw (no_gift h s d, o.1));
      inside = λ d. e.reached ∙ p.inside d;
    })
    (λ _ q. sym e.reached ∙ q)

-- an adoption stores 00h alone
adopted_steps : (h : Head) (s : ℕ) → Steps h (adopted_of (star_taken h s))
unfolding adopted_of adopted_stored
adopted_steps h s =
    let x = star_taken h s in
    restarts h (with_stored x (adopted_stored x.stored)) (get_or-set_other x.stored.values 0 23 x.stored.offer 0 (λ e. omega arith) ∙ ap mode (taken_stored h s))

keys_steps : (h : Head) (s : ℕ) → Steps h (keyed_of h s).head
unfolding keyed_of
keys_steps h s = go (adopts_of h s)
  where
    go : (b : Bool) → Steps h (cond {A = Stepped} b (record { head = adopted_of (star_taken h s); reply = Some (adoption_of (status_of h) h.stored.offer) }) (record { head = star_taken h s; reply = None })).head
    go true = adopted_steps h s
    go false = keyed_steps h _ s (keyed h s)

ask_steps : (a : alone.Ask) (h : Head) → Steps h (alone.next a h)
unfolding alone.next
ask_steps (alone.tick t) h = tick_steps h t
ask_steps (alone.measure m) h = measure_steps h m
ask_steps alone.power h = restarts h h refl
ask_steps (alone.load s) h = load_steps h s
ask_steps alone.bring h = bring_steps h

-- ---- the calls on a head alone: what is refused leaves the head as it is
byte_alone : (h : Head) (b t n : ℕ) → Steps h (head.byte_of h b t n).head
unfolding head.byte_of
byte_alone h b t n = either (λ (f : Fed). Steps h f.head) (head.unfed h) _ (head.lent_tests h [] n) (λ why. idle h) (λ _. byte_steps h b t)

keys_alone : (h : Head) (s n : ℕ) → Steps h (head.keys_of h s n).head
unfolding head.keys_of
keys_alone h s n = either (λ (f : Fed). Steps h f.head) (head.unfed h) _ (head.lent_tests h (head.keys_tests s) n) (λ why. idle h) (λ _. keys_steps h s)

ask_alone : (h : Head) (a : alone.Ask) → Steps h (alone.called a h).head
ask_alone h a = rw (called_is a h) (either (λ (c : Called). Steps h c.head) (head.refused_with h) _ ((passes_of (alone.brings a) h, Malformed) ∷ alone.own a) (λ why. idle h) (λ _. ask_steps a h))

-- ---- one call on a line, at a head that it did not make
call_steps : (c : Call) (n : ℕ) (ss : List ℕ) (k : ℕ) (h : Head) → k < n → Steps h (head_by c n ss k h)
unfolding head_by asked_of keyed_by
call_steps (new_head node serial) n ss k h lt = rw (ne_eqb k n (λ e. omega arith), and-false (may_add_of n ss node serial)) (idle h)
call_steps (byte b t s) n ss k h lt = go (room s)
  where
    go : (x : Bool) → Steps h (cond x (step_of h b t).head h)
    go true = byte_steps h b t
    go false = idle h
call_steps (tick t) n ss k h lt = tick_steps h t
call_steps (named j a) n ss k h lt = go (names n j k)
  where
    go : (x : Bool) → Steps h (cond x (asked_of a h) h)
    go true = either (Steps h) (λ why. h) _ (alone.own (alone_of a)) (λ why. idle h) (λ _. ask_steps (alone_of a) h)
    go false = idle h
call_steps (keys j s r) n ss k h lt = go (names n j k) (leb s 7 && room r)
  where
    go : (x y : Bool) → Steps h (cond x (cond y (keyed_of h s).head h) h)
    go true true = keys_steps h s
    go true false = idle h
    go false y = idle h
call_steps (dropped t) n ss k h lt = still h (with_ear h (empty_ear t)) refl refl

-- ---- for every list of calls
abbrev Held : Calls → ℕ → Type 0
Held cs k = Kept (head_in cs k)

after_steps : (cs : Calls) (c : Call) (k : ℕ) → k < grown c (count cs) (serials cs) → k < count cs → Steps (head_in cs k) (head_in (cs ▸ c) k)
after_steps cs c k lt old = subst (Steps (head_in cs k)) (sym (seen cs c k lt)) (call_steps c (count cs) (serials cs) k (head_in cs k) old)

new_held : (cs : Calls) (node serial k : ℕ) → k < grown (new_head node serial) (count cs) (serials cs) → makes (count cs) (serials cs) node serial k ≡ true → Held (cs ▸ new_head node serial) k
unfolding head_by fresh_of
new_held cs node serial k lt e =
    subst Kept (sym (seen cs (new_head node serial) k lt)) (rw e (bare_sound (restarted_bare _)))

held : (cs : Calls) (k : ℕ) → k < count cs → Held cs k
held = of_heads Held (λ cs c k lt old s. (after_steps cs c k lt old).sound s) new_held

-- the account finds 28h
shown : (cs : Calls) (k : ℕ) → k < count cs → displays (head_in cs k) ≡ displaying cs k
shown cs k lt = ap (λ (v : ℕ). eqb v 3) ((sim cs k lt).vals_are 23 (omega arith))

-- no call takes a head away
pub more : (c : Call) (n : ℕ) (ss : List ℕ) (k : ℕ) → k < n → k < grown c n ss
unfolding grown
more (new_head node serial) n ss k lt = elim (may_add_of n ss node serial) as (λ b. k < cond b (suc n) n) [ true ↦ omega arith | false ↦ lt ]
more (byte b t s) n ss k lt = lt
more (tick t) n ss k lt = lt
more (named j a) n ss k lt = lt
more (keys j s r) n ss k lt = lt
more (dropped t) n ss k lt = lt

differ : (x y : Bool) → x ≢ y → cond x y (not y) ≡ false
differ true true n = absurd (n refl)
differ true false n = refl
differ false true n = refl
differ false false n = absurd (n refl)

turning : (cs : Calls) (c : Call) (k : ℕ) → k < count cs → displaying cs k ≢ displaying (cs ▸ c) k → Turns (head_in cs k).targets (head_in (cs ▸ c) k).targets
unfolding account
turning cs c k lt n =
    let there = more c (count cs) (serials cs) k lt in
    (after_steps cs c k there lt).turns (rw (shown cs k lt, shown (cs ▸ c) k there) (differ (displaying cs k) (displaying (cs ▸ c) k) n))

-- ---- a set point's write
module _ (ten : List ℕ) (byte : (i : ℕ) → get_or ten i 0 < 256) where
  spelled : Spelled (fields_of ten).value ten
  unfolding fields_of
  spelled =
      let e = bytes_word (get_or ten 5 0) (get_or ten 6 0) (get_or ten 7 0) (get_or ten 8 0) (byte 5) (byte 6) (byte 7) (byte 8) in
      record { fourth = e.3; third = e.2; second = e.1; first = e.0 }

module _ (h : Head) (b t : ℕ) (space : List ℕ) (k : Taken h space) (e : is_some (gathered_of h.ear b t).ten ≡ true) where
  abbrev ten : List ℕ
  ten = ten_in (gathered_of h.ear b t).ten

  abbrev after : Head
  after = (head.byte_of h b t (length space)).head

  module _ (a : accepted h.stored.number (locked h) ten ≡ true) where
    acted : (eqb (fields_of ten).parameter 0xA0) ≡ false
        → Acted h after (act_of (fields_of ten).parameter (fields_of ten).value) (fields_of ten).value (fields_of ten).word
    acted n = every.acts h b t space k e a (rw n)

    first_is : (fields_of ten).parameter ≡ 0xFB → after.targets.first ≡ (fields_of ten).value
    first_is p = (acted (rw p)).first ∙ rw p

    second_is : (fields_of ten).parameter ≡ 0xFF → after.targets.second ≡ (fields_of ten).value
    second_is p = (acted (rw p)).second ∙ rw p

    word_is : ((fields_of ten).parameter ≡ 0xFB) ⊎ ((fields_of ten).parameter ≡ 0xFF) → after.targets.word ≡ (fields_of ten).word
    word_is (inl p) = (acted (rw p)).word ∙ rw p
    word_is (inr p) = (acted (rw p)).word ∙ rw p

    identified : ((fields_of ten).parameter ≡ 0xFB) ⊎ ((fields_of ten).parameter ≡ 0xFF) → displays after ≡ true → bit_set (status_of after) 9 ≡ bit_set (fields_of ten).word 7
    identified p d = (bits after).bit9 ∙ rw (d, word_is p)

-- ---- the position does not look at 28h
other_place : (vs : List ℕ) (i mode : ℕ) → i ≢ 23 → get_or (set vs 23 mode) i 0 ≡ get_or vs i 0
other_place vs i mode n = get_or-set_other vs 23 i mode 0 n

view_same : (vs : List ℕ) (g : Measurement) (mode : ℕ) → view_of (set vs 23 mode) g ≡ view_of vs g
unfolding view_of
view_same vs g mode = rw (other_place vs 18 mode (λ e. omega arith), other_place vs 11 mode (λ e. omega arith), other_place vs 27 mode (λ e. omega arith))

difference_same : (vs : List ℕ) (g : Measurement) (s mode : ℕ) → difference_of (set vs 23 mode) g s ≡ difference_of vs g s
unfolding difference_of
difference_same vs g s mode = rw (view_same vs g mode, other_place vs 28 mode (λ e. omega arith))

-- ---- of a head alone
made_kept : (node serial : ℕ) → Kept (head.made_of node serial).head
unfolding head.made_of head.factory_of fresh_of
made_kept node serial =
    elim (head.node_fits node) as (λ b. Kept (cond {A = Called} b (head.done_with (fresh_of node serial)) (head.refused_with (fresh_of 31 serial) Node)).head)
    [ true ↦ bare_sound (restarted_bare _) | false ↦ bare_sound (restarted_bare _) ]

word_told_lem : (ten : List ℕ) → (fields_of ten).word ≡ get_or ten 3 0 * 256 + get_or ten 4 0
unfolding fields_of
word_told_lem _ = refl

passes_three : wellformed_of (edges.value 23 3) ≡ true
unfolding computing
passes_three = refl

stops_four : wellformed_of (edges.value 23 4) ≡ false
unfolding computing
stops_four = refl

pub displays_right : Display product
displays_right =
    record {
      three = passes_three;
      four = stops_four;
      position = view_same;
      difference = difference_same;
      digit = λ w n. refl;
      word = word_told_lem;
      telegram = heard_whole;
      gathers = heard_short;
      spells1 = λ h b t space k e a p byte. rw (first_is h b t space k e a p) (spelled _ byte);
      spells2 = λ h b t space k e a p byte. rw (second_is h b t space k e a p) (spelled _ byte);
      identifies = λ h b t space k e a p d. identified h b t space k e a p d;
      byte_unset = λ h b t n. (byte_alone h b t n).unset;
      keys_unset = λ h s n. (keys_alone h s n).unset;
      ask_unset = λ h a. (ask_alone h a).unset;
      made_kept = made_kept;
      byte_kept = λ h b t n. (byte_alone h b t n).sound;
      keys_kept = λ h s n. (keys_alone h s n).sound;
      ask_kept = λ h a. (ask_alone h a).sound;
      kept = λ cs k lt. subst (λ (d : Bool). Sound d (head_in cs k).targets) (shown cs k lt) (held cs k lt);
      turns = λ cs c k lt n. (turning cs c k lt n).bare;
      survives = λ cs c k lt n. let u = turning cs c k lt n in (u.first, u.second, u.word);
    }
