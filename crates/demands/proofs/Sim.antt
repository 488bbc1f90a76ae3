-- The head that a line holds, and the account that looks back over the calls, agree: by induction over the calls, each call seen at one head.
-- Assumes nothing.
use Prim.Native.Nat.{ℕ, suc, ◌<◌, ◌≤◌}
use mathlib.Core.Path.{◌≡◌, refl, sym, ◌∙◌, ap, subst}
use mathlib.Core.Bool.{Bool, true, false, cond, not, ◌&&◌, false≢true, and-eq-true_iff}
use mathlib.Core.Logic.{◌⊎◌, inl}
use mathlib.Core.List.{List, [], map}
use mathlib.Core.Option.{none, some}
use native.Mathlib.Nat.{not-suc-le-zero}
use native.Mathlib.Omega.{arith}
use borrow.Author.Tests.{ltb-true, ltb-false, eqb-true, eqb-false}
use lib.Dec.{leb, ltb, eqb}
use lib.IntN.{ℤ}
use lib.ListN.{length, get_or, set, take, length-set, get_or-map}
use lib.Seq.{get_or-set_same, get_or-set_other}
use Rattle.std.specs.Prelude.{Some}
use Rattle.rows.specs.Table.{rows, row_of, blank, delivery}
use Rattle.wire.specs.Telegram.{fields_of}
use Rattle.judge.specs.Judged.{judged_of}
use Rattle.state.specs.declared.parts.Head.{Head}
use Rattle.state.specs.declared.parts.Stored.{Stored}
use Rattle.state.specs.declared.parts.Ear.{Ear}
use Rattle.state.specs.Settings.{value_at, timeout_place, calibration_key_place, acknowledgement_place}
use Rattle.state.specs.Mode.{display_of}
use Rattle.state.specs.Status.{status_of}
use Rattle.state.specs.Wellformed.{in_reach_of}
use Rattle.state.specs.Older.{brought_of}
use Rattle.state.specs.With.{with_stored, with_ear, with_keys}
use Rattle.effects.specs.Stored.{locked_of, adopted_stored, restarted_stored}
use Rattle.effects.specs.Aimed.{lacking_of}
use Rattle.effects.specs.Restart.{empty_ear, restarted_of, adopted_of, delivered_of, fresh_of}
use Rattle.reply.specs.Reply.{adoption_of}
use Rattle.head.specs.declared.hear.Stepped.{Stepped}
use Rattle.head.specs.Hear.{elapsed_of, standing_of, step_of, tell_of}
use Rattle.head.specs.Moves.{overdue_of, ticked_of, measured_of, left_key, star_key, left_of, star_of, pressed_of, star_taken, adopts_of, keyed_of}
use Rattle.head.specs.Outcome as alone
use Rattle.line.specs.Calls.{empty_of, serials_at, fits_of}
use Rattle.line.proofs.Theorems.{empty_fits}
use Rattle.head.proofs.Again.{told_stored, told_keys}
use Rattle.head.proofs.Passes.{unanswered}
use Rattle.sheet.specs.Format.{well_formed_of}
use Rattle.head.specs.Calls.{loaded_of}
use Rattle.demands.specs.Calls.{Ask, measure, power, load, bring, Call, new_head, byte, tick, named, keys, dropped, Calls, start, ◌▸◌}
use Rattle.demands.specs.Past as past
use Rattle.demands.specs.Past.{Entry, Change, gives, nothing, delivered, making, may_add_of, grown, marked, room, gather, kept, ear_by, no_bytes_of, locked, accepted, obeying, withdrawn, dropping, telling, hearing, all_stored, storing, loadable, loaded, cutting, asked, adopts, adopting, pressing, pressed, makes, names, change, look, next, entry_by, account, count, serials, entry}
use Rattle.demands.specs.Run.{runs, run, head_in}
use Rattle.demands.proofs.Telegram.{Becomes, gives_35, set_gives, told_becomes, told_restarts}
use Rattle.demands.proofs.Ear.{Gathered, ear_short, ear_whole, ear_alone, told_none}
use Rattle.demands.proofs.Older.{brought}
use Rattle.demands.proofs.Loading.{all_known_is, guarded_is, loaded_becomes}
use Rattle.demands.proofs.Heads.{after_fits, after_count, after_serials, asked_of, keyed_by, head_by, after_at}

-- a head h is what its entry says of it: its values, its number in force, its interlock, its bytes, the number that is offered, its keys
pub record Is (h : Head) (e : Entry) : Type 0 where
  pub size : length h.stored.values ≡ 39
  pub vals_are : (r : ℕ) → r < 39 → get_or h.stored.values r 0 ≡ e.value r
  pub force_is : h.stored.number ≡ e.number
  pub open_is : h.stored.unlocked ≡ e.is_open
  pub ear_is : Gathered h e.ear
  pub offer_is : h.stored.offer ≡ e.offer
  pub keys_is : h.keys ≡ e.keys

-- the line fits, has as many heads as the account counts, with the serial numbers that it keeps, and places for 32
pub record Fits (cs : Calls) : Type 0 where
  pub fits : fits_of (run cs) ≡ true
  pub places : length (run cs).heads ≡ 32
  pub counts : (run cs).count ≡ count cs
  pub marks : serials_at (run cs) ≡ serials cs

both : {A : Type 0} (f : ℕ → List ℕ → A) {n m : ℕ} {ss ts : List ℕ} → n ≡ m → ss ≡ ts → f n ss ≡ f m ts
both f {n} {m} {ss} {ts} p q = ap (λ x. f x ss) p ∙ ap (f m) q

pub fits : (cs : Calls) → Fits cs
unfolding runs account empty_of
fits start = record { fits = empty_fits.0; places = empty_fits.1; counts = refl; marks = refl }
fits (cs ▸ c) =
    let b = fits cs in
    let k = after_fits c (run cs) b.fits b.places in
    record {
      fits = k.0;
      places = k.1;
      counts = after_count c (run cs) b.fits ∙ both (grown c) b.counts b.marks;
      marks = after_serials c (run cs) b.fits b.places ∙ both (marked c) b.counts b.marks;
    }

-- ---- a new head
rows_long : length (map delivery rows) ≡ 39
unfolding rows
rows_long = refl

pub fresh_values : (node r : ℕ) → get_or (delivered_of node) r 0 ≡ delivered node r
unfolding delivered_of delivered row_of
fresh_values node r = go (eqb r 0) refl
  where
    first : 0 < length (map delivery rows)
    first = omega (arith, rows_long)

    go : (b : Bool) → eqb r 0 ≡ b → get_or (set (map delivery rows) 0 node) r 0 ≡ cond b node (delivery (row_of r))
    go true e = rw (eqb-true r 0 e) (get_or-set_same (map delivery rows) 0 node 0 first)
    go false e = get_or-set_other (map delivery rows) 0 r node 0 (eqb-false r 0 e) ∙ get_or-map delivery rows r blank

pub made_is : (node serial : ℕ) (ear : past.Ear) (e : Entry) → Is (fresh_of node serial) (next (making node) ear e)
unfolding next look fresh_of restarted_of restarted_stored delivered_of delivered empty_ear
made_is node serial ear e =
    record {
      size = length-set (map delivery rows) 0 node ∙ rows_long;
      vals_are = λ r lt. fresh_values node r;
      force_is = fresh_values node 0;
      open_is = refl;
      ear_is = record { few = omega arith; long = refl; got_is = refl; time_is = inl refl };
      offer_is = refl;
      keys_is = refl;
    }

-- ---- a head of which the stored part, the bytes and the keys are as they were
record Keeps (h x : Head) : Type 0 where
  stored : x.stored ≡ h.stored
  ear : x.ear ≡ h.ear
  keys : x.keys ≡ h.keys

either_keeps : (h : Head) (b : Bool) (x y : Head) → Keeps h x → Keeps h y → Keeps h (cond b x y)
either_keeps h true x y p q = p
either_keeps h false x y p q = q

same : {h : Head} → Keeps h h
same = record { stored = refl; ear = refl; keys = refl }

tick_keeps : (h : Head) (t : ℕ) → Keeps h (ticked_of h t)
unfolding ticked_of
tick_keeps h t =
    either_keeps h (h.monitor.running && overdue_of (value_at h.stored.values timeout_place) (elapsed_of t h.monitor.since)) _ _
    (record { stored = refl; ear = refl; keys = refl }) same

measure_keeps : (h : Head) (m : ℤ) → Keeps h (measured_of h m)
unfolding measured_of
measure_keeps h m = record { stored = refl; ear = refl; keys = refl }

left_keeps : (on : Bool) (h : Head) → Keeps h (left_of on h)
unfolding left_of
left_keeps false h = same
left_keeps true h =
    either_keeps h (not (eqb h.faults.pending 0)) _ _ (record { stored = refl; ear = refl; keys = refl })
    (either_keeps h (display_of h.stored.values && lacking_of h.targets) _ _ (record { stored = refl; ear = refl; keys = refl })
    (either_keeps h (eqb (value_at h.stored.values calibration_key_place) 1) _ _ (record { stored = refl; ear = refl; keys = refl }) same))

star_keeps : (on : Bool) (h : Head) → Keeps h (star_of on h)
unfolding star_of
star_keeps on h =
    either_keeps h (on && (display_of h.stored.values && eqb (value_at h.stored.values acknowledgement_place) 2)) _ _ (record { stored = refl; ear = refl; keys = refl }) same

-- ---- one call, at head k of n heads
module _ (h : Head) (e : Entry) (A : Is h e) where
  -- a head whose stored part a change has made what it is
  changed : (g : Change) (ear : past.Ear) (x : Head) → Becomes h.stored g x.stored → Gathered x (cond g.restarts no_bytes_of ear)
      → x.keys ≡ cond g.restarts 0 (look g.presses h.keys) → Is x (next g ear e)
  unfolding next
  changed g ear x b k q =
      record {
        size = b.size ∙ A.size;
        vals_are = λ r lt. b.vals r lt ∙ ap (λ (v : ℕ). look (g.gives r) v) (A.vals_are r lt);
        force_is = b.force ∙ rw (A.vals_are 0 (omega arith), A.force_is);
        open_is = b.lock ∙ ap (λ (o : Bool). look g.opens o) A.open_is;
        ear_is = k;
        offer_is = b.offer ∙ rw A.offer_is;
        keys_is = q ∙ rw A.keys_is;
      }

  -- with the same stored part, whatever the bytes, and with the same keys or others
  unchanged : (x : Head) → x.stored ≡ h.stored → Becomes h.stored nothing x.stored
  unfolding look
  unchanged x q =
      record {
        size = ap (λ (s : Stored). length s.values) q;
        vals = λ r lt. ap (λ (s : Stored). get_or s.values r 0) q;
        force = ap (λ (s : Stored). s.number) q;
        lock = ap (λ (s : Stored). s.unlocked) q;
        offer = ap (λ (s : Stored). s.offer) q;
      }

  same_stored : (ear : past.Ear) (x : Head) → x.stored ≡ h.stored → Gathered x ear → x.keys ≡ h.keys → Is x (next nothing ear e)
  unfolding look
  same_stored ear x q k p = changed nothing ear x (unchanged x q) k p

  -- the bytes gathered lie in the ear alone
  same_ear : (x : Head) → x.ear ≡ h.ear → Gathered x e.ear
  same_ear x q =
      let k = A.ear_is in
      record {
        few = subst (λ (r : Ear). r.count ≤ 9) (sym q) k.few;
        long = ap (λ (r : Ear). length r.bytes) q ∙ k.long;
        got_is = ap (λ (r : Ear). take r.count r.bytes) q ∙ k.got_is;
        time_is = subst (λ (r : Ear). (e.ear.bytes ≡ []) ⊎ (r.at ≡ e.ear.last)) (sym q) k.time_is;
      }

  idle_is : (x : Head) → Keeps h x → Is x (next nothing e.ear e)
  idle_is x k = same_stored e.ear x k.stored (same_ear x k.ear) k.keys

  -- none stands gathered after a restart
  restarted_none : (x : Head) → Gathered (restarted_of x) no_bytes_of
  unfolding restarted_of empty_ear
  restarted_none x = record { few = omega arith; long = refl; got_is = refl; time_is = inl refl }

  -- nor at a rack of no telegram
  dropped_none : (t : ℕ) → Gathered (with_ear h (empty_ear t)) no_bytes_of
  unfolding empty_ear
  dropped_none t = record { few = omega arith; long = refl; got_is = refl; time_is = inl refl }

  cut_is : (ear : past.Ear) → Is (restarted_of h) (next cutting ear e)
  unfolding look restarted_of restarted_stored
  cut_is ear =
      changed cutting ear (restarted_of h) (record { size = refl; vals = λ r lt. refl; force = refl; lock = refl; offer = refl }) (restarted_none h) refl

  -- ---- keys: left and star, or an adoption
  taken_is : (s : ℕ) → Keeps (with_keys h s) (star_taken h s)
  taken_is s =
      let l = left_of (pressed_of s h.keys left_key) (with_keys h s) in
      let a = left_keeps (pressed_of s h.keys left_key) (with_keys h s) in
      let b = star_keeps (pressed_of s h.keys star_key) l in record { stored = b.stored ∙ a.stored; ear = b.ear ∙ a.ear; keys = b.keys ∙ a.keys }

  pressed_is : (s : ℕ) → Is (star_taken h s) (next (pressing s) e.ear e)
  unfolding look
  pressed_is s =
      let a = taken_is s in
      let x = star_taken h s in
      let u = unchanged x a.stored in
      changed (pressing s) e.ear x (record { size = u.size; vals = u.vals; force = u.force; lock = u.lock; offer = u.offer })
      (same_ear x a.ear) a.keys

  adoption_becomes : (st : Stored) → st ≡ h.stored → Becomes h.stored (adopting e.offer) (restarted_stored (adopted_stored st))
  unfolding look restarted_stored adopted_stored
  adoption_becomes st q =
      let n : 0 < length h.stored.values = omega (arith, A.size) in
      rw q record {
        size = length-set h.stored.values 0 h.stored.offer;
        vals = λ r lt. rw (← A.offer_is) (set_gives h.stored.values 0 h.stored.offer r (omega (arith, A.size)));
        force = rw (← A.offer_is) (get_or-set_same h.stored.values 0 h.stored.offer 0 n);
        lock = refl;
        offer = refl;
      }

  adopted_is : (s : ℕ) → Is (adopted_of (star_taken h s)) (next (adopting e.offer) e.ear e)
  unfolding adopted_of restarted_of
  adopted_is s =
      changed (adopting e.offer) e.ear (adopted_of (star_taken h s)) (adoption_becomes (star_taken h s).stored (taken_is s).stored)
      (restarted_none (with_stored (star_taken h s) (adopted_stored (star_taken h s).stored))) refl

  pub adopts_is : (s : ℕ) → adopts_of h s ≡ adopts s e
  unfolding pressed_of
  adopts_is s = rw (A.keys_is, A.offer_is)

  keys_is : (s n : ℕ) → Is (keyed_by s n h) (next (pressed s n e) e.ear e)
  unfolding keyed_by pressed keyed_of
  keys_is s n = rw (adopts_is s) (go (leb s 7 && room n) (adopts s e))
    where
      announcing : Head → Stepped
      announcing x = record { head = x; reply = Some (adoption_of (status_of h) h.stored.offer) }

      go : (x y : Bool)
          → Is (cond x (cond y (announcing (adopted_of (star_taken h s))) (unanswered (star_taken h s))).head h)
          (next (cond x (cond y (adopting e.offer) (pressing s)) nothing) e.ear e)
      go true true = adopted_is s
      go true false = pressed_is s
      go false y = idle_is h same

  -- what the checks ask of the head is what the account has
  pub locked_is : (standing_of h).locked ≡ locked e
  unfolding standing_of locked_of
  locked_is =
      ap (λ (x : ℕ). eqb x 1 && not h.stored.unlocked) (A.vals_are 14 (omega arith)) ∙ ap (λ (x : Bool). eqb (e.value 14) 1 && not x) A.open_is

  pub number_is : (standing_of h).number ≡ e.number
  unfolding standing_of
  number_is = A.force_is

  -- no telegram presses a key
  presses_none : (ten : List ℕ) → look (telling e ten).presses h.keys ≡ h.keys
  unfolding look
  presses_none ten = go (accepted e.number (locked e) ten) (withdrawn e.number ten)
    where
      go : (x y : Bool) → look (cond x (obeying (fields_of ten).parameter (fields_of ten).value) (cond y dropping nothing)).presses h.keys ≡ h.keys
      go true y = refl
      go false true = refl
      go false false = refl

  told_is : (ten : List ℕ) (t : ℕ) (ear : past.Ear) → ear.bytes ≡ [] → Is (tell_of h ten t).head (next (telling e ten) ear e)
  unfolding tell_of
  told_is ten t ear empty =
      changed (telling e ten) ear (tell_of h ten t).head
      (rw (told_stored (judged_of ten (standing_of h)) h t) (told_becomes ten (standing_of h) h.stored e.number (locked e) A.size number_is locked_is))
      (told_none h ten t _ (elim (telling e ten).restarts as (λ x. (cond x no_bytes_of ear).bytes ≡ []) [ true ↦ refl | false ↦ empty ]))
      (told_keys (judged_of ten (standing_of h)) h t ∙ rw (told_restarts ten (standing_of h) e.number (locked e) number_is locked_is, presses_none ten))

  heard_is : (b t : ℕ) → Is (step_of h b t).head (next (hearing e (gather e.ear b t)) (record { bytes = kept (gather e.ear b t); last = t }) e)
  unfolding hearing kept
  heard_is b t = go (ltb (length (gather e.ear b t)) 10) refl
    where
      l : List ℕ
      l = gather e.ear b t

      go : (x : Bool) → ltb (length l) 10 ≡ x
          → Is (step_of h b t).head (next (cond x nothing (telling e l)) (record { bytes = cond x l []; last = t }) e)
      go true p =
          let s = ear_short h e.ear b t A.ear_is (ltb-true _ _ p) in
          same_stored (record { bytes = l; last = t }) (step_of h b t).head s.stored s.more
          (ap (λ (x : Head). x.keys) (ear_alone h e.ear b t A.ear_is (ltb-true _ _ p)))
      go false p =
          subst (λ (s : Stepped). Is s.head (next (telling e l) (record { bytes = []; last = t }) e)) (sym (ear_whole h e.ear b t A.ear_is (ltb-false _ _ p)))
          (told_is l t (record { bytes = []; last = t }) refl)

  -- ---- a sheet that is accepted touches the stored values alone
  stored_is : (s : List ℕ) → loadable s ≡ true → Is (loaded_of h s) (next (storing s) e.ear e)
  unfolding loadable loaded_of look
  stored_is s p =
      let k = ((and-eq-true_iff (well_formed_of s) _).0 p).1 in
      let known = all_known_is s ∙ ((and-eq-true_iff (all_stored s) _).0 k).0 in
      changed (storing s) e.ear (loaded_of h s) (loaded_becomes h A.size s known) (same_ear (loaded_of h s) refl) refl

  load_is : (s : List ℕ) → Is (cond (loadable s) (loaded_of h s) h) (next (loaded s) e.ear e)
  unfolding loaded
  load_is s = go (loadable s) refl
    where
      go : (b : Bool) → loadable s ≡ b → Is (cond b (loaded_of h s) h) (next (cond b (storing s) nothing) e.ear e)
      go false p = idle_is h same
      go true p = stored_is s p

  -- ---- an older head brought over: what an accepted write of 0 to 35h gives, at place 29
  brought_values : (r : ℕ) → r < 39 → get_or (brought_of h).stored.values r 0 ≡ look (gives 0x35 0 r) (get_or h.stored.values r 0)
  unfolding look
  brought_values r lt = rw (gives_35 r lt) (go (eqb r 29) refl)
    where
      go : (b : Bool) → eqb r 29 ≡ b → get_or (brought_of h).stored.values r 0 ≡ look (cond b (some 0) none) (get_or h.stored.values r 0)
      go true q = rw (eqb-true r 29 q) (brought h).retired
      go false q = (brought h).values r (eqb-false r 29 q)

  brought_is : Is (brought_of h) (next (obeying 0x35 0) e.ear e)
  unfolding look
  brought_is =
      let b = brought h in
      changed (obeying 0x35 0) e.ear (brought_of h)
      (record { size = b.places; vals = brought_values; force = b.number; lock = b.unlocked; offer = b.offer }) (same_ear (brought_of h) b.ear) b.keys

  ask_is : (a : Ask) → Is (asked_of a h) (next (asked a e) e.ear e)
  unfolding asked_of alone.own alone.next asked
  ask_is (measure m) = idle_is _ (either_keeps h (in_reach_of m) (measured_of h m) h (measure_keeps h m) same)
  ask_is power = cut_is e.ear
  ask_is (load s) = rw (guarded_is s h (loaded_of h s)) (load_is s)
  ask_is bring = brought_is

  step_is : (c : Call) (n : ℕ) (ss : List ℕ) (k : ℕ) → Is (head_by c n ss k h) (entry_by c n ss k e)
  unfolding head_by change ear_by
  step_is (new_head node serial) n ss k =
      elim (makes n ss node serial k) as (λ x. Is (cond x (fresh_of node serial) h) (next (cond x (making node) nothing) e.ear e))
      [ true ↦ made_is node serial e.ear e | false ↦ idle_is h same ]
  step_is (byte b t s) n ss k =
      elim (room s) as (λ x. Is (cond x (step_of h b t).head h) (next (cond x (hearing e (gather e.ear b t)) nothing) (cond x (record { bytes = kept (gather e.ear b t); last = t }) e.ear) e))
      [ true ↦ heard_is b t | false ↦ idle_is h same ]
  step_is (tick t) n ss k = idle_is (ticked_of h t) (tick_keeps h t)
  step_is (named j a) n ss k =
      elim (names n j k) as (λ x. Is (cond x (asked_of a h) h) (next (cond x (asked a e) nothing) e.ear e)) [ true ↦ ask_is a | false ↦ idle_is h same ]
  step_is (keys j s r) n ss k =
      elim (names n j k) as (λ x. Is (cond x (keyed_by s r h) h) (next (cond x (pressed s r e) nothing) e.ear e)) [ true ↦ keys_is s r | false ↦ idle_is h same ]
  step_is (dropped t) n ss k = same_stored no_bytes_of (with_ear h (empty_ear t)) refl (dropped_none t) refl

-- ---- for every list of calls
module _ (cs : Calls) (c : Call) (k : ℕ) (lt : k < grown c (count cs) (serials cs)) where
  pub seen : head_in (cs ▸ c) k ≡ head_by c (count cs) (serials cs) k (head_in cs k)
  unfolding runs
  seen =
      let b = fits cs in
      let p : k < grown c (run cs).count (serials_at (run cs)) = subst (λ (n : ℕ). k < n) (sym (both (grown c) b.counts b.marks)) lt in
      after_at (run cs) b.fits b.places c k p ∙ both (λ n ss. head_by c n ss k (head_in cs k)) b.counts b.marks

  sim_old : Is (head_in cs k) (entry cs k) → Is (head_in (cs ▸ c) k) (entry (cs ▸ c) k)
  unfolding account
  sim_old A = subst (λ (h : Head). Is h (entry (cs ▸ c) k)) (sym seen) (step_is (head_in cs k) (entry cs k) A c (count cs) (serials cs) k)

-- the head that a call makes: there was none before it
sim_new : (cs : Calls) (node serial k : ℕ) → k < grown (new_head node serial) (count cs) (serials cs) → makes (count cs) (serials cs) node serial k ≡ true
    → Is (head_in (cs ▸ new_head node serial) k) (entry (cs ▸ new_head node serial) k)
unfolding account head_by change ear_by
sim_new cs node serial k lt e =
    subst (λ (h : Head). Is h (entry (cs ▸ new_head node serial) k)) (sym (seen cs (new_head node serial) k lt)) (go (makes (count cs) (serials cs) node serial k) e)
  where
    go : (x : Bool) → x ≡ true
        → Is (cond x (fresh_of node serial) (head_in cs k)) (next (cond x (making node) nothing) (entry cs k).ear (entry cs k))
    go true q = made_is node serial (entry cs k).ear (entry cs k)
    go false q = absurd (false≢true q)

-- a head that is there after a call was there before it, or is the one that the call makes
old_or_new : (cs : Calls) (c : Call) (k : ℕ) (Q : Type 0) → k < grown c (count cs) (serials cs) → (k < count cs → Q)
    → ((node serial : ℕ) → c ≡ new_head node serial → makes (count cs) (serials cs) node serial k ≡ true → Q) → Q
unfolding grown
old_or_new cs (new_head node serial) k Q lt old new = go (may_add_of (count cs) (serials cs) node serial) refl (eqb k (count cs)) refl lt
  where
    go : (b : Bool) → may_add_of (count cs) (serials cs) node serial ≡ b → (e : Bool) → eqb k (count cs) ≡ e → k < cond b (suc (count cs)) (count cs) → Q
    go false p e q below = old below
    go true p true q below = new node serial refl (rw (p, q))
    go true p false q below = let ne = eqb-false k (count cs) q in old (omega arith)
old_or_new cs (byte b t s) k Q lt old new = old lt
old_or_new cs (tick t) k Q lt old new = old lt
old_or_new cs (named j a) k Q lt old new = old lt
old_or_new cs (keys j s n) k Q lt old new = old lt
old_or_new cs (dropped t) k Q lt old new = old lt

-- so what holds of a head when it is made, and after each call if it held before, holds of every head
pub of_heads : (P : Calls → ℕ → Type 0)
    → ((cs : Calls) (c : Call) (k : ℕ) → k < grown c (count cs) (serials cs) → k < count cs → P cs k → P (cs ▸ c) k)
    → ((cs : Calls) (node serial k : ℕ) → k < grown (new_head node serial) (count cs) (serials cs) → makes (count cs) (serials cs) node serial k ≡ true → P (cs ▸ new_head node serial) k)
    → (cs : Calls) (k : ℕ) → k < count cs → P cs k
unfolding account
of_heads P old new start k lt = absurd (not-suc-le-zero lt)
of_heads P old new (cs ▸ c) k lt =
    old_or_new cs c k (P (cs ▸ c) k) lt (λ p. old cs c k lt p (of_heads P old new cs k p))
    (λ node serial e m. rw e (new cs node serial k (rw e at lt) m))

pub sim : (cs : Calls) (k : ℕ) → k < count cs → Is (head_in cs k) (entry cs k)
sim = of_heads (λ cs k. Is (head_in cs k) (entry cs k)) (λ cs c k lt p A. sim_old cs c k lt A) sim_new
