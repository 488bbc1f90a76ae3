-- One telegram, at what a head stores: the ordered checks come to the account's plain conjunction, by cases on the command, the access and
-- the tests, and what an accepted telegram does is told part by part, by the sort of its address.
-- Assumes nothing.
use Rattle.std.specs.Prelude.{Some, None}
use Prim.Native.Nat.{ℕ, ◌<◌}
use mathlib.Core.Path.{◌≡◌, refl, sym, ◌∙◌, ap}
use mathlib.Core.Bool.{Bool, true, false, cond, not, ◌&&◌, ◌||◌, and-eq-true_iff, and-false, and-true, or-false, true≢false}
use mathlib.Core.Option.{Option, none, some}
use mathlib.Core.List.{List}
use native.Mathlib.Omega.{arith}
use borrow.Author.Tests.{eqb-true, eqb-false, lt-ltb}
use lib.Dec.{eqb, ltb}
use lib.ListN.{length, get_or, set, length-set}
use lib.Seq.{get_or-set_same, get_or-set_other}
use Rattle.wire.specs.declared.telegram.Telegram.{Telegram}
use Rattle.wire.specs.Check.{hit_of}
use Rattle.wire.specs.Telegram.{fields_of}
use Rattle.wire.specs.Word.{byte0}
use Rattle.rows.specs.declared.access.Access.{Access}
use Rattle.rows.specs.declared.access.Access.TheVariants.{ReadWrite, ReadOnly, WriteOnly, Unknown}
use Rattle.rows.specs.Table.{rows, row_of, address, delivery, place_of}
use Rattle.rows.specs.Access.{access_of, broadcast_of}
use Rattle.rows.specs.Kinds.{kind_of}
use Rattle.rows.specs.Ranges.{range_of, is_right}
use Rattle.rows.specs.Resets.{bus_of, resets_of}
use Rattle.rows.proofs.Groups.{either}
use Rattle.judge.specs.declared.command.Command.{Command}
use Rattle.judge.specs.declared.command.Command.TheVariants.{Read, Write, Broadcast, Other}
use Rattle.judge.specs.declared.verdict.Verdict.{Verdict}
use Rattle.judge.specs.declared.verdict.Verdict.TheVariants.{Obeyed, Silent, Refused}
use Rattle.judge.specs.declared.verdict.Standing.{Standing}
use Rattle.judge.specs.declared.deed.Deed.{Deed}
use Rattle.judge.specs.declared.deed.Deed.TheVariants.{Nothing, Reset, Restart, Calibrate, Forget, Withdraw}
use Rattle.judge.specs.Commands.{command_of, casts_of, changes_of}
use Rattle.judge.specs.Checks.{command_check, parameter_check, access_check, lockable_of}
use Rattle.judge.specs.Verdicts.{mine_of, verdict_of}
use Rattle.judge.specs.Deeds.{system_of, done_by, shown_by, refused_by, deed_of}
use Rattle.judge.specs.Judged.{judged_of}
use Rattle.judge.proofs.Laws.{is_obeyed, obeyed_is}
use Rattle.judge.proofs.Offers.{drops, drops_is}
use Rattle.state.specs.declared.parts.Stored as parts
use Rattle.state.specs.With.{with_offer}
use Rattle.effects.specs.Stored.{reset_value, restarted_stored, stored_by}
use Rattle.effects.proofs.Values.{reset_at, reset_length}
use Rattle.head.specs.Hear.{restarts_of}
use Rattle.head.proofs.Again.{stored_after}
use Rattle.demands.specs.Past.{Change, nothing, writable, lockable, accepted, resets, gives, obeying, withdrawn, dropping, look}
use Rattle.demands.proofs.Sorts.{Sort, value, system, interlock, assignment, other, sort_of, value_kind, system_kind, interlock_kind, assignment_kind, other_deed, other_still, system_nowhere, interlock_nowhere, assignment_nowhere, nowhere_apart, value_same, value_system, value_interlock, value_assignment, number_access}

cond_map : {A B : Type 0} (f : A → B) (b : Bool) (x y : A) → f (cond b x y) ≡ cond b (f x) (f y)
cond_map f true x y = refl
cond_map f false x y = refl

-- ---- which telegrams are taken, by the command
abbrev takes : Command → Bool → Access → Bool → Bool
takes Read mine a castable = false
takes Write mine a castable = mine && writable a
takes Broadcast mine a castable = castable
takes Other mine a castable = false

takes_is : (c : ℕ) (mine : Bool) (a : Access) (castable : Bool)
    → takes (command_of c) mine a castable ≡ (eqb c 1 && (mine && writable a)) || (eqb c 2 && castable)
unfolding command_of
takes_is c mine a castable = go (eqb c 0) refl (eqb c 1) refl (eqb c 2) refl
  where
    go : (x : Bool) → eqb c 0 ≡ x → (y : Bool) → eqb c 1 ≡ y → (z : Bool) → eqb c 2 ≡ z
        → takes (command_of c) mine a castable ≡ (eqb c 1 && (mine && writable a)) || (eqb c 2 && castable)
    go true p y q z r = rw (eqb-true c 0 p)
    go false p true q z r = rw (eqb-true c 1 q) (sym (or-false (mine && writable a)))
    go false p false q true r = rw (eqb-true c 2 r)
    go false p false q false r = rw (p, q, r)

-- what may be broadcast is write only
cast_access : (a : ℕ) → broadcast_of a ≡ true → access_of a ≡ WriteOnly
unfolding broadcast_of access_of rows
cast_access a = go (eqb a 0xA0) refl (eqb a 0xA8) refl (eqb a 0xAA) refl
  where
    go : (x : Bool) → eqb a 0xA0 ≡ x → (y : Bool) → eqb a 0xA8 ≡ y → (z : Bool) → eqb a 0xAA ≡ z → x || (y || z) ≡ true → access_of a ≡ WriteOnly
    go true p y q z r e = rw (eqb-true a 0xA0 p)
    go false p true q z r e = rw (eqb-true a 0xA8 q)
    go false p false q true r e = rw (eqb-true a 0xAA r)
    go false p false q false r e = absurd (true≢false (sym e))

-- ---- the ordered checks of what changes something come to the plain conjunction
module _ (locked lockable elsewhere right : Bool) where
  abbrev passed : Command → Bool → Bool → Access → Bool → Bool → Bool
  passed c sound mine a castable over =
      sound
      && ((casts_of c || mine)
      && ((is_obeyed (command_check c) && (is_obeyed (parameter_check a) && is_obeyed (access_check c a castable)))
      && (not (locked && (changes_of c && lockable)) && (not (changes_of c && elsewhere) && ((not (changes_of c) || right) && not over)))))

  plain : (c : Command) (sound mine : Bool) (a : Access) (castable over : Bool) → (over ≡ true → a ≡ ReadOnly) → (castable ≡ true → a ≡ WriteOnly)
      → passed c sound mine a castable over && changes_of c ≡ sound && (takes c mine a castable && (not (locked && lockable) && (not elsewhere && right)))
  unfolding command_check parameter_check access_check
  plain Read sound mine a castable over n m = simp and-false
  plain Write false mine a castable over n m = refl
  plain Write true false a castable over n m = refl
  plain Write true true a castable true n m = rw (n refl)
  plain Write true true ReadWrite castable false n m = simp and-true
  plain Write true true ReadOnly castable false n m = refl
  plain Write true true WriteOnly castable false n m = simp and-true
  plain Write true true Unknown castable false n m = refl
  plain Broadcast false mine a castable over n m = refl
  plain Broadcast true mine a true true n m = absurd (let z : ◌≡◌ {A = ℕ} 0 1 = cc (n refl, m refl) in omega arith)
  plain Broadcast true mine a true false n m = rw (m refl) (simp and-true)
  plain Broadcast true mine a false over n m = simp and-false
  plain Other sound mine a castable over n m = simp and-false

-- a number is offered only where the number in force is 31
may_offer : (x y : Bool) → not (x && not y) ≡ (not x || y)
may_offer true true = refl
may_offer true false = refl
may_offer false y = refl

pub accepted_is : (ten : List ℕ) (s : Standing)
    → is_obeyed (judged_of ten s).verdict && changes_of (judged_of ten s).command ≡ accepted s.number s.locked ten
unfolding judged_of accepted lockable lockable_of broadcast_of
accepted_is ten s =
    let t : Telegram = fields_of ten in
    rw (
      obeyed_is (hit_of ten) t s,
      ← takes_is t.command (mine_of t s) (access_of t.parameter) (broadcast_of t.parameter),
      ← may_offer (eqb t.parameter 0xD2) (eqb s.number 31),
    )
    (plain s.locked (lockable t.parameter) (eqb t.parameter 0xD2 && not (eqb s.number 31)) (is_right (range_of t.parameter t.value)) (command_of t.command) (eqb (hit_of ten) 0) (mine_of t s)
    (access_of t.parameter) (broadcast_of t.parameter) (eqb t.parameter 0x96 && ltb s.inputs (byte0 t.value))
    (λ e. number_access t.parameter ((and-eq-true_iff (eqb t.parameter 0x96) _).0 e).0) (cast_access t.parameter))

-- so an accepted telegram is done; of the others one drops the offer, and an obeyed one is a read, and shows
abbrev done : List ℕ → Deed
done ten = done_by (kind_of (fields_of ten).parameter) (fields_of ten).value (fields_of ten).word

withdrawn_is : (ten : List ℕ) (s : Standing) → drops (judged_of ten s).verdict (fields_of ten).parameter ≡ withdrawn s.number ten
unfolding judged_of withdrawn
withdrawn_is ten s = drops_is (hit_of ten) (fields_of ten) s

abbrev rest : List ℕ → Standing → Deed
rest ten s = cond (withdrawn s.number ten) Withdraw (cond (is_obeyed (judged_of ten s).verdict) (shown_by (fields_of ten).parameter) Nothing)

pub deed_is : (ten : List ℕ) (s : Standing) → (judged_of ten s).deed ≡ cond (accepted s.number s.locked ten) (done ten) (rest ten s)
unfolding judged_of deed_of refused_by
deed_is ten s = rw (← accepted_is ten s, ← withdrawn_is ten s) (go (verdict_of (hit_of ten) (fields_of ten) s))
  where
    c : Command
    c = command_of (fields_of ten).command

    go : (v : Verdict) → deed_of v c (kind_of (fields_of ten).parameter) (fields_of ten)
        ≡ cond (is_obeyed v && changes_of c) (done ten) (cond (drops v (fields_of ten).parameter) Withdraw (cond (is_obeyed v) (shown_by (fields_of ten).parameter) Nothing))
    go Obeyed = refl
    go Silent = refl
    go (Refused f) = refl

-- a read stores nothing
shown_none : (a : ℕ) (st : parts.Stored) → stored_after (shown_by a) st ≡ st
unfolding stored_after stored_by restarts_of shown_by
shown_none a st = either (λ d. stored_after d st ≡ st) (eqb a 0xFA) (λ _. refl) (either (λ d. stored_after d st ≡ st) (eqb a 0xFE) (λ _. refl) refl)

stored_is : (ten : List ℕ) (s : Standing) (st : parts.Stored)
    → stored_after (judged_of ten s).deed st
    ≡ cond (accepted s.number s.locked ten) (stored_after (done ten) st) (cond (withdrawn s.number ten) (with_offer st 0) st)
unfolding stored_after stored_by restarts_of
stored_is ten s st =
    rw (deed_is ten s) (go (accepted s.number s.locked ten) (withdrawn s.number ten) (is_obeyed (judged_of ten s).verdict))
  where
    go : (x y z : Bool) → stored_after (cond x (done ten) (cond y Withdraw (cond z (shown_by (fields_of ten).parameter) Nothing))) st
        ≡ cond x (stored_after (done ten) st) (cond y (with_offer st 0) st)
    go true y z = refl
    go false true z = refl
    go false false true = shown_none (fields_of ten).parameter st
    go false false false = refl

-- ---- what an accepted telegram leaves in each part
pub set_gives : (l : List ℕ) (q v r : ℕ) → r < length l → get_or (set l q v) r 0 ≡ look (cond (eqb r q) (some v) none) (get_or l r 0)
unfolding look
set_gives l q v r h = go (eqb r q) refl
  where
    go : (b : Bool) → eqb r q ≡ b → get_or (set l q v) r 0 ≡ look (cond b (some v) none) (get_or l r 0)
    go true e = rw (← eqb-true r q e) (get_or-set_same l r v 0 h)
    go false e = get_or-set_other l q r v 0 (eqb-false r q e)

-- what holds of each of the four ways of a system command holds of the command
pub system_way : (P : Deed → Type 0) (v : ℕ) → (v ≡ 7 → P Calibrate) → (v ≡ 8 → P Forget) → (v ≡ 9 → P Restart)
    → (eqb v 9 ≡ false → P (Reset v)) → P (system_of v)
unfolding system_of
system_way P v p q r s = go (eqb v 7) refl (eqb v 8) refl (eqb v 9) refl
  where
    go : (a : Bool) → eqb v 7 ≡ a → (b : Bool) → eqb v 8 ≡ b → (c : Bool) → eqb v 9 ≡ c
        → P (cond a Calibrate (cond b Forget (cond c Restart (Reset v))))
    go true e b f c g = p (eqb-true v 7 e)
    go false e true f c g = q (eqb-true v 8 f)
    go false e false f true g = r (eqb-true v 9 g)
    go false e false f false g = s g

-- the account's resets are the table's
resets_is : (v r : ℕ) → r < 39 → resets v (address (row_of r)) ≡ resets_of v r
unfolding resets_of bus_of
resets_is v r lt = rw (lt-ltb r 39 lt)

-- what a change makes of a stored part
pub record Becomes (st : parts.Stored) (g : Change) (x : parts.Stored) : Type 0 where
  pub size : length x.values ≡ length st.values
  pub vals : (r : ℕ) → r < 39 → get_or x.values r 0 ≡ look (g.gives r) (get_or st.values r 0)
  pub force : x.number ≡ cond g.restarts (look (g.gives 0) (get_or st.values 0 0)) st.number
  pub lock : x.unlocked ≡ look g.opens st.unlocked
  pub offer : x.offer ≡ cond g.restarts 0 (look g.offers st.offer)

nothing_becomes : (st : parts.Stored) → Becomes st nothing st
unfolding look
nothing_becomes st = record { size = refl; vals = λ r lt. refl; force = refl; lock = refl; offer = refl }

dropping_becomes : (st : parts.Stored) → Becomes st dropping (with_offer st 0)
unfolding look
dropping_becomes st = record { size = refl; vals = λ r lt. refl; force = refl; lock = refl; offer = refl }

-- what a write gives a parameter, by its place; and one of 0 to 35h
pub value_gives : (v a i r : ℕ) → place_of a ≡ Some i → r < 39 → gives a v r ≡ cond (eqb r i) (some v) none
unfolding gives
value_gives v a i r e lt = rw (value_same a i r e lt, value_system a i e)

pub gives_35 : (r : ℕ) → r < 39 → gives 0x35 0 r ≡ cond (eqb r 29) (some 0) none
unfolding place_of rows
gives_35 r lt = value_gives 0 0x35 29 r refl lt

module _ (v w : ℕ) (st : parts.Stored) (full : length st.values ≡ 39) where
  none_gives : (a r : ℕ) → place_of a ≡ None → eqb a 0xA0 ≡ false → r < 39 → gives a v r ≡ none
  unfolding gives
  none_gives a r e p lt = rw (nowhere_apart a r e lt, p)

  system_gives : (r : ℕ) → r < 39 → gives 0xA0 v r ≡ cond (resets_of v r) (some (delivery (row_of r))) none
  unfolding gives
  system_gives r lt = rw (nowhere_apart 0xA0 r system_nowhere lt, resets_is v r lt)

  abbrev reset : ℕ → Option ℕ
  reset r = cond (resets_of v r) (some (delivery (row_of r))) none

  system_values : (r : ℕ) → r < 39 → get_or (stored_after (system_of v) st).values r 0 ≡ look (reset r) (get_or st.values r 0)
  unfolding stored_after stored_by restarts_of look restarted_stored reset_value resets_of
  system_values r lt =
      system_way (λ d. get_or (stored_after d st).values r 0 ≡ look (reset r) (get_or st.values r 0)) v
      (λ e. none_reset 7 refl e) (λ e. none_reset 8 refl e) (λ e. none_reset 9 refl e)
      (λ e. reset_at v st.values r (omega arith) ∙ sym (cond_map (λ (y : Option ℕ). look y (get_or st.values r 0)) (resets_of v r) (some (delivery (row_of r))) none))
    where
      none_reset : (n : ℕ) → resets_of n r ≡ false → v ≡ n → get_or st.values r 0 ≡ look (reset r) (get_or st.values r 0)
      none_reset n f e = rw (e, f)

  system_force : (stored_after (system_of v) st).number ≡ cond (eqb v 9) (look (reset 0) (get_or st.values 0 0)) st.number
  unfolding stored_after stored_by restarts_of look restarted_stored resets_of row_of rows
  system_force =
      system_way (λ d. (stored_after d st).number ≡ cond (eqb v 9) (look (reset 0) (get_or st.values 0 0)) st.number) v
      (λ e. rw e) (λ e. rw e) (λ e. rw e) (λ e. rw e)

  system_offer : (stored_after (system_of v) st).offer ≡ cond (eqb v 9) 0 st.offer
  unfolding stored_after stored_by restarts_of restarted_stored
  system_offer =
      system_way (λ d. (stored_after d st).offer ≡ cond (eqb v 9) 0 st.offer) v (λ e. rw e) (λ e. rw e) (λ e. rw e) (λ e. rw e)

  pub done_becomes : (a : ℕ) → Becomes st (obeying a v) (stored_after (done_by (kind_of a) v w) st)
  unfolding stored_after stored_by restarts_of done_by look restarted_stored
  done_becomes a = go (sort_of a)
    where
      go : Sort a → Becomes st (obeying a v) (stored_after (done_by (kind_of a) v w) st)
      go (value i e) =
          rw (value_kind a i e)
          record {
            size = length-set st.values i v;
            vals = λ r lt. rw (value_gives v a i r e lt) (set_gives st.values i v r (omega arith));
            force = rw (value_system a i e);
            lock = rw (value_interlock a i e);
            offer = rw (value_system a i e, value_assignment a i e);
          }
      go (system e) =
          rw (e, system_kind)
          record {
            size = system_way (λ d. length (stored_after d st).values ≡ length st.values) v (λ _. refl) (λ _. refl) (λ _. refl) (λ _. reset_length v st.values);
            vals = λ r lt. rw (system_gives r lt) (system_values r lt);
            force = rw (system_gives 0 (omega arith)) system_force;
            lock = system_way (λ d. (stored_after d st).unlocked ≡ st.unlocked) v (λ _. refl) (λ _. refl) (λ _. refl) (λ _. refl);
            offer = system_offer;
          }
      go (interlock e) =
          rw (e, interlock_kind)
          record { size = refl; vals = λ r lt. rw (none_gives 0xA8 r interlock_nowhere refl lt); force = refl; lock = refl; offer = refl }
      go (assignment e) =
          rw (e, assignment_kind)
          record { size = refl; vals = λ r lt. rw (none_gives 0xD2 r assignment_nowhere refl lt); force = refl; lock = refl; offer = refl }
      go (other e p q o) =
          rw (other_still v w st a e p q o)
          record { size = refl; vals = λ r lt. rw (none_gives a r e p lt); force = rw p; lock = rw q; offer = rw (p, o) }

-- ---- a telegram, by the number in force and the lock of the standing
accepted_at : (ten : List ℕ) (s : Standing) (f : ℕ) (shut : Bool) → s.number ≡ f → s.locked ≡ shut
    → accepted s.number s.locked ten ≡ accepted f shut ten
accepted_at ten s f shut p q = ap (λ (x : ℕ). accepted x s.locked ten) p ∙ ap (λ (x : Bool). accepted f x ten) q

withdrawn_at : (ten : List ℕ) (s : Standing) (f : ℕ) → s.number ≡ f → withdrawn s.number ten ≡ withdrawn f ten
withdrawn_at ten s f p = ap (λ (x : ℕ). withdrawn x ten) p

-- what it changes
abbrev pub changing : ℕ → Bool → List ℕ → Change
changing f shut ten = cond (accepted f shut ten) (obeying (fields_of ten).parameter (fields_of ten).value) (cond (withdrawn f ten) dropping nothing)

-- at what a head stores
pub told_becomes : (ten : List ℕ) (s : Standing) (st : parts.Stored) (f : ℕ) (shut : Bool) → length st.values ≡ 39 → s.number ≡ f → s.locked ≡ shut
    → Becomes st (changing f shut ten) (stored_after (judged_of ten s).deed st)
told_becomes ten s st f shut full p q = rw (stored_is ten s st, accepted_at ten s f shut p q, withdrawn_at ten s f p) (go (accepted f shut ten) (withdrawn f ten))
  where
    go : (b d : Bool)
        → Becomes st (cond b (obeying (fields_of ten).parameter (fields_of ten).value) (cond d dropping nothing))
        (cond b (stored_after (done ten) st) (cond d (with_offer st 0) st))
    go true d = done_becomes (fields_of ten).value (fields_of ten).word st full (fields_of ten).parameter
    go false true = dropping_becomes st
    go false false = nothing_becomes st

-- an accepted telegram restarts the head where it is A0h 9, and no other does
pub done_restarts : (a v w : ℕ) → restarts_of (done_by (kind_of a) v w) ≡ (obeying a v).restarts
unfolding restarts_of done_by
done_restarts a v w = go (sort_of a)
  where
    go : Sort a → restarts_of (done_by (kind_of a) v w) ≡ (eqb a 0xA0 && eqb v 9)
    go (value i e) = rw (value_kind a i e, value_system a i e)
    go (system e) = rw (e, system_kind) (system_way (λ d. restarts_of d ≡ eqb v 9) v (λ n. rw n) (λ n. rw n) (λ n. rw n) (λ n. sym n))
    go (interlock e) = rw (e, interlock_kind)
    go (assignment e) = rw (e, assignment_kind)
    go (other e p q r) = rw p (other_deed (λ d. restarts_of d ≡ false) v w a e p q r refl (λ _. refl) (λ _. refl) (λ _. refl) (λ _. refl))

pub told_restarts : (ten : List ℕ) (s : Standing) (f : ℕ) (shut : Bool) → s.number ≡ f → s.locked ≡ shut
    → restarts_of (judged_of ten s).deed ≡ (changing f shut ten).restarts
unfolding restarts_of shown_by
told_restarts ten s f shut p q =
    rw (deed_is ten s, accepted_at ten s f shut p q, withdrawn_at ten s f p) (go (accepted f shut ten) (withdrawn f ten) (is_obeyed (judged_of ten s).verdict))
  where
    a : ℕ
    a = (fields_of ten).parameter

    go : (x y z : Bool) → restarts_of (cond x (done ten) (cond y Withdraw (cond z (shown_by a) Nothing)))
        ≡ (cond x (obeying a (fields_of ten).value) (cond y dropping nothing)).restarts
    go true y z = done_restarts a (fields_of ten).value (fields_of ten).word
    go false true z = refl
    go false false true = either (λ d. restarts_of d ≡ false) (eqb a 0xFA) (λ _. refl) (either (λ d. restarts_of d ≡ false) (eqb a 0xFE) (λ _. refl) refl)
    go false false false = refl
