-- What is the same for every telegram: the laws of Telling over the byte call; and an error reply, an accepted write and a telegram that is passed over, each
-- known by what can be seen of it.
-- Assumes nothing.
use Rattle.std.specs.Prelude.{Ok, is_some}
use Prim.Native.Nat.{ℕ, ◌<◌, ◌≤◌}
use native.Mathlib.Omega.{arith}
use mathlib.Core.Path.{◌≡◌, refl, sym, ◌∙◌, ap, subst}
use mathlib.Core.Bool.{Bool, cond, ◌&&◌, ◌||◌, true, false, and-eq-true_iff, true≢false}
use mathlib.Core.Logic.{◌≢◌, ◌⊎◌, inl, inr}
use mathlib.Core.List.{List}
use mathlib.Core.Option.{some, none}
use borrow.Author.Tests.{ne_eqb, eqb-true, eq-eqb, le-ltb}
use lib.Dec.{eqb, ltb}
use lib.ListN.{length, take, get_or}
use Rattle.wire.specs.declared.fault.Fault.{Fault}
use Rattle.wire.specs.declared.fault.Fault.TheVariants.{NoAccess}
use Rattle.wire.specs.declared.telegram.Telegram.{Telegram}
use Rattle.wire.specs.Check.{hit_of}
use Rattle.wire.specs.Faults.{code_of}
use Rattle.wire.specs.Telegram.{fields_of, ten_in}
use Rattle.wire.specs.Word.{byte0}
use Rattle.signed.proofs.Laws.{word_fits}
use Rattle.rows.specs.declared.access.Access.TheVariants.{ReadOnly}
use Rattle.rows.specs.Table.{rows}
use Rattle.rows.specs.Access.{access_of, broadcast_of}
use Rattle.rows.specs.Kinds.{kind_of}
use Rattle.judge.specs.declared.deed.Deed.{Deed}
use Rattle.judge.specs.declared.deed.Deed.TheVariants.{Aim2}
use Rattle.judge.specs.declared.judged.Judged.{Judged}
use Rattle.judge.specs.declared.verdict.Verdict.{Verdict}
use Rattle.judge.specs.declared.verdict.Verdict.TheVariants.{Obeyed, Silent, Refused}
use Rattle.judge.specs.Commands.{command_of, casts_of}
use Rattle.judge.specs.declared.command.Command.{Command}
use Rattle.judge.specs.declared.command.Command.TheVariants.{Read, Write, Broadcast, Other}
use Rattle.judge.specs.declared.verdict.Standing.{Standing}
use Rattle.judge.specs.Checks.{◌else◌, sum_check, node_check, command_check, parameter_check, access_check, hush_of}
use Rattle.judge.specs.Deeds.{done_by}
use Rattle.judge.specs.Verdicts.{mine_of, late_of, verdict_of}
use Rattle.judge.specs.Judged.{judged_of}
use Rattle.judge.proofs.Laws.{is_obeyed, command_is, cast_never_refused, obeyed_is, obeyed_sound}
use Rattle.judge.proofs.Offers.{drops}
use Rattle.state.specs.declared.parts.Head.{Head}
use Rattle.state.specs.declared.parts.Stored as parts
use Rattle.state.specs.declared.parts.Ear.{Ear}
use Rattle.state.specs.declared.parts.Faults.{Faults}
use Rattle.state.specs.Settings.{response_place}
use Rattle.effects.specs.Stored.{locked_of, stored_by}
use Rattle.effects.specs.Faults.{counted_of, complained_of, faults_by}
use Rattle.effects.specs.Measured.{measurement_by}
use Rattle.effects.specs.Aimed.{settled_of, second_aimed, given_of, turned_of, targets_by}
use Rattle.effects.specs.Restart.{empty_ear}
use Rattle.reply.specs.Reply.{answer_of, reply_of}
use Rattle.reply.proofs.Replies.{silent_none, cast_none}
use Rattle.head.specs.Hear.{gathered_of, standing_of, started_of, told_of, passes_of, passed_of, tell_of, restarts_of}
use Rattle.head.specs.declared.hear.Stepped.{Stepped}
use Rattle.head.proofs.Again.{told_stored, told_ear}
use Rattle.head.proofs.Passes.{passes_tell}
use Rattle.head.proofs.Refused.{silent, refused, unheeded_only}
use Rattle.demands.specs.Run.{product}
use Rattle.demands.specs.Alone.{Taken, setting}
use Rattle.demands.specs.Past.{accepted, gives, look}
use Rattle.demands.specs.Acts.{act_of, Acted}
use Rattle.demands.specs.Every.{Passed, Complained, locked, Every, readable, aim_answer}
use Rattle.demands.proofs.Sorts.{second_kind}
use Rattle.demands.proofs.Telegram.{accepted_is, deed_is, done_restarts, told_becomes}
use Rattle.demands.proofs.Acts.{done_acts, after}
use Rattle.demands.proofs.Words.{copies}
use Rattle.demands.proofs.Answers.{obeys, keeps_silent}
use Rattle.demands.proofs.Telling.{either, judging, told, said_told, heeded, read_says, write_says, Still, read_still, read_obeyed, read_polls, write_sets, setting_keeps, told_stays, told_starts, complained_is, counted_sound, counted_inputs, told_spares, unheeded_faults, told_counts, refused_told, refuses, told_complains}

-- ---- an error reply, known by its parameter
refused_keeps : (ten : List ℕ) (h : Head) (t : ℕ) (f : Fault) → let j = judged_of ten (standing_of h) in
    j.verdict ≡ Refused f → Complained h (told_of j h t) j.hit (code_of f)
unfolding complained_of empty_ear
refused_keeps ten h t f v =
    let j = judged_of ten (standing_of h) in
    let only = unheeded_only h ten t (rw v refused) in
    let e = unheeded_faults ten h t (rw v refused) ∙ complained_is j.verdict (counted_of j.hit h.faults) in
    let part = drops j.verdict (fields_of ten).parameter in
    record {
      inputs = told_complains ten h t f v;
      memory = λ s. ap (λ (g : Faults). g.memory) e ∙ (counted_sound j.hit h.faults s).0;
      pending = λ s. ap (λ (g : Faults). g.pending) e ∙ (counted_sound j.hit h.faults s).1;
      values = ap (λ (x : Head). x.stored.values) only ∙ either (λ (s : parts.Stored). s.values ≡ h.stored.values) part refl refl;
      number = ap (λ (x : Head). x.stored.number) only ∙ either (λ (s : parts.Stored). s.number ≡ h.stored.number) part refl refl;
      baud = ap (λ (x : Head). x.stored.baud) only ∙ either (λ (s : parts.Stored). s.baud ≡ h.stored.baud) part refl refl;
      unlocked = ap (λ (x : Head). x.stored.unlocked) only ∙ either (λ (s : parts.Stored). s.unlocked ≡ h.stored.unlocked) part refl refl;
      measurement = ap (λ (x : Head). x.measurement) only;
      targets = ap (λ (x : Head). x.targets) only;
      gathered = ap (λ (x : Head). x.ear.count) only;
      keys = ap (λ (x : Head). x.keys) only;
    }

-- what is obeyed and has FDh for its parameter is a sound read
error_access : (access_of 0xFD ≡ ReadOnly) × (broadcast_of 0xFD ≡ false)
unfolding access_of broadcast_of rows
error_access = (refl, refl)

only_read : (hit : ℕ) (t : Telegram) (s : Standing) → verdict_of hit t s ≡ Obeyed → t.parameter ≡ 0xFD → t.command ≡ 0
unfolding parameter_check access_check command_check
only_read hit t s o p = go (command_of t.command) refl
  where
    tests : (is_obeyed (command_check (command_of t.command)) && (is_obeyed (parameter_check (access_of t.parameter)) && is_obeyed (access_check (command_of t.command) (access_of t.parameter) (broadcast_of t.parameter)))) ≡ true
    tests =
        let one = (and-eq-true_iff (eqb hit 0) _).0 (sym (obeyed_is hit t s) ∙ ap is_obeyed o) in
        let two = (and-eq-true_iff (casts_of (command_of t.command) || mine_of t s) _).0 one.1 in ((and-eq-true_iff _ _).0 two.1).0

    go : (c : Command) → command_of t.command ≡ c → t.command ≡ 0
    go Read e = eqb-true t.command 0 (sym (command_is t.command).0 ∙ rw e)
    go Write e = absurd (true≢false (sym (rw (e, p, error_access.0) at tests)))
    go Broadcast e = absurd (true≢false (sym (rw (e, p, error_access.0, error_access.1) at tests)))
    go Other e = absurd (true≢false (sym (rw e at tests)))

-- so none of these is obeyed with FDh in its reply
odd : (ten : List ℕ) (s : Standing) → verdict_of (hit_of ten) (fields_of ten) s ≡ Obeyed → (fields_of ten).parameter ≡ 0xFD
    → ((fields_of ten).parameter ≢ 0xFD) ⊎ (((fields_of ten).command ≢ 0) ⊎ (hit_of ten ≢ 0)) → ⊥
odd ten s v p (inl n) = n p
odd ten s v p (inr (inl n)) = n (only_read (hit_of ten) (fields_of ten) s v p)
odd ten s v p (inr (inr n)) = n (obeyed_sound (hit_of ten) (fields_of ten) s v)

errs : (h : Head) (b t : ℕ) (space : List ℕ) → Taken h space → is_some (gathered_of h.ear b t).ten ≡ true
    → let ten = ten_in (gathered_of h.ear b t).ten in
    let x = fields_of (take 10 (product.on_head.space h b t space)) in
    (product.on_head.byte h b t (length space)).heard ≡ Ok 1 → x.parameter ≡ 0xFD
    → ((fields_of ten).parameter ≢ 0xFD) ⊎ (((fields_of ten).command ≢ 0) ⊎ (hit_of ten ≢ 0))
    → Complained h (product.on_head.byte h b t (length space)).head (hit_of ten) x.value
unfolding judged_of reply_of
errs h b t space k e one fd other =
    let ten = ten_in (gathered_of h.ear b t).ten in
    let x = fields_of (take 10 (product.on_head.space h b t space)) in
    heeded h b t space k e one (Complained h (product.on_head.byte h b t (length space)).head (hit_of ten) x.value)
    (λ v own loud. absurd (odd ten (standing_of h) v (sym own ∙ fd) other))
    (λ f v. rw (obeys h b t space k e, (refused_told h b t space k e f v).2) (refused_keeps ten h t f v))

-- ---- a write that is accepted is answered
is_obeyed_lem : (v : Verdict) → is_obeyed v ≡ true → v ≡ Obeyed
is_obeyed_lem Obeyed e = refl
is_obeyed_lem Silent e = absurd (true≢false (sym e))
is_obeyed_lem (Refused f) e = absurd (true≢false (sym e))

-- what an FFh write leaves, and makes set point 2
aims_told : (j : Judged) (h : Head) (t v w : ℕ) → j.deed ≡ Aim2 v w
    → let k = told_of j h t in (k.stored.values ≡ h.stored.values) × (k.measurement ≡ h.measurement) × (k.targets.second ≡ v)
unfolding told_of stored_by measurement_by targets_by turned_of restarts_of settled_of given_of second_aimed
aims_told j h t v w e = rw e (refl, refl, refl)

answer_own : (a : ℕ) (h : Head) (value : ℕ) → a ≢ 0xFF → answer_of a h value ≡ value
unfolding answer_of
answer_own a h value n = rw (ne_eqb a 0xFF n)

-- the answer to an FFh write
answer_aims : (h k : Head) (v : ℕ) → k.stored.values ≡ h.stored.values → k.measurement ≡ h.measurement → k.targets.second ≡ v
    → answer_of 0xFF h v ≡ aim_answer (setting h response_place) k
unfolding answer_of
answer_aims h k v p q r = rw (p, q, r)

aims_fits : (how : ℕ) (k : Head) → k.targets.second < 4294967296 → aim_answer how k < 4294967296
aims_fits how k small = either (λ w. w < 4294967296) (eqb how 1) (word_fits _) (either (λ w. w < 4294967296) (eqb how 2) (word_fits _) small)

-- what is obeyed is sound and enters nothing: the lists and the pending error are as they were when it is done
obeyed_errors : (ten : List ℕ) (h : Head) → let j = judged_of ten (standing_of h) in j.verdict ≡ Obeyed
    → let f = complained_of j.verdict (counted_of j.hit h.faults) in
    (f.pending ≡ h.faults.pending) × (f.memory ≡ h.faults.memory) × (f.inputs ≡ h.faults.inputs)
unfolding judged_of complained_of
obeyed_errors ten h o =
    let c = counted_sound (hit_of ten) h.faults (obeyed_sound (hit_of ten) (fields_of ten) (standing_of h) o) in
    rw o (c.1, c.0, counted_inputs (hit_of ten) h.faults)

-- and does what its address says
obeyed_acts : (ten : List ℕ) (h : Head) (t p v w : ℕ) → let j = judged_of ten (standing_of h) in
    j.verdict ≡ Obeyed → j.deed ≡ done_by (kind_of p) v w → (eqb p 0xA0 && eqb v 9) ≡ false → Acted h (told_of j h t) (act_of p v) v w
unfolding told_of
obeyed_acts ten h t p v w o is n =
    let j = judged_of ten (standing_of h) in
    let f = complained_of j.verdict (counted_of j.hit h.faults) in
    let r = obeyed_errors ten h o in
    let g = started_of j.hit t h.monitor in
    let quiet : restarts_of j.deed ≡ false = ap restarts_of is ∙ done_restarts p v w ∙ n in
    rw quiet
    (subst (λ (d : Deed). Acted h (after h f r.0 r.1 r.2 g (empty_ear t) d) (act_of p v) v w) (sym is)
    (done_acts h f r.0 r.1 r.2 g (empty_ear t) p v w n))

-- a read that is obeyed enters nothing
read_inputs : (j : Judged) (h : Head) (t a : ℕ) → j.verdict ≡ Obeyed → Still a j.deed → (told_of j h t).faults.inputs ≡ h.faults.inputs
unfolding told_of faults_by complained_of restarts_of
read_inputs j h t a v (inl e) = rw (e, v) (counted_inputs j.hit h.faults)
read_inputs j h t a v (inr (inl (e, p))) = rw (e, v) (counted_inputs j.hit h.faults)
read_inputs j h t a v (inr (inr (e, p))) = rw (e, v) (counted_inputs j.hit h.faults)

module _ (h : Head) (b t : ℕ) (space : List ℕ) (k : Taken h space) (e : is_some (gathered_of h.ear b t).ten ≡ true) where
  abbrev ten : List ℕ
  ten = ten_in (gathered_of h.ear b t).ten

  abbrev x : Telegram
  x = fields_of (take 10 (product.on_head.space h b t space))

  module _ (ok : accepted h.stored.number (locked h) ten ≡ true) where
    obeyed : (judging h b t).verdict ≡ Obeyed
    unfolding standing_of locked_of
    obeyed = is_obeyed_lem (judging h b t).verdict ((and-eq-true_iff (is_obeyed (judging h b t).verdict) _).0 (accepted_is ten (standing_of h) ∙ ok)).0

    told_write : (fields_of ten).command ≡ 1 → (fields_of ten).parameter ≢ 0xD2
        → let v = answer_of (fields_of ten).parameter h (fields_of ten).value in
        ((product.on_head.byte h b t (length space)).heard ≡ Ok 1) × (x.parameter ≡ (fields_of ten).parameter) × (v < 4294967296 → x.value ≡ v)
    unfolding judged_of command_of
    told_write c p = said_told h b t space k e _ obeyed (write_says (judging h b t) h _ (rw c) (ne_eqb _ 0xD2 p))

    written : (fields_of ten).command ≡ 1 → (fields_of ten).parameter ≢ 0xD2
        → ((product.on_head.byte h b t (length space)).heard ≡ Ok 1)
        × (x.parameter ≡ (fields_of ten).parameter)
        × ((fields_of ten).parameter ≢ 0xFF → (fields_of ten).value < 4294967296 → x.value ≡ (fields_of ten).value)
    written c p =
        let a = told_write c p in (
          a.0,
          a.1,
          λ n small.
              let own = answer_own (fields_of ten).parameter h (fields_of ten).value n in a.2 (rw own small) ∙ own,
        )

    -- ---- what an accepted telegram does
    done_is : (judging h b t).deed ≡ done_by (kind_of (fields_of ten).parameter) (fields_of ten).value (fields_of ten).word
    unfolding standing_of locked_of
    done_is = deed_is ten (standing_of h) ∙ rw ok

    acts : (eqb (fields_of ten).parameter 0xA0 && eqb (fields_of ten).value 9) ≡ false
        → Acted h (product.on_head.byte h b t (length space)).head (act_of (fields_of ten).parameter (fields_of ten).value) (fields_of ten).value (fields_of ten).word
    acts n = rw (obeys h b t space k e) (obeyed_acts ten h t _ _ _ obeyed done_is n)

    aimed : (fields_of ten).command ≡ 1 → (fields_of ten).parameter ≡ 0xFF → (fields_of ten).value < 4294967296
        → x.value ≡ aim_answer (setting h response_place) (product.on_head.byte h b t (length space)).head
    unfolding done_by
    aimed c p small =
        let after = told h b t in
        let d = aims_told (judging h b t) h t (fields_of ten).value (fields_of ten).word (done_is ∙ rw (p, second_kind)) in
        let is : answer_of (fields_of ten).parameter h (fields_of ten).value ≡ aim_answer (setting h response_place) after =
        rw p (answer_aims h after (fields_of ten).value d.0 d.1 d.2) in
        rw (obeys h b t space k e) ((told_write c (λ q. omega (arith, sym p ∙ q))).2 (rw is (aims_fits (setting h response_place) after (rw d.2 small))) ∙ is)

    -- ---- and what it stores
    stores : length h.stored.values ≡ 39 → (r : ℕ) → r < 39
        → setting (product.on_head.byte h b t (length space)).head r ≡ look (gives (fields_of ten).parameter (fields_of ten).value r) (setting h r)
    unfolding standing_of locked_of
    stores full r lt =
        ap (λ (x : Head). setting x r) (obeys h b t space k e)
        ∙ ap (λ (s : parts.Stored). get_or s.values r 0) (told_stored (judging h b t) h t)
        ∙ (told_becomes ten (standing_of h) h.stored h.stored.number (locked h) full refl refl).vals r lt
        ∙ rw ok

    locks : length h.stored.values ≡ 39
        → (product.on_head.byte h b t (length space)).head.stored.unlocked ≡ cond (eqb (fields_of ten).parameter 0xA8) (eqb (fields_of ten).value 1) h.stored.unlocked
    unfolding standing_of locked_of look
    locks full =
        ap (λ (x : Head). x.stored.unlocked) (obeys h b t space k e)
        ∙ ap (λ (s : parts.Stored). s.unlocked) (told_stored (judging h b t) h t)
        ∙ (told_becomes ten (standing_of h) h.stored h.stored.number (locked h) full refl refl).lock
        ∙ rw ok (elim (eqb (fields_of ten).parameter 0xA8) as (λ c. look (cond c (some (eqb (fields_of ten).value 1)) none) h.stored.unlocked ≡ cond c (eqb (fields_of ten).value 1) h.stored.unlocked) [ true ↦ refl | false ↦ refl ])

  ends : (product.on_head.byte h b t (length space)).head.ear.count ≡ 0
  unfolding empty_ear
  ends = ap (λ (x : Head). x.ear.count) (obeys h b t space k e) ∙ ap (λ (x : Ear). x.count) (told_ear (judging h b t) h t)

  -- ---- a command above 02h
  above_is : hit_of ten ≡ 0 → 2 < (fields_of ten).command → (fields_of ten).node ≡ h.stored.number → (judging h b t).verdict ≡ Refused NoAccess
  unfolding judged_of verdict_of sum_check node_check late_of hush_of command_check ◌else◌ command_of standing_of
  above_is s c n =
      rw (s, ne_eqb (fields_of ten).command 0 (λ z. omega arith), ne_eqb (fields_of ten).command 1 (λ z. omega arith), ne_eqb (fields_of ten).command 2 (λ z. omega arith), eq-eqb _ _ n)

  above : hit_of ten ≡ 0 → 2 < (fields_of ten).command → (fields_of ten).node ≡ h.stored.number
      → ((product.on_head.byte h b t (length space)).heard ≡ Ok 1) × (x.parameter ≡ 0xFD) × (x.value ≡ 0x0084)
  above s c n = refused_told h b t space k e NoAccess (above_is s c n)

  -- ---- a read of what may be read is answered
  read : hit_of ten ≡ 0 → (fields_of ten).command ≡ 0 → (fields_of ten).node ≡ h.stored.number → readable (access_of (fields_of ten).parameter) ≡ true
      → ((fields_of ten).parameter ≡ 0x96 → byte0 (fields_of ten).value ≤ h.faults.inputs.count)
      → ((product.on_head.byte h b t (length space)).heard ≡ Ok 1)
      × (x.parameter ≡ (fields_of ten).parameter)
      × ((product.on_head.byte h b t (length space)).head.faults.inputs ≡ h.faults.inputs)
  unfolding judged_of standing_of command_of
  read s c n a few =
      let v : (judging h b t).verdict ≡ Obeyed =
      rw s (read_obeyed (fields_of ten) (standing_of h) (rw c) (eq-eqb _ _ n) (access_of (fields_of ten).parameter) refl a (go (eqb (fields_of ten).parameter 0x96) refl)) in
      let r = said_told h b t space k e _ v (read_says (judging h b t) h _ (rw c)) in
      (r.0, r.1, rw (obeys h b t space k e) (read_inputs (judging h b t) h t (fields_of ten).parameter v (read_still ten h c)))
    where
      go : (y : Bool) → eqb (fields_of ten).parameter 0x96 ≡ y → (y && ltb h.faults.inputs.count (byte0 (fields_of ten).value)) ≡ false
      go true p = le-ltb h.faults.inputs.count (byte0 (fields_of ten).value) (few (eqb-true _ 0x96 p))
      go false p = refl

  -- ---- a broadcast is not answered
  casts : (fields_of ten).command ≡ 2 → ((product.on_head.byte h b t (length space)).heard ≡ Ok 0) × (product.on_head.space h b t space ≡ space)
  unfolding judged_of command_of
  casts c =
      keeps_silent h b t space k e
      (cast_none (judging h b t) h (told h b t) (rw c) (λ f v. cast_never_refused (hit_of ten) (fields_of ten) (standing_of h) f (rw c) v))

-- ---- a telegram that is passed over
pub passed_keeps : (h : Head) (t : ℕ) → Passed h (passed_of h t) t h.stored.offer
unfolding passed_of counted_of started_of empty_ear
passed_keeps h t =
    record { values = refl; number = refl; baud = refl; unlocked = refl; offer = refl; memory = refl; inputs = refl; pending = refl; hit = refl; damaged = refl; measurement = refl; targets = refl; monitor = refl; gathered = refl; keys = refl }

passes : (h : Head) (b t : ℕ) (space : List ℕ) → Taken h space → is_some (gathered_of h.ear b t).ten ≡ true
    → let ten = ten_in (gathered_of h.ear b t).ten in
    hit_of ten ≡ 0 → (fields_of ten).command ≢ 2 → (fields_of ten).node ≢ h.stored.number
    → ((product.on_head.byte h b t (length space)).heard ≡ Ok 0)
    × (product.on_head.space h b t space ≡ space)
    × Passed h (product.on_head.byte h b t (length space)).head t h.stored.offer
unfolding tell_of passes_of fields_of
passes h b t space k e s c n =
    let ten = ten_in (gathered_of h.ear b t).ten in
    let told = passes_tell ten h t (rw (s, ne_eqb _ 2 c, ne_eqb _ _ n)) in
    let still = keeps_silent h b t space k e (ap (λ (x : Stepped). is_some x.reply) told) in
    (still.0, still.1, rw (obeys h b t space k e ∙ ap (λ (x : Stepped). x.head) told) (passed_keeps h t))

-- ---- a broadcast that is not accepted
pub silent_is : (h : Head) (ten : List ℕ) (at : ℕ) → let j = judged_of ten (standing_of h) in hit_of ten ≡ 0 → j.verdict ≡ Silent → told_of j h at ≡ passed_of h at
unfolding passed_of complained_of judged_of
silent_is h ten at s v = unheeded_only h ten at (rw v silent) ∙ rw (v, s)

uncast : (h : Head) (b t : ℕ) (space : List ℕ) → Taken h space → is_some (gathered_of h.ear b t).ten ≡ true
    → let ten = ten_in (gathered_of h.ear b t).ten in
    hit_of ten ≡ 0 → (fields_of ten).command ≡ 2 → accepted h.stored.number (locked h) ten ≡ false
    → ((product.on_head.byte h b t (length space)).heard ≡ Ok 0)
    × (product.on_head.space h b t space ≡ space)
    × Passed h (product.on_head.byte h b t (length space)).head t h.stored.offer
unfolding judged_of standing_of locked_of command_of
uncast h b t space k e s c unmet = go (judging h b t).verdict refl
  where
    ten : List ℕ
    ten = ten_in (gathered_of h.ear b t).ten

    go : (v : Verdict) → (judging h b t).verdict ≡ v
        → ((product.on_head.byte h b t (length space)).heard ≡ Ok 0)
        × (product.on_head.space h b t space ≡ space)
        × Passed h (product.on_head.byte h b t (length space)).head t h.stored.offer
    go Obeyed v = absurd (true≢false (rw (v, c) at (accepted_is ten (standing_of h) ∙ unmet)))
    go Silent v =
        let q = keeps_silent h b t space k e (silent_none _ h (told h b t) v) in
        (q.0, q.1, rw (obeys h b t space k e ∙ silent_is h ten t s v) (passed_keeps h t))
    go (Refused f) v = absurd (cast_never_refused (hit_of ten) (fields_of ten) (standing_of h) f (rw c) v)

pub every : Every product
every =
    record {
      copies = copies;
      polls = λ h b t space k e c.
          rw (obeys h b t space k e) (read_polls (ten_in (gathered_of h.ear b t).ten) h t c);
      sets = λ h b t space k e c r lt p.
          rw (obeys h b t space k e) (setting_keeps _ h t (write_sets (ten_in (gathered_of h.ear b t).ten) h r lt c p));
      starts = λ h b t space k e s n. rw (obeys h b t space k e) (told_starts (ten_in (gathered_of h.ear b t).ten) h t s n);
      spares = λ h b t space k e s n. rw (obeys h b t space k e) (told_spares (ten_in (gathered_of h.ear b t).ten) h t s n);
      counts = λ h b t space k e s. rw (obeys h b t space k e) (told_counts (ten_in (gathered_of h.ear b t).ten) h t s);
      refuses = refuses;
      complains = λ h b t space k e f v. rw (obeys h b t space k e) (told_complains (ten_in (gathered_of h.ear b t).ten) h t f v);
      errs = errs;
      passes = passes;
      uncast = uncast;
      casts = casts;
      read = read;
      above = above;
      written = written;
      aimed = aimed;
      acts = acts;
      stores = stores;
      locks = locks;
      ends = ends;
      in_force_lem = λ h b t space k e n. rw (obeys h b t space k e) (told_stays _ h t n);
    }
