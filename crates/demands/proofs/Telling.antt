-- What a telegram does and is answered, verdict by verdict and deed by deed: a reply is said with the status word handed in, a read shows, clears the
-- static bit or releases, and only a damaged telegram counts.
-- Assumes nothing.
use Rattle.std.specs.Prelude.{Ok, Option, is_some}
use Prim.Native.Nat.{ℕ, ◌+◌, ◌<◌}
use native.Mathlib.Omega.{arith}
use mathlib.Core.Path.{◌≡◌, refl, sym, ◌∙◌, ap}
use mathlib.Core.Bool.{Bool, true, false, cond, not, ◌&&◌, and-false, true≢false}
use mathlib.Core.Logic.{◌≢◌, ◌⊎◌, inl, inr}
use mathlib.Core.List.{List}
use borrow.Author.Tests.{eqb-true, ne_eqb}
use lib.Dec.{eqb, ltb}
use lib.ListN.{length, take, drop}
use lib.Seq.{take_at}
use Rattle.wire.specs.declared.telegram.Telegram.{Telegram}
use Rattle.wire.specs.declared.fault.Fault.{Fault}
use Rattle.wire.specs.declared.fault.Fault.TheVariants.{CheckSum, Timeout, Unlisted, Below, Above, UnknownParameter, NoAccess, WriteRefused, ReadRefused, DeviceState, Locked}
use Rattle.wire.specs.Check.{hit_of}
use Rattle.wire.specs.Faults.{code_of}
use Rattle.wire.specs.Telegram.{fields_of, bytes_of, ten_in}
use Rattle.wire.specs.Word.{byte0}
use Rattle.wire.proofs.Laws.{half_bytes, word_bytes}
use Rattle.rows.specs.declared.access.Access.{Access}
use Rattle.rows.specs.declared.access.Access.TheVariants.{ReadWrite, ReadOnly, WriteOnly, Unknown}
use Rattle.rows.specs.Access.{access_of}
use Rattle.rows.specs.declared.kind.Kind.TheVariants.{Stored}
use Rattle.rows.specs.Kinds.{kind_of}
use Rattle.rows.specs.Table.{row_of, address}
use Rattle.rows.proofs.Laws.{row_place}
use Rattle.judge.specs.declared.command.Command.{Command}
use Rattle.judge.specs.declared.command.Command.TheVariants.{Read, Write, Broadcast, Other}
use Rattle.judge.specs.declared.deed.Deed.{Deed}
use Rattle.judge.specs.declared.deed.Deed.TheVariants.{Nothing, Store, Reset, Restart, Calibrate, Forget, Unlock, Freeze, Aim1, Aim2, ClearStatic, Release, Offer, Withdraw}
use Rattle.judge.specs.declared.judged.Judged.{Judged}
use Rattle.judge.specs.declared.verdict.Standing.{Standing}
use Rattle.judge.specs.declared.verdict.Verdict.{Verdict}
use Rattle.judge.specs.declared.verdict.Verdict.TheVariants.{Obeyed, Silent, Refused}
use Rattle.judge.specs.Commands.{command_of}
use Rattle.judge.specs.Checks.{◌else◌, sum_check, node_check, command_check, parameter_check, access_check, lock_check, state_check, value_check, number_check, hush_of}
use Rattle.judge.specs.Deeds.{shown_by, done_by, refused_by, deed_of}
use Rattle.judge.specs.Verdicts.{late_of, mine_of, verdict_of}
use Rattle.judge.specs.Judged.{judged_of}
use Rattle.judge.proofs.Laws.{casts_is, obeyed_sound}
use Rattle.judge.proofs.Offers.{drops, drops_elsewhere, drops_is}
use Rattle.state.specs.declared.parts.Head.{Head}
use Rattle.state.specs.declared.parts.Stored as parts
use Rattle.state.specs.declared.parts.Faults.{Faults}
use Rattle.state.specs.Bits.{bit_set}
use Rattle.state.specs.Settings.{mode_place}
use Rattle.state.specs.Mode.{is_display}
use Rattle.state.specs.Errors.{remembered_of}
use Rattle.state.specs.With.{with_inputs, with_pending, with_damaged, with_hit}
use Rattle.effects.specs.Stored.{stored_by}
use Rattle.effects.specs.Faults.{raised_of, counted_of, complained_of, acknowledged_of, restarted_faults, faults_by}
use Rattle.effects.specs.Measured.{measurement_by, released_of}
use Rattle.effects.specs.Aimed.{stays_of, turned_of, targets_by, cleared_of}
use Rattle.effects.proofs.Turns.{turned_same}
use Rattle.effects.specs.Restart.{restarted_of}
use Rattle.reply.specs.Word.{carried_of}
use Rattle.reply.specs.Reply.{read_of, answer_of, silence, said, error_reply, value_reply, reply_by, reply_of}
use Rattle.reply.proofs.Replies.{reply_ten, silent_none, refused_error}
use Rattle.head.specs.Hear.{gathered_of, standing_of, restarts_of, started_of, affected_of, told_of}
use Rattle.head.proofs.Refused.{Unheeded, silent, refused, unheeded_only}
use Rattle.demands.specs.Run.{product}
use Rattle.demands.specs.Alone.{Taken, setting, Turned}
use Rattle.demands.specs.Every.{Copies, Polled, Damaged, mine, readable}
use Rattle.demands.proofs.Sorts.{value_kind, value_assignment}
use Rattle.demands.proofs.Answers.{obeys, answers, keeps_silent}

-- what holds of both ways of a test holds of it
pub either : {A : Type 0} (P : A → Type 0) (b : Bool) {x y : A} → P x → P y → P (cond b x y)
either P true p q = p
either P false p q = q

-- ---- what is said copies
abbrev Loud : Telegram → ℕ → Option (List ℕ) → Type 0
Loud t word s = is_some s ≡ true → Copies t (fields_of (ten_in s)) word

said_copies : (t : Telegram) (parameter word value : ℕ) → word < 65536 → Loud t word (said t parameter word value)
unfolding said fields_of bytes_of
said_copies t parameter word value small e = record { command = refl; node = refl; word = half_bytes word small }

silence_copies : (t : Telegram) (word : ℕ) → Loud t word silence
unfolding silence
silence_copies t word e = absurd (true≢false (sym e))

value_copies : (c : Command) (j : Judged) (h : Head) (word : ℕ) → word < 65536 → j.command ≡ c → Loud j.telegram word (value_reply j h word)
unfolding value_reply
value_copies Read j h word small e = rw e (said_copies j.telegram _ word _ small)
value_copies Write j h word small e =
    rw e (either (Loud j.telegram word) (not (eqb j.telegram.parameter 0xD2)) (said_copies j.telegram _ word _ small) (silence_copies j.telegram word))
value_copies Broadcast j h word small e = rw e (silence_copies j.telegram word)
value_copies Other j h word small e = rw e (silence_copies j.telegram word)

pub reply_copies : (v : Verdict) (j : Judged) (h : Head) (word : ℕ) → word < 65536 → Loud j.telegram word (reply_by v j h word)
unfolding error_reply
reply_copies Obeyed j h word small = value_copies j.command j h word small refl
reply_copies Silent j h word small = silence_copies j.telegram word
reply_copies (Refused fault) j h word small = said_copies j.telegram _ word _ small

-- ---- what is obeyed is answered with the telegram's own parameter
abbrev Own : Telegram → Option (List ℕ) → Type 0
Own t s = is_some s ≡ true → (fields_of (ten_in s)).parameter ≡ t.parameter

said_own : (t : Telegram) (word value : ℕ) → Own t (said t t.parameter word value)
unfolding said fields_of bytes_of
said_own t word value e = refl

silence_own : (t : Telegram) → Own t silence
unfolding silence
silence_own t e = absurd (true≢false (sym e))

value_own : (c : Command) (j : Judged) (h : Head) (word : ℕ) → j.command ≡ c → Own j.telegram (value_reply j h word)
unfolding value_reply
value_own Read j h word e = rw e (said_own j.telegram word _)
value_own Write j h word e =
    rw e (either (Own j.telegram) (not (eqb j.telegram.parameter 0xD2)) (said_own j.telegram word _) (silence_own j.telegram))
value_own Broadcast j h word e = rw e (silence_own j.telegram)
value_own Other j h word e = rw e (silence_own j.telegram)

obeyed_says : (v : Verdict) (j : Judged) (h : Head) (word : ℕ) → v ≡ Obeyed → reply_by v j h word ≡ value_reply j h word
obeyed_says v j h word e = rw e

-- a read with its data, a write but of D2h with its answer
module _ (j : Judged) (h : Head) (word : ℕ) where
  pub read_says : j.command ≡ Read
      → value_reply j h word ≡ said j.telegram j.telegram.parameter word (read_of j.kind h j.telegram.value)
  unfolding value_reply
  read_says c = rw c

  pub write_says : j.command ≡ Write → eqb j.telegram.parameter 0xD2 ≡ false
      → value_reply j h word ≡ said j.telegram j.telegram.parameter word (answer_of j.telegram.parameter h j.telegram.value)
  unfolding value_reply
  write_says c p = rw (c, p)

-- what is said is a reply, with this parameter and this value
said_shows : (t : Telegram) (parameter word value : ℕ) → let s = said t parameter word value in
    (is_some s ≡ true) × ((fields_of (ten_in s)).parameter ≡ parameter) × (value < 4294967296 → (fields_of (ten_in s)).value ≡ value)
unfolding said fields_of bytes_of
said_shows t parameter word value = (refl, refl, λ small. word_bytes value small)

-- ---- a telegram that a byte ends: what it is judged, and the head after it
abbrev pub judging : Head → ℕ → ℕ → Judged
judging h b t = judged_of (ten_in (gathered_of h.ear b t).ten) (standing_of h)

abbrev pub told : Head → ℕ → ℕ → Head
told h b t = told_of (judging h b t) h t

-- where one reply is counted there is one, and it stands in the space
pub answered : (h : Head) (b t : ℕ) (space : List ℕ) → Taken h space → is_some (gathered_of h.ear b t).ten ≡ true
    → (product.on_head.byte h b t (length space)).heard ≡ Ok 1
    → (is_some (reply_of (judging h b t) h (told h b t)) ≡ true)
    × (take 10 (product.on_head.space h b t space) ≡ ten_in (reply_of (judging h b t) h (told h b t)))
answered h b t space k e one = go (is_some (reply_of (judging h b t) h (told h b t))) refl
  where
    go : (r : Bool) → is_some (reply_of (judging h b t) h (told h b t)) ≡ r
        → (is_some (reply_of (judging h b t) h (told h b t)) ≡ true)
        × (take 10 (product.on_head.space h b t space) ≡ ten_in (reply_of (judging h b t) h (told h b t)))
    go true r =
        (r, rw (answers h b t space k e r).1 (take_at (ten_in (reply_of (judging h b t) h (told h b t))) (drop 10 space) 10 (reply_ten (judging h b t) h (told h b t))))
    go false r = let none = (keeps_silent h b t space k e r).0 in let z : ◌≡◌ {A = ℕ} 0 1 = cc in absurd (omega arith)

-- an obeyed telegram that is answered with this value draws that reply
pub said_told : (h : Head) (b t : ℕ) (space : List ℕ) → Taken h space → is_some (gathered_of h.ear b t).ten ≡ true → (v : ℕ)
    → let j = judging h b t in
    let word = carried_of j.deed h (told h b t) in
    let x = fields_of (take 10 (product.on_head.space h b t space)) in
    j.verdict ≡ Obeyed → value_reply j h word ≡ said j.telegram j.telegram.parameter word v
    → ((product.on_head.byte h b t (length space)).heard ≡ Ok 1) × (x.parameter ≡ j.telegram.parameter) × (v < 4294967296 → x.value ≡ v)
unfolding reply_of
said_told h b t space k e v obeyed says =
    let j = judging h b t in
    let word = carried_of j.deed h (told h b t) in
    let is = obeyed_says j.verdict j h word obeyed ∙ says in
    let s = said_shows j.telegram j.telegram.parameter word v in
    let a = answers h b t space k e (ap (λ (x : Option (List ℕ)). is_some x) is ∙ s.0) in
    let r = (answered h b t space k e a.0).1 ∙ ap (λ (x : Option (List ℕ)). ten_in x) is in
    (a.0, rw r s.1, λ small. rw r (s.2 small))

-- the telegram was obeyed then, and the reply has its parameter; or it was refused
pub heeded : (h : Head) (b t : ℕ) (space : List ℕ) → Taken h space → is_some (gathered_of h.ear b t).ten ≡ true
    → (product.on_head.byte h b t (length space)).heard ≡ Ok 1
    → (P : Type 0)
    → ((judging h b t).verdict ≡ Obeyed
    → (fields_of (take 10 (product.on_head.space h b t space))).parameter ≡ (fields_of (ten_in (gathered_of h.ear b t).ten)).parameter
    → is_some (value_reply (judging h b t) h (carried_of (judging h b t).deed h (told h b t))) ≡ true → P)
    → ((f : Fault) → (judging h b t).verdict ≡ Refused f → P) → P
unfolding judged_of reply_of
heeded h b t space k e one P obeyed erred = go (judging h b t).verdict refl
  where
    j : Judged
    j = judging h b t

    word : ℕ
    word = carried_of j.deed h (told h b t)

    sent : (is_some (reply_of j h (told h b t)) ≡ true) × (take 10 (product.on_head.space h b t space) ≡ ten_in (reply_of j h (told h b t)))
    sent = answered h b t space k e one

    loud : j.verdict ≡ Obeyed → is_some (value_reply j h word) ≡ true
    loud v = sym (ap (λ (s : Option (List ℕ)). is_some s) (obeyed_says j.verdict j h word v)) ∙ sent.0

    own : j.verdict ≡ Obeyed → (fields_of (take 10 (product.on_head.space h b t space))).parameter ≡ (fields_of (ten_in (gathered_of h.ear b t).ten)).parameter
    own v = rw (sent.1, obeyed_says j.verdict j h word v) (value_own j.command j h word refl (loud v))

    go : (v : Verdict) → j.verdict ≡ v → P
    go Obeyed v = obeyed v (own v) (loud v)
    go Silent v = absurd (true≢false (sym sent.0 ∙ silent_none j h _ v))
    go (Refused f) v = erred f v

-- ---- a sound read of what may be read is obeyed; of 96h where its number is not above the count
pub read_obeyed : (t : Telegram) (s : Standing) → command_of t.command ≡ Read → mine_of t s ≡ true → (a : Access) → access_of t.parameter ≡ a
    → readable a ≡ true → (eqb t.parameter 0x96 && ltb s.inputs (byte0 t.value)) ≡ false → verdict_of 0 t s ≡ Obeyed
unfolding verdict_of sum_check node_check late_of hush_of command_check parameter_check access_check lock_check state_check value_check number_check ◌else◌
read_obeyed t s c m ReadWrite a r n = rw (c, m, a, n, and-false)
read_obeyed t s c m ReadOnly a r n = rw (c, m, a, n, and-false)
read_obeyed t s c m WriteOnly a r n = absurd (true≢false (sym r))
read_obeyed t s c m Unknown a r n = absurd (true≢false (sym r))

-- ---- what a read does: nothing, or it clears the static bit, or releases
abbrev pub Still : ℕ → Deed → Type 0
Still a d = (d ≡ Nothing) ⊎ (((d ≡ ClearStatic) × (a ≡ 0xFA)) ⊎ ((d ≡ Release) × (a ≡ 0xFE)))

shown_still : (a : ℕ) → Still a (shown_by a)
unfolding shown_by
shown_still a = go (eqb a 0xFA) refl (eqb a 0xFE) refl
  where
    go : (x : Bool) → eqb a 0xFA ≡ x → (y : Bool) → eqb a 0xFE ≡ y → Still a (cond x ClearStatic (cond y Release Nothing))
    go true p y q = inr (inl (refl, eqb-true a 0xFA p))
    go false p true q = inr (inr (refl, eqb-true a 0xFE q))
    go false p false q = inl refl

-- what is refused and drops no offer does nothing
refused_idle : (P : Deed → Type 0) (f : Fault) (a : ℕ) → drops (Refused f) a ≡ false → P Nothing → P (refused_by f a)
unfolding refused_by
refused_idle P f a e p = rw e p

pub read_still : (ten : List ℕ) (h : Head) → (fields_of ten).command ≡ 0 → Still (fields_of ten).parameter (judged_of ten (standing_of h)).deed
unfolding judged_of deed_of command_of
read_still ten h c = go (verdict_of (hit_of ten) (fields_of ten) (standing_of h)) refl
  where
    none : drops (verdict_of (hit_of ten) (fields_of ten) (standing_of h)) (fields_of ten).parameter ≡ false
    none = drops_is (hit_of ten) (fields_of ten) (standing_of h) ∙ rw c (and-false (eqb (hit_of ten) 0))

    go : (v : Verdict) → verdict_of (hit_of ten) (fields_of ten) (standing_of h) ≡ v
        → Still (fields_of ten).parameter (deed_of v (command_of (fields_of ten).command) (kind_of (fields_of ten).parameter) (fields_of ten))
    go Obeyed e = rw c (shown_still (fields_of ten).parameter)
    go Silent e = inl refl
    go (Refused f) e = refused_idle (Still (fields_of ten).parameter) f (fields_of ten).parameter (rw e at none) (inl refl)

-- ---- what a write of a stored parameter does: nothing, or it stores
abbrev Setting : Deed → ℕ → ℕ → Type 0
Setting d i w = (d ≡ Nothing) ⊎ (d ≡ Store i w)

pub write_sets : (ten : List ℕ) (h : Head) (r : ℕ) → r < 39 → (fields_of ten).command ≡ 1 → (fields_of ten).parameter ≡ address (row_of r)
    → Setting (judged_of ten (standing_of h)).deed r (fields_of ten).value
unfolding judged_of deed_of done_by command_of
write_sets ten h r lt c p = go (judged_of ten (standing_of h)).verdict
  where
    apart : eqb (fields_of ten).parameter 0xD2 ≡ false
    apart = ap (λ (a : ℕ). eqb a 0xD2) p ∙ value_assignment (address (row_of r)) r (row_place r lt)

    kind_is : kind_of (fields_of ten).parameter ≡ Stored r
    kind_is = ap kind_of p ∙ value_kind (address (row_of r)) r (row_place r lt)

    go : (v : Verdict) → Setting (deed_of v (command_of (fields_of ten).command) (kind_of (fields_of ten).parameter) (fields_of ten)) r (fields_of ten).value
    go Obeyed = rw (c, kind_is) (inr refl)
    go Silent = inl refl
    go (Refused f) =
        refused_idle (λ d. Setting d r (fields_of ten).value) f (fields_of ten).parameter (drops_elsewhere (Refused f) (fields_of ten).parameter apart) (inl refl)

pub setting_keeps : (j : Judged) (h : Head) (t : ℕ) {i w : ℕ} → Setting j.deed i w
    → ((told_of j h t).measurement ≡ h.measurement) × Turned h (told_of j h t)
unfolding told_of stored_by measurement_by targets_by turned_of stays_of is_display restarts_of
setting_keeps j h t (inl e) = rw e (refl, record { first = refl; valid1 = refl; second = refl; valid2 = refl; word = refl; reached = refl; acknowledged1 = refl; acknowledged2 = refl })
setting_keeps j h t (inr e) = rw e (refl, record { first = refl; valid1 = refl; second = refl; valid2 = refl; word = refl; reached = refl; acknowledged1 = refl; acknowledged2 = refl })

-- ---- what no deed but a restart changes
abbrev Stays : Deed → parts.Stored → Type 0
Stays d s = (restarts_of d ≡ false) × ((stored_by d s).number ≡ s.number) × ((stored_by d s).baud ≡ s.baud)

pub deed_stays : (d : Deed) (s : parts.Stored) → d ≢ Restart → Stays d s
unfolding restarts_of stored_by
deed_stays Nothing s n = (refl, refl, refl)
deed_stays (Store i w) s n = (refl, refl, refl)
deed_stays (Reset command) s n = (refl, refl, refl)
deed_stays Restart s n = absurd (n refl)
deed_stays Calibrate s n = (refl, refl, refl)
deed_stays Forget s n = (refl, refl, refl)
deed_stays (Unlock b) s n = (refl, refl, refl)
deed_stays Freeze s n = (refl, refl, refl)
deed_stays (Aim1 v w) s n = (refl, refl, refl)
deed_stays (Aim2 v w) s n = (refl, refl, refl)
deed_stays ClearStatic s n = (refl, refl, refl)
deed_stays Release s n = (refl, refl, refl)
deed_stays (Offer x) s n = (refl, refl, refl)
deed_stays Withdraw s n = (refl, refl, refl)

pub told_stays : (j : Judged) (h : Head) (t : ℕ) → j.deed ≢ Restart
    → ((told_of j h t).stored.number ≡ h.stored.number) × ((told_of j h t).stored.baud ≡ h.stored.baud)
unfolding told_of
told_stays j h t n = let k = deed_stays j.deed h.stored n in rw k.0 (k.1, k.2)

-- ---- a telegram that is sound, or not; one that is refused
pub told_starts : (ten : List ℕ) (h : Head) (t : ℕ) → hit_of ten ≡ 0 → (judged_of ten (standing_of h)).deed ≢ Restart
    → (told_of (judged_of ten (standing_of h)) h t).monitor ≡ record { running = true; since = t }
unfolding told_of judged_of started_of
told_starts ten h t s n = rw ((deed_stays (judged_of ten (standing_of h)).deed h.stored n).0, s)

-- no deed looks at what is kept of the last damaged telegram, or at the count of them, and none touches either
abbrev pub marked : Faults → ℕ → ℕ → Faults
marked f x n = record { memory = f.memory; inputs = f.inputs; pending = f.pending; hit = x; damaged = n }

cleared : (b : Bool) (f : Faults) (x n : ℕ) → cond b (with_pending (marked f x n) 0) (marked f x n) ≡ marked (cond b (with_pending f 0) f) x n
cleared true f x n = refl
cleared false f x n = refl

pub deed_apart : (d : Deed) (last : ℕ) (f : Faults) (x n : ℕ) → faults_by d last (marked f x n) ≡ marked (faults_by d last f) x n
unfolding faults_by acknowledged_of
deed_apart Nothing last f x n = refl
deed_apart (Store i w) last f x n = refl
deed_apart (Reset r) last f x n = refl
deed_apart Restart last f x n = refl
deed_apart Calibrate last f x n = refl
deed_apart Forget last f x n = refl
deed_apart (Unlock b) last f x n = refl
deed_apart Freeze last f x n = refl
deed_apart (Aim1 v w) last f x n = cleared (bit_set w 5 && not (bit_set last 5)) f x n
deed_apart (Aim2 v w) last f x n = cleared (bit_set w 5 && not (bit_set last 5)) f x n
deed_apart ClearStatic last f x n = refl
deed_apart Release last f x n = refl
deed_apart (Offer v) last f x n = refl
deed_apart Withdraw last f x n = refl

pub deed_spares : (d : Deed) (last : ℕ) (f : Faults) → let g = faults_by d last f in (g.hit ≡ f.hit) × (g.damaged ≡ f.damaged)
deed_spares d last f =
    let e = deed_apart d last f f.hit f.damaged in (ap (λ (g : Faults). g.hit) e, ap (λ (g : Faults). g.damaged) e)

-- an error reply touches the input list alone
pub complained_is : (v : Verdict) (f : Faults) → complained_of v f ≡ with_inputs f (complained_of v f).inputs
unfolding complained_of
complained_is Obeyed f = refl
complained_is Silent f = refl
complained_is (Refused x) f = refl

-- so both are after a telegram what counting it leaves, but for a restart
pub told_marks : (j : Judged) (h : Head) (t : ℕ) → let f = (told_of j h t).faults in let g = counted_of j.hit h.faults in
    (f.hit ≡ cond (restarts_of j.deed) 0 g.hit) × (f.damaged ≡ cond (restarts_of j.deed) 0 g.damaged)
unfolding told_of restarted_of restarted_faults
told_marks j h t = go (restarts_of j.deed)
  where
    go : (b : Bool) → let f = (cond b (restarted_of (affected_of j h t)) (affected_of j h t)).faults in let g = counted_of j.hit h.faults in
        (f.hit ≡ cond b 0 g.hit) × (f.damaged ≡ cond b 0 g.damaged)
    go true = (refl, refl)
    go false =
        let d = deed_spares j.deed h.targets.word (complained_of j.verdict (counted_of j.hit h.faults)) in
        let c = complained_is j.verdict (counted_of j.hit h.faults) in
        (d.0 ∙ ap (λ (f : Faults). f.hit) c, d.1 ∙ ap (λ (f : Faults). f.damaged) c)

-- a sound telegram leaves the remembered and the pending error as they were
pub counted_sound : (x : ℕ) (f : Faults) → x ≡ 0 → ((counted_of x f).memory ≡ f.memory) × ((counted_of x f).pending ≡ f.pending)
unfolding counted_of
counted_sound x f e = rw e (refl, refl)

-- what a read does to each part
still_polls : (j : Judged) (h : Head) (t a : ℕ) → Still a j.deed → Polled h (told_of j h t) a j.hit
unfolding told_of stored_by measurement_by targets_by faults_by restarts_of cleared_of released_of
still_polls j h t a still = go still
  where
    entered : (x : ℕ) → x ≡ 0 → let f = complained_of j.verdict (counted_of x h.faults) in (f.pending ≡ h.faults.pending) × (f.memory ≡ h.faults.memory)
    entered x s =
        let c = complained_is j.verdict (counted_of x h.faults) in
        let k = counted_sound x h.faults s in
        (ap (λ (f : Faults). f.pending) c ∙ k.1, ap (λ (f : Faults). f.memory) c ∙ k.0)

    go : Still a j.deed → Polled h (told_of j h t) a j.hit
    go (inl e) =
        rw (e, turned_same (setting h mode_place) h.targets) (record { stored = refl; first = refl; valid1 = refl; second = refl; valid2 = refl; word = refl; acknowledged1 = refl; acknowledged2 = refl; m = refl; zero = refl; adopted = refl; incremental = refl; start = refl; keys = refl; reached = λ n. refl; frozen = λ n. refl; kept = λ n. refl; pending = λ s. (entered j.hit s).0; memory = λ s. (entered j.hit s).1 })
    go (inr (inl (e, p))) =
        rw (e, turned_same (setting h mode_place) (cleared_of h.targets)) (record { stored = refl; first = refl; valid1 = refl; second = refl; valid2 = refl; word = refl; acknowledged1 = refl; acknowledged2 = refl; m = refl; zero = refl; adopted = refl; incremental = refl; start = refl; keys = refl; reached = λ n. absurd (n p); frozen = λ n. refl; kept = λ n. refl; pending = λ s. (entered j.hit s).0; memory = λ s. (entered j.hit s).1 })
    go (inr (inr (e, p))) =
        rw (e, turned_same (setting h mode_place) h.targets) (record { stored = refl; first = refl; valid1 = refl; second = refl; valid2 = refl; word = refl; acknowledged1 = refl; acknowledged2 = refl; m = refl; zero = refl; adopted = refl; incremental = refl; start = refl; keys = refl; reached = λ n. refl; frozen = λ n. absurd (n p); kept = λ n. absurd (n p); pending = λ s. (entered j.hit s).0; memory = λ s. (entered j.hit s).1 })

pub read_polls : (ten : List ℕ) (h : Head) (t : ℕ) → (fields_of ten).command ≡ 0
    → Polled h (told_of (judged_of ten (standing_of h)) h t) (fields_of ten).parameter (hit_of ten)
unfolding judged_of
read_polls ten h t c = still_polls (judged_of ten (standing_of h)) h t (fields_of ten).parameter (read_still ten h c)

pub told_spares : (ten : List ℕ) (h : Head) (t : ℕ) → let j = judged_of ten (standing_of h) in
    hit_of ten ≡ 0 → j.deed ≢ Restart → ((told_of j h t).faults.hit ≡ h.faults.hit) × ((told_of j h t).faults.damaged ≡ 0)
unfolding judged_of counted_of
told_spares ten h t s n =
    let j = judged_of ten (standing_of h) in
    let stays = (deed_stays j.deed h.stored n).0 in
    let m = told_marks j h t in
    (m.0 ∙ rw (stays, s), m.1 ∙ rw (stays, s))

-- a damaged telegram is not obeyed
damaged_unheeded : (ten : List ℕ) (h : Head) → hit_of ten ≢ 0 → Unheeded (judged_of ten (standing_of h)).verdict
unfolding judged_of
damaged_unheeded ten h s = go (verdict_of (hit_of ten) (fields_of ten) (standing_of h)) refl
  where
    go : (v : Verdict) → verdict_of (hit_of ten) (fields_of ten) (standing_of h) ≡ v → Unheeded v
    go Obeyed e = absurd (s (obeyed_sound (hit_of ten) (fields_of ten) (standing_of h) e))
    go Silent e = silent
    go (Refused f) e = refused

-- what is kept and counted of a damaged one; and that counting leaves the input list
pub counted_damaged : (f : Faults) (x : ℕ) → x ≢ 0
    → let g = counted_of x f in
    (g.hit ≡ x)
    × (g.damaged ≡ cond (not (ltb f.damaged 2)) 0 (f.damaged + 1))
    × (g.pending ≡ cond (not (ltb f.damaged 2)) 0x0080 f.pending)
    × (g.memory ≡ cond (not (ltb f.damaged 2)) (remembered_of f.memory 0x0080) f.memory)
unfolding counted_of raised_of
counted_damaged f x n = rw (ne_eqb x 0 n) (go (ltb f.damaged 2))
  where
    go : (few : Bool)
        → let k = with_hit f x in
        let g = cond few (with_damaged k (f.damaged + 1)) (raised_of (with_damaged k 0) 0x0080) in
        (g.hit ≡ x)
        × (g.damaged ≡ cond (not few) 0 (f.damaged + 1))
        × (g.pending ≡ cond (not few) 0x0080 f.pending)
        × (g.memory ≡ cond (not few) (remembered_of f.memory 0x0080) f.memory)
    go true = (refl, refl, refl, refl)
    go false = (refl, refl, refl, refl)

pub counted_inputs : (x : ℕ) (f : Faults) → (counted_of x f).inputs ≡ f.inputs
unfolding counted_of raised_of
counted_inputs x f =
    either (λ (g : Faults). g.inputs ≡ f.inputs) (eqb x 0) refl (either (λ (g : Faults). g.inputs ≡ f.inputs) (ltb f.damaged 2) refl refl)

-- the errors after a telegram that is not obeyed
pub unheeded_faults : (ten : List ℕ) (h : Head) (t : ℕ) → let j = judged_of ten (standing_of h) in
    Unheeded j.verdict → (told_of j h t).faults ≡ complained_of j.verdict (counted_of j.hit h.faults)
unheeded_faults ten h t u = ap (λ (x : Head). x.faults) (unheeded_only h ten t u)

pub told_counts : (ten : List ℕ) (h : Head) (t : ℕ) → hit_of ten ≢ 0 → Damaged h (told_of (judged_of ten (standing_of h)) h t) (hit_of ten)
unfolding judged_of started_of
told_counts ten h t s =
    let j = judged_of ten (standing_of h) in
    let e = unheeded_faults ten h t (damaged_unheeded ten h s) ∙ complained_is j.verdict (counted_of (hit_of ten) h.faults) in
    let only = unheeded_only h ten t (damaged_unheeded ten h s) in
    let d = counted_damaged h.faults (hit_of ten) s in
    record {
      hit = ap (λ (f : Faults). f.hit) e ∙ d.0;
      damaged = ap (λ (f : Faults). f.damaged) e ∙ d.1;
      pending = ap (λ (f : Faults). f.pending) e ∙ d.2;
      memory = ap (λ (f : Faults). f.memory) e ∙ d.3;
      monitor = ap (λ (x : Head). x.monitor) only ∙ rw (ne_eqb (hit_of ten) 0 s);
      stored = ap (λ (x : Head). x.stored) only ∙ rw (drops_is (hit_of ten) (fields_of ten) (standing_of h), ne_eqb (hit_of ten) 0 s);
      measurement = ap (λ (x : Head). x.measurement) only;
      targets = ap (λ (x : Head). x.targets) only;
      keys = ap (λ (x : Head). x.keys) only;
    }

-- what a damaged telegram is judged
damaged_verdict : (ten : List ℕ) (h : Head) → hit_of ten ≢ 0
    → (judged_of ten (standing_of h)).verdict ≡ cond (mine (fields_of ten) h) (Refused CheckSum) Silent
unfolding judged_of verdict_of sum_check standing_of ◌else◌
damaged_verdict ten h n =
    rw (ne_eqb (hit_of ten) 0 n, casts_is (fields_of ten).command)
    (elim (mine (fields_of ten) h) as (λ b. (cond b (Refused CheckSum) Silent) else rest ≡ cond b (Refused CheckSum) Silent) [ true ↦ refl | false ↦ refl ])
  where
    rest : Verdict
    rest = node_check (command_of (fields_of ten).command) (mine_of (fields_of ten) (standing_of h)) else late_of (fields_of ten) (standing_of h)

-- the reply to a telegram that is refused: one, with FDh and the code
said_loud : (t : Telegram) (word : ℕ) (f : Fault) → is_some (error_reply t word f) ≡ true
unfolding error_reply said
said_loud t word f = refl

code_told : (t : Telegram) (word : ℕ) (f : Fault) → let x = fields_of (ten_in (error_reply t word f)) in (x.parameter ≡ 0xFD) × (x.value ≡ code_of f)
unfolding error_reply said fields_of bytes_of
code_told t word CheckSum = (refl, refl)
code_told t word Timeout = (refl, refl)
code_told t word Unlisted = (refl, refl)
code_told t word Below = (refl, refl)
code_told t word Above = (refl, refl)
code_told t word UnknownParameter = (refl, refl)
code_told t word NoAccess = (refl, refl)
code_told t word WriteRefused = (refl, refl)
code_told t word ReadRefused = (refl, refl)
code_told t word DeviceState = (refl, refl)
code_told t word Locked = (refl, refl)

pub refused_told : (h : Head) (b t : ℕ) (space : List ℕ) → Taken h space → is_some (gathered_of h.ear b t).ten ≡ true
    → (f : Fault) → (judging h b t).verdict ≡ Refused f
    → let x = fields_of (take 10 (product.on_head.space h b t space)) in
    ((product.on_head.byte h b t (length space)).heard ≡ Ok 1) × (x.parameter ≡ 0xFD) × (x.value ≡ code_of f)
refused_told h b t space k e f v =
    let j = judging h b t in
    let after = told h b t in
    let word = carried_of j.deed h after in
    let is = refused_error j h after f v in
    let a = answers h b t space k e (rw is (said_loud j.telegram word f)) in
    let c = code_told j.telegram word f in
    let r = (answered h b t space k e a.0).1 ∙ ap (λ (s : Option (List ℕ)). ten_in s) is in
    rw r (a.0, c.0, c.1)

pub refuses : (h : Head) (b t : ℕ) (space : List ℕ) → Taken h space → is_some (gathered_of h.ear b t).ten ≡ true
    → hit_of (ten_in (gathered_of h.ear b t).ten) ≢ 0
    → let own = mine (fields_of (ten_in (gathered_of h.ear b t).ten)) h in
    let x = fields_of (take 10 (product.on_head.space h b t space)) in
    ((product.on_head.byte h b t (length space)).heard ≡ Ok (cond own 1 0))
    × (own ≡ true → (x.parameter ≡ 0xFD) × (x.value ≡ 0x0080))
    × ((product.on_head.byte h b t (length space)).head.faults.inputs ≡ cond own (remembered_of h.faults.inputs 0x0080) h.faults.inputs)
unfolding reply_of silence complained_of
refuses h b t space k e n = go (mine (fields_of ten) h) refl
  where
    ten : List ℕ
    ten = ten_in (gathered_of h.ear b t).ten

    j : Judged
    j = judging h b t

    inputs : (v : Verdict) → j.verdict ≡ v
        → (product.on_head.byte h b t (length space)).head.faults.inputs ≡ (complained_of v (counted_of j.hit h.faults)).inputs
    inputs v p =
        ap (λ (x : Head). x.faults.inputs) (obeys h b t space k e)
        ∙ ap (λ (f : Faults). f.inputs) (unheeded_faults ten h t (damaged_unheeded ten h n)) ∙ rw p

    judged : (own : Bool) → mine (fields_of ten) h ≡ own → j.verdict ≡ cond own (Refused CheckSum) Silent
    judged own p = rw p at (damaged_verdict ten h n)

    go : (own : Bool) → mine (fields_of ten) h ≡ own
        → let x = fields_of (take 10 (product.on_head.space h b t space)) in
        ((product.on_head.byte h b t (length space)).heard ≡ Ok (cond (mine (fields_of ten) h) 1 0))
        × (mine (fields_of ten) h ≡ true → (x.parameter ≡ 0xFD) × (x.value ≡ 0x0080))
        × ((product.on_head.byte h b t (length space)).head.faults.inputs
        ≡ cond (mine (fields_of ten) h) (remembered_of h.faults.inputs 0x0080) h.faults.inputs)
    go true p =
        let v : j.verdict ≡ Refused CheckSum = judged true p in
        let a = refused_told h b t space k e CheckSum v in
        rw p (a.0, λ _. (a.1, a.2), inputs (Refused CheckSum) v ∙ rw (counted_inputs j.hit h.faults))
    go false p =
        let v : j.verdict ≡ Silent = judged false p in
        rw p ((keeps_silent h b t space k e (rw v)).0, λ q. absurd (true≢false (sym q)), inputs Silent v ∙ counted_inputs j.hit h.faults)

pub told_complains : (ten : List ℕ) (h : Head) (t : ℕ) (f : Fault) → let j = judged_of ten (standing_of h) in
    j.verdict ≡ Refused f → (told_of j h t).faults.inputs ≡ remembered_of h.faults.inputs (code_of f)
unfolding complained_of
told_complains ten h t f e =
    let j = judged_of ten (standing_of h) in
    ap (λ (g : Faults). g.inputs) (unheeded_faults ten h t (rw e refused)) ∙ rw (e, counted_inputs j.hit h.faults)
