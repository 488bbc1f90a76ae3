-- A question and what it draws, read by the master, verdict by verdict and command by command. What rules out a misreading is FDh: no read of it is refused,
-- and no write of it is obeyed.
-- Assumes nothing.
use Prim.Native.Nat.{ℕ, ◌<◌}
use mathlib.Core.Path.{◌≡◌, refl, sym, ◌∙◌, ap}
use mathlib.Core.Bool.{Bool, true, false, cond, not, ◌&&◌, true≢false}
use mathlib.Core.Logic.{◌≢◌, ◌⊎◌, inl, inr}
use mathlib.Core.List.{List, [], ◌∷◌, map}
use native.Mathlib.Omega.{arith}
use borrow.Author.Tests.{eqb-true, eqb-false, eq-eqb}
use lib.Dec.{eqb}
use Rattle.std.specs.Prelude.{Option, is_some}
use Rattle.wire.specs.declared.telegram.Telegram.{Telegram}
use Rattle.wire.specs.declared.fault.Fault.{Fault}
use Rattle.wire.specs.declared.fault.Fault.TheVariants.{WriteRefused}
use Rattle.wire.specs.Faults.{code_of}
use Rattle.wire.specs.Telegram.{bytes_of, Fits, ten_in}
use Rattle.wire.proofs.Laws.{word_bytes, half_bytes, built_sound, built_ten, built_fields}
use Rattle.rows.specs.declared.access.Access.TheVariants.{ReadOnly}
use Rattle.rows.specs.Table.{rows}
use Rattle.rows.specs.Access.{access_of}
use Rattle.rows.specs.Kinds.{kind_of}
use Rattle.judge.specs.declared.command.Command.{Command}
use Rattle.judge.specs.declared.command.Command.TheVariants.{Read, Write, Broadcast, Other}
use Rattle.judge.specs.declared.judged.Judged.{Judged}
use Rattle.judge.specs.declared.verdict.Verdict.{Verdict}
use Rattle.judge.specs.declared.verdict.Verdict.TheVariants.{Obeyed, Silent, Refused}
use Rattle.judge.specs.declared.verdict.Standing.{Standing}
use Rattle.judge.specs.Commands.{command_of, reads_of, casts_of}
use Rattle.judge.specs.Checks.{◌else◌, sum_check, node_check, command_check, parameter_check, access_check, hush_of}
use Rattle.judge.specs.Deeds.{done_by, deed_of}
use Rattle.judge.specs.Verdicts.{late_of, mine_of, verdict_of}
use Rattle.judge.specs.Judged.{judged_of}
use Rattle.judge.proofs.Laws.{command_is, refused_plain, refused_mine, obeyed_mine}
use Rattle.state.specs.declared.parts.Head.{Head}
use Rattle.reply.specs.Word.{carried_of}
use Rattle.reply.specs.Reply.{answer_of, silence, fields_said, said, error_reply, value_reply, reply_by, reply_of}
use Rattle.head.specs.Hear.{standing_of, tell_of}
use Rattle.line.specs.Round.{said_by}
use Rattle.demands.proofs.Sorts.{Sort, value, system, interlock, assignment, other, sort_of, value_kind, value_assignment, system_kind, interlock_kind, assignment_kind, other_deed}
use Rattle.demands.proofs.Telegram.{system_way}
use Rattle.demands.proofs.Telling.{read_obeyed}
use Rattle.master.specs.declared.Reading.TheVariants.{Value, Error}
use Rattle.master.specs.Demand.{Master, Belongs, ReadsErrors, Demanded}
use Rattle.exchange.specs.Typed.{Typed}
use Rattle.exchange.specs.Meant.{is_offer, obeyed_means, meant_by, meant_of}
use Rattle.exchange.proofs.Words.{fault_small, read_word, answer_word}

-- ---- the command byte
not_cast : (b : ℕ) → casts_of (command_of b) ≡ false → b ≢ 2
not_cast b e q = true≢false (sym (eq-eqb b 2 q) ∙ sym (command_is b).2 ∙ e)

reads_zero : (b : ℕ) → command_of b ≡ Read → b ≡ 0
reads_zero b c = eqb-true b 0 (sym (command_is b).0 ∙ ap reads_of c)

zero_reads : (b : ℕ) → b ≡ 0 → command_of b ≡ Read
unfolding command_of
zero_reads b e = rw e

-- ---- FDh: a read of it that is for the head is obeyed, a write is not
fd_access : access_of 0xFD ≡ ReadOnly
unfolding access_of rows
fd_access = refl

module _ (t : Telegram) (s : Standing) (fd : t.parameter ≡ 0xFD) where
  read_taken : command_of t.command ≡ Read → {f : Fault} → verdict_of 0 t s ≡ Refused f → ⊥
  read_taken c {f} refused =
      let o = read_obeyed t s c (refused_mine 0 t s refused) ReadOnly (rw fd fd_access) refl (rw fd) in
      let z : ◌≡◌ {A = ℕ} 0 1 = cc (o, refused) in
      omega arith

  write_refused_lem : command_of t.command ≡ Write → verdict_of 0 t s ≡ Obeyed → ⊥
  unfolding verdict_of sum_check node_check late_of hush_of command_check parameter_check access_check ◌else◌
  write_refused_lem c obeyed =
      let m : mine_of t s ≡ true = rw c at (obeyed_mine 0 t s obeyed) in
      let o : verdict_of 0 t s ≡ Refused WriteRefused = rw (c, m, fd, fd_access) in
      let z : ◌≡◌ {A = ℕ} 0 1 = cc (o, obeyed) in
      omega arith

-- ---- a write that is obeyed offers a number just if it is to D2h
pub done_offers : (a v w : ℕ) → is_offer (done_by (kind_of a) v w) ≡ eqb a 0xD2
unfolding done_by is_offer
done_offers a v w = go (sort_of a)
  where
    go : Sort a → is_offer (done_by (kind_of a) v w) ≡ eqb a 0xD2
    go (value i e) = rw (value_kind a i e, value_assignment a i e)
    go (system e) = rw (e, system_kind) (system_way (λ d. is_offer d ≡ false) v (λ n. refl) (λ n. refl) (λ n. refl) (λ n. refl))
    go (interlock e) = rw (e, interlock_kind)
    go (assignment e) = rw (e, assignment_kind)
    go (other e p q r) = rw r (other_deed (λ d. is_offer d ≡ false) v w a e p q r refl (λ _. refl) (λ _. refl) (λ _. refl) (λ _. refl))

-- ---- what is said to a question that is no broadcast, as a master reads it that does what is asked
module _ (e : Master) (does : Demanded e) (q : Telegram) (no-cast : q.command ≢ 2) (w v : ℕ) where
  abbrev reply : ℕ → List ℕ
  reply p = bytes_of (fields_said q p w v)

  said_belongs : (p : ℕ) → (p ≡ q.parameter) ⊎ (p ≡ 0xFD) → Belongs q (reply p)
  unfolding bytes_of
  said_belongs p same =
      let t = fields_said q p w v in
      record { asked = no-cast; long = built_ten t; passes = built_sound t; command = refl; node = refl; parameter = same }

  -- a value under the question's own parameter: if that is FDh, the question is a read
  pub value_read : v < 4294967296 → (q.parameter ≡ 0xFD → q.command ≡ 0) → e.read q (reply q.parameter) ≡ Value v
  unfolding bytes_of
  value_read small reads =
      does.value q (reply q.parameter) (said_belongs q.parameter (inl refl)) (go (eqb q.parameter 0xFD) refl) ∙ ap Value (word_bytes v small)
    where
      go : (b : Bool) → eqb q.parameter 0xFD ≡ b → (q.parameter ≢ 0xFD) ⊎ ReadsErrors q
      go true fd = let p = eqb-true q.parameter 0xFD fd in inr (reads p, p)
      go false fd = inl (eqb-false q.parameter 0xFD fd)

  -- a code under FDh: the question is no read of FDh
  error_read : v < 65536 → (ReadsErrors q → ⊥) → e.read q (reply 0xFD) ≡ Error v
  unfolding bytes_of
  error_read small unread = does.error q (reply 0xFD) (said_belongs 0xFD (inr refl)) refl unread ∙ ap Error (half_bytes v small)

-- ---- by the verdict and the command
abbrev out : Option (List ℕ) → List (List ℕ)
out s = cond (is_some s) (ten_in s ∷ []) []

casts_not : (a b : Bool) → (a && not b) ≡ true → b ≡ false
casts_not true true e = sym e
casts_not true false e = refl
casts_not false b e = cc

module _ (e : Master) (does : Demanded e) (q : Telegram) (small : q.value < 4294967296) (h : Head) (typed : Typed h) (w : ℕ)
    (j : Judged) (tele : j.telegram ≡ q) (commanded : j.command ≡ command_of q.command) (kin : j.kind ≡ kind_of q.parameter) where
  obeyed : (c : Command) → command_of q.command ≡ c → verdict_of 0 q (standing_of h) ≡ Obeyed → (c ≡ Write → is_offer j.deed ≡ eqb q.parameter 0xD2)
      → map (e.read q) (out (value_reply j h w)) ≡ obeyed_means c j h
  unfolding value_reply said silence
  obeyed Read c o off =
      rw (commanded, c, tele, kin, value_read e does q (not_cast q.command (rw c)) w _ (read_word h typed q.value (kind_of q.parameter)) (λ fd. reads_zero q.command c))
  obeyed Write c o off =
      rw (commanded, c, tele, off refl) (go (eqb q.parameter 0xD2))
    where
      v : ℕ
      v = answer_of q.parameter h q.value

      go : (b : Bool) → map (e.read q) (out (cond (not b) (said q q.parameter w v) silence)) ≡ cond b [] (Value v ∷ [])
      go true = refl
      go false =
          rw (value_read e does q (not_cast q.command (rw c)) w v (answer_word h typed q.value q.parameter small) (λ fd. absurd (write_refused_lem q (standing_of h) fd c o)))
  obeyed Broadcast c o off = rw (commanded, c)
  obeyed Other c o off = rw (commanded, c)

  by : (v : Verdict) → verdict_of 0 q (standing_of h) ≡ v → (v ≡ Obeyed → command_of q.command ≡ Write → is_offer j.deed ≡ eqb q.parameter 0xD2)
      → map (e.read q) (out (reply_by v j h w)) ≡ meant_by v j h
  unfolding error_reply said silence
  by Obeyed o off = obeyed (command_of q.command) refl o (off refl) ∙ rw commanded
  by Silent o off = refl
  by (Refused f) o off =
      let c = not_cast q.command (casts_not (mine_of q (standing_of h)) _ (refused_plain 0 q (standing_of h) o)) in
      rw (tele, error_read e does q c w (code_of f) (fault_small f) (λ r. read_taken q (standing_of h) r.1 (zero_reads q.command r.0) o))

-- what a question draws is read as it was meant
pub told_read : (e : Master) → Demanded e → (q : Telegram) → Fits q → (h : Head) → Typed h → (at : ℕ)
    → map (e.read q) (said_by (tell_of h (bytes_of q) at)) ≡ meant_of q h
unfolding tell_of reply_of meant_of judged_of deed_of
told_read e does q fits h typed at =
    let j = judged_of (bytes_of q) (standing_of h) in
    let f = built_fields q fits in
    let v : verdict_of 0 q (standing_of h) ≡ j.verdict = rw (built_sound q, f) in
    by e does q fits.value h typed (carried_of j.deed h _) j f (rw f) (rw f) j.verdict v
    (λ o c. rw (o, f, c) (done_offers q.parameter q.value q.word))
