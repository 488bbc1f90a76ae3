-- The engine and the head, told the same ten bytes, agree in reply and in state: each of the engine's checks is the judge's verdict of that number (Checks), and
-- what is obeyed, refused or met by silence leaves the same head and reply (Deeds, Replies, Writes).
-- Assumes nothing.
use Prim.Native.Nat.{ℕ, ◌<◌}
use mathlib.Core.Path.{◌≡◌, refl, sym, ◌∙◌, ap}
use mathlib.Core.Bool.{true, false, cond, not, ◌&&◌, true≢false}
use mathlib.Core.List.{List}
use lib.Dec.{eqb}
use Rattle.wire.specs.declared.telegram.Telegram.{Telegram}
use Rattle.wire.specs.declared.fault.Fault.TheVariants.{NoAccess}
use Rattle.wire.specs.Check.{hit_of}
use Rattle.wire.specs.Telegram.{fields_of}
use Rattle.rows.specs.declared.kind.Kind.{Kind}
use Rattle.rows.specs.Kinds.{kind_of}
use Rattle.judge.specs.declared.command.Command.{Command}
use Rattle.judge.specs.declared.command.Command.TheVariants.{Read, Write, Broadcast, Other}
use Rattle.judge.specs.declared.verdict.Verdict.{Verdict}
use Rattle.judge.specs.declared.verdict.Verdict.TheVariants.{Obeyed, Silent, Refused}
use Rattle.judge.specs.declared.verdict.Standing.{Standing}
use Rattle.judge.specs.declared.deed.Deed.{Deed}
use Rattle.judge.specs.Commands.{command_of, reads_of, writes_of}
use Rattle.judge.specs.Checks.{◌else◌, sum_check, node_check, command_check, hush_of}
use Rattle.judge.specs.Verdicts.{late_of, verdict_of}
use Rattle.judge.specs.Deeds.{done_by, shown_by, out_of_range, refused_by, deed_of}
use Rattle.judge.specs.Judged.{judged_of}
use Rattle.judge.proofs.Laws.{command_is}
use Rattle.state.specs.declared.parts.Head.{Head}
use Rattle.reply.specs.Word.{carried_of}
use Rattle.reply.specs.Reply.{read_of, answer_of, silence, said, value_reply, reply_of}
use Rattle.head.specs.declared.hear.Stepped.{Stepped}
use Rattle.head.specs.Hear.{standing_of, told_of, stepped, tell_of}
use Rattle.engine.specs.Way.{hearing, silent, read, system, write, obeyed}
use Rattle.engine.specs.Answer as engine
use Rattle.agreement.specs.Answers.{as_stepped}
use Rattle.agreement.proofs.Checks.{acted, way_is}
use Rattle.agreement.proofs.Deeds.{judged, after, silent_after}
use Rattle.agreement.proofs.Replies.{complained, ReadAt, read_at}
use Rattle.agreement.proofs.Writes.{WriteAt, write_at_lem}

-- a command above 02h is never obeyed
never : (a b : Verdict) → a else (b else Refused NoAccess) ≡ Obeyed → true ≡ false
unfolding ◌else◌
never Obeyed Obeyed h = cc
never Obeyed Silent h = cc
never Obeyed (Refused f) h = cc
never Silent b h = cc
never (Refused f) b h = cc

not_beyond : (hit : ℕ) (t : Telegram) (s : Standing) → verdict_of hit t s ≡ Obeyed → command_of t.command ≡ Other → ⊥
unfolding verdict_of late_of hush_of command_check ◌else◌
not_beyond hit t s h e = true≢false (never (sum_check hit Other (eqb t.node s.number)) (node_check Other (eqb t.node s.number)) (rw e at h))

module _ (t : Telegram) (hit : ℕ) (h : Head) (at : ℕ) where
  abbrev n : Head
  n = hearing hit at h

  -- the head told the telegram with a verdict on it
  abbrev c : Command
  c = command_of t.command

  abbrev k : Kind
  k = kind_of t.parameter

  abbrev told : Verdict → Stepped
  told v = let j = judged t hit h at c k v (deed_of v c k t) in stepped (told_of j h at) (reply_of j h (told_of j h at))

  silent_is : as_stepped (silent n) ≡ told Silent
  unfolding silent silence deed_of reply_of
  silent_is = rw (silent_after t hit h at c k)

  -- the engine's side by the command byte, and the head's by what kind of command that is
  engine_reads : reads_of c ≡ true → as_stepped (obeyed t h n) ≡ as_stepped (read t h n)
  unfolding obeyed
  engine_reads e = rw (sym (command_is t.command).0 ∙ e)

  engine_writes : reads_of c ≡ false → as_stepped (obeyed t h n) ≡ as_stepped (write t h n)
  unfolding obeyed
  engine_writes e = rw (sym (command_is t.command).0 ∙ e)

  read_is : as_stepped (read t h n) ≡ stepped (after t hit h at c k Obeyed (shown_by t.parameter)) (said t t.parameter (carried_of (shown_by t.parameter) h (after t hit h at c k Obeyed (shown_by t.parameter))) (read_of k h t.value))
  unfolding read ReadAt
  read_is = read_at t hit h at c k t.parameter

  abbrev deed : Deed
  deed = done_by k t.value t.word

  write_is : as_stepped (write t h n)
      ≡ stepped (after t hit h at c k Obeyed deed)
      (cond (writes_of c && not (eqb t.parameter 0xD2)) (said t t.parameter (carried_of deed h (after t hit h at c k Obeyed deed)) (answer_of t.parameter h t.value)) silence)
  unfolding write system WriteAt
  write_is = rw (command_is t.command).1 (write_at_lem t hit h at c k (eqb t.command 1) t.parameter)

  obeyed_is : (x : Command) → c ≡ x → (x ≡ Other → ⊥) → as_stepped (obeyed t h n) ≡ told Obeyed
  unfolding deed_of reply_of value_reply
  obeyed_is Read e o = engine_reads (ap reads_of e) ∙ read_is ∙ rw e
  obeyed_is Write e o = engine_writes (ap reads_of e) ∙ write_is ∙ rw e
  obeyed_is Broadcast e o = engine_writes (ap reads_of e) ∙ write_is ∙ rw e
  obeyed_is Other e o = absurd (o refl)

  acted_is : (v : Verdict) → verdict_of hit t (standing_of h) ≡ v → as_stepped (acted t h n v) ≡ told v
  unfolding deed_of refused_by reply_of
  acted_is Obeyed e = obeyed_is c refl (not_beyond hit t (standing_of h) e)
  acted_is Silent e = silent_is
  acted_is (Refused f) e = complained t hit h at c k f (out_of_range f && eqb t.parameter 0xD2)

pub agree : (h : Head) (ten : List ℕ) (at : ℕ) → (fields_of ten).parameter < 256 → (fields_of ten).value < 4294967296 → as_stepped (engine.told_of h ten at) ≡ tell_of h ten at
unfolding engine.told_of tell_of judged_of
agree h ten at small fits =
    let t = fields_of ten in
    let hit = hit_of ten in
    ap as_stepped (way_is t h (hearing hit at h) small fits hit) ∙ acted_is t hit h at (verdict_of hit t (standing_of h)) refl
