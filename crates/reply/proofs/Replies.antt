-- Laws of replies: what a head sends has ten bytes and passes its own check, and who is answered.
-- Assumes nothing.
use Prim.Native.Nat.{ℕ}
use Rattle.std.specs.Prelude.{List, Option, Some, None, is_some}
use mathlib.Core.Path.{◌≡◌, refl}
use mathlib.Core.Bool.{true, false, not}
use lib.Dec.{eqb}
use lib.ListN.{length, replicate}
use Rattle.wire.specs.declared.telegram.Telegram.{Telegram}
use Rattle.wire.specs.declared.fault.Fault.{Fault}
use Rattle.wire.specs.Check.{hit_of}
use Rattle.wire.specs.Telegram.{ten_in}
use Rattle.wire.proofs.Laws.{built_sound, built_ten}
use Rattle.rows.proofs.Groups.{either}
use Rattle.judge.specs.declared.command.Command.{Command}
use Rattle.judge.specs.declared.command.Command.TheVariants.{Read, Write, Broadcast, Other}
use Rattle.judge.specs.declared.judged.Judged.{Judged}
use Rattle.judge.specs.declared.verdict.Verdict.{Verdict}
use Rattle.judge.specs.declared.verdict.Verdict.TheVariants.{Obeyed, Silent, Refused}
use Rattle.judge.specs.Commands.{casts_of}
use Rattle.state.specs.declared.parts.Head.{Head}
use Rattle.reply.specs.Word.{carried_of}
use Rattle.reply.specs.Reply.{silence, fields_said, said, error_reply, value_reply, reply_by, reply_of, adoption_of}

-- silence is no reply, and whatever is said passes the check; either has ten bytes
abbrev Passes : Option (List ℕ) → Type 0
Passes s = is_some s ≡ true → hit_of (ten_in s) ≡ 0

abbrev Ten : Option (List ℕ) → Type 0
Ten s = length (ten_in s) ≡ 10

silence_passes : Passes silence
unfolding silence
silence_passes h = cc

silence_ten : Ten silence
unfolding silence
silence_ten = refl

module _ (t : Telegram) (parameter word value : ℕ) where
  said_passes : Passes (said t parameter word value)
  unfolding said
  said_passes h = built_sound (fields_said t parameter word value)

  said_ten : Ten (said t parameter word value)
  unfolding said
  said_ten = built_ten (fields_said t parameter word value)

-- what holds of silence and of whatever is said holds of every reply
module _ (P : Option (List ℕ) → Type 0) (quiet : P silence) (loud : (t : Telegram) (parameter word value : ℕ) → P (said t parameter word value)) where
  value_has : (c : Command) (j : Judged) (h : Head) (word : ℕ) → j.command ≡ c → P (value_reply j h word)
  unfolding value_reply
  value_has Read j h word e = rw e (loud _ _ _ _)
  value_has Write j h word e = rw e (either P (not (eqb j.telegram.parameter 0xD2)) (λ _. loud _ _ _ _) quiet)
  value_has Broadcast j h word e = rw e quiet
  value_has Other j h word e = rw e quiet

  by_has : (v : Verdict) (j : Judged) (h : Head) (word : ℕ) → P (reply_by v j h word)
  unfolding error_reply
  by_has Obeyed j h word = value_has j.command j h word refl
  by_has Silent j h word = quiet
  by_has (Refused fault) j h word = loud _ _ _ _

  reply_has : (j : Judged) (h after : Head) → P (reply_of j h after)
  unfolding reply_of
  reply_has j h after = by_has j.verdict j h (carried_of j.deed h after)

-- each telegram that a head sends passes its own check
pub reply_sound : (j : Judged) (h after : Head) → is_some (reply_of j h after) ≡ true → hit_of (ten_in (reply_of j h after)) ≡ 0
reply_sound = reply_has Passes silence_passes said_passes

pub reply_ten : (j : Judged) (h after : Head) → length (ten_in (reply_of j h after)) ≡ 10
reply_ten = reply_has Ten silence_ten said_ten

-- where there is no reply its bytes are 0
pub reply_quiet : (j : Judged) (h after : Head) → is_some (reply_of j h after) ≡ false → ten_in (reply_of j h after) ≡ replicate 10 0
reply_quiet j h after = go (reply_of j h after)
  where
    go : (s : Option (List ℕ)) → is_some s ≡ false → ten_in s ≡ replicate 10 0
    go None e = refl
    go (Some ten) e = cc

-- so does what a head sends that adopts a number
pub adoption_sound : (word number : ℕ) → hit_of (adoption_of word number) ≡ 0
unfolding adoption_of
adoption_sound word number = built_sound _

pub adoption_ten : (word number : ℕ) → length (adoption_of word number) ≡ 10
unfolding adoption_of
adoption_ten word number = built_ten _

module _ (j : Judged) (h after : Head) where
  -- a silent head does not reply
  pub silent_none : j.verdict ≡ Silent → is_some (reply_of j h after) ≡ false
  unfolding reply_of silence
  silent_none e = rw e

  -- a refused telegram is answered with the error
  pub refused_error : (f : Fault) → j.verdict ≡ Refused f → reply_of j h after ≡ error_reply j.telegram (carried_of j.deed h after) f
  unfolding reply_of
  refused_error f e = rw e

-- an obeyed broadcast is not answered
cast_quiet : (c : Command) (j : Judged) (h : Head) (word : ℕ) → j.command ≡ c → casts_of c ≡ true → is_some (value_reply j h word) ≡ false
unfolding value_reply silence
cast_quiet Read j h word e casts = cc
cast_quiet Write j h word e casts = cc
cast_quiet Broadcast j h word e casts = rw e
cast_quiet Other j h word e casts = cc

by_quiet : (v : Verdict) (j : Judged) (h : Head) (word : ℕ) → casts_of j.command ≡ true → ((f : Fault) → v ≡ Refused f → ⊥) → is_some (reply_by v j h word) ≡ false
unfolding silence
by_quiet Obeyed j h word casts taken = cast_quiet j.command j h word refl casts
by_quiet Silent j h word casts taken = refl
by_quiet (Refused f) j h word casts taken = absurd (taken f refl)

-- no broadcast is answered
pub cast_none : (j : Judged) (h after : Head) → casts_of j.command ≡ true → ((f : Fault) → j.verdict ≡ Refused f → ⊥) → is_some (reply_of j h after) ≡ false
unfolding reply_of
cast_none j h after casts taken = by_quiet j.verdict j h (carried_of j.deed h after) casts taken
