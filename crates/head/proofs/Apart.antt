-- What no telegram looks at: the bytes gathered, what is kept of the last damaged telegram, and the number that is offered. A reply is the same with
-- others there; and a telegram that is told does the same whatever bytes are gathered, of which none are left.
-- Assumes nothing.
use Rattle.std.proofs.Common.{◌≡◌, ℕ, List, refl}
use Rattle.rows.specs.declared.kind.Kind.{Kind}
use Rattle.rows.specs.declared.kind.Kind.TheVariants.{Stored, SetPoint1, SetPoint2, ReadOnly, WriteOnly, Unknown}
use Rattle.rows.specs.declared.kind.Shown.{Shown}
use Rattle.rows.specs.declared.kind.Shown.TheVariants.{Identification, Version, ErrorCount, ErrorAt, InputErrors, StatusWord, Differential, Pending, Position}
use Rattle.judge.specs.declared.judged.Judged.{Judged}
use Rattle.judge.specs.declared.verdict.Verdict.{Verdict}
use Rattle.judge.specs.declared.verdict.Verdict.TheVariants.{Obeyed, Silent, Refused}
use Rattle.judge.specs.Judged.{judged_of}
use Rattle.state.specs.declared.parts.Head.{Head}
use Rattle.state.specs.declared.parts.Ear.{Ear}
use Rattle.state.specs.Status.{status_of}
use Rattle.state.specs.With.{with_stored, with_faults, with_ear, with_offer, with_hit}
use Rattle.reply.specs.Word.{carried_of}
use Rattle.reply.specs.Reply.{shows_of, read_of, answer_of, value_reply, reply_by, reply_of}
use Rattle.head.specs.Hear.{standing_of, told_of, tell_of}

-- ---- a reply
module _ (h : Head) (e : Ear) (x n : ℕ) where
  abbrev other : Head
  other = with_stored (with_faults (with_ear h e) (with_hit h.faults x)) (with_offer h.stored n)

  shows_apart : (s : Shown) (v : ℕ) → shows_of s other v ≡ shows_of s h v
  unfolding status_of
  shows_apart Identification v = refl
  shows_apart Version v = refl
  shows_apart ErrorCount v = refl
  shows_apart (ErrorAt i) v = refl
  shows_apart InputErrors v = refl
  shows_apart StatusWord v = refl
  shows_apart Differential v = refl
  shows_apart Pending v = refl
  shows_apart Position v = refl

  read_apart : (k : Kind) (v : ℕ) → read_of k other v ≡ read_of k h v
  unfolding read_of
  read_apart (Stored i) v = refl
  read_apart SetPoint1 v = refl
  read_apart SetPoint2 v = refl
  read_apart (ReadOnly s) v = shows_apart s v
  read_apart (WriteOnly o) v = refl
  read_apart Unknown v = refl

  by_apart : (v : Verdict) (j : Judged) (w : ℕ) → reply_by v j other w ≡ reply_by v j h w
  unfolding value_reply answer_of
  by_apart Obeyed j w = rw (read_apart j.kind j.telegram.value)
  by_apart Silent j w = refl
  by_apart (Refused f) j w = refl

  status_apart : status_of other ≡ status_of h
  unfolding status_of
  status_apart = refl

  -- where the word of after is the same
  pub reply_apart : (j : Judged) (k l : Head) → status_of k ≡ status_of l → reply_of j other k ≡ reply_of j h l
  unfolding reply_of carried_of
  reply_apart j k l same = rw (same, status_apart) (by_apart j.verdict j (carried_of j.deed h l))

-- a telegram does not look at the bytes gathered
pub tell_apart : (h : Head) (e : Ear) (ten : List ℕ) (t : ℕ) → tell_of (with_ear h e) ten t ≡ tell_of h ten t
unfolding tell_of standing_of told_of
tell_apart h e ten t =
    let j = judged_of ten (standing_of h) in rw (reply_apart h e h.faults.hit h.stored.offer j (told_of j h t) (told_of j h t) refl)
