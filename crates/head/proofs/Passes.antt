-- The ways of a byte through a head, each in short: it ends no telegram, or one; and one that is sound and for another node is judged silent, which
-- does nothing but count and start the monitor.
-- Assumes nothing.
use Rattle.std.proofs.Common.{◌≡◌, ℕ, Bool, true, false, not, eqb, List, length, get_or, None, is_some, refl, ◌∙◌, eqb-true}
use mathlib.Core.Bool.{and-eq-true_iff}
use Rattle.wire.specs.Check.{hit_of}
use Rattle.wire.specs.Telegram.{fields_of, ten_in}
use Rattle.judge.specs.declared.verdict.Verdict.TheVariants.{Silent}
use Rattle.judge.specs.Checks.{◌else◌, sum_check, node_check}
use Rattle.judge.specs.Commands.{command_of, casts_of}
use Rattle.judge.specs.Deeds.{deed_of}
use Rattle.judge.specs.Judged.{judged_of}
use Rattle.judge.specs.Verdicts.{verdict_of}
use Rattle.judge.proofs.Laws.{casts_is}
use Rattle.state.specs.declared.parts.Head.{Head}
use Rattle.state.specs.Settings.{value_at, mode_place}
use Rattle.state.specs.With.{with_ear}
use Rattle.effects.specs.Stored.{stored_by}
use Rattle.effects.specs.Faults.{complained_of, faults_by}
use Rattle.effects.specs.Measured.{measurement_by}
use Rattle.effects.specs.Aimed.{targets_by}
use Rattle.effects.proofs.Turns.{turned_same}
use Rattle.head.specs.declared.hear.Gathered.{Gathered}
use Rattle.head.specs.declared.hear.Stepped.{Stepped}
use Rattle.head.specs.Hear.{gathered_of, standing_of, restarts_of, told_of, passes_of, passed_of, stepped, tell_of, step_of}
use Rattle.reply.specs.Reply.{silence, reply_of}
use Rattle.reply.proofs.Replies.{reply_ten}

-- a head after a byte that draws no reply
abbrev pub unanswered : Head → Stepped
unanswered h = stepped h None

off : (b : Bool) → not b ≡ true → b ≡ false
off true e = cc
off false e = refl

module _ (ten : List ℕ) (h : Head) (at : ℕ) where
  -- the verdict is silence, which does nothing more
  hushed : hit_of ten ≡ 0 → casts_of (command_of (fields_of ten).command) ≡ false → eqb (fields_of ten).node h.stored.number ≡ false
      → verdict_of (hit_of ten) (fields_of ten) (standing_of h) ≡ Silent
  unfolding verdict_of sum_check node_check ◌else◌ standing_of
  hushed s c n = rw (s, c, n)

  silent : hit_of ten ≡ 0 → verdict_of (hit_of ten) (fields_of ten) (standing_of h) ≡ Silent → tell_of h ten at ≡ unanswered (passed_of h at)
  unfolding tell_of told_of passed_of judged_of deed_of stored_by faults_by complained_of measurement_by targets_by restarts_of reply_of silence
  silent s v = rw (v, s, turned_same (value_at h.stored.values mode_place) h.targets)

  -- what a head does with a sound telegram for another node, in short
  pub passes_tell : passes_of ten h.stored.number ≡ true → tell_of h ten at ≡ unanswered (passed_of h at)
  unfolding passes_of fields_of
  passes_tell e =
      let b = (and-eq-true_iff _ _).0 e in
      let c = (and-eq-true_iff _ _).0 b.1 in
      let s = eqb-true (hit_of ten) 0 b.0 in
      silent s (hushed s (casts_is (get_or ten 0 0) ∙ off _ c.0) (off _ c.1))

-- the two ways of a byte, by what was gathered: it ends no telegram, or one that is told
module _ (h : Head) (b at : ℕ) (g : Gathered) (e : g ≡ gathered_of h.ear b at) where
  pub step_more : is_some g.ten ≡ false → unanswered (with_ear h g.ear) ≡ step_of h b at
  unfolding step_of
  step_more w = rw (← e, w)

  pub step_told : is_some g.ten ≡ true → tell_of h (ten_in g.ten) at ≡ step_of h b at
  unfolding step_of
  step_told w = rw (← e, w)

-- whether it is sent or not, a reply has ten bytes
pub step_ten : (h : Head) (b t : ℕ) → length (ten_in (step_of h b t).reply) ≡ 10
unfolding step_of tell_of
step_ten h b t = go (is_some (gathered_of h.ear b t).ten) refl
  where
    go : (x : Bool) → is_some (gathered_of h.ear b t).ten ≡ x → length (ten_in (step_of h b t).reply) ≡ 10
    go true e = rw e (reply_ten _ h _)
    go false e = rw e
