-- The restart that a telegram ends with: what it leaves of the parts that demand 3 looks at, that it is the restart of power, and that A0h 9 is
-- such a telegram.
-- Assumes nothing.
use Rattle.std.proofs.Common.{◌≡◌, ℕ, true, false, cond, ◌&&◌, eqb, List, refl, arith}
use Rattle.wire.specs.declared.telegram.Telegram.{Telegram}
use Rattle.wire.specs.declared.fault.Fault.{Fault}
use Rattle.wire.specs.Check.{hit_of}
use Rattle.wire.specs.Telegram.{fields_of}
use Rattle.rows.specs.declared.kind.Kind.{Kind}
use Rattle.rows.specs.declared.kind.Kind.TheVariants.{WriteOnly}
use Rattle.rows.specs.declared.kind.Order.TheVariants.{System}
use Rattle.rows.specs.Table.{rows, place_of}
use Rattle.rows.specs.Kinds.{other_of, kind_of}
use Rattle.rows.proofs.Groups.{either}
use Rattle.judge.specs.declared.command.Command.{Command}
use Rattle.judge.specs.declared.deed.Deed.{Deed}
use Rattle.judge.specs.declared.deed.Deed.TheVariants.{Restart}
use Rattle.judge.specs.declared.judged.Judged.{Judged}
use Rattle.judge.specs.declared.verdict.Verdict.{Verdict}
use Rattle.judge.specs.declared.verdict.Verdict.TheVariants.{Obeyed, Silent, Refused}
use Rattle.judge.specs.declared.verdict.Standing.{Standing}
use Rattle.judge.specs.Commands.{changes_of}
use Rattle.judge.specs.Verdicts.{verdict_of}
use Rattle.judge.specs.Deeds.{system_of, done_by, out_of_range, refused_by, deed_of}
use Rattle.judge.specs.Judged.{judged_of}
use Rattle.judge.proofs.Laws.{obeyed_sound}
use Rattle.state.specs.declared.parts.Head.{Head}
use Rattle.state.specs.declared.parts.Stored.{Stored}
use Rattle.effects.specs.Stored.{restarted_stored, stored_by}
use Rattle.effects.specs.Faults.{counted_of, complained_of, restarted_faults, faults_by}
use Rattle.effects.specs.Measured.{measurement_by}
use Rattle.effects.specs.Aimed.{targets_by}
use Rattle.effects.specs.Restart.{empty_ear, restarted_of}
use Rattle.head.specs.Hear.{restarts_of, affected_of, told_of}

-- the stored part after a deed
unfoldable pub stored_after : Deed → Stored → Stored
stored_after d s = cond (restarts_of d) (restarted_stored (stored_by d s)) (stored_by d s)

module _ (j : Judged) (h : Head) (t : ℕ) where
  pub told_stored : (told_of j h t).stored ≡ stored_after j.deed h.stored
  unfolding told_of stored_after restarted_of
  told_stored =
      elim (restarts_of j.deed) as (λ b. (cond b (restarted_of (affected_of j h t)) (affected_of j h t)).stored ≡ cond b (restarted_stored (stored_by j.deed h.stored)) (stored_by j.deed h.stored))
      [ true ↦ refl | false ↦ refl ]

  -- none stands gathered
  pub told_ear : (told_of j h t).ear ≡ empty_ear (cond (restarts_of j.deed) 0 t)
  unfolding told_of restarted_of
  told_ear =
      elim (restarts_of j.deed) as (λ b. (cond b (restarted_of (affected_of j h t)) (affected_of j h t)).ear ≡ empty_ear (cond b 0 t)) [ true ↦ refl | false ↦ refl ]

  pub told_keys : (told_of j h t).keys ≡ cond (restarts_of j.deed) 0 h.keys
  unfolding told_of restarted_of
  told_keys =
      elim (restarts_of j.deed) as (λ b. (cond b (restarted_of (affected_of j h t)) (affected_of j h t)).keys ≡ cond b 0 h.keys) [ true ↦ refl | false ↦ refl ]

refused_never : (f : Fault) (a : ℕ) → refused_by f a ≡ Restart → ◌≡◌ {A = ℕ} 0 1
unfolding refused_by
refused_never f a = either (λ d. d ≡ Restart → ◌≡◌ {A = ℕ} 0 1) (out_of_range f && eqb a 0xD2) (λ _ e. cc) (λ e. cc)

restart_obeyed : (v : Verdict) (c : Command) (k : Kind) (t : Telegram) → deed_of v c k t ≡ Restart → v ≡ Obeyed
unfolding deed_of
restart_obeyed Obeyed c k t e = refl
restart_obeyed Silent c k t e = let z : ◌≡◌ {A = ℕ} 0 1 = cc in absurd (omega arith)
restart_obeyed (Refused f) c k t e = let z = refused_never f t.parameter e in absurd (omega arith)

-- such a telegram is obeyed, so it is sound, and what it did before the restart, the count of damaged ones back to 0, the restart does too
pub restart_told : (ten : List ℕ) (s : Standing) (h : Head) (t : ℕ) → (judged_of ten s).deed ≡ Restart → told_of (judged_of ten s) h t ≡ restarted_of h
unfolding judged_of told_of stored_by counted_of complained_of restarted_faults faults_by measurement_by targets_by restarts_of restarted_of
restart_told ten s h t e =
    let o = restart_obeyed (verdict_of (hit_of ten) (fields_of ten) s) _ _ (fields_of ten) e in
    rw (e, o, obeyed_sound (hit_of ten) (fields_of ten) s o)

system_kind : kind_of 0xA0 ≡ WriteOnly System
unfolding kind_of place_of rows other_of
system_kind = refl

-- an obeyed write or broadcast of A0h 9 is judged so
pub nine_restarts : (ten : List ℕ) (s : Standing)
    → let j = judged_of ten s in j.verdict ≡ Obeyed → changes_of j.command ≡ true → j.telegram.parameter ≡ 0xA0 → j.telegram.value ≡ 9
    → j.deed ≡ Restart
unfolding judged_of deed_of done_by system_of
nine_restarts ten s v c p n = rw (v, c, p, system_kind, n)
