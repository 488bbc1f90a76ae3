-- The byte call does not look at what a head keeps of the last damaged telegram: each part of a telegram's way, taken by itself, does the same with
-- another byte there.
-- Assumes nothing.
use Prim.Native.Nat.{ℕ}
use mathlib.Core.Path.{◌≡◌, refl, ◌∙◌, ap, sym}
use mathlib.Core.Bool.{Bool, true, false, cond}
use mathlib.Core.List.{List}
use lib.Dec.{ltb, eqb}
use Rattle.std.specs.Prelude.{Option, is_some}
use Rattle.wire.specs.Telegram.{ten_in}
use Rattle.judge.specs.declared.deed.Deed.{Deed}
use Rattle.judge.specs.declared.judged.Judged.{Judged}
use Rattle.judge.specs.declared.verdict.Verdict.{Verdict}
use Rattle.judge.specs.declared.verdict.Verdict.TheVariants.{Obeyed, Silent, Refused}
use Rattle.judge.specs.Judged.{judged_of}
use Rattle.state.specs.declared.parts.Head.{Head}
use Rattle.state.specs.declared.parts.Faults.{Faults}
use Rattle.state.specs.Status.{status_of}
use Rattle.state.specs.Wellformed.{faults_fit, wellformed_of}
use Rattle.state.specs.With.{with_faults, with_hit}
use Rattle.effects.specs.Faults.{raised_of, counted_of, complained_of, restarted_faults, faults_by}
use Rattle.effects.specs.Restart.{restarted_of}
use Rattle.head.specs.Hear.{standing_of, restarts_of, affected_of, told_of, tell_of, step_of}
use Rattle.head.proofs.Apart.{reply_apart}
use Rattle.demands.specs.Run.{product}
use Rattle.demands.specs.Unseen.{keeping, Alike, Unseen}
use Rattle.demands.proofs.Telling.{marked, deed_apart, deed_spares}
use Rattle.demands.proofs.Apart as apart
use Rattle.demands.proofs.Apart.{Steps, hears, lays}

-- ---- the errors after a telegram
abbrev Same : Faults → Faults → Type 0
Same f g = with_hit f 0 ≡ with_hit g 0

counted_same : (n x : ℕ) (f : Faults) → Same (counted_of n (with_hit f x)) (counted_of n f)
unfolding counted_of raised_of
counted_same n x f = go (eqb n 0) (ltb f.damaged 2) refl refl
  where
    go : (sound few : Bool) → eqb n 0 ≡ sound → ltb f.damaged 2 ≡ few → Same (counted_of n (with_hit f x)) (counted_of n f)
    go true few p q = rw p
    go false true p q = rw (p, q)
    go false false p q = rw (p, q)

complained_same : (v : Verdict) (f : Faults) → with_hit (complained_of v f) 0 ≡ complained_of v (with_hit f 0)
unfolding complained_of
complained_same Obeyed f = refl
complained_same Silent f = refl
complained_same (Refused x) f = refl

deed_same : (d : Deed) (last : ℕ) (f : Faults) → with_hit (faults_by d last f) 0 ≡ faults_by d last (with_hit f 0)
deed_same d last f = ap (marked (faults_by d last f) 0) (deed_spares d last f).1 ∙ sym (deed_apart d last f 0 f.damaged)

faults_same : (d : Deed) (v : Verdict) (last n x : ℕ) (f : Faults)
    → Same (faults_by d last (complained_of v (counted_of n (with_hit f x)))) (faults_by d last (complained_of v (counted_of n f)))
faults_same d v last n x f =
    all (counted_of n (with_hit f x)) ∙ ap (λ (g : Faults). faults_by d last (complained_of v g)) (counted_same n x f) ∙ sym (all (counted_of n f))
  where
    all : (g : Faults) → with_hit (faults_by d last (complained_of v g)) 0 ≡ faults_by d last (complained_of v (with_hit g 0))
    all g = deed_same d last (complained_of v g) ∙ ap (faults_by d last) (complained_same v g)

-- ---- a head and the same with another byte
module _ (h : Head) (x : ℕ) where
  abbrev other : Head
  other = keeping h x

  affected_alike : (j : Judged) (t : ℕ) → Alike (affected_of j other t) (affected_of j h t)
  affected_alike j t = ap (with_faults (affected_of j h t)) (faults_same j.deed j.verdict h.targets.word j.hit x h.faults)

  told_alike : (j : Judged) (t : ℕ) → Alike (told_of j other t) (told_of j h t)
  unfolding told_of restarted_of restarted_faults
  told_alike j t =
      elim (restarts_of j.deed) as (λ b. Alike (cond b (restarted_of (affected_of j other t)) (affected_of j other t)) (cond b (restarted_of (affected_of j h t)) (affected_of j h t)))
      [ true ↦ ap restarted_of (affected_alike j t) | false ↦ affected_alike j t ]

  told_word : (j : Judged) (t : ℕ) → status_of (told_of j other t) ≡ status_of (told_of j h t)
  unfolding status_of
  told_word j t = ap status_of (told_alike j t)

  tells : (ten : List ℕ) (t : ℕ) → Steps Alike (tell_of other ten t) (tell_of h ten t)
  unfolding tell_of standing_of
  tells ten t =
      let j = judged_of ten (standing_of h) in
      let r = reply_apart h h.ear x h.stored.offer j (told_of j other t) (told_of j h t) (told_word j t) in
      (ap (λ (s : Option (List ℕ)). is_some s) r, ap (λ (s : Option (List ℕ)). ten_in s) r, told_alike j t)

  steps : (b t : ℕ) → Steps Alike (step_of other b t) (step_of h b t)
  steps = apart.steps Alike other h refl (λ e. refl) tells

  same_well : wellformed_of other ≡ wellformed_of h
  unfolding wellformed_of faults_fit
  same_well = refl

pub unseen : Unseen product
unseen =
    record {
      heard = λ h x b t n. (hears Alike (keeping h x) h refl (same_well h x) b t (steps h x b t) n).0;
      laid = λ h x b t space. lays Alike (keeping h x) h refl (same_well h x) b t (steps h x b t) space;
      after = λ h x b t n. (hears Alike (keeping h x) h refl (same_well h x) b t (steps h x b t) n).1;
    }
