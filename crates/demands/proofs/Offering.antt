-- The byte call does not look at the number that is offered: a telegram does the same with another.
-- Assumes nothing.
use Prim.Native.Nat.{ℕ}
use mathlib.Core.Path.{◌≡◌, refl, ap}
use mathlib.Core.Bool.{true, false, cond}
use mathlib.Core.List.{List}
use Rattle.std.specs.Prelude.{Option, is_some}
use Rattle.wire.specs.Telegram.{ten_in}
use Rattle.judge.specs.declared.deed.Deed.{Deed}
use Rattle.judge.specs.declared.deed.Deed.TheVariants.{Nothing, Store, Reset, Restart, Calibrate, Forget, Unlock, Freeze, Aim1, Aim2, ClearStatic, Release, Offer, Withdraw}
use Rattle.judge.specs.declared.judged.Judged.{Judged}
use Rattle.judge.specs.Judged.{judged_of}
use Rattle.state.specs.declared.parts.Head.{Head}
use Rattle.state.specs.declared.parts.Stored as parts
use Rattle.state.specs.Settings.{value_at, mode_place}
use Rattle.state.specs.Status.{status_of}
use Rattle.state.specs.With.{with_stored, with_targets, with_offer}
use Rattle.effects.specs.Stored.{locked_of, restarted_stored, stored_by}
use Rattle.effects.specs.Aimed.{turned_of, targets_by}
use Rattle.effects.specs.Restart.{restarted_of}
use Rattle.head.specs.Hear.{standing_of, restarts_of, affected_of, told_of, tell_of, step_of}
use Rattle.head.proofs.Apart.{reply_apart}
use Rattle.demands.specs.Run.{product}
use Rattle.demands.specs.Unseen.{offering, AlikeOffered, OfferUnseen}
use Rattle.demands.proofs.Apart as apart
use Rattle.demands.proofs.Apart.{Steps, hears, lays}

-- what a deed does to the stored part, but for the offer
deed_offered : (d : Deed) (s : parts.Stored) (n : ℕ) → with_offer (stored_by d (with_offer s n)) 0 ≡ with_offer (stored_by d s) 0
unfolding stored_by
deed_offered Nothing s n = refl
deed_offered (Store i w) s n = refl
deed_offered (Reset c) s n = refl
deed_offered Restart s n = refl
deed_offered Calibrate s n = refl
deed_offered Forget s n = refl
deed_offered (Unlock b) s n = refl
deed_offered Freeze s n = refl
deed_offered (Aim1 v w) s n = refl
deed_offered (Aim2 v w) s n = refl
deed_offered ClearStatic s n = refl
deed_offered Release s n = refl
deed_offered (Offer v) s n = refl
deed_offered Withdraw s n = refl

-- ---- a head and the same with another offer
module _ (h : Head) (n : ℕ) where
  abbrev other : Head
  other = offering h n

  affected_offered : (j : Judged) (t : ℕ) → AlikeOffered (affected_of j other t) (affected_of j h t)
  affected_offered j t = ap storing (deed_offered j.deed h.stored n)
    where
      -- the targets turn by the values that are stored, which no offer is among
      storing : parts.Stored → Head
      storing s =
          with_targets (with_stored (affected_of j h t) s)
          (turned_of (value_at h.stored.values mode_place) (value_at s.values mode_place) (targets_by j.deed h.stored.values h.measurement h.targets))

  told_offered : (j : Judged) (t : ℕ) → AlikeOffered (told_of j other t) (told_of j h t)
  unfolding told_of restarted_of restarted_stored
  told_offered j t =
      elim (restarts_of j.deed) as (λ b. AlikeOffered (cond b (restarted_of (affected_of j other t)) (affected_of j other t)) (cond b (restarted_of (affected_of j h t)) (affected_of j h t)))
      [ true ↦ ap restarted_of (affected_offered j t) | false ↦ affected_offered j t ]

  told_word : (j : Judged) (t : ℕ) → status_of (told_of j other t) ≡ status_of (told_of j h t)
  unfolding status_of
  told_word j t = ap status_of (told_offered j t)

  tells : (ten : List ℕ) (t : ℕ) → Steps AlikeOffered (tell_of other ten t) (tell_of h ten t)
  unfolding tell_of standing_of locked_of
  tells ten t =
      let j = judged_of ten (standing_of h) in
      let r = reply_apart h h.ear h.faults.hit n j (told_of j other t) (told_of j h t) (told_word j t) in
      (ap (λ (s : Option (List ℕ)). is_some s) r, ap (λ (s : Option (List ℕ)). ten_in s) r, told_offered j t)

  steps : (b t : ℕ) → Steps AlikeOffered (step_of other b t) (step_of h b t)
  steps = apart.steps AlikeOffered other h refl (λ e. refl) tells

pub offer_unseen : OfferUnseen product
offer_unseen =
    record {
      heard = λ h x b t n w. (hears AlikeOffered (offering h x) h refl w b t (steps h x b t) n).0;
      laid = λ h x b t space w. lays AlikeOffered (offering h x) h refl w b t (steps h x b t) space;
      after = λ h x b t n w. (hears AlikeOffered (offering h x) h refl w b t (steps h x b t) n).1;
    }
