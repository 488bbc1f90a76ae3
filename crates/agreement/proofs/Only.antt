-- The promise leaves nothing open: an engine that agrees is the engine. A head is put to both with no bytes gathered, which makes no difference to either; there the byte calls
-- give the state and the replies of both.
-- Assumes nothing.
use Prim.Native.Nat.{ℕ}
use mathlib.Core.Path.{◌≡◌, refl, sym, ◌∙◌, ap}
use mathlib.Core.Bool.{Bool, true, false}
use mathlib.Core.List.{List, [], ◌∷◌}
use lib.ListN.{get_or, replicate}
use Rattle.state.specs.declared.parts.Head.{Head}
use Rattle.state.specs.Wellformed.{ear_fits, wellformed_of}
use Rattle.state.specs.With.{with_ear}
use Rattle.state.proofs.Laws.{told, holds}
use Rattle.engine.specs.declared.Answered.{Answered}
use Rattle.engine.specs.declared.Outcome.{Outcome}
use Rattle.engine.specs.declared.Outcome.TheVariants.{Silence, Reply, Refused}
use Rattle.engine.specs.declared.Refusal.TheVariants.{Malformed}
use Rattle.engine.specs.Does.{no_bytes_of}
use Rattle.engine.specs.Answer.{answer_of}
use Rattle.demands.specs.Run.{product}
use Rattle.agreement.specs.Answers.{drawn}
use Rattle.agreement.specs.Agreement.{Engine, TenBytes, Idle, Agreement}
use Rattle.agreement.proofs.Proved.{at_once_lem, agreement}

-- two answers of equal heads and replies, neither refused, and each of ten bytes of 0 where it is silent
record Met (x : Answered) : Type 0 where
  taken : x.outcome ≡ Refused Malformed → ⊥
  quiet : x.outcome ≡ Silence → x.reply ≡ replicate 10 0

parts : {h k : Head} {o p : Outcome} {r s : List ℕ} → h ≡ k → o ≡ p → r ≡ s
    → ◌≡◌ {A = Answered} (record { head = h; outcome = o; reply = r }) (record { head = k; outcome = p; reply = s })
parts a b c = rw (a, b, c)

equal : (x y : Answered) → Met x → Met y → x.head ≡ y.head → drawn x ≡ drawn y → x ≡ y
equal x y p q h d = go x.outcome refl y.outcome refl
  where
    go : (o : Outcome) → x.outcome ≡ o → (u : Outcome) → y.outcome ≡ u → x ≡ y
    go (Refused Malformed) e u f = absurd (p.taken e)
    go Silence e (Refused Malformed) f = absurd (q.taken f)
    go Reply e (Refused Malformed) f = absurd (q.taken f)
    go Silence e Silence f = parts h (e ∙ sym f) (p.quiet e ∙ sym (q.quiet f))
    go Silence e Reply f = let z : [] ≡ y.reply ∷ [] = rw (e, f) at d in cc
    go Reply e Silence f = let z : x.reply ∷ [] ≡ [] = rw (e, f) at d in cc
    go Reply e Reply f = parts h (e ∙ sym f) (ap (λ (l : List (List ℕ)). get_or l 0 []) (rw (e, f) at d))

module _ (e : Engine) (a : Agreement product e) (h : Head) (ten : List ℕ) (time : ℕ) (t : TenBytes ten) where
  abbrev k : Head
  k = with_ear h (no_bytes_of 0)

  idle : Idle k
  idle = record { none = refl; places = refl }

  met : wellformed_of k ≡ true → (d : Engine) → Agreement product d → Met (d k ten time)
  met w d b = record { taken = b.takes k ten time w; quiet = b.quiet k ten time t }

  idle_only : wellformed_of k ≡ true → e k ten time ≡ answer_of k ten time
  idle_only w =
      equal (e k ten time) (answer_of k ten time) (met w e a) (met w answer_of agreement)
      (sym (a.state k ten (λ i. time) (replicate 10 0) idle t (at_once_lem time)) ∙ agreement.state k ten (λ i. time) (replicate 10 0) idle t (at_once_lem time))
      (sym (a.replies k ten (λ i. time) (replicate 10 0) idle t (at_once_lem time)) ∙ agreement.replies k ten (λ i. time) (replicate 10 0) idle t (at_once_lem time))

  emptied_well : wellformed_of h ≡ true → wellformed_of k ≡ true
  unfolding ear_fits
  emptied_well well =
      let w = told h well in holds k (record { stored = w.stored; faults = w.faults; measurement = w.measurement; ear = refl; keys = w.keys })

  pub only : e h ten time ≡ answer_of h ten time
  only = go (wellformed_of h) refl
    where
      go : (w : Bool) → wellformed_of h ≡ w → e h ten time ≡ answer_of h ten time
      go true w =
          let v = emptied_well w in
          sym (a.drops h (no_bytes_of 0) ten time t w v) ∙ idle_only v ∙ agreement.drops h (no_bytes_of 0) ten time t w v
      go false w = a.refuses h ten time w ∙ sym (agreement.refuses h ten time w)
