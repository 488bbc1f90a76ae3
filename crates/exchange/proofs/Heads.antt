-- What one head sends: to ten bytes in time, that of one telegram told to it (demands, Whole); and whatever bytes it has gathered, a reply has its number in
-- force in the node's place.
-- Assumes nothing.
use Rattle.std.specs.Prelude.{Ok, Result, is_some}
use Prim.Native.Nat.{ℕ, ◌≤◌}
use mathlib.Core.Path.{◌≡◌, refl, sym, ◌∙◌, ap}
use mathlib.Core.Bool.{Bool, true, false}
use mathlib.Core.List.{List}
use native.Mathlib.Omega.{arith}
use borrow.Author.Tests.{eqb-true}
use lib.Dec.{eqb}
use lib.ListN.{length, get_or, take}
use Rattle.wire.specs.declared.telegram.Telegram.{Telegram}
use Rattle.wire.specs.Check.{xor_all}
use Rattle.wire.specs.Telegram.{fields_of, nine_of, bytes_of, ten_in}
use Rattle.state.specs.declared.parts.Head.{Head}
use Rattle.head.specs.declared.refusal.Refusal.{Refusal}
use Rattle.head.specs.declared.calls.Fed.{Fed}
use Rattle.head.specs.Hear.{gathered_of, tell_of}
use Rattle.head.specs.Calls.{byte_of, byte_space_of}
use Rattle.line.specs.Round.{said_by}
use Rattle.demands.specs.Run.{built, answers}
use Rattle.demands.specs.Alone.{Taken}
use Rattle.demands.specs.Demand3.{Steady}
use Rattle.demands.proofs.Answers.{gathers, keeps_silent}
use Rattle.demands.proofs.Words.{copies}
use Rattle.demands.proofs.One.{told_mute}
use Rattle.demands.proofs.Whole.{said, whole}
use Rattle.demands.proofs.Back.{calls_said}
use Rattle.exchange.specs.Exchange.{Ready}

-- ---- a built telegram in time, put to a head that is ready
module _ (q : Telegram) (τ : ℕ → ℕ) (h : Head) (steady : Steady τ) (r : Ready h) where
  pub in_time : said (bytes_of q) τ 0 h ≡ said_by (tell_of h (bytes_of q) (τ 9))
  unfolding bytes_of
  in_time = (whole τ steady h r.none r.typed.ear.places (nine_of q) (xor_all (nine_of q)) refl).1

  pub drawn_is : (space : List ℕ) → 10 ≤ length space → answers built (bytes_of q) τ 0 h space ≡ said_by (tell_of h (bytes_of q) (τ 9))
  drawn_is space wide = calls_said space wide (bytes_of q) τ 0 h r.well ∙ in_time

-- ---- a reply, whatever bytes are gathered
none_one : ◌≡◌ {A = Result ℕ Refusal} (Ok 0) (Ok 1) → ⊥
none_one e = let z : ◌≡◌ {A = ℕ} 0 1 = cc in omega arith

pub sent_node : (h : Head) (b t : ℕ) (space : List ℕ) → Taken h space → (byte_of h b t (length space)).heard ≡ Ok 1
    → get_or (take 10 (byte_space_of h b t space)) 1 0 ≡ h.stored.number
unfolding fields_of tell_of
sent_node h b t space k replied = go (is_some (gathered_of h.ear b t).ten) refl
  where
    ten : List ℕ
    ten = ten_in (gathered_of h.ear b t).ten

    own : is_some (gathered_of h.ear b t).ten ≡ true → (x : Bool) → eqb (fields_of ten).node h.stored.number ≡ x → (fields_of ten).node ≡ h.stored.number
    own w true e = eqb-true _ _ e
    own w false e = absurd (none_one (sym (keeps_silent h b t space k w (told_mute h ten t e)).0 ∙ replied))

    go : (x : Bool) → is_some (gathered_of h.ear b t).ten ≡ x → get_or (take 10 (byte_space_of h b t space)) 1 0 ≡ h.stored.number
    go true w = (copies h b t space k w replied).node ∙ own w _ refl
    go false w = absurd (none_one (sym (ap (λ (x : Fed). x.heard) (gathers h b t space k w).0) ∙ replied))
