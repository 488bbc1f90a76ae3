-- The versions that are wrong in Auto-ID fail: one by a line of one head, to which 5 is offered; the others by a head at 31 to which 5 is offered, or by two
-- of them, and what the call then leaves.
-- Assumes nothing.
use Rattle.std.specs.Prelude.{Ok, Err, Result, is_some}
use Prim.Native.Nat.{ℕ, ◌<◌}
use mathlib.Core.Path.{◌≡◌, refl, sym, ◌∙◌, ap}
use mathlib.Core.Bool.{true, false, true≢false}
use mathlib.Core.Logic.{◌≢◌, inl}
use mathlib.Core.List.{List, [], ◌∷◌, ◌++◌}
use native.Mathlib.Omega.{arith}
use lib.ListN.{replicate}
use Rattle.wire.specs.Check.{hit_of}
use Rattle.wire.specs.Telegram.{ten_in}
use Rattle.state.specs.declared.parts.Head.{Head}
use Rattle.state.specs.declared.parts.Stored.{Stored}
use Rattle.state.specs.With.{with_stored, with_faults, with_ear, with_offer, with_pending}
use Rattle.effects.specs.Restart.{fresh_of}
use Rattle.head.specs.Hear.{gathered_of}
use Rattle.line.specs.declared.calls.Line.{Line}
use Rattle.demands.specs.Calls.{Calls, start, ◌▸◌, new_head}
use Rattle.demands.specs.Cases.{split}
use Rattle.demands.specs.Past.{count, in_force}
use Rattle.demands.specs.Run.{System, machine_of, head_after}
use Rattle.demands.specs.Alone.{Taken, adopts}
use Rattle.demands.specs.Lines.{Fits}
use Rattle.demands.specs.Demand2.{Demand2}
use Rattle.demands.specs.Demand3.{Demand3}
use Rattle.demands.specs.AutoId.{Assigns, Offers, hear}
use Rattle.demands.specs.Unseen.{offering, OfferUnseen}
use Rattle.demands.specs.WrongOffers.{eager, Unoffered, SwitchesToo, StoredOnly, KeysDown, OffersOn, LateWord, NewNode, OfferKept, DropsAtNoise, ClearsError, WaitsMute, DropsAnothers, WrongOffers}
use Rattle.demands.proofs.Computing.{computing}
use Rattle.demands.proofs.Wrongs.{read20}
use Rattle.head.specs.declared.refusal.Refusal.{Refusal}

-- ---- adopts at the write: 5 is offered, and 31 is in force
abbrev five : Calls
five = hear (start ▸ new_head 31 4711) 0x011FD2000000000005C9

still_31 : (in_force five 0 ≡ 31) × (count five ≡ 1) × ((head_after (machine_of eager) five 0).stored.number ≡ 5)
unfolding computing
still_31 = (refl, refl, refl)

eager_fails : Demand3 (machine_of eager) → ⊥
eager_fails d =
    let one : 0 < count five = rw still_31.1 (omega arith) in
    let z : ◌≡◌ {A = ℕ} 5 31 = sym still_31.2 ∙ d.in_force_lem five 0 one ∙ still_31.0 in
    omega arith

-- ---- a new head, and the same with 5 offered; ten bytes are lent
abbrev new : Head
new = fresh_of 31 0

abbrev offered : Head
offered = with_stored new (with_offer new.stored 5)

abbrev space : List ℕ
space = replicate 10 0

new_taken : Taken new space × (adopts new 4 ≡ false)
unfolding computing
new_taken = (record { well = refl; room = omega arith }, refl)

offered_taken : Taken offered space × (adopts offered 4 ≡ true)
unfolding computing
offered_taken = (record { well = refl; room = omega arith }, refl)

-- nine bytes of a write of D2h 0 are gathered, and the tenth is off by one
abbrev noisy : Head
noisy = with_ear offered (record { bytes = split 9 0x011FD2000000000000 ++ (0 ∷ []); count = 9; at = 0 })

noisy_taken : Taken noisy space × (is_some (gathered_of noisy.ear 0xCD 0).ten ≡ true) × (hit_of (ten_in (gathered_of noisy.ear 0xCD 0).ten) ≡ 1)
unfolding computing
noisy_taken = (record { well = refl; room = omega arith }, refl, refl)

-- the error 0080h is pending, and nine bytes of a sound write of D2h 0 are gathered
abbrev failing : Head
failing = with_ear (with_faults offered (with_pending offered.faults 0x80)) noisy.ear

failing_taken : Taken failing space × (is_some (gathered_of failing.ear 0xCC 0).ten ≡ true) × Assigns failing (ten_in (gathered_of failing.ear 0xCC 0).ten) 1
unfolding computing
failing_taken = (record { well = refl; room = omega arith }, refl, record { sound = refl; commanded = refl; here = refl; assigns = refl })

-- two heads to which 5 is offered
abbrev two : Line
two =
    let s = offered.stored in
    let other = with_stored offered (record { values = s.values; number = s.number; baud = s.baud; offer = s.offer; serial = 1; unlocked = s.unlocked }) in
    record { heads = offered ∷ other ∷ replicate 30 offered; count = 2 }

two_fits : Fits two
unfolding computing
two_fits = record { fits = refl; places = refl }

replies_in : Result ℕ Refusal → ℕ
replies_in (Ok n) = n
replies_in (Err why) = 2

module _ (m : System) where
  unoffered_fails : Unoffered m → Demand2 m → ⊥
  unfolding replies_in
  unoffered_fails e d =
      let z : ◌≡◌ {A = ℕ} 1 0 = ap replies_in (rw (e new 10) at (d.presses new 4 space new_taken.0 (omega arith) new_taken.1).1) in omega arith

  switches_too_fails : SwitchesToo m → Demand2 m → ⊥
  unfolding computing
  switches_too_fails e d =
      let a = (d.adopting offered 4 space offered_taken.0 (omega arith) offered_taken.1).0 in
      let z : true ≡ false = rw (e offered 10) at a.restarted.incremental in absurd (true≢false z)

  stored_only_fails : StoredOnly m → Demand2 m → ⊥
  unfolding computing
  stored_only_fails e d =
      let a = (d.adopting offered 4 space offered_taken.0 (omega arith) offered_taken.1).0 in
      let z : ◌≡◌ {A = ℕ} 31 5 = rw (e offered 10) at a.restarted.number ∙ a.adopting.node in omega arith

  keys_down_fails : KeysDown m → Demand2 m → ⊥
  unfolding computing
  keys_down_fails e d =
      let a = (d.adopting offered 4 space offered_taken.0 (omega arith) offered_taken.1).0 in
      let z : ◌≡◌ {A = ℕ} 4 0 = rw (e offered 10) at a.restarted.keys in omega arith

  offers_on_fails : OffersOn m → Demand2 m → ⊥
  unfolding computing
  offers_on_fails e d =
      let a = (d.adopting offered 4 space offered_taken.0 (omega arith) offered_taken.1).0 in
      let z : ◌≡◌ {A = ℕ} 5 0 = rw (e offered 10) at a.restarted.offer in omega arith

  late_word_fails : LateWord m → Demand2 m → ⊥
  unfolding computing
  late_word_fails e d =
      let a = (d.adopting offered 4 space offered_taken.0 (omega arith) offered_taken.1).2 in
      let z : ◌≡◌ {A = ℕ} 0x8000 0 = rw (e offered space) at a.fields.word in omega arith

  new_node_fails : NewNode m → Demand2 m → ⊥
  unfolding computing
  new_node_fails e d =
      let a = (d.adopting offered 4 space offered_taken.0 (omega arith) offered_taken.1).2 in
      let z : ◌≡◌ {A = ℕ} 5 31 = rw (e offered space) at a.fields.node in omega arith

  offer_kept_fails : OfferKept m → Demand2 m → ⊥
  unfolding computing
  offer_kept_fails e d = let z : ◌≡◌ {A = ℕ} 5 0 = rw (e offered) at (d.powers offered (rw (e offered))).offer in omega arith

  drops_at_noise_fails : DropsAtNoise m → Demand2 m → ⊥
  unfolding computing
  drops_at_noise_fails e d =
      let hit : hit_of (ten_in (gathered_of noisy.ear 0xCD 0).ten) ≢ 0 = λ q. omega (arith, sym noisy_taken.2 ∙ q) in
      let a = d.every.counts noisy 0xCD 0 space noisy_taken.0 noisy_taken.1 hit in
      let z : ◌≡◌ {A = ℕ} 0 5 = ap (λ (s : Stored). s.offer) (rw (e noisy 0xCD 0 10 hit) at a.stored) in omega arith

  clears_error_fails : ClearsError m → Offers m → Demand2 m → ⊥
  unfolding computing
  clears_error_fails e o d =
      let (told, kept) = o.drops failing 0xCC 0 space failing_taken.0 failing_taken.1 failing_taken.2 refl (inl refl) in
      let a = d.every.errs failing 0xCC 0 space failing_taken.0 failing_taken.1 told.0 told.1 (inl (λ q. omega (arith, q))) in
      let z : ◌≡◌ {A = ℕ} 0 0x80 = rw (e failing 0xCC 0 10 refl) at (a.pending refl) in omega arith

  waits_mute_fails : WaitsMute m → OfferUnseen m → ⊥
  unfolding computing replies_in
  waits_mute_fails e u =
      let q : ◌≡◌ {A = Result ℕ Refusal} (Ok 0) (Ok 1) = rw (e (offering read20 5) 0x3F 0 10, e read20 0x3F 0 10) at (u.heard read20 5 0x3F 0 10 refl) in
      let z : ◌≡◌ {A = ℕ} 0 1 = ap replies_in q in omega arith

  drops_anothers_fails : DropsAnothers m → Demand2 m → ⊥
  unfolding computing
  drops_anothers_fails e d =
      let t = (d.line_presses two 1 4 space two_fits (omega arith)).0 in
      let z : ◌≡◌ {A = ℕ} 0 5 = ap (λ (h : Head). h.stored.offer) (rw (e two 4 10) at (t.others 0 (λ i. omega arith))) in omega arith

pub wrong_offers : WrongOffers
wrong_offers =
    record {
      eager_fails = eager_fails;
      unoffered_fails = unoffered_fails;
      switches_too_fails = switches_too_fails;
      stored_only_fails = stored_only_fails;
      keys_down_fails = keys_down_fails;
      offers_on_fails = offers_on_fails;
      late_word_fails = late_word_fails;
      new_node_fails = new_node_fails;
      offer_kept_fails = offer_kept_fails;
      drops_at_noise_fails = drops_at_noise_fails;
      clears_error_fails = clears_error_fails;
      waits_mute_fails = waits_mute_fails;
      drops_anothers_fails = drops_anothers_fails;
    }
