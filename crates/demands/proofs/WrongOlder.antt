-- The versions that are wrong where incremental measurement is retired fail: each by one call on a closed head or line, and the number, or the part of the head, that it
-- should have given.
-- Assumes nothing.
use Rattle.std.specs.Prelude.{Ok, Err, Result, ⊤}
use Prim.Native.Nat.{ℕ}
use mathlib.Core.Path.{◌≡◌, refl, sym, ◌∙◌, ap}
use mathlib.Core.Bool.{true≢false}
use mathlib.Core.List.{List}
use mathlib.Core.Option.{Option}
use native.Mathlib.Omega.{arith}
use lib.IntN.{nat_abs}
use lib.ListN.{get_or, replicate}
use Rattle.state.specs.declared.parts.Head.{Head}
use Rattle.state.specs.declared.parts.Ear.{Ear}
use Rattle.state.specs.declared.parts.Targets.{Targets}
use Rattle.state.specs.Older.{brought_of}
use Rattle.state.specs.With.{with_keys}
use Rattle.effects.specs.Restart.{empty_ear, restarted_of}
use Rattle.head.specs.declared.refusal.Refusal.{Refusal}
use Rattle.head.specs.Calls as head
use Rattle.head.specs.Outcome as alone
use Rattle.line.specs.Calls as line
use Rattle.demands.specs.Calls.{bring, named, tick}
use Rattle.demands.specs.Cases.{gathered}
use Rattle.demands.specs.Run.{System, with_ear}
use Rattle.demands.specs.Demand1.{of_answer, of_heard, Demand1}
use Rattle.demands.specs.Demand2.{Demand2}
use Rattle.demands.specs.Sheets.{Sheets}
use Rattle.demands.specs.OlderCases.{new, with35, armed, running, busy, left_over_of, pair}
use Rattle.demands.specs.WrongOlder.{Brings, measuring, thawed, still_on, start_kept, zero_moved, unsettled, one, two, asking, Below, TakesOne, StillSwitches, WrongOlder}
use Rattle.demands.proofs.Computing.{computing}
use Rattle.demands.proofs.WrongSheets.{tell, refused_none}

-- what a call that is done has for its number: none
answered : (a : Result ⊤ Refusal) {n : Option ℕ} → a ≡ (Ok tt) → of_answer a ≡ n → 0 ≡ tell n
answered a e q = sym (ap (λ (x : Result ⊤ Refusal). tell (of_answer x)) e) ∙ ap tell q

module _ (m : System) where
  thawed_fails : Brings m busy (measuring thawed busy) → Demand2 m → ⊥
  unfolding computing
  thawed_fails e d = true≢false (sym (rw e at (d.brings busy (rw e)).frozen))

  still_on_fails : Brings m running (measuring still_on running) → Demand2 m → ⊥
  unfolding computing
  still_on_fails e d = true≢false (rw e at (d.brings running (rw e)).incremental)

  start_kept_fails : Brings m running (measuring start_kept running) → Demand2 m → ⊥
  unfolding computing
  start_kept_fails e d = let z : ◌≡◌ {A = ℕ} 50 0 = ap nat_abs (rw e at ((d.brings running (rw e)).start refl)) in omega arith

  zero_moved_fails : Brings m running (measuring zero_moved running) → Demand2 m → ⊥
  unfolding computing
  zero_moved_fails e d = let z : ◌≡◌ {A = ℕ} 57 20 = ap nat_abs (rw e at (d.brings running (rw e)).zero) in omega arith

  still_35_fails : Brings m armed armed → Demand2 m → ⊥
  unfolding computing
  still_35_fails e d = let z : ◌≡◌ {A = ℕ} 1 0 = rw e at (d.brings armed (rw e)).retired in omega arith

  unsettled_fails : Brings m busy (unsettled (brought_of busy)) → Demand2 m → ⊥
  unfolding computing
  unsettled_fails e d = true≢false (sym (ap (λ (t : Targets). t.reached) (rw e at (d.brings busy (rw e)).targets)))

  let_go_fails : Brings m busy (with_keys (brought_of busy) 0) → Demand2 m → ⊥
  unfolding computing
  let_go_fails e d = let z : ◌≡◌ {A = ℕ} 0 4 = rw e at (d.brings busy (rw e)).keys in omega arith

  ungathered_fails : Brings m (gathered armed 0) (with_ear (brought_of (gathered armed 0)) (empty_ear 0)) → Demand2 m → ⊥
  unfolding computing
  ungathered_fails e d = let z : ◌≡◌ {A = ℕ} 0 9 = ap (λ (x : Ear). x.count) (rw e at (d.brings (gathered armed 0) (rw e)).ear) in omega arith

  restarted_fails : Brings m busy (restarted_of (brought_of busy)) → Demand2 m → ⊥
  unfolding computing
  restarted_fails e d = true≢false (sym (rw e at (d.brings busy (rw e)).frozen))

  touched_fails : Brings m left_over_of new → Demand2 m → ⊥
  unfolding computing
  touched_fails e d = let z : ◌≡◌ {A = ℕ} 0 50 = ap (λ (h : Head). nat_abs h.measurement.start) (rw e at ((d.brings left_over_of (rw e)).unchanged refl)) in omega arith

  second_fails : (why : Refusal) → (m.on_line_of.ask bring pair 0).answer ≡ Err why → Demand1 m → ⊥
  unfolding computing
  second_fails why e d = refused_none _ e (d.line_number (named 0 bring) pair)

  refused_fails : (why : Refusal) → (m.on_head.ask alone.bring running).answer ≡ Err why → Demand1 m → ⊥
  unfolding computing
  refused_fails why e d = refused_none _ e (d.head_number (alone.asked alone.bring) running)

  beyond_fails : (m.on_head.ask alone.bring (with35 2 new)).answer ≡ (Ok tt) → Demand1 m → ⊥
  unfolding computing
  beyond_fails e d = let z : ◌≡◌ {A = ℕ} 0 20 = answered _ e (d.head_number (alone.asked alone.bring) (with35 2 new)) in omega arith

  nobody_fails : (m.on_line_of.ask bring pair 3).answer ≡ (Ok tt) → Demand1 m → ⊥
  unfolding computing
  nobody_fails e d = let z : ◌≡◌ {A = ℕ} 0 3 = answered _ e (d.line_number (named 3 bring) pair) in omega arith

  both_fails : (m.on_line_of.ask bring pair 0).line ≡ (line.bring_of (line.bring_of pair 0).line 1).line → Demand2 m → ⊥
  unfolding computing
  both_fails e d =
      let t = (d.line_asks pair 0 bring (record { takes = refl; places = refl }) (omega arith)).0 in
      let z : ◌≡◌ {A = ℕ} 0 1 = ap (λ (h : Head). get_or h.stored.values 29 0) (rw e at (t.others 1 (λ i. omega arith))) in
      omega arith

  powered_fails : (m.on_head.ask alone.power armed).answer ≡ (Ok tt) → Demand1 m → ⊥
  unfolding computing
  powered_fails e d = let z : ◌≡◌ {A = ℕ} 0 20 = answered _ e (d.head_number (alone.asked alone.power) armed) in omega arith

  heard_fails : (n : ℕ) → (m.on_head.byte running 0 0 10).heard ≡ Ok n → Demand1 m → ⊥
  unfolding computing
  heard_fails n e d =
      let z : ◌≡◌ {A = ℕ} 0 20 = sym (ap (λ (x : Result ℕ Refusal). tell (of_heard x)) e) ∙ ap tell (d.head_number (alone.byte 0 0 (replicate 10 0)) running) in
      omega arith

  ticked_fails : (m.on_line_of.tick pair 0).answer ≡ (Ok tt) → Demand1 m → ⊥
  unfolding computing
  ticked_fails e d = let z : ◌≡◌ {A = ℕ} 0 20 = answered _ e (d.line_number (tick 0) pair) in omega arith

  sheet_refused_fails : (why : Refusal) → (m.on_head.ask (alone.load one) new).answer ≡ Err why → Demand1 m → ⊥
  unfolding computing
  sheet_refused_fails why e d = refused_none _ e (d.head_number (alone.asked (alone.load one)) new)

  sheet_stored_fails : m.on_head.ask (alone.load one) new ≡ head.done_with armed → Sheets m → ⊥
  unfolding computing
  sheet_stored_fails e d = let z : ◌≡◌ {A = ℕ} 1 0 = rw e at ((d.loads new one (rw e)).values.retired 0 (omega arith) refl) in omega arith

  sheet_two_fails : (m.on_head.ask (alone.load two) new).answer ≡ (Ok tt) → Demand1 m → ⊥
  unfolding computing
  sheet_two_fails e d = let z : ◌≡◌ {A = ℕ} 0 13 = answered _ e (d.head_number (alone.asked (alone.load two)) new) in omega arith

  below_fails : Below m → Demand2 m → ⊥
  unfolding computing
  below_fails e d =
      let t = (d.answers asking 0x2A 0 (replicate 10 7) (record { well = refl; room = omega arith }) refl refl).1 in
      let z : ◌≡◌ {A = ℕ} 1 2 = ap (λ (l : List ℕ). get_or l 7 0) (sym e ∙ t) in
      omega arith

  takes_one_fails : TakesOne m → Demand2 m → ⊥
  unfolding computing
  takes_one_fails e d =
      let t = d.obeys asking 0x2A 0 (replicate 10 7) (record { well = refl; room = omega arith }) refl in
      let z : ◌≡◌ {A = ℕ} 1 0 = ap (λ (h : Head). get_or h.stored.values 29 0) (sym e ∙ t) in
      omega arith

  still_switches_fails : StillSwitches m → Demand2 m → ⊥
  unfolding computing
  still_switches_fails e d =
      true≢false (rw e at (d.presses new 4 (replicate 10 0) (record { well = refl; room = omega arith }) (omega arith) refl).0.incremental)

pub wrong_older : WrongOlder
wrong_older =
    record {
      thawed_fails = thawed_fails;
      still_on_fails = still_on_fails;
      start_kept_fails = start_kept_fails;
      zero_moved_fails = zero_moved_fails;
      still_35_fails = still_35_fails;
      unsettled_fails = unsettled_fails;
      let_go_fails = let_go_fails;
      ungathered_fails = ungathered_fails;
      restarted_fails = restarted_fails;
      touched_fails = touched_fails;
      second_fails = second_fails;
      refused_fails = refused_fails;
      beyond_fails = beyond_fails;
      nobody_fails = nobody_fails;
      both_fails = both_fails;
      powered_fails = powered_fails;
      heard_fails = heard_fails;
      ticked_fails = ticked_fails;
      sheet_refused_fails = sheet_refused_fails;
      sheet_stored_fails = sheet_stored_fails;
      sheet_two_fails = sheet_two_fails;
      below_fails = below_fails;
      takes_one_fails = takes_one_fails;
      still_switches_fails = still_switches_fails;
    }
