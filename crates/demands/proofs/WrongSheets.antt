-- The versions that are wrong in a sheet fail: each by one call on a new head, and the number, or the part of the head, that it should have given.
-- Assumes nothing.
use Rattle.std.specs.Prelude.{Ok, Err, Result, ⊤}
use Prim.Native.Nat.{ℕ}
use mathlib.Core.Path.{◌≡◌, refl, sym, ◌∙◌, ap}
use mathlib.Core.Bool.{Bool, true, cond}
use mathlib.Core.List.{List, [], ◌∷◌}
use mathlib.Core.Option.{Option, none, some}
use native.Mathlib.Omega.{arith}
use lib.ListN.{get_or, replicate}
use Rattle.state.specs.declared.parts.Head.{Head}
use Rattle.state.specs.declared.parts.Ear.{Ear}
use Rattle.state.specs.With.{with_stored, with_ear, with_lock, with_offer}
use Rattle.effects.specs.Restart.{empty_ear, restarted_of, fresh_of}
use Rattle.sheet.specs.declared.refusal.Refusal.TheVariants.{OutOfRow}
use Rattle.head.specs.declared.refusal.Refusal.{Refusal}
use Rattle.head.specs.declared.refusal.Refusal.TheVariants.{Sheet}
use Rattle.head.specs.declared.calls.Called.{Called}
use Rattle.head.specs.Calls as head
use Rattle.head.specs.Outcome as alone
use Rattle.demands.specs.Run.{System}
use Rattle.demands.specs.Demand1.{first, rows_alone, of_answer, Demand1}
use Rattle.demands.specs.Sheets.{Sheets}
use Rattle.demands.specs.WrongSheets.{new, locked, Takes, Refuses, later, twice, longer, both, half, nine, five, Half, Loads, gathering, offered, overrun, low_first, few_rows, pair, first_saved, WrongSheets}
use Rattle.demands.proofs.Computing.{computing}

-- the number of a refusal, 0 for none
abbrev pub tell : Option ℕ → ℕ
tell none = 0
tell (some n) = n

-- a refusal has one
pub refused_none : {why : Refusal} (a : Result ⊤ Refusal) → a ≡ Err why → of_answer a ≡ none → ⊥
refused_none (Ok tt) e q = let z : ◌≡◌ {A = ℕ} 0 1 = cc in omega arith
refused_none (Err w) e q = let z : ◌≡◌ {A = ℕ} 0 1 = cc in omega arith

-- what is refused, or not, and the number that the table gives
module _ (m : System) (d : Demand1 m) where
  wanted : (s : List ℕ) (h : Head) → tell (of_answer (m.on_head.ask (alone.load s) h).answer) ≡ tell (first (rows_alone (alone.asked (alone.load s)) h))
  wanted s h = ap tell (d.head_number (alone.asked (alone.load s)) h)

  taken : (s : List ℕ) (h : Head) → Takes m h s → 0 ≡ tell (first (rows_alone (alone.asked (alone.load s)) h))
  taken s h e = sym (ap (λ (a : Result ⊤ Refusal). tell (of_answer a)) e) ∙ wanted s h

module _ (m : System) where
  later_fails : Takes m new later → Demand1 m → ⊥
  unfolding computing
  later_fails e d = let z : ◌≡◌ {A = ℕ} 0 11 = taken m d later new e in omega arith

  twice_fails : Takes m new twice → Demand1 m → ⊥
  unfolding computing
  twice_fails e d = let z : ◌≡◌ {A = ℕ} 0 11 = taken m d twice new e in omega arith

  longer_fails : Takes m new longer → Demand1 m → ⊥
  unfolding computing
  longer_fails e d = let z : ◌≡◌ {A = ℕ} 0 11 = taken m d longer new e in omega arith

  nothing_fails : Takes m new [] → Demand1 m → ⊥
  unfolding computing
  nothing_fails e d = let z : ◌≡◌ {A = ℕ} 0 11 = taken m d [] new e in omega arith

  no_row_fails : (why : Refusal) → Refuses m new (0 ∷ []) why → Demand1 m → ⊥
  unfolding computing
  no_row_fails why e d = refused_none _ e (d.head_number (alone.asked (alone.load (0 ∷ []))) new)

  value_first_fails : Refuses m new both (Sheet OutOfRow) → Demand1 m → ⊥
  unfolding computing
  value_first_fails e d =
      let z : ◌≡◌ {A = ℕ} 13 12 = sym (ap (λ (a : Result ⊤ Refusal). tell (of_answer a)) e) ∙ wanted m d both new in omega arith

  locked_fails : (why : Refusal) → Refuses m locked nine why → Demand1 m → ⊥
  unfolding computing
  locked_fails why e d = refused_none _ e (d.head_number (alone.asked (alone.load nine)) locked)

  half_fails : Half m → Demand1 m → ⊥
  unfolding computing
  half_fails e d =
      let same = (d.head_same (alone.asked (alone.load half)) new 13 (ap (λ (c : Called). of_answer c.answer) e)).0 in
      let z : ◌≡◌ {A = ℕ} 7 5 = ap (λ (h : Head). get_or h.stored.values 4 0) (sym (ap (λ (c : Called). c.head) e) ∙ same) in omega arith

  at_once_fails : Loads m five new (restarted_of (head.loaded_of new five)) → Sheets m → ⊥
  unfolding computing
  at_once_fails e d = let z : ◌≡◌ {A = ℕ} 5 31 = rw e at (d.loads new five (rw e)).number in omega arith

  opened_fails : Loads m nine new (with_stored new (with_lock (head.loaded_of new nine).stored true)) → Sheets m → ⊥
  unfolding computing
  opened_fails e d = let z : ◌≡◌ {A = ℕ} 1 0 = ap (λ (b : Bool). cond b 1 0) (rw e at (d.loads new nine (rw e)).unlocked) in omega arith

  ungathered_fails : Loads m nine gathering (with_ear (head.loaded_of gathering nine) (empty_ear 0)) → Sheets m → ⊥
  unfolding computing
  ungathered_fails e d = let z : ◌≡◌ {A = ℕ} 0 1 = ap (λ (x : Ear). x.count) (rw e at (d.loads gathering nine (rw e)).ear) in omega arith

  withdrawn_fails : Loads m nine offered (with_stored offered (with_offer (head.loaded_of offered nine).stored 0)) → Sheets m → ⊥
  unfolding computing
  withdrawn_fails e d = let z : ◌≡◌ {A = ℕ} 0 5 = rw e at (d.loads offered nine (rw e)).offer in omega arith

  idle_fails : Loads m nine new new → Sheets m → ⊥
  unfolding computing
  idle_fails e d = let z : ◌≡◌ {A = ℕ} 5 9 = rw e at ((d.loads new nine (rw e)).values.rows 0 20 (omega arith) (omega arith) refl (λ q. omega arith)) in omega arith

  short_fails : m.on_head.save new 273 ≡ (Ok tt) → Demand1 m → ⊥
  unfolding computing
  short_fails e d = let z : ◌≡◌ {A = ℕ} 0 14 = sym (ap (λ (a : Result ⊤ Refusal). tell (of_answer a)) e) ∙ ap tell (d.head_save new 273) in omega arith

  long_fails : (why : Refusal) → m.on_head.save new 274 ≡ Err why → Demand1 m → ⊥
  unfolding computing
  long_fails why e d = refused_none _ e (d.head_save new 274)

  overrun_fails : m.on_head.save new 275 ≡ (Ok tt) → overrun m → Sheets m → ⊥
  unfolding computing
  overrun_fails e o d =
      let z : ◌≡◌ {A = ℕ} 0 1 = ap (λ (x : List ℕ). get_or x 0 0) (rw o at (d.saves new (replicate 275 1) refl e).rest) in omega arith

  low_first_fails : m.on_head.save new 274 ≡ (Ok tt) → low_first m → Sheets m → ⊥
  unfolding computing
  low_first_fails e o d = let z : ◌≡◌ {A = ℕ} 31 0 = rw o at ((d.saves new (replicate 274 1) refl e).bodies 0 (omega arith)).0 in omega arith

  few_rows_fails : m.on_head.save new 274 ≡ (Ok tt) → few_rows m → Sheets m → ⊥
  unfolding computing
  few_rows_fails e o d = let z : ◌≡◌ {A = ℕ} 38 39 = rw o at (d.saves new (replicate 274 1) refl e).rows in omega arith

  first_saved_fails : m.on_head.save new 274 ≡ (Ok tt) → m.on_head.save (fresh_of 12 1) 274 ≡ (Ok tt) → first_saved m → Sheets m → ⊥
  unfolding computing
  first_saved_fails e f o d =
      let space = replicate {A = ℕ} 274 1 in
      let named = (d.line_saves pair 1 space (record { fits = refl; places = refl }) (omega arith)).1 in
      let twelve : get_or (m.on_head.sheet (fresh_of 12 1) space) 121 0 ≡ 12 = ((d.saves (fresh_of 12 1) space refl f).bodies 0 (omega arith)).3 in
      let own : get_or (m.on_head.sheet new space) 121 0 ≡ 31 = ((d.saves new space refl e).bodies 0 (omega arith)).3 in
      let z : ◌≡◌ {A = ℕ} 12 31 = sym twelve ∙ ap (λ (s : List ℕ). get_or s 121 0) (sym named ∙ o) ∙ own in omega arith

pub wrong_sheets : WrongSheets
wrong_sheets =
    record {
      later_fails = later_fails;
      twice_fails = twice_fails;
      longer_fails = longer_fails;
      nothing_fails = nothing_fails;
      no_row_fails = no_row_fails;
      value_first_fails = value_first_fails;
      locked_fails = locked_fails;
      half_fails = half_fails;
      at_once_fails = at_once_fails;
      opened_fails = opened_fails;
      ungathered_fails = ungathered_fails;
      withdrawn_fails = withdrawn_fails;
      idle_fails = idle_fails;
      short_fails = short_fails;
      long_fails = long_fails;
      overrun_fails = overrun_fails;
      low_first_fails = low_first_fails;
      few_rows_fails = few_rows_fails;
      first_saved_fails = first_saved_fails;
    }
