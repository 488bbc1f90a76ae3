-- The versions that are wrong in a serial number fail: each answer, or head, is another than the one that is asked for, by a head and a line that are
-- computed.
-- Assumes nothing.
use Rattle.std.specs.Prelude.{Ok, Err, Result}
use Prim.Native.Nat.{ℕ}
use mathlib.Core.Path.{◌≡◌, refl, sym, ◌∙◌, ap}
use mathlib.Core.Option.{Option, none, some}
use native.Mathlib.Omega.{arith}
use lib.ListN.{replicate}
use Rattle.effects.specs.Restart.{fresh_of}
use Rattle.sheet.specs.Writing.{sheet_of}
use Rattle.head.specs.Outcome as alone
use Rattle.line.specs.declared.calls.Line.{Line}
use Rattle.demands.specs.Calls.{Call, new_head, tick}
use Rattle.demands.specs.Run.{System}
use Rattle.demands.specs.Demand1.{Demand1, refused_as, first, rows_for}
use Rattle.demands.specs.Demand2.{Demand2}
use Rattle.demands.specs.Cases.{gathered}
use Rattle.demands.specs.Serials.{serial_of}
use Rattle.demands.specs.WrongSerials.{seven, offered, full, lone, around, WrongSerials}
use Rattle.demands.proofs.Computing.{computing}
use Rattle.head.specs.declared.refusal.Refusal.{Refusal}

-- the numbers that the table gives
abbrev number_in : Option ℕ → ℕ
number_in none = 0
number_in (some n) = n

-- the table's rows, computed
tabled : (first (rows_for (new_head 0 7) lone) ≡ some 1)
    × (first (rows_for (new_head 12 7) lone) ≡ some 17)
    × (first (rows_for (new_head 31 8) lone) ≡ none)
    × (first (rows_for (tick 0) lone) ≡ none)
    × (first (rows_for (tick 0) around) ≡ some 20)
    × (first (rows_for (new_head 12 1) lone) ≡ none)
unfolding computing
tabled = (refl, refl, refl, refl, refl, refl)

tabled_full : (first (rows_for (new_head 31 7) full) ≡ some 2) × (first (rows_for (new_head 31 33) full) ≡ some 2)
unfolding computing
tabled_full = (refl, refl)

-- an answer that is not the table's
module _ (m : System) (d : Demand1 m) (c : Call) (l : Line) (x y : Option ℕ) where
  untabled : refused_as m.on_line_of c l ≡ x → first (rows_for c l) ≡ y → number_in x ≡ number_in y
  untabled e t = ap number_in (sym e ∙ d.line_number c l ∙ t)

told_as : Result ℕ Refusal → ℕ
told_as (Ok n) = n
told_as (Err why) = 0

-- the last head of a full line
told_last : (m : System) → Demand2 m → m.on_line_of.serial full 31 ≡ Ok 32
unfolding computing
told_last m d = d.line_tells full 31 (record { fits = refl; places = refl }) (omega arith) ∙ d.tells (fresh_of 31 32) refl

pub wrong_serials : WrongSerials
unfolding computing told_as
wrong_serials =
    record {
      seventeen_first_fails = λ m e d. let z = untabled m d (new_head 0 7) lone (some 17) (some 1) e tabled.0 in absurd (omega (arith, z));
      seventeen_full_fails = λ m e d. let z = untabled m d (new_head 31 7) full (some 17) (some 2) e tabled_full.0 in absurd (omega (arith, z));
      thirty_third_fails = λ m e d. let z = untabled m d (new_head 31 33) full none (some 2) e tabled_full.1 in absurd (omega (arith, z));
      repeat_fails = λ m e d. let z = untabled m d (new_head 12 7) lone none (some 17) e tabled.1 in absurd (omega (arith, z));
      node_shared_fails = λ m e d. let z = untabled m d (new_head 31 8) lone (some 17) none e tabled.2 in absurd (omega (arith, z));
      past_taken_fails = λ m e d. let z = untabled m d (new_head 12 1) lone (some 17) none e tabled.5 in absurd (omega (arith, z));
      past_count_fails = λ m e d. let z = untabled m d (tick 0) lone (some 20) none e tabled.3 in absurd (omega (arith, z));
      neighbours_fails = λ m e d. let z = untabled m d (tick 0) around none (some 20) e tabled.4 in absurd (omega (arith, z));
      reset_clears_fails = λ m e d. let z : ◌≡◌ {A = ℕ} 0 7 = sym e ∙ d.kept (alone.byte 0xBF 0 (replicate 10 0)) (gathered seven 0x011FA0000000000001) in absurd (omega (arith, z));
      restart_clears_fails = λ m e d. let z : ◌≡◌ {A = ℕ} 0 7 = sym e ∙ d.kept (alone.byte 0xB7 0 (replicate 10 0)) (gathered seven 0x011FA0000000000009) in absurd (omega (arith, z));
      power_clears_fails = λ m e d. let z : ◌≡◌ {A = ℕ} 0 7 = sym e ∙ d.kept (alone.asked alone.power) seven in absurd (omega (arith, z));
      sheet_brings_fails = λ m e d. let z : ◌≡◌ {A = ℕ} 8 7 = sym e ∙ d.kept (alone.asked (alone.load (sheet_of (fresh_of 31 8).stored.values))) seven in absurd (omega (arith, z));
      adoption_clears_fails = λ m e d. let z : ◌≡◌ {A = ℕ} 0 7 = sym e ∙ d.kept (alone.keys 4 (replicate 10 0)) offered in absurd (omega (arith, z));
      factory_bare_fails = λ m e d. let z : ◌≡◌ {A = ℕ} 0 7 = ap serial_of (sym e) ∙ d.made 0 7 in absurd (omega (arith, z));
      number_told_fails = λ m e d. let z : ◌≡◌ {A = ℕ} 31 7 = ap told_as (sym e ∙ d.tells seven refl) in absurd (omega (arith, z));
      first_told_fails = λ m e d. let z : ◌≡◌ {A = ℕ} 1 32 = ap told_as (sym e ∙ told_last m d) in absurd (omega (arith, z));
    }
