-- The wrong stretches fail: what the byte calls give, computed, is another answer.
-- Assumes nothing.
use Rattle.std.specs.Prelude.{Ok, Err, Result}
use Prim.Native.Nat.{ℕ}
use mathlib.Core.Path.{◌≡◌, refl, sym, ◌∙◌, ap}
use mathlib.Core.List.{List, [], ◌∷◌}
use native.Mathlib.Omega.{arith}
use lib.ListN.{get_or, replicate}
use Rattle.line.specs.declared.calls.Stretch.{Stretch}
use Rattle.line.specs.Calls.{byte_of}
use Rattle.demands.specs.WrongStretches.{three, one, WrongStretches}
use Rattle.demands.proofs.Computing.{computing}
use Rattle.head.specs.declared.refusal.Refusal.{Refusal}

abbrev replies : Result ℕ Refusal → ℕ
replies (Ok n) = n
replies (Err why) = 0

-- the first of ten bytes of space that held 7
abbrev first_of : List ℕ → ℕ
first_of space = get_or space 0 0

pub wrong_stretches : WrongStretches
unfolding computing
wrong_stretches =
    record {
      capped_fails = λ until laid e d.
          let z : ◌≡◌ {A = ℕ} 2 3 = ap replies (sym e ∙ ap (λ (s : Stretch). s.heard) (d.last three 0x3F [] 0 0 (replicate 10 0) 2 refl).0) in
          absurd (omega (arith, z));
      laid_fails = λ until laid e d.
          let z : ◌≡◌ {A = ℕ} 0 7 = ap first_of (sym e ∙ (d.last three 0x3F [] 0 0 (replicate 10 7) 2 refl).1) in absurd (omega (arith, z));
      past_fails = λ until laid e d.
          let z : ◌≡◌ {A = ℕ} 2 1 = sym e ∙ ap (λ (s : Stretch). s.next) (d.last one 0x3F (0x00 ∷ []) 0 0 (replicate 10 0) 0 refl).0 in
          absurd (omega (arith, z));
      early_fails = λ until laid e d.
          let k = (byte_of one 0x3E 11 10).line in
          let s = (d.silent one 0x3E (0x00 ∷ []) 0 11 (replicate 10 0) refl).0
          ∙ (d.silent k 0x00 [] 1 11 (replicate 10 0) refl).0
          ∙ (d.none (byte_of k 0x00 11 10).line 2 11 (replicate 10 0) (record { fits = refl; places = refl }) (omega arith)).0 in
          let z : ◌≡◌ {A = ℕ} 1 2 = sym e ∙ ap (λ (s : Stretch). s.next) s in
          absurd (omega (arith, z));
      unlaid_fails = λ until laid e d.
          let z : ◌≡◌ {A = ℕ} 7 0 = ap first_of (sym e ∙ (d.last one 0x3F [] 0 0 (replicate 10 7) 0 refl).1) in absurd (omega (arith, z));
    }
