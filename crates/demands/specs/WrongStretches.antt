-- Stretches of bytes that are wrong in one answer, whatever else they give, and that they are not what is asked for beside the product's byte calls.
-- Assumes nothing.
use Rattle.std.specs.Prelude.{ℕ, ◌≡◌, [], ◌∷◌, replicate, Ok}
use Rattle.state.specs.declared.parts.Head.{Head}
use Rattle.effects.specs.Restart.{fresh_of}
use Rattle.line.specs.declared.calls.Line.{Line}
use Rattle.demands.specs.Run.{product}
use Rattle.demands.specs.Cases.{split, gathered}
use Rattle.demands.specs.WrongSerials.{in_row}
use Rattle.demands.specs.Stretches.{Until, UntilSpace, Stretches}

-- a head at 31 with nine bytes of the read of 20h gathered: 3F is the last; three such heads on a line, and one
abbrev pub asked : ℕ → Head
asked serial = gathered (fresh_of 31 serial) 0x001F20000000000000

abbrev pub three : Line
three = record { heads = asked 1 ∷ asked 2 ∷ asked 3 ∷ in_row 4 29; count = 3 }

abbrev pub one : Line
one = record { heads = asked 1 ∷ in_row 2 31; count = 1 }

abbrev pub Refuted : (Until → UntilSpace → Type 0) → Type 0
Refuted Wrong = (until : Until) (laid : UntilSpace) → Wrong until laid → Stretches product until laid → ⊥

pub record WrongStretches : Type 0 where
  -- of three replies to one byte two are told; one of them is laid
  pub capped_fails : Refuted (λ until laid. (until three (0x3F ∷ []) 0 0 10).heard ≡ Ok 2)
  pub laid_fails : Refuted (λ until laid. laid three (0x3F ∷ []) 0 (replicate 10 7) ≡ split 10 0x001F200000000000053A)
  -- a byte is heard after the one that drew a reply; none is heard after one that drew none
  pub past_fails : Refuted (λ until laid. (until one (0x3F ∷ 0x00 ∷ []) 0 0 10).next ≡ 2)
  pub early_fails : Refuted (λ until laid. (until one (0x3E ∷ 0x00 ∷ []) 0 11 10).next ≡ 1)
  -- the reply is told and not laid
  pub unlaid_fails : Refuted (λ until laid. laid one (0x3F ∷ []) 0 (replicate 10 7) ≡ replicate 10 7)
