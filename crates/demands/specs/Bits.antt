-- The status word, bit by bit (document 01, "Position and status"; alpha-numeric display: document 02, request (ix)), of every head.
-- Assumes nothing.
use Rattle.std.specs.Prelude.{ℕ, ◌<◌, ◌≡◌, Bool, false, cond, not, ◌&&◌, leb, eqb, ℤ}
use Rattle.std.specs.Int.Signed.{lt_z}
use Rattle.signed.specs.Number.{number_of, distance_of}
use Rattle.state.specs.declared.parts.Head.{Head}
use Rattle.state.specs.Bits.{bit_set}
use Rattle.state.specs.Position.{view_of}
use Rattle.state.specs.Status.{status_of}
use Rattle.demands.specs.Alone.{setting, displays}

-- A, and S, set point 2
abbrev pub actual : Head → ℤ
actual h = (view_of h.stored.values h.measurement).actual

abbrev pub aimed : Head → ℤ
aimed h = number_of h.targets.second

-- the distance of A and S is at most a setting
abbrev pub near : Head → ℕ → Bool
near h place = leb (distance_of (actual h) (aimed h)) (setting h place)

-- A below S with 1Bh 0, or A above S with 1Bh 1
abbrev pub onward : Head → Bool
onward h = cond (eqb (setting h 16) 1) (lt_z (aimed h) (actual h)) (lt_z (actual h) (aimed h))

pub record Bits (h : Head) : Type 0 where
  -- in alpha-numeric display 0, 1, 4 and 6 are 0
  pub bit0 : bit_set (status_of h) 0 ≡ (not (displays h) && (h.targets.valid2 && (not (near h 20) && onward h)))
  pub bit1 : bit_set (status_of h) 1 ≡ (not (displays h) && (h.targets.valid2 && (not (near h 20) && not (onward h))))
  pub bit2 : bit_set (status_of h) 2 ≡ h.targets.valid1
  -- there 3 and 5 are the acknowledgements of set points 1 and 2, and do not wait for bit 10
  pub bit3 : bit_set (status_of h) 3 ≡ cond (displays h) h.targets.acknowledged1 (h.targets.valid2 && near h 25)
  pub bit4 : bit_set (status_of h) 4 ≡ (not (displays h) && h.targets.reached)
  pub bit5 : bit_set (status_of h) 5 ≡ cond (displays h) h.targets.acknowledged2 (h.targets.valid2 && near h 20)
  pub bit6 : bit_set (status_of h) 6 ≡ (not (displays h) && (h.targets.valid2 && lt_z (aimed h) (actual h)))
  pub bit7 : bit_set (status_of h) 7 ≡ not (eqb h.faults.pending 0)
  pub bit8 : bit_set (status_of h) 8 ≡ h.measurement.frozen
  -- and 9, which is 0 in every other mode (request (xii)), is bit 7 of the last taken control word: the set points are characters, and not numbers
  pub bit9 : bit_set (status_of h) 9 ≡ (displays h && bit_set h.targets.word 7)
  pub bit10 : bit_set (status_of h) 10 ≡ h.targets.valid2
  -- all else 0
  pub bit11 : bit_set (status_of h) 11 ≡ false
  pub bit12 : bit_set (status_of h) 12 ≡ false
  pub sixteen : status_of h < 65536
  -- keys: left, star, up
  pub bit13 : bit_set (status_of h) 13 ≡ bit_set h.keys 0
  pub bit14 : bit_set (status_of h) 14 ≡ bit_set h.keys 1
  pub bit15 : bit_set (status_of h) 15 ≡ bit_set h.keys 2
