-- What a head goes by and shows (document 01, "Position and status"; incremental measurement is retired: document 02, request (xii)), of every head: its position, A, FEh
-- unfrozen, and the differential value, in the document's own terms. The other statements name these by the definitions of the crate state.
-- Assumes nothing.
use Rattle.std.specs.Prelude.{ℕ, ◌≡◌, cond, ltb, eqb, ℤ, ◌+ℤ◌, ◌-ℤ◌}
use Rattle.signed.specs.Number.{number_of}
use Rattle.signed.specs.Rounding.{rounded_of}
use Rattle.signed.specs.Difference.{held_of}
use Rattle.state.specs.declared.parts.Head.{Head}
use Rattle.state.specs.declared.position.Readout.{Readout}
use Rattle.state.specs.Position.{view_of}
use Rattle.state.specs.Status.{difference_of}
use Rattle.demands.specs.Alone.{setting}

-- position = m - zero + adopted calibration value + 1Eh, which stands at place 18
abbrev pub position : Head → ℤ
position h = let g = h.measurement in g.m -ℤ g.zero +ℤ number_of g.adopted +ℤ number_of (setting h 18)

abbrev pub view : Head → Readout
view h = view_of h.stored.values h.measurement

pub record Views (h : Head) : Type 0 where
  -- A is the position divided by 10 to the power 0Bh, at place 11, rounded, if 33h, at place 27, is 0 or 1; the position itself if 2
  pub actual : (view h).actual ≡ cond (ltb (setting h 27) 2) (rounded_of (position h) (setting h 11)) (position h)
  -- FEh shows A if 33h is 0, else the position
  pub shown : (view h).shown ≡ cond (eqb (setting h 27) 0) (view h).actual (position h)
  -- the differential value: A - S, or S - A where 34h, at place 28, is 1, held; S being the number of these four bytes
  pub differential : (s : ℕ) → difference_of h.stored.values h.measurement s
      ≡ held_of (cond (eqb (setting h 28) 1) (number_of s -ℤ (view h).actual) ((view h).actual -ℤ number_of s))
