-- The position, the actual value A and what FEh shows (document 01, "Position and status").
-- Assumes nothing.
use Rattle.std.specs.Prelude.{ℕ, cond, List, ltb, eqb, ℤ}
use Rattle.signed.specs.Rounding.{rounded_of}
use Rattle.signed.specs.Position.{absolute_of}
use Rattle.state.specs.declared.parts.Measurement.{Measurement}
use Rattle.state.specs.declared.position.Readout.{Readout}
use Rattle.state.specs.Settings.{value_at, offset_place, divisor_place, application_place}

-- m - zero + adopted calibration value + 1Eh
unfoldable pub position_of : Measurement → ℕ → ℤ
position_of g offset = absolute_of g.m g.zero g.adopted offset

-- A: the position by 10 to the power 0Bh if 33h is 0 or 1, the position itself if 2
unfoldable pub actual_of : ℤ → ℕ → ℕ → ℤ
actual_of p divisor application = cond (ltb application 2) (rounded_of p divisor) p

-- FEh shows A if 33h is 0, else the position
unfoldable pub shown_of : ℤ → ℤ → ℕ → ℤ
shown_of p a application = cond (eqb application 0) a p

-- the position and A, by the stored values
abbrev pub position_by : List ℕ → Measurement → ℤ
position_by vs g = position_of g (value_at vs offset_place)

abbrev pub actual_by : List ℕ → Measurement → ℤ
actual_by vs g = actual_of (position_by vs g) (value_at vs divisor_place) (value_at vs application_place)

unfoldable pub view_of : List ℕ → Measurement → Readout
view_of vs g =
    record { actual = actual_by vs g; shown = shown_of (position_by vs g) (actual_by vs g) (value_at vs application_place) }
