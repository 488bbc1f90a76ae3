-- The states that a head can be in (document 01, "The line, and calls refused": what refusal 20 looks at in a head).
-- Assumes nothing.
use Rattle.std.specs.Prelude.{ℕ, Bool, not, ◌&&◌, ◌||◌, leb, eqb, ℤ, pos, nat_abs}
use Rattle.std.specs.Int.Signed.{le_z}
use Rattle.signed.specs.Number.{minus}
use Rattle.rows.specs.Table.{row_of}
use Rattle.rows.specs.Ranges.{fits_in, all_right_of}
use Rattle.state.specs.declared.parts.Head.{Head}
use Rattle.state.specs.declared.parts.Stored.{Stored}
use Rattle.state.specs.declared.parts.Faults.{Faults}
use Rattle.state.specs.declared.parts.Measurement.{Measurement}
use Rattle.state.specs.declared.parts.Ear.{Ear}
use Rattle.state.specs.Settings.{node_place, calibration_place}

-- a measurement lies in -2,500,000..2,500,000
unfoldable pub in_reach_of : ℤ → Bool
in_reach_of m = le_z (minus 2500000) m && le_z m (pos 2500000)

-- a number that is offered (document 02, request (ii); 0: none is) is 1 to 31, and the number in force is 31
unfoldable pub offer_fits : ℕ → ℕ → Bool
offer_fits number offer = eqb offer 0 || (leb offer 31 && eqb number 31)

-- each stored value and the number in force in its row, and the offer so
unfoldable pub stored_fits : Stored → Bool
stored_fits s = all_right_of s.values && (fits_in (row_of node_place) s.number && offer_fits s.number s.offer)

-- at most ten entries in a list, at most two damaged in a row
unfoldable pub faults_fit : Faults → Bool
faults_fit f = leb f.memory.count 10 && (leb f.inputs.count 10 && leb f.damaged 2)

-- a kept FEh value at most 5242880 either way
unfoldable pub kept_fits : ℤ → Bool
kept_fits v = leb (nat_abs v) 5242880

-- m, zero and the incremental start in the measurement range, the adopted value in 1Fh's row, incremental off (document 02, request (xii))
unfoldable pub measurement_fits : Measurement → Bool
measurement_fits g =
    not g.incremental
    && (in_reach_of g.m
    && (in_reach_of g.zero
    && (in_reach_of g.start
    && (fits_in (row_of calibration_place) g.adopted
    && kept_fits g.kept))))

-- at most nine bytes gathered
unfoldable pub ear_fits : Ear → Bool
ear_fits e = leb e.count 9

-- and keys at most 7
unfoldable pub wellformed_of : Head → Bool
wellformed_of h =
    stored_fits h.stored && (faults_fit h.faults && (measurement_fits h.measurement && (ear_fits h.ear && leb h.keys 7)))
