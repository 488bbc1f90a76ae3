-- What happens to the measurement: calibration, freezing, restart (document 01, "What each one does",
-- "Position and status").
-- Assumes nothing.
use Rattle.std.specs.Prelude.{ℕ, true, false, List, ℤ, pos}
use Rattle.judge.specs.declared.deed.Deed.{Deed}
use Rattle.judge.specs.declared.deed.Deed.TheVariants.{Nothing, Store, Reset, Restart, Calibrate, Forget, Unlock, Freeze, Aim1, Aim2, ClearStatic, Release, Offer, Withdraw}
use Rattle.state.specs.declared.parts.Measurement.{Measurement}
use Rattle.state.specs.Settings.{value_at, calibration_place}
use Rattle.state.specs.Position.{view_of}

-- calibration makes m the zero and adopts 1Fh
unfoldable pub calibrated_of : List ℕ → Measurement → Measurement
calibrated_of vs g =
    record {
      m = g.m;
      zero = g.m;
      adopted = value_at vs calibration_place;
      incremental = g.incremental;
      start = g.start;
      frozen = g.frozen;
      kept = g.kept;
    }

-- AAh keeps the value FEh would now show unfrozen; a second one keeps anew
unfoldable pub frozen_of : List ℕ → Measurement → Measurement
frozen_of vs g =
    record {
      m = g.m;
      zero = g.zero;
      adopted = g.adopted;
      incremental = g.incremental;
      start = g.start;
      frozen = true;
      kept = (view_of vs g).shown;
    }

-- a read of FEh releases the kept value
unfoldable pub released_of : Measurement → Measurement
released_of g =
    record { m = g.m; zero = g.zero; adopted = g.adopted; incremental = g.incremental; start = g.start; frozen = false; kept = pos 0 }

-- a restart keeps calibration and the last measurement, and clears freezing and incremental
unfoldable pub restarted_measurement : Measurement → Measurement
restarted_measurement g =
    record { m = g.m; zero = g.zero; adopted = g.adopted; incremental = false; start = pos 0; frozen = false; kept = pos 0 }

-- a new measurement
unfoldable pub moved_of : ℤ → Measurement → Measurement
moved_of m g =
    record { m = m; zero = g.zero; adopted = g.adopted; incremental = g.incremental; start = g.start; frozen = g.frozen; kept = g.kept }

-- what a deed does to it
unfoldable pub measurement_by : Deed → List ℕ → Measurement → Measurement
measurement_by Nothing vs g = g
measurement_by (Store i word) vs g = g
measurement_by (Reset command) vs g = g
measurement_by Restart vs g = g
measurement_by Calibrate vs g = calibrated_of vs g
measurement_by Forget vs g = g
measurement_by (Unlock b) vs g = g
measurement_by Freeze vs g = frozen_of vs g
measurement_by (Aim1 v word) vs g = g
measurement_by (Aim2 v word) vs g = g
measurement_by ClearStatic vs g = g
measurement_by Release vs g = released_of g
measurement_by (Offer n) vs g = g
measurement_by Withdraw vs g = g
