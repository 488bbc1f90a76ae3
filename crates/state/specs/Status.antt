-- The status word and the differential value (document 01, "Position and status"; alpha-numeric display: document 02, request (ix); bit 9 is
-- that mode's alone: request (xii)).
-- Assumes nothing.
use Rattle.std.specs.Prelude.{ℕ, ◌+◌, ◌*◌, ◌%◌, ◌^◌, Bool, cond, not, ◌&&◌, List, leb, eqb, ℤ}
use Rattle.std.specs.Int.Signed.{lt_z}
use Rattle.signed.specs.Number.{number_of, distance_of}
use Rattle.signed.specs.Difference.{differential_of}
use Rattle.state.specs.declared.parts.Head.{Head}
use Rattle.state.specs.declared.parts.Measurement.{Measurement}
use Rattle.state.specs.declared.parts.Targets.{Targets}
use Rattle.state.specs.declared.status.Bearing.{Bearing}
use Rattle.state.specs.Bits.{bit, bit_set}
use Rattle.state.specs.Settings.{value_at, direction_place, window1_place, window2_place, difference_place}
use Rattle.state.specs.Mode.{display_of}
use Rattle.state.specs.Position.{view_of}

-- bit 0 and not bit 1: A below S with 1Bh 0, or A above S with 1Bh 1
abbrev pub clockwise_of : Bool → Bool → Bool → Bool
clockwise_of below above turned = cond turned above below

-- how A lies to S: the distance at most 20h, at most 31h, A above S, the way to go
unfoldable pub aim_of : List ℕ → ℤ → ℤ → Bearing
aim_of vs a s =
    record {
      inside1 = leb (distance_of a s) (value_at vs window1_place);
      inside2 = leb (distance_of a s) (value_at vs window2_place);
      above = lt_z s a;
      clockwise = clockwise_of (lt_z a s) (lt_z s a) (eqb (value_at vs direction_place) 1);
    }

-- only with bit 10: 0 and 1 outside 20h, 3 within 31h, 5 within 20h, 6 A above S
unfoldable pub aim_bits_of : Bool → Bearing → ℕ
aim_bits_of valid g =
    bit 0 (valid && (not g.inside1 && g.clockwise))
    + bit 1 (valid && (not g.inside1 && not g.clockwise))
    + bit 3 (valid && g.inside2)
    + bit 5 (valid && g.inside1)
    + bit 6 (valid && g.above)

-- in alpha-numeric display 3 and 5 are the acknowledgements of set points 1 and 2, and do not wait for bit 10; 9 is bit 7 of the last taken control
-- word: characters, and not numbers; 0, 1, 4 and 6 are 0
unfoldable pub display_bits_of : Targets → ℕ
display_bits_of t = bit 3 t.acknowledged1 + bit 5 t.acknowledged2 + bit 9 (bit_set t.word 7)

-- in every mode: 2 set point 1 valid, 7 error pending, 8 frozen, 10 set point 2 valid, 13 to 15 keys
unfoldable pub rest_bits_of : Targets → Bool → Bool → ℕ → ℕ
rest_bits_of t pending frozen keys = bit 2 t.valid1 + bit 7 pending + bit 8 frozen + bit 10 t.valid2 + keys % 8 * 2 ^ 13

-- S: set point 2, valid or not, read as signed; how A lies to it
unfoldable pub aimed_of : List ℕ → Measurement → Targets → Bearing
aimed_of vs g t = aim_of vs (view_of vs g).actual (number_of t.second)

-- an error is pending
abbrev pub pending_of : Head → Bool
pending_of h = not (eqb h.faults.pending 0)

-- 4 static; 9 is 0
abbrev pub position_status : Head → ℕ
position_status h =
    aim_bits_of h.targets.valid2 (aimed_of h.stored.values h.measurement h.targets)
    + bit 4 h.targets.reached
    + rest_bits_of h.targets (pending_of h) h.measurement.frozen h.keys

abbrev pub display_status : Head → ℕ
display_status h = display_bits_of h.targets + rest_bits_of h.targets (pending_of h) h.measurement.frozen h.keys

unfoldable pub status_of : Head → ℕ
status_of h = cond (display_of h.stored.values) (display_status h) (position_status h)

-- what sets the static bit: set point 2 is valid and A within window 1, and never in alpha-numeric display
unfoldable pub within_of : List ℕ → Measurement → Targets → Bool
within_of vs g t = not (display_of vs) && (t.valid2 && (aimed_of vs g t).inside1)

-- A - S if 34h is 0, else S - A, for the set point s
unfoldable pub difference_of : List ℕ → Measurement → ℕ → ℤ
difference_of vs g s = differential_of (view_of vs g).actual (number_of s) (eqb (value_at vs difference_place) 1)
