-- The places, in the table of 39, of the parameters that a head itself goes by. That each is its address's place is a law.
-- Assumes nothing.
use Rattle.std.specs.Prelude.{ℕ, List, get_or}

-- the value at a place
abbrev pub value_at : List ℕ → ℕ → ℕ
value_at vs i = get_or vs i 0

-- 00h, 01h, 02h and 03h
abbrev pub node_place : ℕ
node_place = 0

abbrev pub baud_place : ℕ
baud_place = 1

abbrev pub timeout_place : ℕ
timeout_place = 2

abbrev pub response_place : ℕ
response_place = 3

-- 05h: the left key calibrates
abbrev pub calibration_key_place : ℕ
calibration_key_place = 5

-- 0Bh: display divisor
abbrev pub divisor_place : ℕ
divisor_place = 11

-- 0Eh: programming mode is configured
abbrev pub interlock_place : ℕ
interlock_place = 14

-- 1Bh: counting direction
abbrev pub direction_place : ℕ
direction_place = 16

-- 1Eh and 1Fh
abbrev pub offset_place : ℕ
offset_place = 18

abbrev pub calibration_place : ℕ
calibration_place = 19

-- 28h: operating mode
abbrev pub mode_place : ℕ
mode_place = 23

-- 20h and 31h: target windows 1 and 2
abbrev pub window1_place : ℕ
window1_place = 20

abbrev pub window2_place : ℕ
window2_place = 25

-- 33h: application of the divisor; 34h: formation of the differential value
abbrev pub application_place : ℕ
application_place = 27

abbrev pub difference_place : ℕ
difference_place = 28

-- 35h: incremental measurement, which is retired; 0 but in older heads
abbrev pub incremental_place : ℕ
incremental_place = 29

-- 3Eh: the keys that acknowledge a set point
abbrev pub acknowledgement_place : ℕ
acknowledgement_place = 35
