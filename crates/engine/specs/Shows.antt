-- What a head shows (document 01, "Position and status"; document 02: alpha-numeric display is request (ix), and by request (xii) no head measures incrementally): its
-- position, A, FEh, the differential value, and the status word bit by bit.
-- Assumes nothing.
use Rattle.std.specs.Prelude.{ℕ, ◌+◌, Bool, cond, not, ◌&&◌, ◌||◌, eqb, leb, ℤ, nat_abs, ◌+ℤ◌, ◌-ℤ◌, get_or}
use Rattle.std.specs.Int.Signed.{lt_z}
use Rattle.signed.specs.Number.{number_of}
use Rattle.signed.specs.Rounding.{rounded_of}
use Rattle.signed.specs.Difference.{held_of}
use Rattle.state.specs.declared.parts.Head.{Head}
use Rattle.state.specs.Bits.{bit, bit_set}
use Rattle.engine.specs.Addresses.{place}

-- the value of one of the 39, by its address
abbrev pub value : ℕ → Head → ℕ
value a h = get_or h.stored.values (place a) 0

-- alpha-numeric display, mode 3
abbrev pub displays : Head → Bool
displays h = eqb (value 0x28 h) 3

-- ---- position = m - zero + adopted calibration value + 1Eh
unfoldable pub position : Head → ℤ
position h = let g = h.measurement in g.m -ℤ g.zero +ℤ number_of g.adopted +ℤ number_of (value 0x1E h)

-- A: the position divided by 10 to the power 0Bh and rounded, if 33h is 0 or 1; the position itself if 2
unfoldable pub actual : Head → ℤ
actual h = cond (eqb (value 0x33 h) 0 || eqb (value 0x33 h) 1) (rounded_of (position h) (value 0x0B h)) (position h)

-- FEh unfrozen: A if 33h is 0, else the position
unfoldable pub current : Head → ℤ
current h = cond (eqb (value 0x33 h) 0) (actual h) (position h)

-- the differential value for the set point S of these four bytes: A - S, or S - A where 34h is 1, held to -5242880..5242880
unfoldable pub differential : Head → ℕ → ℤ
differential h s = held_of (cond (eqb (value 0x34 h) 1) (number_of s -ℤ actual h) (actual h -ℤ number_of s))

-- ---- the status word: S is set point 2, valid or not
abbrev pub target : Head → ℤ
target h = number_of h.targets.second

-- the distance of A and S is at most 20h, or 31h
abbrev pub near : ℕ → Head → Bool
near a h = leb (nat_abs (actual h -ℤ target h)) (value a h)

-- A below S with 1Bh 0, or A above S with 1Bh 1
abbrev pub onward : Head → Bool
onward h = cond (eqb (value 0x1B h) 1) (lt_z (target h) (actual h)) (lt_z (actual h) (target h))

-- the bits that tell how A lies to S: only with bit 10, and not in mode 3
abbrev pub steers : Head → Bool
steers h = not (displays h) && h.targets.valid2

unfoldable pub status : Head → ℕ
status h =
    bit 0 (steers h && (not (near 0x20 h) && onward h))
    + bit 1 (steers h && (not (near 0x20 h) && not (onward h)))
    + bit 2 h.targets.valid1
    + bit 3 (cond (displays h) h.targets.acknowledged1 (steers h && near 0x31 h))
    + bit 4 (not (displays h) && h.targets.reached)
    + bit 5 (cond (displays h) h.targets.acknowledged2 (steers h && near 0x20 h))
    + bit 6 (steers h && lt_z (target h) (actual h))
    + bit 7 (not (eqb h.faults.pending 0))
    + bit 8 h.measurement.frozen
    + bit 9 (displays h && bit_set h.targets.word 7)
    + bit 10 h.targets.valid2
    + bit 13 (bit_set h.keys 0)
    + bit 14 (bit_set h.keys 1)
    + bit 15 (bit_set h.keys 2)
