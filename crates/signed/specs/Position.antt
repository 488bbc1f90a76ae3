-- The position (document 01, "Position and status").
-- Assumes nothing.
use Rattle.std.specs.Prelude.{ℕ, ℤ, ◌+ℤ◌, ◌-ℤ◌}
use Rattle.signed.specs.Number.{number_of}

-- m - zero + adopted calibration value + 1Eh; the last two are words
unfoldable pub absolute_of : ℤ → ℤ → ℕ → ℕ → ℤ
absolute_of m zero adopted offset = m -ℤ zero +ℤ number_of adopted +ℤ number_of offset
