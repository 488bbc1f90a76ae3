-- The differential value (document 01, "Position and status"): A - S or S - A, held to -5242880..5242880.
-- Assumes nothing.
use Rattle.std.specs.Prelude.{Bool, cond, ℤ, pos, ◌-ℤ◌}
use Rattle.std.specs.Int.Signed.{lt_z}
use Rattle.signed.specs.Number.{minus}

unfoldable pub held_of : ℤ → ℤ
held_of v = cond (lt_z v (minus 5242880)) (minus 5242880) (cond (lt_z (pos 5242880) v) (pos 5242880) v)

-- a - s, or s - a where 34h asks for it
unfoldable pub differential_of : ℤ → ℤ → Bool → ℤ
differential_of a s reversed = held_of (cond reversed (s -ℤ a) (a -ℤ s))
