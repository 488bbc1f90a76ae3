-- Division by the display divisor (document 01, "Position and status"): 10 to the power 0Bh, to nearest, halves away from zero.
-- Assumes nothing.
use Rattle.std.specs.Prelude.{ℕ, ◌+◌, ◌/◌, cond, eqb, ℤ, pos, nat_abs}
use Rattle.std.specs.Int.Signed.{lt_z}
use Rattle.signed.specs.Number.{with_sign}

-- 10 to the power k for the four values of 0Bh, 0 to 3; any other k is taken as 3
unfoldable pub divisor_of : ℕ → ℕ
divisor_of k = cond (eqb k 0) 1 (cond (eqb k 1) 10 (cond (eqb k 2) 100 1000))

-- n by d to the nearest, halves up
abbrev pub nearest_of : ℕ → ℕ → ℕ
nearest_of n d = (n + d / 2) / d

-- the size to the nearest, halves up, with the number's sign: so halves go away from zero
unfoldable pub rounded_of : ℤ → ℕ → ℤ
rounded_of p k = with_sign (lt_z p (pos 0)) (nearest_of (nat_abs p) (divisor_of k))
