-- A number in decimal digits.
-- Assumes nothing.
use Rattle.std.specs.Prelude.{ℕ, zero, suc, ◌+◌, ◌/◌, ◌%◌, cond, List, [], ◌∷◌, nat_lt}
use Prim.Native.Char.{code}

-- the digits of a number, the last `most` of them, before what follows: of a number below 10 there is one, and of any other the last digit stands
-- after those of its tenth part
abbrev pub digits_before : ℕ → ℕ → List ℕ → List ℕ
digits_before zero n after = after
digits_before (suc most) n after =
    let here = (code "0" + n % 10) ∷ after in
    cond (nat_lt n 10) here (digits_before most (n / 10) here)

-- a number of 64 bits has twenty at the most
unfoldable pub decimal_of : ℕ → List ℕ
decimal_of n = digits_before 20 n []
