-- The four divisors, and that a division by one of them to the nearest makes no size larger.
-- Assumes nothing.
use Prim.Native.Nat.{ℕ, ◌≤◌, ◌<◌}
use mathlib.Core.Bool.{Bool, true, false, cond}
use native.Mathlib.Omega.{arith}
use lib.Dec.{eqb}
use Rattle.signed.specs.Rounding.{divisor_of, nearest_of}

-- what holds of each of the four divisors holds of any k's
pub each_divisor : (P : ℕ → Type 0) → P 1 → P 10 → P 100 → P 1000 → (k : ℕ) → P (divisor_of k)
unfolding divisor_of
each_divisor P one ten hundred thousand k = go (eqb k 0) (eqb k 1) (eqb k 2)
  where
    go : (a b c : Bool) → P (cond a 1 (cond b 10 (cond c 100 1000)))
    go true b c = one
    go false true c = ten
    go false false true = hundred
    go false false false = thousand

pub divisor_some : (k : ℕ) → 0 < divisor_of k
divisor_some = each_divisor (λ d. 0 < d) (omega arith) (omega arith) (omega arith) (omega arith)

pub nearest_small : (n k : ℕ) → nearest_of n (divisor_of k) ≤ n
nearest_small n = each_divisor (λ d. nearest_of n d ≤ n) (omega arith) (omega arith) (omega arith) (omega arith)
