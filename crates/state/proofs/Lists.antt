-- An element of a list that is stored.
-- Assumes nothing.
use Prim.Native.Nat.{ℕ, zero, suc, ◌<◌}
use mathlib.Core.Path.{◌≡◌, refl}
use mathlib.Core.List.{List, [], ◌∷◌, ◌++◌}
use native.Mathlib.Omega.{arith}
use lib.ListN.{length, take, drop, set}

-- an element stored at i moves from what is left to what is done
pub moved : (i x : ℕ) (vs : List ℕ) (left : List ℕ → List ℕ) → i < length vs
    → take (suc i) (set vs i x) ++ left (drop (suc i) (set vs i x)) ≡ take i vs ++ (x ∷ left (drop (suc i) vs))
moved i x [] left h = absurd (omega arith)
moved zero x (v ∷ vs) left h = refl
moved (suc i) x (v ∷ vs) left h = rw (moved i x vs left (omega arith))
