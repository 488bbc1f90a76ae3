-- Numbers that are all below a limit: one test over a closed list.
-- Assumes nothing.
use Prim.Native.Nat.{ℕ, zero, suc, ◌<◌}
use mathlib.Core.Path.{◌≡◌}
use mathlib.Core.Bool.{Bool, true, ◌&&◌, and-eq-true_iff}
use mathlib.Core.List.{List, [], ◌∷◌}
use borrow.Author.Tests.{ltb-true}
use lib.Dec.{ltb}
use lib.ListN.{get_or}

abbrev pub below : ℕ → List ℕ → Bool
below limit [] = true
below limit (x ∷ xs) = ltb x limit && below limit xs

pub bounded : (limit : ℕ) → 0 < limit → (xs : List ℕ) → below limit xs ≡ true → (i : ℕ) → get_or xs i 0 < limit
bounded limit some [] e i = some
bounded limit some (x ∷ xs) e zero = ltb-true x limit ((and-eq-true_iff (ltb x limit) _).0 e).0
bounded limit some (x ∷ xs) e (suc i) = bounded limit some xs ((and-eq-true_iff (ltb x limit) _).0 e).1 i
