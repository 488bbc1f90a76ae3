-- Whether a number is on a list.
-- Assumes nothing.
use Rattle.std.specs.Prelude.{ℕ, Bool, false, ◌||◌, List, [], ◌∷◌, eqb}

abbrev pub among : List ℕ → ℕ → Bool
among [] a = false
among (x ∷ []) a = eqb a x
among (x ∷ (y ∷ xs)) a = eqb a x || among (y ∷ xs) a
