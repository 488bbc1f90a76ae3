-- The numbers from 1 to 127, by any test of which of them are used: the lowest that is not, and how many are (document 02, request (v)).
-- Assumes nothing.
use Rattle.std.specs.Prelude.{ℕ, zero, suc, Bool, cond, List, [], ◌∷◌, Some, None, Option}

-- k numbers from a on
unfoldable pub span : ℕ → ℕ → List ℕ
span a zero = []
span a (suc k) = a ∷ span (suc a) k

-- the first of the numbers that is not used, and how many of them are
unfoldable pub first_free : (ℕ → Bool) → List ℕ → Option ℕ
first_free isUsed [] = None
first_free isUsed (n ∷ ns) = cond (isUsed n) (first_free isUsed ns) (Some n)

unfoldable pub how_many : (ℕ → Bool) → List ℕ → ℕ
how_many isUsed [] = 0
how_many isUsed (n ∷ ns) = cond (isUsed n) (suc (how_many isUsed ns)) (how_many isUsed ns)

-- of all numbers that a head can have
unfoldable pub lowest_of : (ℕ → Bool) → Option ℕ
lowest_of isUsed = first_free isUsed (span 1 127)

unfoldable pub count_of : (ℕ → Bool) → ℕ
count_of isUsed = how_many isUsed (span 1 127)
