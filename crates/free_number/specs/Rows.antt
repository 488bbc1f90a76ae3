-- The account that reads the rows: those added since the map was empty and not removed. It looks at the calls alone, and at no map.
-- Assumes nothing.
use Rattle.std.specs.Prelude.{ℕ, Bool, true, false, cond, ◌&&◌, List, [], ◌∷◌, leb, eqb}
use Rattle.rows.specs.Among.{among}

-- a row comes with its number, or the row that has the number goes
pub data Call : Type 0 where
  adds removes : ℕ → Call

-- calls in the order of time: the last stands last
infixl 60 ◌▸◌
pub data Calls : Type 0 where
  start : Calls
  ◌▸◌ : Calls → Call → Calls

-- ---- rows, by their numbers
abbrev pub is_node : ℕ → Bool
is_node n = leb 1 n && leb n 127

unfoldable pub without : ℕ → List ℕ → List ℕ
without n [] = []
without n (r ∷ rows) = cond (eqb n r) (without n rows) (r ∷ without n rows)

-- ---- a call where these are the rows
-- the number of its refusal, 0 where there is none: 7 for a number that is not 1..127, then 9 for adding one that a row has or removing one that none has
unfoldable pub refusal : List ℕ → Call → ℕ
refusal rows (adds n) = cond (is_node n) (cond (among rows n) 9 0) 7
refusal rows (removes n) = cond (is_node n) (cond (among rows n) 0 9) 7

unfoldable pub done : List ℕ → Call → List ℕ
done rows (adds n) = n ∷ rows
done rows (removes n) = without n rows

-- a refused call adds no row and removes none
unfoldable pub rows_after : Calls → List ℕ
rows_after start = []
rows_after (cs ▸ c) = let rows = rows_after cs in cond (eqb (refusal rows c) 0) (done rows c) rows

-- ---- the same by looking back, with no row at all: the last call that names the number, refused or not, is one that adds it
abbrev pub named : Call → ℕ
named (adds n) = n
named (removes n) = n

abbrev pub is_add : Call → Bool
is_add (adds n) = true
is_add (removes n) = false

unfoldable pub last_adds : Calls → ℕ → Bool
last_adds start n = false
last_adds (cs ▸ c) n = cond (eqb n (named c)) (is_add c) (last_adds cs n)

-- ---- the calls that add a list of numbers, one after another
abbrev pub adding : Calls → List ℕ → Calls
adding cs [] = cs
adding cs (n ∷ ns) = adding (cs ▸ adds n) ns
