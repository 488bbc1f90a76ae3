-- A line's words: they are separated by blanks or tabs, and a carriage return before the newline does not belong to the line.
-- Assumes nothing.
use Rattle.std.specs.Prelude.{ℕ, suc, Bool, true, false, ◌||◌, cond, List, [], ◌∷◌, eqb}
use Rattle.std.specs.Cmp.Lexicographic.{pointwise}
use Prim.Native.Char.{code}

-- a word: the place in the line where it starts, and its characters
pub record Word : Type 0 where
  pub start : ℕ
  pub chars : List ℕ

-- a blank or a tab
abbrev pub is_gap : ℕ → Bool
is_gap c = eqb c (code " ") || eqb c (code "\t")

-- the characters up to the next gap
abbrev pub front : List ℕ → List ℕ
front [] = []
front (c ∷ cs) = cond (is_gap c) [] (c ∷ front cs)

-- The words of what is left of a line from the place `at` on; `inside` says that the character before belongs to a word.
-- A word starts at each character that is no gap and has no other before it, and goes up to the next gap.
abbrev pub words_from : Bool → ℕ → List ℕ → List Word
words_from inside at [] = []
words_from inside at (c ∷ cs) =
    cond (is_gap c)
    (words_from false (suc at) cs)
    (cond inside
    (words_from true (suc at) cs)
    (record { start = at; chars = front (c ∷ cs) } ∷ words_from true (suc at) cs))

unfoldable pub words_of : List ℕ → List Word
words_of line = words_from false 0 line

-- a word is a name where it has the same characters, in the same case
unfoldable pub same_of : List ℕ → List ℕ → Bool
same_of = pointwise eqb
