-- What the functions over a line and a place in it find, in the terms of the line's words. The meaning of a line does not rest on these.
-- Assumes nothing.
use Rattle.std.specs.Prelude.{ℕ, suc, ◌+◌, false, cond, List, [], ◌∷◌, length, drop}
use Rattle.script.specs.Words.{Word, is_gap, front, words_from}

-- the words from a place on, at which none is under way
unfoldable pub words_at : List ℕ → ℕ → List Word
words_at line from = words_from false from (drop from line)

-- how many gaps come first
abbrev pub gaps : List ℕ → ℕ
gaps [] = 0
gaps (c ∷ cs) = cond (is_gap c) (suc (gaps cs)) 0

-- past the gaps at a place, past the word at a place, past the first word from a place on
unfoldable pub start_of : List ℕ → ℕ → ℕ
start_of line from = from + gaps (drop from line)

unfoldable pub end_of : List ℕ → ℕ → ℕ
end_of line from = from + length (front (drop from line))

unfoldable pub after_of : List ℕ → ℕ → ℕ
after_of line from = end_of line (start_of line from)

-- the characters of the first word, or none
abbrev pub first_of : List Word → List ℕ
first_of [] = []
first_of (w ∷ ws) = w.chars

-- the characters of the only word, or none
abbrev pub sole_of : List Word → List ℕ
sole_of [] = []
sole_of (w ∷ []) = w.chars
sole_of (w ∷ v ∷ ws) = []
