-- The start of a line that is read in pieces.
-- Assumes nothing.
use Rattle.std.specs.Prelude.{ℕ, ◌+◌, cond, List, [], ◌∷◌, length, drop, Some, None, Option}
use Rattle.text.specs.Lines.{front_of, ends_of}
use Rattle.text.specs.Reading.{kept_of}

-- bytes of a line one after another, each kept while there is room
abbrev pub all_kept : ℕ → List ℕ → List ℕ → List ℕ
all_kept room text [] = text
all_kept room text (b ∷ bs) = all_kept room (kept_of room text b) bs

-- what is kept after the bytes of a piece from a place on, up to the next newline
unfoldable pub kept_after : ℕ → List ℕ → List ℕ → ℕ → List ℕ
kept_after room text piece from = all_kept room text (front_of (drop from piece))

-- where the piece goes on after that newline, if there is one
unfoldable pub next_of : List ℕ → ℕ → Option ℕ
next_of piece from = let rest = drop from piece in cond (ends_of rest) (Some (from + length (front_of rest) + 1)) None
