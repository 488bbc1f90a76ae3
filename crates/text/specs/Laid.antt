-- A text that is put together in lent room, piece by piece.
-- Assumes nothing.
use Rattle.std.specs.Prelude.{ℕ, ◌+◌, Bool, cond, List, ◌++◌, leb, length, take, drop}

-- there is room for all of a piece from a place on
abbrev pub has_room : List ℕ → ℕ → List ℕ → Bool
has_room out from piece = leb (from + length piece) (length out)

-- a piece laid at a place, and how much is kept then: what stands before and after it is as it was; without room for all of it nothing changes
unfoldable pub laid_of : List ℕ → ℕ → List ℕ → List ℕ
laid_of out from piece = cond (has_room out from piece) ((take from out ++ piece) ++ drop (from + length piece) out) out

unfoldable pub kept_of : List ℕ → ℕ → List ℕ → ℕ
kept_of out from piece = cond (has_room out from piece) (from + length piece) from
