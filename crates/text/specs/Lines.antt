-- Lines of a text.
-- Assumes nothing.
use Rattle.std.specs.Prelude.{ℕ, suc, ◌+◌, ◌-◌, min, Bool, false, ◌||◌, cond, List, [], ◌∷◌, eqb, length, get_or, take, drop, set}
use Prim.Native.Char.{code}
use Rattle.text.specs.declared.lines.Taken.{Taken}

-- the line without one carriage return at its end
unfoldable pub bare_of : List ℕ → List ℕ
bare_of line = cond (eqb (get_or line (length line - 1) 0) (code "\r")) (take (length line - 1) line) line

-- the bytes before the first newline, all where there is none
abbrev pub front_of : List ℕ → List ℕ
front_of [] = []
front_of (b ∷ bs) = cond (eqb b (code "\n")) [] (b ∷ front_of bs)

-- there is a newline among the bytes
abbrev pub ends_of : List ℕ → Bool
ends_of [] = false
ends_of (b ∷ bs) = eqb b (code "\n") || ends_of bs

-- what is taken of a piece from a place on: as many bytes more are kept as stand before the newline, or as there is room for;
-- the piece goes on after them, and after the newline where there is one
unfoldable pub taken_of : ℕ → ℕ → List ℕ → ℕ → Taken
taken_of room kept piece from =
    let rest = drop from piece in
    let n = length (front_of rest) in
    record { kept = kept + min n (room - kept); at = from + n + cond (ends_of rest) 1 0; ended = ends_of rest }

-- the bytes stored in the line one after another from a place on, each where there is room: past its end nothing is set
abbrev pub filled_of : List ℕ → ℕ → List ℕ → List ℕ
filled_of line kept [] = line
filled_of line kept (b ∷ bs) = filled_of (set line kept b) (suc kept) bs
