-- Bytes that a line hears one after another until one of them draws a reply (document 01, "The line, and calls refused": a byte and its refusals).
-- Assumes nothing.
use Rattle.std.specs.Prelude.{ℕ, ◌+◌, cond, List, [], ◌∷◌, eqb, ltb, length, Ok, Err}
use Rattle.head.specs.declared.refusal.Refusal.{Refusal}
use Rattle.head.specs.declared.refusal.Refusal.TheVariants.{Space, Malformed}
use Rattle.line.specs.declared.calls.Line.{Line}
use Rattle.line.specs.declared.calls.Stretch.{Stretch}
use Rattle.line.specs.Calls.{fits_of, replies_at, heard_by, laid_by_of}

-- a stretch that was refused: the line is as it was, and no byte was heard
abbrev pub unheard_at : Line → ℕ → Refusal → Stretch
unheard_at l from why = record { line = l; heard = Err why; next = from }

-- a line where so many replies came last, and the place of the next byte
abbrev pub stopped_at : Line → ℕ → ℕ → Stretch
stopped_at l n next = record { line = l; heard = Ok n; next = next }

-- the bytes from the place j on, heard by a line that refuses none: where none is left, nothing more came; a byte that no head replies to is
-- followed by the next; one that draws a reply or several is the last
unfoldable pub heard_until : Line → List ℕ → ℕ → ℕ → Stretch
heard_until l [] j at = stopped_at l 0 j
heard_until l (b ∷ bs) j at =
    cond (eqb (length (replies_at l b at)) 0)
    (heard_until (heard_by l b at) bs (j + 1) at)
    (stopped_at (heard_by l b at) (length (replies_at l b at)) (j + 1))

-- what they leave in the space: the reply to the last, where it is alone
unfoldable pub laid_until : Line → List ℕ → ℕ → List ℕ → List ℕ
laid_until l [] at space = space
laid_until l (b ∷ bs) at space =
    cond (eqb (length (replies_at l b at)) 0) (laid_until (heard_by l b at) bs at space) (laid_by_of (replies_at l b at) space)

-- a stretch: 20, then 6, as for a byte; else the bytes are heard
unfoldable pub until_of : Line → List ℕ → ℕ → ℕ → ℕ → Stretch
until_of l bs from at room =
    cond (fits_of l) (cond (ltb room 10) (unheard_at l from Space) (heard_until l bs from at)) (unheard_at l from Malformed)

unfoldable pub until_space_of : Line → List ℕ → ℕ → List ℕ → List ℕ
until_space_of l bs at space = cond (fits_of l) (cond (ltb (length space) 10) space (laid_until l bs at space)) space
