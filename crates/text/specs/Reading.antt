-- How a text is read by lines: byte by byte, so that it does not matter in which pieces it comes. What a line does to the state is the reader's.
-- Assumes nothing.
use Rattle.std.specs.Prelude.{ℕ, cond, List, [], ◌∷◌, ◌++◌, eqb, ltb, length}
use Prim.Native.Char.{code}

-- the state after the lines so far, and what is kept of the next
pub record Progress (S : Type 0) : Type 0 where
  pub state : S
  pub text : List ℕ

-- a byte of a line is kept while there is room
abbrev pub kept_of : ℕ → List ℕ → ℕ → List ℕ
kept_of room text b = cond (ltb (length text) room) (text ++ (b ∷ [])) text

-- a byte more at the start of the first line
abbrev pub begun_of : ℕ → List (List ℕ) → List (List ℕ)
begun_of b [] = (b ∷ []) ∷ []
begun_of b (l ∷ ls) = (b ∷ l) ∷ ls

-- the lines of a text: it is split at its newlines, and what stands after the last is a line where it is not empty
abbrev pub lines_of : List ℕ → List (List ℕ)
lines_of [] = []
lines_of (b ∷ bs) = cond (eqb b (code "\n")) ([] ∷ lines_of bs) (begun_of b (lines_of bs))

module _ {S : Type 0} (obeyed : S → List ℕ → S) where
  -- the end of a line: what is kept of it is obeyed
  abbrev pub ended_of : Progress S → Progress S
  ended_of p = record { state = obeyed p.state p.text; text = [] }

  -- the end of the text: what is kept, if anything, is a last line without a newline
  unfoldable pub closed_of : Progress S → S
  closed_of p = cond (eqb (length p.text) 0) p.state (obeyed p.state p.text)

  -- a newline ends a line, any other byte is one of it
  abbrev pub heard_of : ℕ → Progress S → ℕ → Progress S
  heard_of room p b = cond (eqb b (code "\n")) (ended_of p) (record { state = p.state; text = kept_of room p.text b })

  unfoldable pub read_of : ℕ → Progress S → List ℕ → Progress S
  read_of room p [] = p
  read_of room p (b ∷ bs) = read_of room (heard_of room p b) bs

  -- the pieces of a text, one after another
  abbrev pub pieces_of : ℕ → Progress S → List (List ℕ) → Progress S
  pieces_of room p [] = p
  pieces_of room p (a ∷ more) = pieces_of room (read_of room p a) more

  -- the state after all lines in turn
  abbrev pub after_all : S → List (List ℕ) → S
  after_all s [] = s
  after_all s (l ∷ ls) = after_all (obeyed s l) ls
