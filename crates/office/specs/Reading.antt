-- How a list of telegrams is read: what its lines do, and what the program holds of it.
-- Assumes nothing.
use Rattle.std.specs.Prelude.{ℕ, ◌+◌, ◌%◌, ◌^◌, List, [], ◌∷◌, ◌++◌}
use Rattle.state.specs.declared.parts.Head.{Head}
use Rattle.text.specs.Reading.{Progress}
use Rattle.office.specs.declared.reading.Reading.{Reading}
use Rattle.office.specs.Desk.{obeyed_of, answer_to}

-- the head, and how many lines there were
pub record State : Type 0 where
  pub head : Head
  pub lines : ℕ

-- the number of the next line: lines are counted from 1, in 64 bits
abbrev pub number_of : State → ℕ
number_of s = (s.lines + 1) % 2 ^ 64

-- a line is obeyed, and counted
abbrev pub noted_of : State → List ℕ → State
noted_of s line = record { head = obeyed_of s.head line; lines = number_of s }

-- what is written for a line, and for lines one after another
abbrev pub answered_of : State → List ℕ → List ℕ
answered_of s line = answer_to s.head line (number_of s)

abbrev pub answers_of : State → List (List ℕ) → List ℕ
answers_of s [] = []
answers_of s (l ∷ ls) = answered_of s l ++ answers_of (noted_of s l) ls

-- the head and the count of lines, beside all that was written so far
pub record Told : Type 0 where
  pub state : State
  pub said : List ℕ

abbrev pub told_of : Told → List ℕ → Told
told_of t line = record { state = noted_of t.state line; said = t.said ++ answered_of t.state line }

-- what the program holds
abbrev pub state_of : Reading → State
state_of r = record { head = r.head; lines = r.lines }

abbrev pub progress_of : Reading → List ℕ → Progress State
progress_of r line = record { state = state_of r; text = line }

-- as much of a line as its meaning needs: a longer one is malformed, whatever it holds
abbrev pub most : ℕ
most = 4098
