-- How a script is read: what its lines do to the desk, and what the program holds of it.
-- Assumes nothing.
use Rattle.std.specs.Prelude.{ℕ, ◌+◌, ◌%◌, ◌^◌, List}
use Rattle.text.specs.Reading.{Progress}
use Rattle.simulate.specs.declared.desk.Desk.{Desk}
use Rattle.simulate.specs.declared.reading.Reading.{Reading}
use Rattle.simulate.specs.Desk.{obeyed_of}

-- the desk, and how many lines there were
pub record State : Type 0 where
  pub desk : Desk
  pub lines : ℕ

-- a line is obeyed, and counted in 64 bits
abbrev pub noted_of : State → List ℕ → State
noted_of s line = record { desk = obeyed_of s.desk line; lines = (s.lines + 1) % 2 ^ 64 }

-- what the program holds
abbrev pub state_of : Reading → State
state_of r = record { desk = r.desk; lines = r.lines }

abbrev pub progress_of : Reading → List ℕ → Progress State
progress_of r line = record { state = state_of r; text = line }

-- as much of a line as its meaning needs: a longer one is none of the commands, whatever it holds
abbrev pub most : ℕ
most = 4098
