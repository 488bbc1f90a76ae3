-- How a form is read: what the program holds of it.
-- Assumes nothing.
use Rattle.std.specs.Prelude.{ℕ, List}
use Rattle.text.specs.Reading.{Progress}
use Rattle.order.specs.declared.desk.Desk.{Desk}

-- the desk, and what is kept of the next line
abbrev pub progress_of : Desk → List ℕ → Progress Desk
progress_of desk line = record { state = desk; text = line }

-- as much of a line as its meaning needs: a longer one is malformed whatever it holds
abbrev pub room : ℕ
room = 4101
