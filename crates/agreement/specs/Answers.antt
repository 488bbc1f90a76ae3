-- What the engine comes to, as a head's own step and as the replies that are drawn.
-- Assumes nothing.
use Rattle.std.specs.Prelude.{ℕ, List, [], ◌∷◌}
use Rattle.head.specs.declared.hear.Stepped.{Stepped}
use Rattle.engine.specs.declared.Told.{Told}
use Rattle.engine.specs.declared.Answered.{Answered}
use Rattle.engine.specs.declared.Outcome.{Outcome}
use Rattle.engine.specs.declared.Outcome.TheVariants.{Silence, Reply, Refused}

abbrev pub as_stepped : Told → Stepped
as_stepped x = record { head = x.head; reply = x.reply }

abbrev pub drawn_by : Outcome → List ℕ → List (List ℕ)
drawn_by Silence x = []
drawn_by Reply x = x ∷ []
drawn_by (Refused why) x = []

abbrev pub drawn : Answered → List (List ℕ)
drawn x = drawn_by x.outcome x.reply
