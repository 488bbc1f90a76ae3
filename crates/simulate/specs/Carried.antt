-- The bytes that a line of a script carries, those of a send, of a load and of a rack.
-- Assumes nothing.
use Rattle.std.specs.Prelude.{ℕ, min, List}
use Rattle.script.specs.Meaning.{byte_at_of, read}

-- as many bytes as a line of a script can have digits for
abbrev pub most_carried : ℕ
most_carried = 2048

-- so many bytes, whose digits start at a place of the line; never more than the most
abbrev pub brought_of : List ℕ → ℕ → ℕ → List ℕ
brought_of line from count = read (byte_at_of line from) (min count most_carried)
