-- The answers of the program, byte by byte (document 02, request (xiii)): a reply is the line that bench writes for it.
-- Assumes nothing.
use Rattle.std.specs.Prelude.{ℕ, List, ◌++◌}
use Rattle.text.specs.Text.{text}
use Rattle.hex_digits.specs.Digits.{line_of}
use Rattle.engine.specs.declared.Outcome.{Outcome}
use Rattle.engine.specs.declared.Outcome.TheVariants.{Silence, Reply, Refused}
use Rattle.engine.specs.Answer.{refusal_of}
use Rattle.office.specs.Decimal.{decimal_of}

-- the lines
abbrev pub silence_line : List ℕ
silence_line = text "silence\n"

abbrev pub reply_line : List ℕ → List ℕ
reply_line ten = line_of ten

abbrev pub refused_line : ℕ → List ℕ
refused_line n = text "refused " ++ decimal_of n ++ text "\n"

abbrev pub error_line : ℕ → List ℕ
error_line n = text "error at line " ++ decimal_of n ++ text ": not twenty hex digits\n"

-- what a telegram came to
abbrev pub outcome_line : Outcome → List ℕ → List ℕ
outcome_line Silence ten = silence_line
outcome_line Reply ten = reply_line ten
outcome_line (Refused why) ten = refused_line (refusal_of why)
