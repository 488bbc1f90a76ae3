-- What a line of the list does to the head, and what is written for it (document 02, request (xiii)): a telegram is put to the engine whole, at time 0.
-- Assumes nothing.
use Rattle.std.specs.Prelude.{ℕ, List, []}
use Rattle.state.specs.declared.parts.Head.{Head}
use Rattle.head.specs.Calls.{factory_of}
use Rattle.engine.specs.declared.Answered.{Answered}
use Rattle.engine.specs.Answer.{answer_of}
use Rattle.script.specs.declared.telegrams.Entry.{Entry}
use Rattle.script.specs.declared.telegrams.Entry.TheVariants.{Blank, Malformed, Telegram}
use Rattle.script.specs.Meaning.{byte_at_of, read}
use Rattle.script.specs.Telegrams.{entry_of}
use Rattle.office.specs.Answer.{error_line, outcome_line}

-- the head of bench: at 31, as the factory delivers it
abbrev pub fresh_of : Head
fresh_of = factory_of 0

-- the ten bytes whose digits start at a place of the line
abbrev pub ten_of : List ℕ → ℕ → List ℕ
ten_of line from = read (byte_at_of line from) 10

-- ten bytes put to the head
abbrev pub told_of : Head → List ℕ → Answered
told_of h ten = answer_of h ten 0

-- the head after each line: only a telegram reaches it
abbrev pub did_of : Entry → List ℕ → Head → Head
did_of Blank line h = h
did_of Malformed line h = h
did_of (Telegram from) line h = (told_of h (ten_of line from)).head

-- what is written for each line, the head being that of before it: nothing for one that is passed over
abbrev pub said_of : Entry → List ℕ → Head → ℕ → List ℕ
said_of Blank line h number = []
said_of Malformed line h number = error_line number
said_of (Telegram from) line h number = let a = told_of h (ten_of line from) in outcome_line a.outcome a.reply

unfoldable pub obeyed_of : Head → List ℕ → Head
obeyed_of h line = did_of (entry_of line) line h

unfoldable pub answer_to : Head → List ℕ → ℕ → List ℕ
answer_to h line number = said_of (entry_of line) line h number
