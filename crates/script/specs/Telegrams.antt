-- What a line of a list of telegrams means (document 02, request (xiii)): a telegram is one word of twenty hex digits.
-- Assumes nothing.
use Rattle.std.specs.Prelude.{ℕ, cond, List, [], ◌∷◌, eqb}
use Rattle.script.specs.declared.telegrams.Entry.{Entry}
use Rattle.script.specs.declared.telegrams.Entry.TheVariants.{Blank, Malformed, Telegram}
use Rattle.text.specs.Lines.{bare_of}
use Rattle.text.specs.Numbers.{count_of}
use Rattle.script.specs.Words.{Word}
use Rattle.script.specs.Kinds.{unless_passed, unless_long}

-- two hex digits for each of a telegram's ten bytes, and no other word
abbrev pub telegram_of : Word → List Word → Entry
telegram_of w [] = cond (eqb (count_of w.chars) 10) (Telegram w.start) Malformed
telegram_of w (v ∷ ws) = Malformed

-- a line without newline and carriage return
unfoldable pub listed_of : List ℕ → Entry
listed_of line = unless_long Malformed (unless_passed Blank telegram_of) line

-- a line without its newline
unfoldable pub entry_of : List ℕ → Entry
entry_of line = listed_of (bare_of line)
