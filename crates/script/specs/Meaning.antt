-- What a line of a simulator script means: a row for each command, found by the line's first word; it says what the words after that are read as.
-- Assumes nothing.
use Rattle.std.specs.Prelude.{ℕ, zero, suc, ◌+◌, ◌*◌, cond, ltb, List, [], ◌∷◌, length, get_or, find, Some, None, Option}
use Prim.Native.String.{String}
use Rattle.script.specs.declared.Command.{Command}
use Rattle.script.specs.declared.Command.TheVariants as command
use Rattle.script.specs.declared.Name.{Name}
use Rattle.script.specs.declared.Name.TheVariants as name
use Rattle.script.specs.declared.arguments.Arguments.{Arguments}
use Rattle.script.specs.declared.arguments.Last.{Last}
use Rattle.script.specs.declared.arguments.Last.TheVariants as last
use Rattle.text.specs.Text.{text}
use Rattle.text.specs.Lines.{bare_of}
use Rattle.script.specs.Words.{Word, words_of, same_of}
use Rattle.script.specs.Kinds.{is_note, longest}
use Rattle.text.specs.Numbers.{pair_of}
use Rattle.script.specs.Arguments.{arguments_of}

-- the largest number of 32 bits
abbrev pub whole : ℕ
whole = 4294967295

-- the largest number of 8 bits, and of 16
abbrev pub byte : ℕ
byte = 255

abbrev pub half : ℕ
half = 65535

-- the most space that can be lent
abbrev pub largest_space : ℕ
largest_space = 1024

-- a command: its word, what it takes, a number up to each of the limits and then what is said, and what it is, made of what the words after its
-- own say
pub record Row : Type 0 where
  pub word : String
  pub limits : List ℕ
  pub last : Last
  pub made : Arguments → Command

abbrev row : String → List ℕ → Last → (Arguments → Command) → Row
row word limits last made = record { word = word; limits = limits; last = last; made = made }

-- number `i` of those that the words say
abbrev number : Arguments → ℕ → ℕ
number a i = get_or a.numbers i 0

-- head NODE SERIAL, send TIME HEX, tick TIME, measure HEAD VALUE, keys HEAD STATE, power HEAD, space SIZE, xor HEAD,
-- ask TIME COMMAND NODE PARAMETER WORD DATA, save HEAD, load HEAD HEX, rack TIME PLACE HEX, bring HEAD; of a load and a rack HEX may be left out
abbrev pub row_of : Name → Row
row_of name.Head = row "head" (whole ∷ whole ∷ []) last.Nothing (λ a. command.Grow (number a 0) (number a 1))
row_of name.Send = row "send" (whole ∷ []) last.Bytes (λ a. command.Send (number a 0) a.from a.count)
row_of name.Tick = row "tick" (whole ∷ []) last.Nothing (λ a. command.Tick (number a 0))
row_of name.Measure = row "measure" (whole ∷ []) last.Signed (λ a. command.Measure (number a 0) a.value)
row_of name.Keys = row "keys" (whole ∷ whole ∷ []) last.Nothing (λ a. command.Keys (number a 0) (number a 1))
row_of name.Power = row "power" (whole ∷ []) last.Nothing (λ a. command.Power (number a 0))
row_of name.Space = row "space" (largest_space ∷ []) last.Nothing (λ a. command.Space (number a 0))
row_of name.Xor = row "xor" (whole ∷ []) last.Nothing (λ a. command.Xor (number a 0))
row_of name.Ask =
    row "ask" (whole ∷ byte ∷ byte ∷ byte ∷ half ∷ whole ∷ []) last.Nothing
    (λ a. command.Ask (number a 0) (number a 1) (number a 2) (number a 3) (number a 4) (number a 5))
row_of name.Save = row "save" (whole ∷ []) last.Nothing (λ a. command.Save (number a 0))
row_of name.Load = row "load" (whole ∷ []) last.PerhapsBytes (λ a. command.Load (number a 0) a.from a.count)
row_of name.Rack = row "rack" (whole ∷ whole ∷ []) last.PerhapsBytes (λ a. command.Rack (number a 0) (number a 1) a.from a.count)
row_of name.Bring = row "bring" (whole ∷ []) last.Nothing (λ a. command.Bring (number a 0))

-- the command whose word it is, in lower case
abbrev pub names : List Name
names =
    name.Head
    ∷ name.Send
    ∷ name.Tick
    ∷ name.Measure
    ∷ name.Keys
    ∷ name.Power
    ∷ name.Space
    ∷ name.Xor
    ∷ name.Ask
    ∷ name.Save
    ∷ name.Load
    ∷ name.Rack
    ∷ name.Bring
    ∷ []

unfoldable pub name_of : List ℕ → Option Name
name_of w = find (λ n. same_of w (text (row_of n).word)) names

-- the command that is made of the words after the name, where they fit
abbrev pub if_fit : Option Arguments → (Arguments → Command) → Command
if_fit (Some a) made = made a
if_fit None made = command.Malformed

unfoldable pub order_of : Name → List Word → Command
order_of n ws = if_fit (arguments_of (row_of n).limits (row_of n).last ws) (row_of n).made

-- any other word makes no command
abbrev pub if_named : Option Name → List Word → Command
if_named (Some n) ws = order_of n ws
if_named None ws = command.Malformed

-- a line with no word, or whose first word starts with `#`, is passed over; any other goes by its first word
unfoldable pub command_of : List Word → Command
command_of [] = command.Blank
command_of (w ∷ ws) = cond (is_note w) command.Blank (if_named (name_of w.chars) ws)

-- A line without newline and carriage return. A line too long is none of the commands, whatever stands in it, also where it would be passed over:
-- the test comes before any word is looked at, so that nobody has to keep more of a line than this to know what it means.
unfoldable pub spoken_of : List ℕ → Command
spoken_of line = cond (ltb longest (length line)) command.Malformed (command_of (words_of line))

-- a line without its newline
unfoldable pub meaning_of : List ℕ → Command
meaning_of line = spoken_of (bare_of line)

-- byte `i` of the hex digits that start at the place `from`, 0 where there are no two hex digits
unfoldable pub byte_at_of : List ℕ → ℕ → ℕ → ℕ
byte_at_of line from i = pair_of (get_or line (from + 2 * i) 0) (get_or line (from + 2 * i + 1) 0)

-- the first `n` bytes, read one after another
abbrev pub read : (ℕ → ℕ) → ℕ → List ℕ
read f zero = []
read f (suc n) = f 0 ∷ read (λ (i : ℕ). f (suc i)) n
