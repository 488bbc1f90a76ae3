-- What a line of an order form means: a row with a serial and a node number, a line that is passed over, or neither.
-- Assumes nothing.
use Rattle.std.specs.Prelude.{ℕ, Bool, ◌&&◌, not, cond, List, [], ◌∷◌, eqb, ltb, length, get_or, Some, None, Option}
use Rattle.std.specs.List.{list_any}
use Prim.Native.Char.{code}
use Rattle.form_text.specs.declared.rows.Entry.{Entry}
use Rattle.form_text.specs.declared.rows.Entry.TheVariants as entry
use Rattle.text.specs.Lines.{bare_of}
use Rattle.text.specs.Numbers.{within, number_of}
use Rattle.form_text.specs.Cuts.{unmarked_of, trimmed_of, fields_of}

-- the largest number of 32 bits
abbrev pub whole : ℕ
whole = 4294967295

-- two numbers that fit make a row
abbrev pub paired_of : Option ℕ → Option ℕ → Entry
paired_of (Some serial) (Some node) = entry.Row serial node
paired_of (Some serial) None = entry.Malformed
paired_of None _ = entry.Malformed

-- a field without the spaces around it is decimal digits of a number of 32 bits
abbrev pub said_of : List ℕ → Option ℕ
said_of field = number_of whole (trimmed_of field)

-- a row has just two fields, the serial and the node number
abbrev pub row_of : List (List ℕ) → Entry
row_of [] = entry.Malformed
row_of (a ∷ []) = entry.Malformed
row_of (a ∷ b ∷ []) = paired_of (said_of a) (said_of b)
row_of (a ∷ b ∷ c ∷ fields) = entry.Malformed

-- some character is a digit
unfoldable pub any_digit : List ℕ → Bool
any_digit cs = list_any (within (code "0") (code "9")) cs

-- A line without the spaces at both ends: it is blank, or a comment, or a heading, which only the first line that is neither may be, or else a row.
unfoldable pub read_of : List ℕ → Bool → Entry
read_of line first =
    cond (eqb (length line) 0) entry.Blank
    (cond (eqb (get_or line 0 0) (code "#")) entry.Blank
    (cond (first && not (any_digit line)) entry.Heading
    (row_of (fields_of line))))

-- how long a line may be
abbrev pub longest : ℕ
longest = 4096

-- A line without its newline; `top` says that it is the form's very first line, `first` that no line before it was other than blank or a comment.
-- The byte order mark and one carriage return at the end do not count for the length. A line too long is malformed whatever stands in it: the
-- test comes before anything else is looked at, so that nobody has to keep more of a line than this to know what it means.
unfoldable pub entry_of : List ℕ → Bool → Bool → Entry
entry_of line top first =
    let bare = bare_of (unmarked_of line top) in
    cond (ltb longest (length bare)) entry.Malformed (read_of (trimmed_of bare) first)
