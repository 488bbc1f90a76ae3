-- Lines of an order form and what each means, computed by the definition.
-- Assumes nothing.
use Prim.Native.Nat.{ℕ}
use Prim.Native.String.{String}
use mathlib.Core.Path.{◌≡◌, refl}
use mathlib.Core.Bool.{Bool, true, false}
use mathlib.Core.List.{List, [], ◌∷◌, ◌++◌}
use lib.ListN.{replicate}
use Rattle.form_text.specs.declared.rows.Entry.{Entry}
use Rattle.form_text.specs.declared.rows.Entry.TheVariants.{Blank, Heading, Row, Malformed}
use Rattle.text.specs.Text.{text}
use Rattle.text.specs.Lines.{bare_of}
use Rattle.text.specs.Numbers.{number_of}
use Rattle.form_text.specs.Cuts.{unmarked_of, trimmed_start_of, trimmed_end_of, trimmed_of, front_of}
use Rattle.form_text.specs.Form.{any_digit, read_of, entry_of}

-- a line's bytes, where it stands, and what it means
record Case : Type 0 where
  line : List ℕ
  top : Bool
  first : Bool
  means : Entry

-- after a byte order mark
abbrev mark : List ℕ → List ℕ
mark l = 239 ∷ 187 ∷ 191 ∷ l

-- a line after others
infix 70 ◌later◌
abbrev ◌later◌ : String → Entry → Case
l later e = record { line = text l; top = false; first = false; means = e }

-- one with nothing but blank lines and comments before it
infix 70 ◌first◌
abbrev ◌first◌ : String → Entry → Case
l first e = record { line = text l; top = false; first = true; means = e }

-- the very first line
infix 70 ◌top◌
abbrev ◌top◌ : String → Entry → Case
l top e = record { line = text l; top = true; first = true; means = e }

-- the very first line, with a mark
infix 70 ◌marked◌
abbrev ◌marked◌ : String → Entry → Case
l marked e = record { line = mark (text l); top = true; first = true; means = e }

-- one with a mark and with nothing but blank lines and comments before it
infix 70 ◌markedLater◌
abbrev ◌markedLater◌ : String → Entry → Case
l markedLater e = record { line = mark (text l); top = false; first = true; means = e }

abbrev Hold : List Case → Type 0
Hold [] = Unit {0}
Hold (c ∷ cs) = (entry_of c.line c.top c.first ≡ c.means) × Hold cs

-- one comma, semicolon or tab between, spaces around each, one carriage return at the end before the spaces are dropped
abbrev spaced : List Case
spaced =
    "1,2" later Row 1 2
    ∷ "1;2" later Row 1 2
    ∷ "1\t2" later Row 1 2
    ∷ " 1 , 2 " later Row 1 2
    ∷ "  1  \t  2  " later Row 1 2
    ∷ "1,2\r" later Row 1 2
    ∷ "1,2 \r" later Row 1 2
    ∷ "1,2\r " later Malformed
    ∷ "1,2\r\r" later Malformed
    ∷ "1\r,2" later Malformed
    ∷ []

spaced_hold : Hold spaced
unfolding bare_of number_of unmarked_of trimmed_start_of trimmed_end_of trimmed_of front_of any_digit read_of entry_of
spaced_hold = (refl, (refl, (refl, (refl, (refl, (refl, (refl, (refl, (refl, (refl, tt))))))))))

-- decimal digits of a number that fits, leading zeros allowed, with no sign
abbrev numbers : List Case
numbers =
    "0,0" later Row 0 0
    ∷ "4294967295,4294967295" later Row 4294967295 4294967295
    ∷ "4294967296,1" later Malformed
    ∷ "1,4294967296" later Malformed
    ∷ "000000000000000000000000000000001,0002" later Row 1 2
    ∷ "+1,2" later Malformed
    ∷ "-1,2" later Malformed
    ∷ "1,-2" later Malformed
    ∷ "1.0,2" later Malformed
    ∷ []

numbers_hold : Hold numbers
unfolding bare_of number_of unmarked_of trimmed_start_of trimmed_end_of trimmed_of front_of any_digit read_of entry_of
numbers_hold = (refl, (refl, (refl, (refl, (refl, (refl, (refl, (refl, (refl, tt)))))))))

-- two fields, no more and no fewer
abbrev counted : List Case
counted =
    "1" later Malformed
    ∷ "1,2,3" later Malformed
    ∷ "1,2," later Malformed
    ∷ "1,2\t" later Malformed
    ∷ ",1,2" later Malformed
    ∷ "1," later Malformed
    ∷ ",2" later Malformed
    ∷ "," later Malformed
    ∷ "1 2" later Malformed
    ∷ "1 2,3" later Malformed
    ∷ "1,2 3" later Malformed
    ∷ "1,,2" later Malformed
    ∷ []

counted_hold : Hold counted
unfolding bare_of number_of unmarked_of trimmed_start_of trimmed_end_of trimmed_of front_of any_digit read_of entry_of
counted_hold = (refl, (refl, (refl, (refl, (refl, (refl, (refl, (refl, (refl, (refl, (refl, (refl, tt))))))))))))

-- blank lines and comments, and the heading, which has no digit and is the first line that is neither
abbrev passed : List Case
passed =
    "" later Blank
    ∷ "   " later Blank
    ∷ "\r" later Blank
    ∷ "# x" later Blank
    ∷ "  # x" later Blank
    ∷ "#" later Blank
    ∷ "#1,2" first Blank
    ∷ "\t" later Malformed
    ∷ "\t" first Heading
    ∷ "\t# x" later Malformed
    ∷ "serial,node" first Heading
    ∷ "serial,node" later Malformed
    ∷ "serial1,node" first Malformed
    ∷ "a,b,c" first Heading
    ∷ "+1,2" first Malformed
    ∷ "\r\r" first Heading
    ∷ []

passed_hold : Hold passed
unfolding bare_of number_of unmarked_of trimmed_start_of trimmed_end_of trimmed_of front_of any_digit read_of entry_of
passed_hold = (refl, (refl, (refl, (refl, (refl, (refl, (refl, (refl, (refl, (refl, (refl, (refl, (refl, (refl, (refl, (refl, tt))))))))))))))))

-- a byte order mark may stand at the very start, once
abbrev at_top : List Case
at_top =
    "1,2" marked Row 1 2
    ∷ " 1,2\r" marked Row 1 2
    ∷ "# x" marked Blank
    ∷ "" marked Blank
    ∷ "\r" marked Blank
    ∷ "serial,node" marked Heading
    ∷ "1,2" top Row 1 2
    ∷ "1,2" markedLater Malformed
    ∷ "serial,node" markedLater Heading
    ∷ []

at_top_hold : Hold at_top
unfolding bare_of number_of unmarked_of trimmed_start_of trimmed_end_of trimmed_of front_of any_digit read_of entry_of
at_top_hold = (refl, (refl, (refl, (refl, (refl, (refl, (refl, (refl, (refl, tt)))))))))

-- a mark twice: the second one belongs to the line
twice : entry_of (mark (mark (text "1,2"))) true true ≡ Malformed
unfolding bare_of number_of unmarked_of trimmed_start_of trimmed_end_of trimmed_of front_of any_digit read_of entry_of
twice = refl

-- 4,096 bytes between a mark and a carriage return are taken, and one more is not, whatever it is
longest_taken : entry_of (mark (replicate 4096 32 ++ 13 ∷ [])) true true ≡ Blank
unfolding bare_of number_of unmarked_of trimmed_start_of trimmed_end_of trimmed_of front_of any_digit read_of entry_of
longest_taken = refl

one_more : entry_of (replicate 4097 32) true true ≡ Malformed
unfolding bare_of number_of unmarked_of trimmed_start_of trimmed_end_of trimmed_of front_of any_digit read_of entry_of
one_more = refl

long_comment : entry_of (35 ∷ replicate 4096 32) false false ≡ Malformed
unfolding bare_of number_of unmarked_of trimmed_start_of trimmed_end_of trimmed_of front_of any_digit read_of entry_of
long_comment = refl
