-- One byte at a place in a line: which of the 256 make the line what it is there, computed by the definition.
-- Assumes nothing.
use Prim.Native.Nat.{ℕ, zero, suc}
use mathlib.Core.Path.{◌≡◌, refl}
use mathlib.Core.Bool.{Bool, true, false, cond}
use mathlib.Core.List.{List, [], ◌∷◌, ◌++◌}
use Rattle.form_text.specs.declared.rows.Entry.{Entry}
use Rattle.form_text.specs.declared.rows.Entry.TheVariants.{Blank, Heading, Row, Malformed}
use Rattle.text.specs.Text.{text}
use Rattle.text.specs.Lines.{bare_of}
use Rattle.text.specs.Numbers.{number_of}
use Rattle.form_text.specs.Cuts.{unmarked_of, trimmed_start_of, trimmed_end_of, trimmed_of, front_of}
use Rattle.form_text.specs.Form.{any_digit, read_of, entry_of}

-- the bytes below n of which the test holds
abbrev such : (ℕ → Bool) → ℕ → List ℕ
such test zero = []
such test (suc n) = such test n ++ cond (test n) (n ∷ []) []

abbrev is_row : Entry → Bool
is_row Blank = false
is_row Heading = false
is_row (Row serial node) = true
is_row Malformed = false

abbrev is_passed : Entry → Bool
is_passed Blank = true
is_passed Heading = true
is_passed (Row serial node) = false
is_passed Malformed = false

-- the bytes that make a later line a row, and one that is passed over
abbrev rows : (ℕ → List ℕ) → List ℕ
rows line = such (λ b. is_row (entry_of (line b) false false)) 256

abbrev passed : (ℕ → List ℕ) → List ℕ
passed line = such (λ b. is_passed (entry_of (line b) false false)) 256

abbrev digits : List ℕ
digits = text "0123456789"

-- a comma, a semicolon or a tab parts the fields; around a number there may be spaces, and at the end of the line a carriage return
fields : (rows (λ b. text "1" ++ (b ∷ text "2")) ≡ text "\t,;")
    × (rows (λ b. b ∷ text "1,2") ≡ text " " ++ digits)
    × (rows (λ b. text "1" ++ (b ∷ text ",2")) ≡ text " " ++ digits)
    × (rows (λ b. text "1," ++ (b ∷ text "2")) ≡ text " " ++ digits)
    × (rows (λ b. text "1,2" ++ (b ∷ [])) ≡ text "\r " ++ digits)
unfolding bare_of number_of unmarked_of trimmed_start_of trimmed_end_of trimmed_of front_of any_digit read_of entry_of
fields = (refl, refl, refl, refl, refl)

-- a line is blank, or a comment; after the start neither a space nor a number sign passes it over
blanks : (passed (λ b. b ∷ []) ≡ text "\r #")
    × (passed (λ b. b ∷ text "x") ≡ text "#")
    × (passed (λ b. text "x" ++ (b ∷ [])) ≡ [])
unfolding bare_of number_of unmarked_of trimmed_start_of trimmed_end_of trimmed_of front_of any_digit read_of entry_of
blanks = (refl, refl, refl)

-- a digit anywhere, and nothing else, keeps the first line from being a heading
abbrev firsts : (ℕ → List ℕ) → List ℕ
firsts line = such (λ b. cond (is_passed (entry_of (line b) false true)) false true) 256

headings : (firsts (λ b. b ∷ text "x") ≡ digits) × (firsts (λ b. text "x" ++ (b ∷ [])) ≡ digits)
unfolding bare_of number_of unmarked_of trimmed_start_of trimmed_end_of trimmed_of front_of any_digit read_of entry_of
headings = (refl, refl)

-- the byte order mark is three bytes, each of which counts
abbrev tops : (ℕ → List ℕ) → List ℕ
tops mark = such (λ b. is_row (entry_of (mark b ++ text "1,2") true true)) 256

marks : (tops (λ b. b ∷ 187 ∷ 191 ∷ []) ≡ 239 ∷ [])
    × (tops (λ b. 239 ∷ b ∷ 191 ∷ []) ≡ 187 ∷ [])
    × (tops (λ b. 239 ∷ 187 ∷ b ∷ []) ≡ 191 ∷ [])
unfolding bare_of number_of unmarked_of trimmed_start_of trimmed_end_of trimmed_of front_of any_digit read_of entry_of
marks = (refl, refl, refl)
