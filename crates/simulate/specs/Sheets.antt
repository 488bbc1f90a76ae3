-- Sheets in a script: the line that shows what a save laid (document 02, request (vii)).
-- Assumes nothing.
use Rattle.std.specs.Prelude.{ℕ, cond, List, [], ◌∷◌, ◌++◌, length, take, replicate, nat_lt, Ok, Err, Result, ⊤}
use Prim.Native.Char.{code}
use Rattle.hex_digits.specs.Digits.{digits_of}
use Rattle.sheet.specs.Writing.{whole}
use Rattle.text.specs.Text.{text}
use Rattle.head.specs.declared.refusal.Refusal.{Refusal}

-- two digits for each byte of the sheet at the start of the space; only blanks where there is no room for a sheet
unfoldable pub saved_line_of : List ℕ → List ℕ
saved_line_of space =
    text "saved " ++ (cond (nat_lt (length space) whole) (replicate 548 (code " ")) (digits_of (take whole space)) ++ (code "\n" ∷ []))

-- what a save shows: that line, where it is done
abbrev pub shown_of : Result ⊤ Refusal → List ℕ → Result (List ℕ) Refusal
shown_of (Ok tt) line = Ok line
shown_of (Err why) line = Err why
