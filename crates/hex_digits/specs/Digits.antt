-- Bytes as text: two upper-case hex digits for each, the high one first.
-- Assumes nothing.
use Rattle.std.specs.Prelude.{ℕ, ◌+◌, ◌-◌, ◌*◌, ◌/◌, ◌%◌, cond, List, [], ◌∷◌, ◌++◌, ltb, length, drop}
use Prim.Native.Char.{code}

-- a number below 16 as a digit
abbrev pub digit_of : ℕ → ℕ
digit_of n = cond (ltb n 10) (code "0" + n) (code "A" + (n - 10))

abbrev pub digits_of : List ℕ → List ℕ
digits_of [] = []
digits_of (b ∷ bs) = digit_of (b / 16) ∷ digit_of (b % 16) ∷ digits_of bs

-- the digits as a line
abbrev pub line_of : List ℕ → List ℕ
line_of bs = digits_of bs ++ (code "\n" ∷ [])

-- the digits at the start of a text and the rest of it unchanged; a text that is too short for them stays as it is
unfoldable pub spelled_on : List ℕ → List ℕ → List ℕ
spelled_on text bytes =
    cond (ltb (length text / 2) (length bytes)) text (digits_of bytes ++ drop (2 * length bytes) text)
