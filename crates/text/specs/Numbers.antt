-- What a word's characters say as a number or as bytes. Values are computed without a bound, and tested against one afterwards.
-- Assumes nothing.
use Rattle.std.specs.Prelude.{ℕ, ◌+◌, ◌-◌, ◌*◌, Bool, true, false, ◌&&◌, cond, List, [], ◌∷◌, leb, eqb, pos, neg_ℤ, length, get_or, drop, Some, None, Option, is_some, ℤ}
use Prim.Native.Char.{code}

-- `c` is from `low` to `high`
abbrev pub within : ℕ → ℕ → ℕ → Bool
within low high c = leb low c && leb c high

-- all are decimal digits, 0 to 9
abbrev pub digits : List ℕ → Bool
digits [] = true
digits (c ∷ cs) = within (code "0") (code "9") c && digits cs

-- decimal digits, at least one
abbrev pub is_decimal : List ℕ → Bool
is_decimal [] = false
is_decimal (c ∷ cs) = digits (c ∷ cs)

-- the value of decimal digits that follow on others of the value `v`, and of decimal digits alone
abbrev pub value_from : ℕ → List ℕ → ℕ
value_from v [] = v
value_from v (c ∷ cs) = value_from (10 * v + (c - code "0")) cs

abbrev pub value_of : List ℕ → ℕ
value_of cs = value_from 0 cs

-- the number that decimal digits stand for, where it is at most the limit
unfoldable pub number_of : ℕ → List ℕ → Option ℕ
number_of limit cs = cond (is_decimal cs && leb (value_of cs) limit) (Some (value_of cs)) None

-- a number and its negative
abbrev pub plain : Option ℕ → Option ℤ
plain (Some n) = Some (pos n)
plain None = None

abbrev pub negative : Option ℕ → Option ℤ
negative (Some n) = Some (neg_ℤ (pos n))
negative None = None

-- decimal digits after one minus sign or none, of a number from -2147483648 to 2147483647
unfoldable pub signed_of : List ℕ → Option ℤ
signed_of cs = cond (eqb (get_or cs 0 0) (code "-")) (negative (number_of 2147483648 (drop 1 cs))) (plain (number_of 2147483647 cs))

-- the value of a hex digit in either case
unfoldable pub hex_of : ℕ → Option ℕ
hex_of c =
    cond (within (code "0") (code "9") c) (Some (c - code "0"))
    (cond (within (code "A") (code "F") c) (Some (10 + (c - code "A")))
    (cond (within (code "a") (code "f") c) (Some (10 + (c - code "a")))
    None))

abbrev pub is_hex : ℕ → Bool
is_hex c = is_some (hex_of c)

-- the byte of a high digit and a low one, 0 where one is none
abbrev pub byte_of : Option ℕ → Option ℕ → ℕ
byte_of (Some a) (Some b) = 16 * a + b
byte_of (Some a) None = 0
byte_of None b = 0

unfoldable pub pair_of : ℕ → ℕ → ℕ
pair_of a b = byte_of (hex_of a) (hex_of b)

-- the characters are two hex digits for each byte
abbrev pub in_pairs : List ℕ → Bool
in_pairs [] = true
in_pairs (a ∷ []) = false
in_pairs (a ∷ b ∷ cs) = is_hex a && is_hex b && in_pairs cs

-- the bytes that they stand for
abbrev pub bytes_of : List ℕ → List ℕ
bytes_of [] = []
bytes_of (a ∷ []) = []
bytes_of (a ∷ b ∷ cs) = pair_of a b ∷ bytes_of cs

-- how many bytes the characters stand for, 0 where they are not two hex digits for each
unfoldable pub count_of : List ℕ → ℕ
count_of cs = cond (in_pairs cs) (length (bytes_of cs)) 0
