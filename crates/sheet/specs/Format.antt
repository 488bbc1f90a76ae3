-- What a sheet is (document 02, request (vii)): one byte n, n rows of contents, n bodies. Rows are counted from 0.
-- Assumes nothing.
use Rattle.std.specs.Prelude.{ℕ, ◌+◌, ◌*◌, ◌-◌, Bool, true, cond, ◌&&◌, List, eqb, ltb, leb, length, get_or}
use Rattle.wire.specs.Word.{half_of, whole_of}
use Rattle.sheet.specs.declared.refusal.Refusal.TheVariants.{Malformed}
use Rattle.sheet.specs.declared.reader.Reading.{Reading}
use Rattle.sheet.specs.declared.reader.Reading.TheVariants as reading
use Rattle.sheet.specs.Each.{each}

-- a sheet has at most the 39 rows
abbrev pub most : ℕ
most = 39

-- byte k, counted from the sheet's start; past its end, 0
abbrev pub byte_of : List ℕ → ℕ → ℕ
byte_of s k = get_or s k 0

-- the first byte: the number of rows
abbrev pub count_of : List ℕ → ℕ
count_of s = byte_of s 0

-- row i of the contents: parameter address, and two-byte place of the body
abbrev pub address_of : List ℕ → ℕ → ℕ
address_of s i = byte_of s (1 + 3 * i)

abbrev pub body_of : List ℕ → ℕ → ℕ
body_of s i = half_of (byte_of s (2 + 3 * i)) (byte_of s (3 + 3 * i))

-- the four bytes of its body
abbrev pub word_of : List ℕ → ℕ → ℕ
word_of s p = whole_of (byte_of s p) (byte_of s (p + 1)) (byte_of s (p + 2)) (byte_of s (p + 3))

unfoldable pub value_of : List ℕ → ℕ → ℕ
value_of s i = word_of s (body_of s i)

-- of n rows: where body i stands when bodies stand in row order without gaps, and where the sheet ends
abbrev pub body_place : ℕ → ℕ → ℕ
body_place n i = 1 + 3 * n + 4 * i

abbrev pub size_of : ℕ → ℕ
size_of n = body_place n n

-- the address of row i is above that of the row before it
unfoldable pub rises : List ℕ → ℕ → Bool
rises s i = cond (eqb i 0) true (ltb (address_of s (i - 1)) (address_of s i))

-- row i of n has its body in its place, and addresses rise
unfoldable pub row_right : List ℕ → ℕ → ℕ → Bool
row_right s n i = eqb (body_of s i) (body_place n i) && rises s i

unfoldable pub well_formed_of : List ℕ → Bool
well_formed_of s = leb (count_of s) most && (eqb (length s) (size_of (count_of s)) && each (row_right s (count_of s)) (count_of s))

-- what is handed out at row i, and the row after; no sheet has a row past 38, so that the number may stay there
unfoldable pub read_of : List ℕ → ℕ → Reading
read_of s i =
    cond (well_formed_of s) (cond (ltb i (count_of s)) (reading.Row (address_of s i) (value_of s i)) reading.End) (reading.Refused Malformed)

abbrev pub row_after : ℕ → ℕ
row_after i = cond (ltb i most) (i + 1) i
