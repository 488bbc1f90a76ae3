-- The 39 rows of limits and delivery values (document 01, "Stored parameters"; 28h up to 3 and 35h retired: document 02, requests (ix) and
-- (xii)).
-- Assumes nothing.
use Rattle.std.specs.Prelude.{ℕ, suc, Bool, true, false, cond, List, [], ◌∷◌, eqb, ℤ, pos, get_or, Some, None, Option}
use Rattle.signed.specs.Number.{minus}
use Rattle.rows.specs.declared.table.Row.{Row}

-- one row: address, low, high, delivery value
abbrev pub row : ℕ → ℤ → ℤ → ℕ → Row
row a low high d = (a, low, high, d)

abbrev pub address : Row → ℕ
address r = r.0

abbrev pub low : Row → ℤ
low r = r.1

abbrev pub high : Row → ℤ
high r = r.2

abbrev pub delivery : Row → ℕ
delivery r = r.3

-- 3Eh is 0 or 2: what lies between its limits and is not listed stands in Ranges.antt
unfoldable pub rows : List Row
rows =
    row 0x00 (pos 1) (pos 127) 31
    ∷ row 0x01 (pos 0) (pos 2) 1
    ∷ row 0x02 (pos 0) (pos 20) 0
    ∷ row 0x03 (pos 0) (pos 2) 0
    ∷ row 0x04 (pos 1) (pos 60) 5
    ∷ row 0x05 (pos 0) (pos 1) 1
    ∷ row 0x06 (pos 0) (pos 1) 0
    ∷ row 0x07 (pos 0) (pos 1) 1
    ∷ row 0x08 (pos 0) (pos 1) 1
    ∷ row 0x09 (pos 0) (pos 1) 1
    ∷ row 0x0A (pos 0) (pos 4) 0
    ∷ row 0x0B (pos 0) (pos 3) 0
    ∷ row 0x0C (pos 0) (pos 2) 0
    ∷ row 0x0D (pos 0) (pos 1) 0
    ∷ row 0x0E (pos 0) (pos 1) 0
    ∷ row 0x0F (pos 0) (pos 99999) 0
    ∷ row 0x1B (pos 0) (pos 1) 0
    ∷ row 0x1C (pos 1) (pos 65535) 720
    ∷ row 0x1E (minus 19999) (pos 19999) 0
    ∷ row 0x1F (minus 19999) (pos 99999) 0
    ∷ row 0x20 (pos 0) (pos 9999) 5
    ∷ row 0x21 (pos 0) (pos 2) 0
    ∷ row 0x22 (pos 0) (pos 9999) 0
    ∷ row 0x28 (pos 0) (pos 3) 0
    ∷ row 0x30 (pos 0) (pos 1) 0
    ∷ row 0x31 (pos 0) (pos 9999) 0
    ∷ row 0x32 (pos 0) (pos 1) 0
    ∷ row 0x33 (pos 0) (pos 2) 0
    ∷ row 0x34 (pos 0) (pos 1) 0
    ∷ row 0x35 (pos 0) (pos 0) 0
    ∷ row 0x39 (pos 0) (pos 1) 1
    ∷ row 0x3A (pos 0) (pos 1) 0
    ∷ row 0x3B (pos 0) (pos 1) 1
    ∷ row 0x3C (pos 0) (pos 1) 1
    ∷ row 0x3D (pos 0) (pos 1) 1
    ∷ row 0x3E (pos 0) (pos 2) 0
    ∷ row 0x3F (pos 0) (pos 8) 0
    ∷ row 0x40 (pos 0) (pos 1) 1
    ∷ row 0xD0 (pos 0) (pos 20) 0
    ∷ []

-- the row of no parameter
abbrev pub blank : Row
blank = row 0 (pos 0) (pos 0) 0

unfoldable pub row_of : ℕ → Row
row_of i = get_or rows i blank

-- the place of the first row with the address, the first row's place being i
abbrev pub place_in : List Row → ℕ → ℕ → Option ℕ
place_in [] i a = None
place_in (r ∷ rs) i a = cond (eqb (address r) a) (Some i) (place_in rs (suc i) a)

unfoldable pub place_of : ℕ → Option ℕ
place_of a = place_in rows 0 a

-- there is one
abbrev pub is_at : Option ℕ → Bool
is_at (Some i) = true
is_at None = false
