-- Whether a value is right for its parameter (document 01, "Stored parameters" and check 7).
-- Assumes nothing.
use Rattle.std.specs.Prelude.{ℕ, zero, suc, ◌+◌, Bool, true, false, cond, ◌&&◌, List, [], ◌∷◌, eqb, ℤ, pos, get_or, Some, None, Option}
use Rattle.std.specs.Int.Signed.{lt_z}
use Rattle.signed.specs.Number.{minus, number_of}
use Rattle.rows.specs.declared.table.Row.{Row}
use Rattle.rows.specs.declared.range.Range.{Range}
use Rattle.rows.specs.declared.range.Range.TheVariants.{Right, Low, High, Between}
use Rattle.rows.specs.Among.{among}
use Rattle.rows.specs.Table.{address, low, high, row, rows, row_of, place_of}

-- all four data bytes are read as two's complement for 1Eh, 1Fh and FFh, else as unsigned
unfoldable pub is_signed_of : ℕ → Bool
is_signed_of a = among (0x1E ∷ 0x1F ∷ 0xFF ∷ []) a

unfoldable pub reading_of : ℕ → ℕ → ℤ
reading_of a w = cond (is_signed_of a) (number_of w) (pos w)

-- between the limits and not listed: 3Eh takes 0 and 2, A0h takes 1, 2, 5, 7, 8 and 9
unfoldable pub unlisted_of : ℕ → ℕ → Bool
unlisted_of a w = cond (eqb a 0x3E) (eqb w 1) (cond (eqb a 0xA0) (among (3 ∷ 4 ∷ 6 ∷ []) w) false)

-- check 7: below low, above high, in between and not listed
unfoldable pub between_of : ℤ → ℤ → ℤ → Bool → Range
between_of lo hi v skipped = cond (lt_z v lo) Low (cond (lt_z hi v) High (cond skipped Between Right))

unfoldable pub range_in : Row → ℕ → Range
range_in r w = between_of (low r) (high r) (reading_of (address r) w) (unlisted_of (address r) w)

-- the limits of what may be written and is not stored; FBh and FFh take any 32 bits, and by D2h the numbers 1 to 31 can be offered
unfoldable pub other_row_of : ℕ → Row
other_row_of a =
    cond (eqb a 0xA0) (row 0xA0 (pos 1) (pos 9) 0)
    (cond (eqb a 0xA7) (row 0xA7 (pos 1) (pos 1) 0)
    (cond (eqb a 0xA8) (row 0xA8 (pos 0) (pos 1) 0)
    (cond (eqb a 0xAA) (row 0xAA (pos 1) (pos 1) 0)
    (cond (eqb a 0xD2) (row 0xD2 (pos 1) (pos 31) 0)
    (cond (eqb a 0xFF) (row 0xFF (minus 2147483648) (pos 2147483647) 0)
    (row a (pos 0) (pos 4294967295) 0))))))

abbrev pub row_at : Option ℕ → ℕ → Row
row_at (Some i) a = row_of i
row_at None a = other_row_of a

unfoldable pub range_of : ℕ → ℕ → Range
range_of a w = range_in (row_at (place_of a) a) w

abbrev pub is_right : Range → Bool
is_right Right = true
is_right Low = false
is_right High = false
is_right Between = false

-- the value lies in the row; each value lies in its row
unfoldable pub fits_in : Row → ℕ → Bool
fits_in r w = is_right (range_in r w)

abbrev pub all_in : List Row → List ℕ → Bool
all_in [] ws = true
all_in (r ∷ rs) [] = false
all_in (r ∷ rs) (w ∷ ws) = fits_in r w && all_in rs ws

unfoldable pub all_right_of : List ℕ → Bool
all_right_of ws = all_in rows ws

-- the n values from place i on lie in their rows
abbrev pub right_from : ℕ → ℕ → List ℕ → Bool
right_from i zero ws = true
right_from i (suc n) ws = right_from i n ws && fits_in (row_of (i + n)) (get_or ws (i + n) 0)
