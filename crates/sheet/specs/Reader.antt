-- A reader keeps a sheet and its row number together, and hands out one row after another (document 02, request (vii)).
-- Assumes nothing.
use Rattle.std.specs.Prelude.{ℕ, zero, suc, ◌+◌, ◌<◌, ◌≤◌, ◌≡◌, List}
use Rattle.std.specs.Borrow.{Bor}
use Rattle.sheet.specs.declared.refusal.Refusal.TheVariants.{Malformed}
use Rattle.sheet.specs.declared.reader.Reading.{Reading}
use Rattle.sheet.specs.declared.reader.Reading.TheVariants.{Row, End, Refused}
use Rattle.sheet.specs.declared.reader.SheetReader.{SheetReader}
use Rattle.sheet.specs.Format.{count_of, address_of, value_of, read_of, row_after}
use Rattle.sheet.specs.Sheet.{Sheet}

-- a new reader, and one after a call
abbrev pub new_of : Bor (List ℕ) → SheetReader
new_of sheet = record { sheet = sheet; row = 0 }

abbrev pub advanced_of : SheetReader → SheetReader
advanced_of r = record { sheet = r.sheet; row = row_after r.row }

-- after k calls; and what call k, of which the first is 0, hands out
abbrev pub after_calls : SheetReader → ℕ → SheetReader
after_calls r zero = r
after_calls r (suc k) = advanced_of (after_calls r k)

abbrev pub handed_out : SheetReader → ℕ → Reading
handed_out r k = read_of (after_calls r k).sheet.now (after_calls r k).row

-- a new reader hands out just the rows of its sheet, in their order, then that none is left, however often it is asked; of bytes that are no sheet, 11
pub record HandsOut (s : Bor (List ℕ)) : Type 0 where
  pub rows : Sheet s.now → (k : ℕ) → k < count_of s.now → handed_out (new_of s) k ≡ Row (address_of s.now k) (value_of s.now k)
  pub none_left : Sheet s.now → (k : ℕ) → count_of s.now ≤ k → handed_out (new_of s) k ≡ End
  pub malformed : (Sheet s.now → ⊥) → (k : ℕ) → handed_out (new_of s) k ≡ Refused Malformed

-- the same call by call, of any reader: a new one stands at the first row of its sheet; a call keeps the sheet; at a row that there is it hands out that row and
-- goes to the next; past the last it says that none is left, and stays past it; of bytes that are no sheet, 11
pub record Steps : Type 0 where
  pub new : (s : Bor (List ℕ)) → ((new_of s).sheet ≡ s) × ((new_of s).row ≡ 0)
  pub keeps : (r : SheetReader) → (advanced_of r).sheet ≡ r.sheet
  pub row : (r : SheetReader) → let s = r.sheet.now in Sheet s → r.row < count_of s
      → (read_of s r.row ≡ Row (address_of s r.row) (value_of s r.row)) × ((advanced_of r).row ≡ r.row + 1)
  pub none_left : (r : SheetReader) → let s = r.sheet.now in Sheet s → count_of s ≤ r.row → (read_of s r.row ≡ End) × (count_of s ≤ (advanced_of r).row)
  pub malformed : (r : SheetReader) → (Sheet r.sheet.now → ⊥) → read_of r.sheet.now r.row ≡ Refused Malformed
