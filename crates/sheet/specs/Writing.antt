-- The sheet that is written from 39 stored values, and the space it is written to (document 02, request (vii)).
-- Assumes nothing.
use Rattle.std.specs.Prelude.{ℕ, cond, List, ◌++◌, map, ltb, length, drop, Ok, Err, Result, ⊤}
use Rattle.rows.specs.Table.{address, rows}
use Rattle.sheet.specs.declared.refusal.Refusal.TheVariants.{Short}
use Rattle.sheet.specs.Format.{most, size_of}
use Rattle.sheet.specs.Spelled.{front_of, spelled_of}
use Rattle.sheet.specs.declared.refusal.Refusal.{Refusal}

-- it has all 39 rows, so that its count and contents are the same on every written sheet
abbrev pub all : List ℕ
all = map address rows

abbrev pub front : List ℕ
front = front_of all

unfoldable pub sheet_of : List ℕ → List ℕ
sheet_of values = spelled_of all values

-- it takes 274 bytes: a shorter space is refused and stays as it is; the space after the sheet is unchanged
abbrev pub whole : ℕ
whole = size_of most

unfoldable pub write_of : ℕ → Result ⊤ Refusal
write_of room = cond (ltb room whole) (Err Short) (Ok tt)

unfoldable pub written_on : List ℕ → List ℕ → List ℕ
written_on values space = cond (ltb (length space) whole) space (sheet_of values ++ drop whole space)
