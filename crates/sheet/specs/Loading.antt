-- Whether a sheet may be loaded, and what loading does to the stored values (document 02, request (vii); sheets of older heads: request (xii)): 11 goes
-- before 12, and 12 before 13.
-- Assumes nothing.
use Rattle.std.specs.Prelude.{ℕ, zero, suc, Bool, cond, ◌&&◌, List, eqb, set, Some, None, Option, Ok, Err, Result, ⊤}
use Rattle.rows.specs.Table.{place_of, is_at}
use Rattle.rows.specs.Ranges.{range_of, is_right}
use Rattle.sheet.specs.declared.refusal.Refusal.TheVariants.{Malformed, NotStored, OutOfRow}
use Rattle.sheet.specs.declared.load.Loaded.{Loaded}
use Rattle.sheet.specs.Each.{each}
use Rattle.sheet.specs.Format.{count_of, address_of, value_of, well_formed_of}
use Rattle.sheet.specs.declared.refusal.Refusal.{Refusal}

-- what a row of this address and value writes: 35h at 1, as the sheets of older heads may have it, is a write of 0; any other value is written as it stands
unfoldable pub meant_of : ℕ → ℕ → ℕ
meant_of address value = cond (eqb address 0x35 && eqb value 1) 0 value

abbrev pub meant_at : List ℕ → ℕ → ℕ
meant_at s i = meant_of (address_of s i) (value_of s i)

-- row i: its address is among the 39; what it writes lies in the row of that address
unfoldable pub known_of : List ℕ → ℕ → Bool
known_of s i = is_at (place_of (address_of s i))

unfoldable pub fitting_of : List ℕ → ℕ → Bool
fitting_of s i = is_right (range_of (address_of s i) (meant_at s i))

-- of all rows
abbrev pub all_known_of : List ℕ → Bool
all_known_of s = each (known_of s) (count_of s)

abbrev pub all_fitting_of : List ℕ → Bool
all_fitting_of s = each (fitting_of s) (count_of s)

-- no address is looked at before the whole sheet is, and no value before all addresses are
unfoldable pub check_of : List ℕ → Result ⊤ Refusal
check_of s =
    cond (well_formed_of s)
    (cond (all_known_of s) (cond (all_fitting_of s) (Ok tt) (Err OutOfRow)) (Err NotStored))
    (Err Malformed)

-- an accepted write of a stored parameter
abbrev pub store_at : Option ℕ → List ℕ → ℕ → List ℕ
store_at (Some i) values word = set values i word
store_at None values word = values

unfoldable pub store_of : List ℕ → ℕ → ℕ → List ℕ
store_of values address word = store_at (place_of address) values word

-- the values after a write of each of the first n rows, in row order
abbrev pub stored_rows : List ℕ → List ℕ → ℕ → List ℕ
stored_rows values s zero = values
stored_rows values s (suc n) = store_of (stored_rows values s n) (address_of s n) (meant_at s n)

-- all or nothing
abbrev pub loaded_by : Result ⊤ Refusal → List ℕ → List ℕ → List ℕ
loaded_by (Ok tt) values s = stored_rows values s (count_of s)
loaded_by (Err why) values s = values

unfoldable pub load_of : List ℕ → List ℕ → Loaded
load_of values s = record { values = loaded_by (check_of s) values s; answer = check_of s }
