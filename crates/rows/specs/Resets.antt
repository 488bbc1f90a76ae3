-- The bus parameters and the factory resets (document 01, "Stored parameters" and A0h of "What each one does").
-- Assumes nothing.
use Rattle.std.specs.Prelude.{ℕ, Bool, false, cond, not, ◌&&◌, List, [], ◌∷◌, eqb, ltb}
use Rattle.rows.specs.Among.{among}
use Rattle.rows.specs.Table.{row_of, address}

abbrev pub bus_addresses : List ℕ
bus_addresses = 0x00 ∷ 0x01 ∷ 0x02 ∷ 0x03 ∷ 0x0E ∷ 0xD0 ∷ []

-- the place is one of the 39
abbrev pub is_place : ℕ → Bool
is_place i = ltb i 39

unfoldable pub bus_of : ℕ → Bool
bus_of i = is_place i && among bus_addresses (address (row_of i))

-- 1 touches all 39, 2 all but the bus six, 5 the bus six, and no other system command any
unfoldable pub resets_of : ℕ → ℕ → Bool
resets_of command i =
    cond (eqb command 1) (is_place i)
    (cond (eqb command 2) (is_place i && not (bus_of i))
    (cond (eqb command 5) (bus_of i) false))
