-- The access group of each parameter address (document 01, "Stored parameters": each falls in exactly one; D2h: document 02, request (ii)).
-- Assumes nothing.
use Rattle.std.specs.Prelude.{ℕ, Bool, cond, ◌||◌, List, [], ◌∷◌, map}
use Rattle.rows.specs.declared.access.Access.{Access}
use Rattle.rows.specs.declared.access.Access.TheVariants.{ReadWrite, ReadOnly, WriteOnly, Unknown}
use Rattle.rows.specs.Among.{among}
use Rattle.rows.specs.Table.{rows, address}

-- the addresses of the 39
abbrev pub stored : List ℕ
stored = map address rows

abbrev pub set_points : List ℕ
set_points = 0xFB ∷ 0xFF ∷ []

abbrev pub read_only : List ℕ
read_only =
    0x65 ∷ 0x67 ∷ 0x80 ∷ 0x81 ∷ 0x82 ∷ 0x83 ∷ 0x84 ∷ 0x85 ∷ 0x86 ∷ 0x87 ∷ 0x88 ∷ 0x89 ∷ 0x8A ∷ 0x96 ∷ 0xFA ∷ 0xFC ∷ 0xFD ∷ 0xFE ∷ []

abbrev pub write_only : List ℕ
write_only = 0xA0 ∷ 0xA7 ∷ 0xA8 ∷ 0xAA ∷ 0xD2 ∷ []

unfoldable pub access_of : ℕ → Access
access_of a =
    cond (among stored a || among set_points a) ReadWrite
    (cond (among read_only a) ReadOnly
    (cond (among write_only a) WriteOnly Unknown))

-- of the write only ones, these may be broadcast
unfoldable pub broadcast_of : ℕ → Bool
broadcast_of a = among (0xA0 ∷ 0xA8 ∷ 0xAA ∷ []) a
