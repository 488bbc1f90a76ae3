-- What document 01 says of the addresses ("Stored parameters"), read a second time and by groups: which are stored, which may be read, written and broadcast, between which limits,
-- and with which defaults. By document 02 28h goes up to 3 (request (ix)), D2h is write only (request (ii)), and 35h is 0 alone (request (xii)).
-- Assumes nothing.
use Rattle.std.specs.Prelude.{ℕ, suc, Bool, true, cond, ◌&&◌, ◌||◌, List, [], ◌∷◌, eqb, leb, ℤ, pos}
use Rattle.signed.specs.Number.{minus, number_of}
use Rattle.rows.specs.Among.{among}

-- the 39 addresses, in the order in which a head keeps their values
unfoldable pub the39 : List ℕ
the39 =
    0x00 ∷ 0x01 ∷ 0x02 ∷ 0x03 ∷ 0x04 ∷ 0x05 ∷ 0x06 ∷ 0x07 ∷ 0x08 ∷ 0x09 ∷ 0x0A ∷ 0x0B ∷ 0x0C ∷ 0x0D ∷ 0x0E ∷ 0x0F
    ∷ 0x1B ∷ 0x1C ∷ 0x1E ∷ 0x1F ∷ 0x20 ∷ 0x21 ∷ 0x22 ∷ 0x28 ∷ 0x30 ∷ 0x31 ∷ 0x32 ∷ 0x33 ∷ 0x34 ∷ 0x35
    ∷ 0x39 ∷ 0x3A ∷ 0x3B ∷ 0x3C ∷ 0x3D ∷ 0x3E ∷ 0x3F ∷ 0x40 ∷ 0xD0 ∷ []

-- how many addresses stand before this one
abbrev pub place_in : List ℕ → ℕ → ℕ
place_in [] a = 0
place_in (x ∷ xs) a = cond (eqb a x) 0 (suc (place_in xs a))

unfoldable pub place : ℕ → ℕ
place a = place_in the39 a

abbrev pub within : ℕ → ℕ → ℕ → Bool
within low high a = leb low a && leb a high

-- ---- the access groups: the 39, FBh and FFh may be read and written
abbrev pub is_stored : ℕ → Bool
is_stored a = among the39 a

abbrev pub is_read_only : ℕ → Bool
is_read_only a = among (0x65 ∷ 0x67 ∷ 0x80 ∷ 0x96 ∷ 0xFA ∷ 0xFC ∷ 0xFD ∷ 0xFE ∷ []) a || within 0x81 0x8A a

abbrev pub is_write_only : ℕ → Bool
is_write_only a = among (0xA0 ∷ 0xA7 ∷ 0xA8 ∷ 0xAA ∷ 0xD2 ∷ []) a

unfoldable pub is_known : ℕ → Bool
is_known a = (is_stored a || among (0xFB ∷ 0xFF ∷ []) a) || (is_read_only a || is_write_only a)

unfoldable pub may_broadcast : ℕ → Bool
may_broadcast a = among (0xA0 ∷ 0xA8 ∷ 0xAA ∷ []) a

-- ---- the values that may be written: limits, and the addresses that have them
pub record Limits : Type 0 where
  pub low : ℤ
  pub high : ℤ
  pub addresses : List ℕ

abbrev from : ℤ → ℤ → List ℕ → Limits
from low high addresses = record { low = low; high = high; addresses = addresses }

abbrev pub limits : List Limits
limits =
    from (pos 0) (pos 0) (0x35 ∷ [])
    ∷ from (pos 0) (pos 1) (0x05 ∷ 0x06 ∷ 0x07 ∷ 0x08 ∷ 0x09 ∷ 0x0D ∷ 0x0E ∷ 0x1B ∷ 0x30 ∷ 0x32 ∷ 0x34 ∷ 0x39 ∷ 0x3A ∷ 0x3B ∷ 0x3C ∷ 0x3D ∷ 0x40 ∷ 0xA8 ∷ [])
    ∷ from (pos 0) (pos 2) (0x01 ∷ 0x03 ∷ 0x0C ∷ 0x21 ∷ 0x33 ∷ 0x3E ∷ [])
    ∷ from (pos 0) (pos 3) (0x0B ∷ 0x28 ∷ [])
    ∷ from (pos 0) (pos 4) (0x0A ∷ [])
    ∷ from (pos 0) (pos 8) (0x3F ∷ [])
    ∷ from (pos 0) (pos 20) (0x02 ∷ 0xD0 ∷ [])
    ∷ from (pos 0) (pos 9999) (0x20 ∷ 0x22 ∷ 0x31 ∷ [])
    ∷ from (pos 0) (pos 99999) (0x0F ∷ [])
    ∷ from (pos 1) (pos 1) (0xA7 ∷ 0xAA ∷ [])
    ∷ from (pos 1) (pos 9) (0xA0 ∷ [])
    ∷ from (pos 1) (pos 31) (0xD2 ∷ [])
    ∷ from (pos 1) (pos 60) (0x04 ∷ [])
    ∷ from (pos 1) (pos 127) (0x00 ∷ [])
    ∷ from (pos 1) (pos 65535) (0x1C ∷ [])
    ∷ from (minus 19999) (pos 19999) (0x1E ∷ [])
    ∷ from (minus 19999) (pos 99999) (0x1F ∷ [])
    ∷ []

-- FBh and FFh take any 32 bits, with a sign or without; of no other address without limits a value is ever looked at
abbrev pub any : Limits
any = from (minus 2147483648) (pos 4294967295) []

abbrev pub limits_in : List Limits → ℕ → Limits
limits_in [] a = any
limits_in (l ∷ ls) a = cond (among l.addresses a) l (limits_in ls a)

unfoldable pub limits_of : ℕ → Limits
limits_of a = limits_in limits a

-- of the values between them 3Eh takes 0 and 2, and A0h takes 1, 2, 5, 7, 8 and 9
unfoldable pub is_listed : ℕ → ℕ → Bool
is_listed a w = cond (eqb a 0x3E) (among (0 ∷ 2 ∷ []) w) (cond (eqb a 0xA0) (among (1 ∷ 2 ∷ 5 ∷ 7 ∷ 8 ∷ 9 ∷ []) w) true)

-- all four data bytes are read as signed for 1Eh, 1Fh and FFh, else as unsigned
unfoldable pub number_in : ℕ → ℕ → ℤ
number_in a w = cond (among (0x1E ∷ 0x1F ∷ 0xFF ∷ []) a) (number_of w) (pos w)

-- ---- the manual's default of each of the 39, and the bus parameters
unfoldable pub default_of : ℕ → ℕ
default_of a =
    cond (eqb a 0x00) 31
    (cond (among (0x01 ∷ 0x05 ∷ 0x07 ∷ 0x08 ∷ 0x09 ∷ 0x39 ∷ 0x3B ∷ 0x3C ∷ 0x3D ∷ 0x40 ∷ []) a) 1
    (cond (among (0x04 ∷ 0x20 ∷ []) a) 5
    (cond (eqb a 0x1C) 720 0)))

unfoldable pub is_bus : ℕ → Bool
is_bus a = among (0x00 ∷ 0x01 ∷ 0x02 ∷ 0x03 ∷ 0x0E ∷ 0xD0 ∷ []) a
