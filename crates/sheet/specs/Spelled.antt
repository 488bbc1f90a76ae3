-- A sheet the other way round: the bytes that spell rows of these addresses and values (document 02, request (vii)). That the bytes of a sheet are
-- just those that spell its rows is a law.
-- Assumes nothing.
use Rattle.std.specs.Prelude.{ℕ, zero, suc, ◌+◌, ◌<◌, List, [], ◌∷◌, ◌++◌, length, get_or}
use Rattle.wire.specs.Word.{byte0, byte1, byte2, byte3}
use Rattle.sheet.specs.Format.{count_of, address_of, value_of, body_place}

-- contents: of each row its address and the two-byte place of its body, the first body standing at p
abbrev pub contents_of : List ℕ → ℕ → List ℕ
contents_of [] p = []
contents_of (a ∷ addresses) p = a ∷ byte2 p ∷ byte3 p ∷ contents_of addresses (p + 4)

-- bodies: the four bytes of each value
abbrev pub bodies_of : List ℕ → List ℕ
bodies_of [] = []
bodies_of (w ∷ values) = byte0 w ∷ byte1 w ∷ byte2 w ∷ byte3 w ∷ bodies_of values

-- the count and the contents, then the bodies
abbrev pub front_of : List ℕ → List ℕ
front_of addresses = length addresses ∷ contents_of addresses (body_place (length addresses) 0)

unfoldable pub spelled_of : List ℕ → List ℕ → List ℕ
spelled_of addresses values = front_of addresses ++ bodies_of values

-- each address is above the one before it
abbrev pub Rising : List ℕ → Type 0
Rising addresses = (i j : ℕ) → i < j → j < length addresses → get_or addresses i 0 < get_or addresses j 0

-- each number is one that a byte, and one that four bytes, can hold
abbrev pub Bytes : List ℕ → Type 0
Bytes s = (k : ℕ) → get_or s k 0 < 256

abbrev pub Words : List ℕ → Type 0
Words values = (i : ℕ) → get_or values i 0 < 4294967296

-- the addresses and the values of a sheet's rows, in their order
abbrev pub listed : (ℕ → ℕ) → ℕ → List ℕ
listed f zero = []
listed f (suc n) = f 0 ∷ listed (λ i. f (suc i)) n

abbrev pub addresses_of : List ℕ → List ℕ
addresses_of s = listed (address_of s) (count_of s)

abbrev pub values_of : List ℕ → List ℕ
values_of s = listed (value_of s) (count_of s)
