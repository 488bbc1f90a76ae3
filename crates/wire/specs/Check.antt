-- The check sum (document 01, "Ten bytes"; manual 6.3.7).
-- Assumes nothing.
use Rattle.std.specs.Prelude.{ℕ, List, [], ◌∷◌, ◌++◌, fold}
use Rattle.std.specs.Int.Bits.{bit_xor}

-- the exclusive-or of a and all bytes, from the left
abbrev pub xor_onto : ℕ → List ℕ → ℕ
xor_onto a bs = fold bit_xor a bs

abbrev pub xor_all : List ℕ → ℕ
xor_all bs = xor_onto 0 bs

-- the check of ten bytes (document 02, request (i)): all ten together. They give 0 where they are sound; a bit is set where it was hit in an odd
-- number of bytes
unfoldable pub hit_of : List ℕ → ℕ
hit_of ten = xor_all ten

-- bytes with the exclusive-or of them all as the last
abbrev pub with_check : List ℕ → List ℕ
with_check bs = bs ++ (xor_all bs ∷ [])
