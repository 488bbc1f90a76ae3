-- The bits of a word by their numbers, the lowest being bit 0.
-- Assumes nothing.
use Rattle.std.specs.Prelude.{ℕ, ◌/◌, ◌%◌, ◌^◌, Bool, cond, eqb}

-- the word that has bit n alone where it is on, and else none
abbrev pub bit : ℕ → Bool → ℕ
bit n on = cond on (2 ^ n) 0

-- bit n of a word is set
abbrev pub bit_set : ℕ → ℕ → Bool
bit_set word n = eqb (word / 2 ^ n % 2) 1
