-- The map of used numbers, two words of 64 bits, and what its calls answer (document 02, request (v)).
-- Assumes nothing.
use Rattle.std.specs.Prelude.{ℕ, ◌+◌, ◌-◌, ◌*◌, ◌/◌, ◌%◌, ◌^◌, Bool, true, false, cond, eqb, Ok, Err}
use Rattle.std.specs.Bool.{beq}
use Rattle.std.specs.Int.Bits.{bit_xor}
use Rattle.head.specs.Calls.{node_fits}
use Rattle.free_number.specs.declared.map.Map.{Map}
use Rattle.free_number.specs.declared.map.Change.{Change}
use Rattle.free_number.specs.declared.answer.Refusal.{Refusal}
use Rattle.free_number.specs.declared.answer.Refusal.TheVariants.{Outside, Taken, Unused}

-- the document's numbers
abbrev pub refusal_of : Refusal → ℕ
refusal_of Outside = 7
refusal_of Taken = 9
refusal_of Unused = 9

-- ---- the bits
-- whether the bit of a word at a place, counted from 0, is set
unfoldable pub bit : ℕ → ℕ → Bool
bit word place = eqb (word / 2 ^ place % 2) 1

-- both words as one number, so that bits are counted through both; and the words of such a number
unfoldable pub whole : Map → ℕ
whole m = m.high * 2 ^ 64 + m.low

unfoldable pub of_whole : ℕ → Map
of_whole w = record { low = w % 2 ^ 64; high = w / 2 ^ 64 }

-- number n is at bit n - 1
unfoldable pub used : Map → ℕ → Bool
used m n = bit (whole m) (n - 1)

abbrev pub empty_of : Map
empty_of = record { low = 0; high = 0 }

-- the bit of number n turned over
unfoldable pub flipped : Map → ℕ → Map
flipped m n = of_whole (bit_xor (whole m) (2 ^ (n - 1)))

-- ---- the calls: 7 goes before 9, and a refused call leaves the map as it was
abbrev pub turned : Map → ℕ → Change
turned m n = record { map = flipped m n; answer = Ok tt }

abbrev pub refused : Map → Refusal → Change
refused m why = record { map = m; answer = Err why }

-- number n is to be used, or not to be; it may be so already
abbrev pub make_of : Map → ℕ → Bool → Refusal → Change
make_of m n now already = cond (node_fits n) (cond (beq (used m n) now) (refused m already) (turned m n)) (refused m Outside)

unfoldable pub add_of : Map → ℕ → Change
add_of m n = make_of m n true Taken

unfoldable pub remove_of : Map → ℕ → Change
remove_of m n = make_of m n false Unused
