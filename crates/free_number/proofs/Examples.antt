-- Maps and calls, and what is answered, computed by the definitions; worked out by hand from document 02.
-- Assumes nothing.
use Rattle.std.specs.Prelude.{Ok, Err, Some, None, Option}
use Prim.Native.Nat.{ℕ, ◌+◌, ◌-◌, ◌^◌}
use mathlib.Core.Path.{◌≡◌, refl}
use mathlib.Core.List.{List, [], ◌∷◌}
use Rattle.head.proofs.Nodes.{node_same}
use Rattle.free_number.specs.declared.map.Map.{Map}
use Rattle.free_number.specs.declared.map.Change.{Change}
use Rattle.free_number.specs.declared.answer.Refusal.{Refusal}
use Rattle.free_number.specs.declared.answer.Refusal.TheVariants.{Outside, Taken, Unused}
use Rattle.free_number.specs.Lowest.{span, first_free, how_many, lowest_of, count_of}
use Rattle.free_number.specs.Used.{bit, whole, of_whole, used, flipped, add_of, remove_of}
use Rattle.free_number.specs.Rows.{Calls, adds, removes, start, ◌▸◌, without, refusal, done, rows_after}

-- ---- two words, the lowest number that is free, and how many are used
record Case : Type 0 where
  map : Map
  lowest : Option ℕ
  count : ℕ

abbrev case : ℕ → ℕ → Option ℕ → ℕ → Case
case low high lowest count = record { map = record { low = low; high = high }; lowest = lowest; count = count }

abbrev Hold : List Case → Type 0
Hold [] = Unit {0}
Hold (c ∷ cs) = (lowest_of (used c.map) ≡ c.lowest) × (count_of (used c.map) ≡ c.count) × Hold cs

abbrev maps : List Case
maps =
    case 0 0 (Some 1) 0
    ∷ case 1 0 (Some 2) 1
    ∷ case 0b1011 0 (Some 3) 3
    ∷ case (2 ^ 63 - 1) 0 (Some 64) 63
    ∷ case (2 ^ 64 - 1) 0 (Some 65) 64
    ∷ case (2 ^ 64 - 1) 1 (Some 66) 65
    ∷ case (2 ^ 64 - 1) (2 ^ 62 - 1) (Some 127) 126
    ∷ case (2 ^ 64 - 1) (2 ^ 63 - 1) None 127
    ∷ case (2 ^ 63) (2 ^ 62) (Some 1) 2
    -- the 128th bit is ignored
    ∷ case 0 (2 ^ 63) (Some 1) 0
    ∷ case (2 ^ 64 - 1) (2 ^ 63 + 2 ^ 62 - 1) (Some 127) 126
    ∷ case (2 ^ 64 - 1) (2 ^ 64 - 1) None 127
    ∷ []

hold : Hold maps
unfolding lowest_of first_free count_of how_many span used whole bit
hold =
    (refl, refl, (refl, refl, (refl, refl, (refl, refl, (refl, refl, (refl, refl, (refl, refl, (refl, refl, (refl, refl, (refl, refl, (refl, refl, (refl, refl, tt))))))))))))

-- ---- two words, and what a call makes of them
abbrev words : ℕ → ℕ → Map
words low high = record { low = low; high = high }

abbrev now : ℕ → ℕ → Change
now low high = record { map = words low high; answer = Ok tt }

abbrev still : ℕ → ℕ → Refusal → Change
still low high why = record { map = words low high; answer = Err why }

record Changes : Type 0 where
  first : add_of (words 0 0) 1 ≡ now 1 0
  last_of_low : add_of (words 1 0) 64 ≡ now (2 ^ 63 + 1) 0
  first_of_high : add_of (words 1 0) 65 ≡ now 1 1
  last : add_of (words 0 0) 127 ≡ now 0 (2 ^ 62)
  gone : remove_of (words (2 ^ 63 + 1) 1) 64 ≡ now 1 1
  gone_high : remove_of (words 1 1) 65 ≡ now 1 0
  -- the 128th bit stays as it was
  beside_last : add_of (words 0 (2 ^ 63)) 127 ≡ now 0 (2 ^ 63 + 2 ^ 62)
  beside_gone : remove_of (words 1 (2 ^ 63)) 1 ≡ now 0 (2 ^ 63)
  -- refused: nothing changes, and 7 goes before 9
  used_twice : add_of (words 0 1) 65 ≡ still 0 1 Taken
  not_used : remove_of (words 0 1) 1 ≡ still 0 1 Unused
  none : add_of (words 1 0) 0 ≡ still 1 0 Outside
  no_such : add_of (words 0 (2 ^ 63)) 128 ≡ still 0 (2 ^ 63) Outside
  nor_gone : remove_of (words 0 0) 128 ≡ still 0 0 Outside

changes : Changes
unfolding add_of remove_of used flipped whole of_whole bit
changes =
    record {
      first = simp node_same;
      last_of_low = simp node_same;
      first_of_high = simp node_same;
      last = simp node_same;
      gone = simp node_same;
      gone_high = simp node_same;
      beside_last = simp node_same;
      beside_gone = simp node_same;
      used_twice = simp node_same;
      not_used = simp node_same;
      none = simp node_same;
      no_such = simp node_same;
      nor_gone = simp node_same;
    }

-- ---- calls: 2 is added twice and removed once, 1 goes again, 65 is added twice and is one row; 128 is refused 7, and 3 is refused 9
abbrev some_calls : Calls
some_calls = start ▸ adds 1 ▸ adds 2 ▸ adds 65 ▸ adds 2 ▸ adds 128 ▸ removes 1 ▸ removes 3 ▸ adds 127 ▸ removes 2 ▸ adds 64 ▸ adds 65

rows_are : rows_after some_calls ≡ 64 ∷ 127 ∷ 65 ∷ []
unfolding rows_after refusal done without
rows_are = refl

-- the refusals of the calls after those: 7 goes before 9
refused_are : (refusal (rows_after some_calls) (adds 0) ≡ 7) × (refusal (rows_after some_calls) (removes 128) ≡ 7) × (refusal (rows_after some_calls) (adds 65) ≡ 9)
    × (refusal (rows_after some_calls) (removes 2) ≡ 9) × (refusal (rows_after some_calls) (adds 2) ≡ 0) × (refusal (rows_after some_calls) (removes 127) ≡ 0)
unfolding rows_after refusal done without
refused_are = (refl, refl, refl, refl, refl, refl)
