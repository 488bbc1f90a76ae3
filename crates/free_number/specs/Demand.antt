-- What is asked of a keeper of a map (document 02, request (v)), of any keeper: by the bits of any two words, and by the rows of any calls.
-- Assumes nothing.
use Rattle.std.specs.Prelude.{ℕ, ◌+◌, ◌-◌, ◌*◌, ◌≤◌, ◌<◌, ◌/◌, ◌%◌, ◌^◌, ◌≡◌, Bool, true, false, cond, ◌≢◌, ◌↔◌, leb, eqb, length, Ok, Err, Result, ⊤, Some, None, Option}
use Rattle.std.specs.Int.Count.{ones}
use Rattle.rows.specs.Among.{among}
use Rattle.free_number.specs.declared.map.Map.{Map}
use Rattle.free_number.specs.declared.map.Change.{Change}
use Rattle.free_number.specs.Lowest.{count_of, lowest_of}
use Rattle.free_number.specs.Used.{refusal_of, used, empty_of, add_of, remove_of}
use Rattle.free_number.specs.Rows.{Call, adds, removes, Calls, start, ◌▸◌, refusal, rows_after}
use Rattle.free_number.specs.declared.answer.Refusal.{Refusal}

-- the calls on a map
pub record Keeper : Type 0 where
  pub empty : Map
  pub add : Map → ℕ → Change
  pub remove : Map → ℕ → Change
  pub lowest : Map → Option ℕ
  pub count : Map → ℕ

-- the keeper that the contracts speak of
abbrev pub product : Keeper
product = record { empty = empty_of; add = add_of; remove = remove_of; lowest = λ m. lowest_of (used m); count = λ m. count_of (used m) }

abbrev pub step : Keeper → Map → Call → Change
step k m (adds n) = k.add m n
step k m (removes n) = k.remove m n

-- the map after calls from the empty one
unfoldable pub after : Keeper → Calls → Map
after k start = k.empty
after k (cs ▸ c) = (step k (after k cs) c).map

-- 0 where the call is done, else the number of the refusal
abbrev pub number_of : Result ⊤ Refusal → ℕ
number_of (Ok tt) = 0
number_of (Err why) = refusal_of why

-- ---- the lowest free number
abbrev pub IsNode : ℕ → Type 0
IsNode n = (1 ≤ n) × (n ≤ 127)

-- it is free, and each below it is used; or all are
abbrev pub IsLowest : (ℕ → Bool) → Option ℕ → Type 0
IsLowest isUsed (Some n) = IsNode n × (isUsed n ≡ false) × ((i : ℕ) → 1 ≤ i → i < n → isUsed i ≡ true)
IsLowest isUsed None = (i : ℕ) → IsNode i → isUsed i ≡ true

-- ---- any two words
pub record Words (m : Map) : Type 0 where
  pub low_fits : m.low < 2 ^ 64
  pub high_fits : m.high < 2 ^ 64

-- number n by its word: 1 to 64 are bits 0 to 63 of the lower, 65 to 128 those of the upper
abbrev pub holds : Map → ℕ → Bool
holds m n = eqb (cond (leb n 64) (m.low / 2 ^ (n - 1)) (m.high / 2 ^ (n - 65)) % 2) 1

-- what a call that names number n leaves: that number used or not, and every other bit as it was, the 128th too
pub record Becomes (m : Map) (n : ℕ) (now : Bool) (next : Map) : Type 0 where
  pub words : Words next
  pub here : holds next n ≡ now
  pub others : (i : ℕ) → 1 ≤ i → i ≤ 128 → i ≢ n → holds next i ≡ holds m i

-- a call that makes number n used, or not used: 7, then 9 where it is so already; a refused call leaves the map as it was
pub record Makes (now : Bool) (m : Map) (n : ℕ) (c : Change) : Type 0 where
  pub seven : (IsNode n → ⊥) → (c.map ≡ m) × (number_of c.answer ≡ 7)
  pub nine : IsNode n → holds m n ≡ now → (c.map ≡ m) × (number_of c.answer ≡ 9)
  pub done : IsNode n → holds m n ≢ now → Becomes m n now c.map × (c.answer ≡ (Ok tt))

pub record Bits (k : Keeper) (m : Map) : Type 0 where
  pub adds : (n : ℕ) → Makes true m n (k.add m n)
  pub removes : (n : ℕ) → Makes false m n (k.remove m n)
  pub lowest : IsLowest (holds m) (k.lowest m)
  pub counts : k.count m ≡ count_of (holds m)
  -- the count of set bits, but the 128th
  pub set_bits : k.count m ≡ ones m.low + ones (m.high % 2 ^ 63)

-- ---- after any calls
pub record Reads (k : Keeper) (cs : Calls) : Type 0 where
  pub lowest : IsLowest (among (rows_after cs)) (k.lowest (after k cs))
  pub full : k.lowest (after k cs) ≡ None ↔ ((n : ℕ) → IsNode n → among (rows_after cs) n ≡ true)
  pub heads : k.count (after k cs) ≡ length (rows_after cs)
  pub answers : (c : Call) → number_of (step k (after k cs) c).answer ≡ refusal (rows_after cs) c
  pub unchanged : (c : Call) → refusal (rows_after cs) c ≢ 0 → (step k (after k cs) c).map ≡ after k cs

pub record Demanded (k : Keeper) : Type 0 where
  pub begins : k.empty ≡ record { low = 0; high = 0 }
  -- number n alone is bit n - 1, counted through both words
  pub alone : (n : ℕ) → IsNode n → let m = (k.add k.empty n).map in m.high * 2 ^ 64 + m.low ≡ 2 ^ (n - 1)
  pub any_words : (m : Map) → Words m → Bits k m
  pub any_calls : (cs : Calls) → Reads k cs
