-- Keepers of a map that are wrong, each in one thing: proofs/Wrongs shows that none does what is asked (Demand).
-- Assumes nothing.
use Rattle.std.specs.Prelude.{ℕ, zero, suc, ◌-◌, ◌%◌, ◌^◌, Bool, cond, List, [], ◌∷◌, ltb, Ok, Option}
use Rattle.std.specs.Int.Bits.{bit_xor}
use Rattle.head.specs.Calls.{node_fits}
use Rattle.free_number.specs.declared.map.Map.{Map}
use Rattle.free_number.specs.declared.map.Change.{Change}
use Rattle.free_number.specs.declared.answer.Refusal.TheVariants.{Outside, Taken, Unused}
use Rattle.free_number.specs.Lowest.{span, first_free, how_many, lowest_of, count_of}
use Rattle.free_number.specs.Used.{bit, used, empty_of, turned, refused, add_of, remove_of}
use Rattle.free_number.specs.Demand.{Keeper}

-- the keeper with other calls
abbrev changing : (Map → ℕ → Change) → (Map → ℕ → Change) → Keeper
changing add remove = record { empty = empty_of; add = add; remove = remove; lowest = λ m. lowest_of (used m); count = λ m. count_of (used m) }

-- and with other answers
abbrev answering : (Map → Option ℕ) → (Map → ℕ) → Keeper
answering lowest count = record { empty = empty_of; add = add_of; remove = remove_of; lowest = lowest; count = count }

-- the 128th bit is counted, and is offered
abbrev pub last_counted : Keeper
last_counted = answering (λ m. lowest_of (used m)) (λ m. how_many (used m) (span 1 128))

abbrev pub last_offered : Keeper
last_offered = answering (λ m. first_free (used m) (span 1 128)) (λ m. count_of (used m))

-- the highest free number, instead of the lowest
abbrev down : ℕ → List ℕ
down zero = []
down (suc n) = suc n ∷ down n

abbrev pub highest : Keeper
highest = answering (λ m. first_free (used m) (down 127)) (λ m. count_of (used m))

-- 64 stands in the upper word, and each number after it a place higher
abbrev used_elsewhere : Map → ℕ → Bool
used_elsewhere m n = cond (ltb n 64) (bit m.low (n - 1)) (bit m.high (n - 64))

abbrev turned_elsewhere : Map → ℕ → Change
turned_elsewhere m n =
    record {
      map = cond (ltb n 64) (record { low = bit_xor m.low (2 ^ (n - 1)); high = m.high }) (record { low = m.low; high = bit_xor m.high (2 ^ (n - 64)) });
      answer = Ok tt;
    }

abbrev pub elsewhere : Keeper
elsewhere =
    record {
      empty = empty_of;
      add = λ m n. cond (node_fits n) (cond (used_elsewhere m n) (refused m Taken) (turned_elsewhere m n)) (refused m Outside);
      remove = λ m n. cond (node_fits n) (cond (used_elsewhere m n) (turned_elsewhere m n) (refused m Unused)) (refused m Outside);
      lowest = λ m. lowest_of (used_elsewhere m);
      count = λ m. count_of (used_elsewhere m);
    }

-- a number that is removed stays used
abbrev pub never_removed : Keeper
never_removed = changing add_of (λ m n. record { map = m; answer = (remove_of m n).answer })

-- 9 before 7
abbrev pub nine_first : Keeper
nine_first =
    changing
    (λ m n. cond (used m n) (refused m Taken) (cond (node_fits n) (turned m n) (refused m Outside)))
    (λ m n. cond (used m n) (cond (node_fits n) (turned m n) (refused m Outside)) (refused m Unused))

-- a row that is refused 9 is taken for one more: the number is turned over all the same
abbrev pub refused_turns : Keeper
refused_turns = changing (λ m n. record { map = cond (node_fits n) (turned m n).map m; answer = (add_of m n).answer }) remove_of

-- the 128th bit is cleared by a call
abbrev pub last_cleared : Keeper
last_cleared = changing (λ m n. add_of (record { low = m.low; high = m.high % 2 ^ 63 }) n) remove_of
