-- The edges of refusal 20 (document 01, "The line, and calls refused"; document 02, requests (ii) and (xii)): for each of its clauses two heads that are as delivered but for one
-- thing, which in the first lies just at its limit and in the second just past it.
-- Assumes nothing.
use Rattle.std.specs.Prelude.{ℕ, suc, Bool, true, false, cond, not, ◌&&◌, List, [], ◌∷◌, ◌++◌, map, eqb, ℤ, pos, nat_abs, ◌+ℤ◌, ◌-ℤ◌, set, replicate}
use Rattle.signed.specs.Number.{minus, word_of}
use Rattle.rows.specs.declared.table.Row.{Row}
use Rattle.rows.specs.Table.{address, low, high, delivery, rows}
use Rattle.state.specs.declared.parts.Head.{Head}
use Rattle.state.specs.declared.parts.Stored.{Stored}
use Rattle.state.specs.declared.parts.ErrorList.{ErrorList}
use Rattle.state.specs.declared.parts.Faults.{Faults}
use Rattle.state.specs.declared.parts.Measurement.{Measurement}
use Rattle.state.specs.Wellformed.{wellformed_of}

-- ---- the parts that refusal 20 looks at, by what it looks at
abbrev stored : List ℕ → ℕ → ℕ → Stored
stored values number offer = record { values = values; number = number; baud = 1; offer = offer; serial = 0; unlocked = false }

abbrev list : ℕ → ErrorList
list count = record { codes = replicate 10 0; count = count }

abbrev faults : ℕ → ℕ → ℕ → Faults
faults memory inputs damaged = record { memory = list memory; inputs = list inputs; pending = 0; hit = 0; damaged = damaged }

abbrev measurement : ℤ → ℤ → Bool → ℤ → ℕ → ℤ → Measurement
measurement m zero incremental start adopted kept =
    record { m = m; zero = zero; adopted = adopted; incremental = incremental; start = start; frozen = false; kept = kept }

abbrev head : Stored → Faults → Measurement → ℕ → ℕ → Head
head s f g gathered keys =
    record {
      stored = s;
      faults = f;
      measurement = g;
      targets = record { first = 0; valid1 = false; second = 0; valid2 = false; word = 0; reached = false; acknowledged1 = false; acknowledged2 = false };
      monitor = record { running = false; since = 0 };
      ear = record { bytes = replicate 10 0; count = gathered; at = 0 };
      keys = keys;
    }

-- as delivered
abbrev values : List ℕ
values = map delivery rows

abbrev delivered : Stored
delivered = stored values 31 0

abbrev clear : Faults
clear = faults 0 0 0

abbrev still : Measurement
still = measurement (pos 0) (pos 0) false (pos 0) 0 (pos 0)

-- ---- a head as delivered but for one thing
abbrev pub memory : ℕ → Head
memory n = head delivered (faults n 0 0) still 0 0

abbrev pub inputs : ℕ → Head
inputs n = head delivered (faults 0 n 0) still 0 0

abbrev pub damaged : ℕ → Head
damaged n = head delivered (faults 0 0 n) still 0 0

abbrev pub gathered : ℕ → Head
gathered n = head delivered clear still n 0

-- the word at place i of the 39
abbrev pub value : ℕ → ℕ → Head
value i word = head (stored (set values i word) 31 0) clear still 0 0

abbrev pub number : ℕ → Head
number n = head (stored values n 0) clear still 0 0

-- the number that is offered, and the number in force where one is
abbrev pub offered : ℕ → Head
offered n = head (stored values 31 n) clear still 0 0

abbrev pub offered_at : ℕ → Head
offered_at n = head (stored values n 5) clear still 0 0

abbrev pub measured : ℤ → Head
measured m = head delivered clear (measurement m (pos 0) false (pos 0) 0 (pos 0)) 0 0

abbrev pub zeroed : ℤ → Head
zeroed m = head delivered clear (measurement (pos 0) m false (pos 0) 0 (pos 0)) 0 0

abbrev pub started : ℤ → Head
started m = head delivered clear (measurement (pos 0) (pos 0) false m 0 (pos 0)) 0 0

abbrev pub switched : Bool → Head
switched on = head delivered clear (measurement (pos 0) (pos 0) on (pos 0) 0 (pos 0)) 0 0

-- the adopted value, by its number
abbrev pub adopted : ℤ → Head
adopted v = head delivered clear (measurement (pos 0) (pos 0) false (pos 0) (word_of v) (pos 0)) 0 0

abbrev pub kept : ℤ → Head
kept v = head delivered clear (measurement (pos 0) (pos 0) false (pos 0) 0 v) 0 0

abbrev pub keys : ℕ → Head
keys k = head delivered clear still 0 k

-- ---- the edges
pub record Edge : Type 0 where
  pub within : Head
  pub past : Head

abbrev edge : {A : Type 0} → (A → Head) → A → A → Edge
edge f last first = record { within = f last; past = f first }

-- of a row: below low, where a word can be, above high, and of 3Eh, which takes 0 and 2, between them
abbrev row_edges : ℕ → Row → List Edge
row_edges i r =
    cond (eqb (nat_abs (low r)) 0) [] (edge (value i) (word_of (low r)) (word_of (low r -ℤ pos 1)) ∷ [])
    ++ edge (value i) (word_of (high r)) (word_of (high r +ℤ pos 1))
    ∷ cond (eqb (address r) 0x3E) (edge (value i) 0 1 ∷ []) []

-- of all rows, the first being that of place i
abbrev edges_from : ℕ → List Row → List Edge
edges_from i [] = []
edges_from i (r ∷ rs) = row_edges i r ++ edges_from (suc i) rs

-- what the head is changed in, its last value, and the first that refusal 20 is given for
unfoldable pub edges : List Edge
edges =
    edge memory 10 11
    ∷ edge inputs 10 11
    ∷ edge gathered 9 10
    ∷ edge damaged 2 3
    ∷ edge number 1 0
    ∷ edge number 127 128
    ∷ edge offered 31 32
    ∷ edge offered_at 31 30
    ∷ edge offered_at 31 32
    ∷ edge measured (minus 2500000) (minus 2500001)
    ∷ edge measured (pos 2500000) (pos 2500001)
    ∷ edge zeroed (minus 2500000) (minus 2500001)
    ∷ edge zeroed (pos 2500000) (pos 2500001)
    ∷ edge started (minus 2500000) (minus 2500001)
    ∷ edge started (pos 2500000) (pos 2500001)
    ∷ edge switched false true
    ∷ edge adopted (minus 19999) (minus 20000)
    ∷ edge adopted (pos 99999) (pos 100000)
    ∷ edge kept (minus 5242880) (minus 5242881)
    ∷ edge kept (pos 5242880) (pos 5242881)
    ∷ edge keys 7 8
    ∷ edges_from 0 rows

-- of each edge the head within is well-formed and the one past it is not
abbrev pub sharp : List Edge → Bool
sharp [] = true
sharp (e ∷ es) = (wellformed_of e.within && not (wellformed_of e.past)) && sharp es
