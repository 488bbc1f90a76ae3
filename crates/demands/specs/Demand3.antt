-- Demand 3, over every list of calls on a line grown from none, refused ones included: each stored parameter of each head, read back then or
-- after a power cut, has the value of that head's last accepted write or factory reset touching it, else its delivery value. Acceptance and
-- the number in force are found by looking back over the calls (Past), never read from the head. While the numbers in force differ, no byte
-- call draws two replies, and one that ends no broadcast changes the stored parameters of one head at most. It is asked of any machine that
-- takes the calls (Run), so that a wrong one can be shown to fail it.
-- Assumes nothing.
use Rattle.std.specs.Prelude.{ℕ, suc, ◌<◌, ◌≤◌, ◌≡◌, true, ◌≢◌, ◌⊎◌, List, [], ◌∷◌, length, get_or, Ok}
use Rattle.std.proofs.Math.Option.{Option, none, some}
use Rattle.wire.specs.Check.{hit_of}
use Rattle.wire.specs.Telegram.{fields_of}
use Rattle.rows.specs.Table.{row_of, address}
use Rattle.demands.specs.Calls.{Call, Calls, ◌▸◌, byte, named, power, Bytes}
use Rattle.demands.specs.Past.{since, gather, change, count, serials, entry, value, in_force}
use Rattle.demands.specs.Run.{Machine, runs, head_after, answers, read_of}

-- what the call c, after the calls cs, gave the parameter at place r of head k: by its making, by an accepted write or by a factory reset
abbrev pub touch : Calls → Call → ℕ → ℕ → Option ℕ
touch cs c k r = (change c (count cs) (serials cs) k (entry cs k)).gives r

-- v is what the last of the calls that touched the parameter at place r of head k gave it
pub data Last (k r v : ℕ) : Calls → Type 0 where
  here : {cs : Calls} {c : Call} → touch cs c k r ≡ some v → Last k r v (cs ▸ c)
  earlier : {cs : Calls} {c : Call} → touch cs c k r ≡ none → Last k r v cs → Last k r v (cs ▸ c)

-- no byte comes more than 10 ms after the one before it
abbrev pub Steady : (ℕ → ℕ) → Type 0
Steady τ = (i : ℕ) → since (τ (suc i)) (τ i) ≤ 10

-- the numbers in force differ
pub record Differ (cs : Calls) : Type 0 where
  pub differ : (i j : ℕ) → i < count cs → j < count cs → i ≢ j → in_force cs i ≢ in_force cs j

-- a byte that is heard ends no sound broadcast at any head: its ten bytes, where it ends a telegram, are damaged or not of the command 02h
pub record NoBroadcast (cs : Calls) (b t s : ℕ) : Type 0 where
  pub none_ends : (k : ℕ) → k < count cs → 10 ≤ s → length (gather (entry cs k).ear b t) ≡ 10
      → hit_of (gather (entry cs k).ear b t) ≡ 0 → (fields_of (gather (entry cs k).ear b t)).command ≢ 2

-- x is a sound reply for the parameter at place r, and its data are v
pub record Shows (r v : ℕ) (x : List ℕ) : Type 0 where
  pub passes : hit_of x ≡ 0
  pub own : (fields_of x).parameter ≡ address (row_of r)
  pub shown : (fields_of x).value ≡ v

-- head h alone, with no bytes gathered, has just one reply to a sound read of the parameter at place r at the number f, whatever else the read
-- holds and whatever space of ten bytes or more is lent; the reply shows v
pub record ReadsBack (m : Machine) (h : m.Head) (f r v : ℕ) : Type 0 where
  pub reads_back : (τ : ℕ → ℕ) (word data' : ℕ) (space : List ℕ) → Steady τ → 10 ≤ length space
      → (x : List ℕ) × (answers m (read_of f (address (row_of r)) word data') τ 0 (m.emptied h) space ≡ x ∷ []) × Shows r v x

-- the value that looking back finds is read back, then or after a power cut
pub record Holds (m : Machine) (cs : Calls) (k r : ℕ) : Type 0 where
  pub is_last : Last k r (value cs k r) cs
  pub now : ReadsBack m (head_after m cs k) (in_force cs k) r (value cs k r)
  pub after_cut : ReadsBack m (head_after m (cs ▸ named k power) k) (in_force (cs ▸ named k power) k) r (value cs k r)

-- the stored parameters of head k are the same after the byte
abbrev pub Unchanged : Machine → Calls → ℕ → ℕ → ℕ → ℕ → Type 0
Unchanged m cs b t s k = m.values (head_after m (cs ▸ byte b t s) k) ≡ m.values (head_after m cs k)

pub record Demand3 (m : Machine) : Type 0 where
  -- the line has the heads that the account counts, 32 at most, and is never refused with 20
  pub thirty_two : (cs : Calls) → (m.count (runs m cs) ≡ count cs) × (count cs ≤ 32) × (m.fits (runs m cs) ≡ true)
  -- the account's serial numbers are as many, and each is the one that the head hands out
  pub serial : (cs : Calls) → (length (serials cs) ≡ count cs) × ((k : ℕ) → k < count cs → m.serial (head_after m cs k) ≡ get_or (serials cs) k 0)
  -- the account's number in force is the one that the head hands out
  pub in_force_lem : (cs : Calls) (k : ℕ) → k < count cs → m.number (head_after m cs k) ≡ in_force cs k
  -- for bytes of eight bits, as the type of the byte call has them
  pub holds : (cs : Calls) (k r : ℕ) → Bytes cs → k < count cs → r < 39 → Holds m cs k r
  -- the number of replies that a byte call returns
  pub one_reply : (cs : Calls) (b t s n : ℕ) → Differ cs → m.heard (runs m cs) b t s ≡ Ok n → n ≤ 1
  pub one_change : (cs : Calls) (b t s : ℕ) → Differ cs → NoBroadcast cs b t s
      → (i j : ℕ) → i < count cs → j < count cs → i ≢ j → Unchanged m cs b t s i ⊎ Unchanged m cs b t s j
