-- What an accepted order form is worth: a line that is grown by its rows. It is asked of any system, and of any check that does what is asked of it
-- (the crate order_form, Demand). It ends in the last sentence of demand 3, whose condition, that the numbers in force differ, the form meets.
-- Assumes nothing.
use Rattle.std.specs.Prelude.{ℕ, zero, suc, ◌<◌, ◌≤◌, ◌≡◌, ◌≢◌, ◌⊎◌, List, [], ◌∷◌, ◌++◌, length, take, Ok}
use Rattle.std.proofs.Math.Option.{none, some}
use Rattle.order_form.specs.declared.row.Row.{Row}
use Rattle.order_form.specs.declared.row.Column.TheVariants.{Serial, Number}
use Rattle.order_form.specs.declared.answer.Answer.{Answer}
use Rattle.order_form.specs.declared.answer.Answer.TheVariants.{AllDiffer, Repeats}
use Rattle.order_form.specs.Demand.{at, Demanded}
use Rattle.demands.specs.Calls.{power, new_head, named, Calls, start, ◌▸◌, hearing}
use Rattle.demands.specs.Past.{count}
use Rattle.demands.specs.Run.{System, machine_of, runs, head_after}
use Rattle.demands.specs.Demand1.{refused_as, Demand1}
use Rattle.demands.specs.Demand3.{touch, Differ, NoBroadcast, Unchanged, Demand3}

-- a line grown by the number and the serial of each row, in the rows' order: after other calls, and from none
abbrev pub growing : Calls → List Row → Calls
growing cs [] = cs
growing cs (r ∷ rows) = growing (cs ▸ new_head r.node r.serial) rows

abbrev pub grown_by : List Row → Calls
grown_by rows = growing start rows

-- calls, and then others
infixl 55 ◌then◌
abbrev pub ◌then◌ : Calls → Calls → Calls
cs then start = cs
cs then (ds ▸ d) = (cs then ds) ▸ d

-- After the calls cs, none of the calls ds gives a head that is there then its node number: no head is made, and 00h, which stands at place 0, is
-- neither written, by a telegram or from a sheet, nor reset. Restarts, power cuts, broadcasts, damaged telegrams, writes to every other parameter, and writes to 00h that no head
-- accepts may be among them.
abbrev pub Unnumbered : Calls → Calls → Type 0
Unnumbered cs start = Unit {0}
Unnumbered cs (ds ▸ d) = Unnumbered cs ds × ((k : ℕ) → k < count ((cs then ds) ▸ d) → touch (cs then ds) d k 0 ≡ none)

pub record Ordered (m : System) (rows : List Row) : Type 0 where
  -- growing the line by a row, after those before it, is not refused
  pub grows : (i : ℕ) → i < length rows
      → refused_as m.on_line_of (new_head (at Number rows i) (at Serial rows i)) (runs (machine_of m) (grown_by (take i rows))) ≡ none
  -- then there is a head for each row, and the numbers that it hands out, its serial number and the one in force, are the row's
  pub heads : count (grown_by rows) ≡ length rows
  pub in_force_lem : (i : ℕ) → i < length rows → (machine_of m).number (head_after (machine_of m) (grown_by rows) i) ≡ at Number rows i
  pub serial : (i : ℕ) → i < length rows → (machine_of m).serial (head_after (machine_of m) (grown_by rows) i) ≡ at Serial rows i
  -- from there on, until a head is given a number, the numbers in force differ
  pub differ : (cs : Calls) → Unnumbered (grown_by rows) cs → Differ (grown_by rows then cs)
  -- so no byte call draws two replies, and one that ends no broadcast changes the stored parameters of one head at most
  pub one_reply : (cs : Calls) (b t s n : ℕ) → Unnumbered (grown_by rows) cs
      → (machine_of m).heard (runs (machine_of m) (grown_by rows then cs)) b t s ≡ Ok n → n ≤ 1
  pub one_change : (cs : Calls) (b t s : ℕ) → Unnumbered (grown_by rows) cs → NoBroadcast (grown_by rows then cs) b t s
      → (i j : ℕ) → i < length rows → j < length rows → i ≢ j
      → Unchanged (machine_of m) (grown_by rows then cs) b t s i ⊎ Unchanged (machine_of m) (grown_by rows then cs) b t s j

-- so it is for every accepted form of 32 rows at most
abbrev pub FormsAreSafe : System → (List Row → Answer) → Type 0
FormsAreSafe m check = (rows : List Row) → check rows ≡ AllDiffer → length rows ≤ 32 → Ordered m rows

-- it rests on what is promised of the check and of the calls, and on nothing else
abbrev pub Rests : Type 0
Rests = (m : System) (check : List Row → Answer) → Demanded check → Demand1 m → Demand3 (machine_of m) → FormsAreSafe m check

-- ---- the accident that an accepted form rules out: two heads got one node number. The form is sent back; a line grown by it all the same
-- answers the read of 20h at that number twice
abbrev pub accident : List Row
accident = record { serial = 4711; node = 31 } ∷ record { serial = 4712; node = 31 } ∷ []

-- and its twin: one serial in two rows
abbrev pub twin : List Row
twin = record { serial = 4711; node = 31 } ∷ record { serial = 4711; node = 12 } ∷ []

-- the read of 20h at 31, but for its last byte
abbrev pub asking : Calls
asking = hearing start (0x00 ∷ 0x1F ∷ 0x20 ∷ 0 ∷ 0 ∷ 0 ∷ 0 ∷ 0 ∷ 0 ∷ [])

pub record Accident (m : System) (check : List Row → Answer) : Type 0 where
  pub sent_back : check accident ≡ Repeats Number 1 0
  pub collides : (machine_of m).heard (runs (machine_of m) (grown_by accident then asking)) 0x3F 0 10 ≡ Ok 2
  -- the twin is sent back for its serial, and a line refuses its second row
  pub twin_sent_back : check twin ≡ Repeats Serial 1 0
  pub twin_refused : Ordered m twin → ⊥
  -- so a check that lets every form pass is not enough
  pub needed : FormsAreSafe m (λ rows. AllDiffer) → ⊥

-- ---- an accepted form of eight rows, and calls from there on that give no head its number: the broadcast of A0h 9, which restarts all; a write to 20h
-- at 11; a write to 00h at 31, which no head has; a power cut; and all of the read of 20h at 12 but its last byte, which then draws one reply
abbrev pub apart : List Row
apart =
    record { serial = 4711; node = 11 } ∷ record { serial = 4712; node = 12 } ∷ record { serial = 4713; node = 13 } ∷ record { serial = 4714; node = 14 }
    ∷ record { serial = 4715; node = 15 } ∷ record { serial = 4716; node = 16 } ∷ record { serial = 4717; node = 17 } ∷ record { serial = 4718; node = 127 } ∷ []

-- a form of 32 rows, with the serials 4711 to 4742 and the numbers 31 to 62
abbrev pub numbered : ℕ → ℕ → ℕ → List Row
numbered serial node zero = []
numbered serial node (suc n) = record { serial = serial; node = node } ∷ numbered (suc serial) (suc node) n

abbrev pub full : List Row
full = numbered 4711 31 32

abbrev pub lived : Calls
lived =
    let restarted = hearing start (0x02 ∷ 0x00 ∷ 0xA0 ∷ 0 ∷ 0 ∷ 0 ∷ 0 ∷ 0 ∷ 9 ∷ 0xAB ∷ []) in
    let written = hearing restarted (0x01 ∷ 0x0B ∷ 0x20 ∷ 0 ∷ 0 ∷ 0 ∷ 0 ∷ 0 ∷ 7 ∷ 0x2D ∷ []) in
    let unheard = hearing written (0x01 ∷ 0x1F ∷ 0x00 ∷ 0 ∷ 0 ∷ 0 ∷ 0 ∷ 0 ∷ 12 ∷ 0x12 ∷ []) in
    hearing (unheard ▸ named 1 power) (0x00 ∷ 0x0C ∷ 0x20 ∷ 0 ∷ 0 ∷ 0 ∷ 0 ∷ 0 ∷ 0 ∷ [])

pub record Lived (m : System) (check : List Row → Answer) : Type 0 where
  pub let_pass : check apart ≡ AllDiffer
  -- a full line has 32; a thirty-third row is no fault of the form, and the line has no room for it
  pub full_pass : check full ≡ AllDiffer
  pub full_worth : Ordered m full
  pub further_pass : check (full ++ (record { serial = 4743; node = 18 } ∷ [])) ≡ AllDiffer
  pub thirty_third : refused_as m.on_line_of (new_head 18 4743) (runs (machine_of m) (grown_by full)) ≡ some 2
  -- a serial number that is on the line is refused, also with a node number that no head has; a node number that is not 1 to 127 is refused first
  pub repeated : refused_as m.on_line_of (new_head 18 4712) (runs (machine_of m) (grown_by apart)) ≡ some 17
  pub number_first_lem : refused_as m.on_line_of (new_head 128 4712) (runs (machine_of m) (grown_by apart)) ≡ some 1
  pub worth : Ordered m apart
  pub unnumbered : Unnumbered (grown_by apart) lived
  pub replies : (machine_of m).heard (runs (machine_of m) (grown_by apart then lived)) 0x2C 0 10 ≡ Ok 1
