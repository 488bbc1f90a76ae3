-- Versions that are wrong where incremental measurement is retired (document 02, request (xii)), and that they fail what is asked of a system: each is wrong in one call on a head
-- or on a line, whatever its others do.
-- Assumes nothing.
use Rattle.std.specs.Prelude.{ℕ, ◌≡◌, true, false, List, pos, replicate, Ok, Err}
use Rattle.state.specs.declared.parts.Head.{Head}
use Rattle.state.specs.declared.parts.Measurement.{Measurement}
use Rattle.state.specs.Older.{brought_of}
use Rattle.state.specs.With.{with_measurement, with_targets, with_keys}
use Rattle.effects.specs.Restart.{empty_ear, restarted_of}
use Rattle.head.specs.declared.refusal.Refusal.{Refusal}
use Rattle.head.specs.Moves.{keyed_of}
use Rattle.head.specs.Calls as head
use Rattle.head.specs.Outcome as alone
use Rattle.line.specs.Calls as line
use Rattle.demands.specs.Calls.{bring}
use Rattle.demands.specs.Cases.{split, gathered}
use Rattle.demands.specs.Run.{System, with_ear}
use Rattle.demands.specs.Demand1.{Demand1}
use Rattle.demands.specs.Demand2.{Demand2}
use Rattle.demands.specs.Sheets.{Sheets}
use Rattle.demands.specs.OlderCases.{new, with35, armed, running, busy, left_over_of, pair}
use Rattle.demands.specs.WrongOffers.{switched_on}

-- ---- the head h is brought over, and is k then
abbrev pub Brings : System → Head → Head → Type 0
Brings m h k = m.on_head.ask alone.bring h ≡ head.done_with k

-- its measurement as it should be but for the part that f changes
abbrev pub measuring : (Measurement → Measurement) → Head → Head
measuring f h = with_measurement (brought_of h) (f (brought_of h).measurement)

abbrev pub thawed : Measurement → Measurement
thawed g = record { m = g.m; zero = g.zero; adopted = g.adopted; incremental = g.incremental; start = g.start; frozen = false; kept = pos 0 }

abbrev pub still_on : Measurement → Measurement
still_on g = record { m = g.m; zero = g.zero; adopted = g.adopted; incremental = true; start = pos 50; frozen = g.frozen; kept = g.kept }

abbrev pub start_kept : Measurement → Measurement
start_kept g = record { m = g.m; zero = g.zero; adopted = g.adopted; incremental = false; start = pos 50; frozen = g.frozen; kept = g.kept }

-- the zero moved, so that the head goes on showing 20
abbrev pub zero_moved : Measurement → Measurement
zero_moved g = record { m = g.m; zero = pos 57; adopted = g.adopted; incremental = false; start = pos 0; frozen = g.frozen; kept = g.kept }

-- its static bit is cleared
abbrev pub unsettled : Head → Head
unsettled h =
    let t = h.targets in
    with_targets h
    (record { first = t.first; valid1 = t.valid1; second = t.second; valid2 = t.valid2; word = t.word; reached = false; acknowledged1 = t.acknowledged1; acknowledged2 = t.acknowledged2 })

-- ---- sheets of one row, 35h at 1 and at 2
abbrev pub one : List ℕ
one = split 8 0x0135000400000001

abbrev pub two : List ℕ
two = split 8 0x0135000400000002

-- ---- a write of 1 to 35h is answered by 01 82; it is taken
abbrev pub asking : Head
asking = gathered new 0x011F35000000000001

abbrev pub Below : System → Type 0
Below m = m.on_head.space asking 0x2A 0 (replicate 10 7) ≡ split 10 0x011FFD00000000018260

abbrev pub TakesOne : System → Type 0
TakesOne m = (m.on_head.byte asking 0x2A 0 10).head ≡ with35 1 (head.byte_of asking 0x2A 0 10).head

-- ---- up, without an offer, still switches
abbrev pub StillSwitches : System → Type 0
StillSwitches m = (m.on_head.keys new 4 10).head ≡ with_measurement (keyed_of new 4).head (switched_on new.measurement)

pub record WrongOlder : Type 0 where
  pub thawed_fails : (m : System) → Brings m busy (measuring thawed busy) → Demand2 m → ⊥
  pub still_on_fails : (m : System) → Brings m running (measuring still_on running) → Demand2 m → ⊥
  pub start_kept_fails : (m : System) → Brings m running (measuring start_kept running) → Demand2 m → ⊥
  pub zero_moved_fails : (m : System) → Brings m running (measuring zero_moved running) → Demand2 m → ⊥
  pub still_35_fails : (m : System) → Brings m armed armed → Demand2 m → ⊥
  pub unsettled_fails : (m : System) → Brings m busy (unsettled (brought_of busy)) → Demand2 m → ⊥
  pub let_go_fails : (m : System) → Brings m busy (with_keys (brought_of busy) 0) → Demand2 m → ⊥
  pub ungathered_fails : (m : System) → Brings m (gathered armed 0) (with_ear (brought_of (gathered armed 0)) (empty_ear 0)) → Demand2 m → ⊥
  pub restarted_fails : (m : System) → Brings m busy (restarted_of (brought_of busy)) → Demand2 m → ⊥
  pub touched_fails : (m : System) → Brings m left_over_of new → Demand2 m → ⊥
  -- it refuses a line with a second older head; an older head alone; it takes 35h at 2, and a head that there is not
  pub second_fails : (m : System) (why : Refusal) → (m.on_line_of.ask bring pair 0).answer ≡ Err why → Demand1 m → ⊥
  pub refused_fails : (m : System) (why : Refusal) → (m.on_head.ask alone.bring running).answer ≡ Err why → Demand1 m → ⊥
  pub beyond_fails : (m : System) → (m.on_head.ask alone.bring (with35 2 new)).answer ≡ (Ok tt) → Demand1 m → ⊥
  pub nobody_fails : (m : System) → (m.on_line_of.ask bring pair 3).answer ≡ (Ok tt) → Demand1 m → ⊥
  -- it brings another head over as well
  pub both_fails : (m : System) → (m.on_line_of.ask bring pair 0).line ≡ (line.bring_of (line.bring_of pair 0).line 1).line → Demand2 m → ⊥
  -- an older head is taken by another call, alone and on a line
  pub powered_fails : (m : System) → (m.on_head.ask alone.power armed).answer ≡ (Ok tt) → Demand1 m → ⊥
  pub heard_fails : (m : System) (n : ℕ) → (m.on_head.byte running 0 0 10).heard ≡ Ok n → Demand1 m → ⊥
  pub ticked_fails : (m : System) → (m.on_line_of.tick pair 0).answer ≡ (Ok tt) → Demand1 m → ⊥
  -- a sheet's 35h 1 is refused, or stored as it stands; a sheet's 35h 2 is taken
  pub sheet_refused_fails : (m : System) (why : Refusal) → (m.on_head.ask (alone.load one) new).answer ≡ Err why → Demand1 m → ⊥
  pub sheet_stored_fails : (m : System) → m.on_head.ask (alone.load one) new ≡ head.done_with armed → Sheets m → ⊥
  pub sheet_two_fails : (m : System) → (m.on_head.ask (alone.load two) new).answer ≡ (Ok tt) → Demand1 m → ⊥
  pub below_fails : (m : System) → Below m → Demand2 m → ⊥
  pub takes_one_fails : (m : System) → TakesOne m → Demand2 m → ⊥
  pub still_switches_fails : (m : System) → StillSwitches m → Demand2 m → ⊥
