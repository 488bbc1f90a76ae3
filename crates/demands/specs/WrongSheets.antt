-- Versions that are wrong in a sheet, and that they fail what is asked of a system: each is wrong in one call on a new head, or on a line of two,
-- whatever its others do.
-- Assumes nothing.
use Rattle.std.specs.Prelude.{ℕ, ◌≡◌, true, List, [], ◌∷◌, ◌++◌, replicate, take, set, Ok, Err}
use Rattle.state.specs.declared.parts.Head.{Head}
use Rattle.state.specs.With.{with_stored, with_values, with_lock, with_offer}
use Rattle.effects.specs.Restart.{empty_ear, restarted_of, fresh_of}
use Rattle.sheet.specs.declared.refusal.Refusal.TheVariants.{OutOfRow}
use Rattle.head.specs.declared.refusal.Refusal.{Refusal}
use Rattle.head.specs.declared.refusal.Refusal.TheVariants.{Sheet}
use Rattle.head.specs.Calls as head
use Rattle.head.specs.Outcome as alone
use Rattle.line.specs.declared.calls.Line.{Line}
use Rattle.line.specs.Calls as line
use Rattle.demands.specs.Cases.{split}
use Rattle.demands.specs.Run.{System, with_ear}
use Rattle.demands.specs.Demand1.{Demand1}
use Rattle.demands.specs.Sheets.{Sheets}

-- a new head, and one that is locked
abbrev pub new : Head
new = fresh_of 31 0

abbrev pub locked : Head
locked = with_stored new (with_values new.stored (set new.stored.values 14 1))

-- ---- a sheet is taken, or refused for this, by the head h
abbrev pub Takes : System → Head → List ℕ → Type 0
Takes m h s = (m.on_head.ask (alone.load s) h).answer ≡ (Ok tt)

abbrev pub Refuses : System → Head → List ℕ → Refusal → Type 0
Refuses m h s why = (m.on_head.ask (alone.load s) h).answer ≡ Err why

-- the body of 04h a byte further than it stands; 04h twice; a byte after the last body; no byte; no row
abbrev pub later : List ℕ
later = split 8 0x0104000500000005

abbrev pub twice : List ℕ
twice = split 15 0x02040007_04000B_00000005_00000005

abbrev pub longer : List ℕ
longer = split 9 0x010400040000000500

-- 04h 61 and 10h: the address goes before the value
abbrev pub both : List ℕ
both = split 15 0x02040007_10000B_0000003D_00000005

-- 04h 7, and 20h 10000, which is out of its row
abbrev pub half : List ℕ
half = split 15 0x02040007_20000B_00000007_00002710

-- 20h 9; 00h 5
abbrev pub nine : List ℕ
nine = split 8 0x0120000400000009

abbrev pub five : List ℕ
five = split 8 0x0100000400000005

-- ---- the first row of a refused sheet is loaded all the same
abbrev pub Half : System → Type 0
Half m = m.on_head.ask (alone.load half) new ≡ record { head = head.loaded_of new (split 8 0x0104000400000007); answer = Err (Sheet OutOfRow) }

-- ---- a sheet is loaded, and something else of the head changes: all that a restart changes, so that 00h is in force at once; the interlock; the bytes gathered; the
-- offer; or nothing at all is loaded
abbrev pub Loads : System → List ℕ → Head → Head → Type 0
Loads m s h k = m.on_head.ask (alone.load s) h ≡ head.done_with k

abbrev pub gathering : Head
gathering = with_ear new (record { at = 0; bytes = 0x00 ∷ replicate 9 0; count = 1 })

abbrev pub offered : Head
offered = with_stored new (with_offer new.stored 5)

-- ---- a sheet is written on too short a space, or refused one that is just long enough; the byte after it is changed; the bodies are low byte first; of 38 rows
abbrev pub overrun : System → Type 0
overrun m = m.on_head.sheet new (replicate 275 1) ≡ take 274 (head.save_space_of new (replicate 275 1)) ++ (0 ∷ [])

abbrev pub low_first : System → Type 0
low_first m = m.on_head.sheet new (replicate 274 1) ≡ set (set (head.save_space_of new (replicate 274 1)) 118 31) 121 0

abbrev pub few_rows : System → Type 0
few_rows m = m.on_head.sheet new (replicate 274 1) ≡ set (head.save_space_of new (replicate 274 1)) 0 38

-- on a line of heads at 31 and at 12 the first head's sheet for that of the second
abbrev pub pair : Line
pair = record { heads = set (set (line.empty_of).heads 0 new) 1 (fresh_of 12 1); count = 2 }

abbrev pub first_saved : System → Type 0
first_saved m = m.on_line_of.sheet pair 1 (replicate 274 1) ≡ m.on_head.sheet new (replicate 274 1)

pub record WrongSheets : Type 0 where
  pub later_fails : (m : System) → Takes m new later → Demand1 m → ⊥
  pub twice_fails : (m : System) → Takes m new twice → Demand1 m → ⊥
  pub longer_fails : (m : System) → Takes m new longer → Demand1 m → ⊥
  pub nothing_fails : (m : System) → Takes m new [] → Demand1 m → ⊥
  pub no_row_fails : (m : System) (why : Refusal) → Refuses m new (0 ∷ []) why → Demand1 m → ⊥
  pub value_first_fails : (m : System) → Refuses m new both (Sheet OutOfRow) → Demand1 m → ⊥
  pub locked_fails : (m : System) (why : Refusal) → Refuses m locked nine why → Demand1 m → ⊥
  pub half_fails : (m : System) → Half m → Demand1 m → ⊥
  pub at_once_fails : (m : System) → Loads m five new (restarted_of (head.loaded_of new five)) → Sheets m → ⊥
  pub opened_fails : (m : System) → Loads m nine new (with_stored new (with_lock (head.loaded_of new nine).stored true)) → Sheets m → ⊥
  pub ungathered_fails : (m : System) → Loads m nine gathering (with_ear (head.loaded_of gathering nine) (empty_ear 0)) → Sheets m → ⊥
  pub withdrawn_fails : (m : System) → Loads m nine offered (with_stored offered (with_offer (head.loaded_of offered nine).stored 0)) → Sheets m → ⊥
  pub idle_fails : (m : System) → Loads m nine new new → Sheets m → ⊥
  pub short_fails : (m : System) → m.on_head.save new 273 ≡ (Ok tt) → Demand1 m → ⊥
  pub long_fails : (m : System) (why : Refusal) → m.on_head.save new 274 ≡ Err why → Demand1 m → ⊥
  pub overrun_fails : (m : System) → m.on_head.save new 275 ≡ (Ok tt) → overrun m → Sheets m → ⊥
  pub low_first_fails : (m : System) → m.on_head.save new 274 ≡ (Ok tt) → low_first m → Sheets m → ⊥
  pub few_rows_fails : (m : System) → m.on_head.save new 274 ≡ (Ok tt) → few_rows m → Sheets m → ⊥
  pub first_saved_fails : (m : System) → m.on_head.save new 274 ≡ (Ok tt) → m.on_head.save (fresh_of 12 1) 274 ≡ (Ok tt) → first_saved m → Sheets m → ⊥
