-- Incremental measurement is retired (document 02, request (xii)), asked of any system: which heads the call that brings one over takes, and that they are well-formed then;
-- that every other call that 20 is for refuses an older head; that no call turns incremental on; that a written sheet carries 0 at 35h; and that by looking back 35h is
-- always 0. What the call does to a head, part by part, is `Brought` of Alone; that every head goes by its absolute position, Views; that a line's call is that head's alone,
-- `line_asks` of Demand2.
-- Assumes nothing.
use Rattle.std.specs.Prelude.{ℕ, zero, suc, ◌+◌, ◌*◌, ◌<◌, ◌≤◌, ◌≡◌, Bool, true, false, ◌≢◌, List, length, get_or, Ok}
use Rattle.std.proofs.Math.Option.{none, some}
use Rattle.state.specs.declared.parts.Head.{Head}
use Rattle.state.specs.Older.{older_fits}
use Rattle.head.specs.Outcome as alone
use Rattle.line.specs.declared.calls.Line.{Line}
use Rattle.line.specs.Calls.{fits_of, head_at}
use Rattle.demands.specs.Calls.{measure, power, load, bring, Call, new_head, byte, tick, named, keys, dropped, Calls, ◌▸◌}
use Rattle.demands.specs.Past.{count, value, in_force}
use Rattle.demands.specs.Run.{OnLine, System, machine_of, runs}
use Rattle.demands.specs.Alone.{setting, older}
use Rattle.demands.specs.Twenty.{Formed, OldFormed, LineFormed}
use Rattle.demands.specs.Demand1.{refused_as, refused_alone, head_after, of_answer, of_hit, of_serial, of_rack}
use Rattle.demands.specs.Demand3.{touch}

-- ---- the calls that bring a head over, alone and on a line
abbrev pub brings_alone : alone.Call → Bool
brings_alone (alone.byte b t space) = false
brings_alone (alone.keys s space) = false
brings_alone (alone.asked (alone.tick t)) = false
brings_alone (alone.asked (alone.measure m)) = false
brings_alone (alone.asked alone.power) = false
brings_alone (alone.asked (alone.load s)) = false
brings_alone (alone.asked alone.bring) = true

abbrev pub brings_on_line : Call → Bool
brings_on_line (new_head node serial) = false
brings_on_line (byte b t s) = false
brings_on_line (tick t) = false
brings_on_line (named j (measure m)) = false
brings_on_line (named j power) = false
brings_on_line (named j (load s)) = false
brings_on_line (named j bring) = true
brings_on_line (keys j s n) = false
brings_on_line (dropped t) = false

-- the line when its first n heads were brought over, one after another
abbrev pub brought_all : OnLine → ℕ → Line → Line
brought_all m zero l = l
brought_all m (suc n) l = (m.ask bring (brought_all m n l) n).line

-- head k of a line is an older one
pub record HasOlder (l : Line) (k : ℕ) : Type 0 where
  pub there : k < l.count
  pub is_older_lem : older (head_at l k) ≡ true

-- head i of the line l was brought over, and k is the line then: head i is well-formed, the others and the count are as they were, and so the old rules
-- still allow the line
pub record OneOver (l : Line) (i : ℕ) (k : Line) : Type 0 where
  pub over : Formed (head_at k i)
  pub others : (j : ℕ) → j ≢ i → head_at k j ≡ head_at l j
  pub count : k.count ≡ l.count
  pub allowed : LineFormed older_fits k

pub record Retired (m : System) : Type 0 where
  -- a head that the old rules allow is taken, and is well-formed then
  pub takes : (h : Head) → OldFormed h → (m.on_head.ask alone.bring h).answer ≡ (Ok tt)
  pub formed : (h : Head) → OldFormed h → Formed (m.on_head.ask alone.bring h).head
  -- a line that they allow too, so that several older heads are brought over one after another; once all are, every call takes the line
  pub line_takes : (l : Line) (i : ℕ) → length l.heads ≡ 32 → LineFormed older_fits l → i < l.count
      → ((m.on_line_of.ask bring l i).answer ≡ (Ok tt)) × OneOver l i (m.on_line_of.ask bring l i).line
  pub all_over : (l : Line) → length l.heads ≡ 32 → LineFormed older_fits l → fits_of (brought_all m.on_line_of l.count l) ≡ true
  -- an older head, and a line with one, is refused with 20 by every other call
  pub alone_refused : (c : alone.Call) (h : Head) → older h ≡ true → brings_alone c ≡ false → refused_alone m.on_head c h ≡ some 20
  pub alone_unread : (h : Head) (n : ℕ) → older h ≡ true
      → (of_hit (m.on_head.hit h) ≡ some 20) × (of_serial (m.on_head.serial h) ≡ some 20) × (of_answer (m.on_head.save h n) ≡ some 20)
  pub line_refused : (c : Call) (l : Line) (k : ℕ) → HasOlder l k → brings_on_line c ≡ false → refused_as m.on_line_of c l ≡ some 20
  pub line_unread : (l : Line) (k j n : ℕ) → HasOlder l k
      → (of_hit (m.on_line_of.hit l j) ≡ some 20) × (of_serial (m.on_line_of.serial l j) ≡ some 20) × (of_answer (m.on_line_of.save l j n) ≡ some 20)
  pub line_unracked : (l : Line) (k : ℕ) (bs : List ℕ) (t n p : ℕ) → HasOlder l k → of_rack (m.on_line_of.rack l bs t n p).answer ≡ some 20
  -- no call turns incremental on: not on a head alone, and on a line grown from none it is off, and 35h, at place 29, is 0
  pub stays_off : (c : alone.Call) (h : Head) → h.measurement.incremental ≡ false → (head_after m.on_head c h).measurement.incremental ≡ false
  pub grown_off : (cs : Calls) (k : ℕ) → k < count cs
      → let h = head_at (runs (machine_of m) cs) k in (h.measurement.incremental ≡ false) × (setting h 29 ≡ 0)
  -- a written sheet carries 0 at 35h
  pub saves : (h : Head) (space : List ℕ) (i : ℕ) → length h.stored.values ≡ 39 → m.on_head.save h (length space) ≡ (Ok tt) → i < 4
      → get_or (m.on_head.sheet h space) (118 + 4 * 29 + i) 0 ≡ 0
  -- ---- by looking back: the call is an accepted write of 0 to 35h of the head that it names, and of nothing else; it brings no number into force; 35h
  -- is 0 after any calls
  pub counts : (cs : Calls) (j : ℕ) → j < count cs → touch cs (named j bring) j 29 ≡ some 0
  pub counts_else : (cs : Calls) (j k r : ℕ) → r < 39 → r ≢ 29 → touch cs (named j bring) k r ≡ none
  pub counts_other : (cs : Calls) (j k r : ℕ) → k ≢ j → touch cs (named j bring) k r ≡ none
  pub counts_past : (cs : Calls) (j k r : ℕ) → count cs ≤ j → touch cs (named j bring) k r ≡ none
  pub in_force_lem : (cs : Calls) (j k : ℕ) → in_force (cs ▸ named j bring) k ≡ in_force cs k
  pub zero_35 : (cs : Calls) (k : ℕ) → k < count cs → value cs k 29 ≡ 0
