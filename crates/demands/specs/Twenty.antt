-- When refusal 20 is given, clause by clause (document 01, "The line, and calls refused"; older heads: document 02, request (xii)): Demand1 names it by
-- the definitions of the crates state and line; here each clause stands in the document's own limits, so that a head or a line is let pass exactly
-- when all hold. In all calls but one that is 35h 0 and incremental off; in the call that brings a head over, by the old row, 35h 0 or 1 and incremental
-- on or off, and so for every head of the line.
-- Assumes nothing.
use Rattle.std.specs.Prelude.{ℕ, ◌≤◌, ◌<◌, ◌≡◌, Bool, true, false, ◌≢◌, ℤ, nat_abs, length, get_or, set}
use Rattle.rows.specs.Table.{row_of}
use Rattle.rows.specs.Ranges.{fits_in, all_right_of}
use Rattle.state.specs.declared.parts.Head.{Head}
use Rattle.state.specs.Wellformed.{wellformed_of}
use Rattle.state.specs.Older.{older_fits}
use Rattle.head.specs.Outcome as alone
use Rattle.line.specs.declared.calls.Line.{Line}
use Rattle.line.specs.Calls.{fits_by, fits_of, head_at}
use Rattle.demands.specs.Calls.{Ask, measure, power, load, bring}

abbrev pub InReach : ℤ → Type 0
InReach v = nat_abs v ≤ 2500000

-- what both ask: the number in force (00h's row) and the adopted value (1Fh's) in its row
pub record Common (h : Head) : Type 0 where
  pub number : (1 ≤ h.stored.number) × (h.stored.number ≤ 127)
  pub adopted : fits_in (row_of 19) h.measurement.adopted ≡ true
  -- document 02, request (ii): a number that is offered is 1 to 31 (0: none is), and the number in force is 31
  pub offer : h.stored.offer ≤ 31
  pub offer_at_lem : h.stored.offer ≢ 0 → h.stored.number ≡ 31
  -- ten entries in a list, two damaged in a row, nine bytes gathered, keys 7
  pub memory : h.faults.memory.count ≤ 10
  pub inputs : h.faults.inputs.count ≤ 10
  pub damaged : h.faults.damaged ≤ 2
  pub gathered : h.ear.count ≤ 9
  pub keys : h.keys ≤ 7
  -- m, zero and the incremental start in the measurement range, a kept FEh value at most 5242880 either way
  pub m : InReach h.measurement.m
  pub zero : InReach h.measurement.zero
  pub start : InReach h.measurement.start
  pub kept : nat_abs h.measurement.kept ≤ 5242880

-- each stored value in its row, which is 0 alone for 35h, at place 29; incremental off
pub record Formed (h : Head) : Type 0 where
  pub values : all_right_of h.stored.values ≡ true
  pub retired : get_or h.stored.values 29 0 ≡ 0
  pub off : h.measurement.incremental ≡ false
  pub common : Common h

-- in the call that brings a head over: each stored value in its row but 35h, which is 0 or 1
pub record OldFormed (h : Head) : Type 0 where
  pub values : all_right_of (set h.stored.values 29 0) ≡ true
  pub old_row : get_or h.stored.values 29 0 ≤ 1
  pub common : Common h

-- at most 32 heads, each below the count let pass by the test of a head, and no two of them with one serial number (document 02, request (xi)); what stands
-- past the count does not matter
pub record LineFormed (passes : Head → Bool) (l : Line) : Type 0 where
  pub few : l.count ≤ 32
  pub heads : (k : ℕ) → k < l.count → passes (head_at l k) ≡ true
  pub serials : (i j : ℕ) → i < l.count → j < l.count → i ≢ j → (head_at l i).stored.serial ≢ (head_at l j).stored.serial

-- ---- the test of each call: on a head alone, and on a line
abbrev pub takes_head : alone.Ask → Head → Bool
takes_head (alone.tick t) h = wellformed_of h
takes_head (alone.measure m) h = wellformed_of h
takes_head alone.power h = wellformed_of h
takes_head (alone.load s) h = wellformed_of h
takes_head alone.bring h = older_fits h

abbrev pub takes_line : Ask → Line → Bool
takes_line (measure m) l = fits_of l
takes_line power l = fits_of l
takes_line (load s) l = fits_of l
takes_line bring l = fits_by true l

pub record Twenty : Type 0 where
  pub head_passed : (h : Head) → wellformed_of h ≡ true → Formed h
  pub head_passes : (h : Head) → Formed h → wellformed_of h ≡ true
  pub older_passed : (h : Head) → older_fits h ≡ true → OldFormed h
  pub older_passes : (h : Head) → OldFormed h → older_fits h ≡ true
  -- a line has its 32 places by its type
  pub line_passed : (l : Line) → length l.heads ≡ 32 → fits_of l ≡ true → LineFormed wellformed_of l
  pub line_passes : (l : Line) → length l.heads ≡ 32 → LineFormed wellformed_of l → fits_of l ≡ true
  pub older_line_passed : (l : Line) → length l.heads ≡ 32 → fits_by true l ≡ true → LineFormed older_fits l
  pub older_line_passes : (l : Line) → length l.heads ≡ 32 → LineFormed older_fits l → fits_by true l ≡ true
  -- head k of a line stands at its kth place
  pub place : (l : Line) (k : ℕ) (h : Head) → k < length l.heads → head_at l k ≡ get_or l.heads k h
