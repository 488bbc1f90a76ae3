-- Serial numbers belong to heads (document 02, request (xi)): a head keeps the one that it was made with through every call, no two heads of a line
-- share one, and refusal 17 is found from the calls alone, by the account that looks back over them (Past). It is asked of any system.
-- Assumes nothing.
use Rattle.std.specs.Prelude.{ℕ, ◌<◌, ◌≤◌, ◌≡◌, ◌≢◌, List, [], ◌∷◌, leb, get_or, Ok}
use Rattle.std.proofs.Math.Option.{none, some}
use Rattle.rows.specs.Among.{among}
use Rattle.state.specs.declared.parts.Head.{Head}
use Rattle.head.specs.Outcome as alone
use Rattle.line.specs.declared.calls.Line.{Line}
use Rattle.line.specs.Calls.{head_at}
use Rattle.demands.specs.Calls.{Call, new_head, Calls, ◌▸◌}
use Rattle.demands.specs.Past.{count, serials}
use Rattle.demands.specs.Run.{System, machine_of, runs, head_after, after}
use Rattle.demands.specs.Lines.{Fits}
use Rattle.demands.specs.Demand1.{Row, row, first, node_row, refused_as}
use Rattle.demands.specs.Demand1 as refusals

abbrev pub serial_of : Head → ℕ
serial_of h = h.stored.serial

-- the serial number that head k was made with, by looking back
abbrev pub made_with : Calls → ℕ → ℕ
made_with cs k = get_or (serials cs) k 0

-- what growing is refused for after these calls, in its order: 2, 1, 17; 20 is never given
abbrev pub grow_rows : Calls → ℕ → ℕ → List Row
grow_rows cs node serial = row 2 (leb 32 (count cs)) ∷ node_row node ∷ row 17 (among (serials cs) serial) ∷ []

pub record Serials (m : System) : Type 0 where
  -- the head that is made has the serial number given, refused or not: the factory head of refusal 1 too
  pub made : (node serial : ℕ) → serial_of (m.on_head.make node serial).head ≡ serial
  -- it is kept through every call on a head alone, any bytes, keys, ticks, measurements, sheets and power cuts; and by each head of a line that fits
  pub kept : (c : alone.Call) (h : Head) → serial_of (refusals.head_after m.on_head c h) ≡ serial_of h
  pub kept_on_line : (c : Call) (l : Line) (k : ℕ) → Fits l → k < l.count → serial_of (head_at (after m.on_line_of c l) k) ≡ serial_of (head_at l k)
  -- the account: a head that is added has the serial number given, and it is its own from then on
  pub new : (cs : Calls) (node serial : ℕ) → refused_as m.on_line_of (new_head node serial) (runs (machine_of m) cs) ≡ none
      → made_with (cs ▸ new_head node serial) (count cs) ≡ serial
  pub stays : (cs : Calls) (c : Call) (k : ℕ) → k < count cs → made_with (cs ▸ c) k ≡ made_with cs k
  -- after any calls on a line grown from none, refused ones included, it is what the call that reads it hands out, on the line and of the head alone
  pub told : (cs : Calls) (k : ℕ) → k < count cs → m.on_line_of.serial (runs (machine_of m) cs) k ≡ Ok (made_with cs k)
  pub told_alone : (cs : Calls) (k : ℕ) → k < count cs → m.on_head.serial (head_after (machine_of m) cs k) ≡ Ok (made_with cs k)
  -- and no two are equal
  pub differ : (cs : Calls) (i j : ℕ) → i < count cs → j < count cs → i ≢ j → made_with cs i ≢ made_with cs j
  -- so growing is refused by the calls alone: 17 exactly for a serial number that a head was made with, where neither 2 nor 1 is given
  pub refused : (cs : Calls) (node serial : ℕ) → refused_as m.on_line_of (new_head node serial) (runs (machine_of m) cs) ≡ first (grow_rows cs node serial)
  -- so it is on any line that is handed in: 17 for the serial number of each of its heads (for that of none, `line_grows` of Demand2)
  pub taken : (l : Line) (node k : ℕ) → Fits l → l.count < 32 → 1 ≤ node → node ≤ 127 → k < l.count
      → refused_as m.on_line_of (new_head node (serial_of (head_at l k))) l ≡ some 17
