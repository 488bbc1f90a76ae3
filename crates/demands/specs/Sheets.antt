-- Settings travel on a sheet (document 02, request (vii)): what a sheet is, what may be loaded, what loading does to a head, what is written on a sheet, and what is
-- equal then. It is asked of any system; when a call is refused, and that it then changes nothing, is demand 1's, and that loading is an accepted write of
-- each row stands in the account (Past `loaded`). Bytes are named by their places and limits by their numbers, so that no promise leans on the definitions that it is to hold.
-- Assumes nothing.
use Rattle.std.specs.Prelude.{ℕ, ◌+◌, ◌*◌, ◌<◌, ◌≤◌, ◌≡◌, true, ◌≢◌, ◌↔◌, List, length, take, drop, get_or, Ok, Err, Result, ⊤}
use Rattle.std.proofs.Math.Option.{Option, none, some}
use Rattle.wire.specs.Word.{byte0, byte1, byte2, byte3}
use Rattle.rows.specs.Table.{row_of, address}
use Rattle.rows.specs.Ranges.{fits_in}
use Rattle.state.specs.declared.parts.Head.{Head}
use Rattle.state.specs.Wellformed.{wellformed_of}
use Rattle.sheet.specs.declared.refusal.Refusal as sheet
use Rattle.sheet.specs.declared.refusal.Refusal.TheVariants.{Malformed, NotStored, OutOfRow, Short}
use Rattle.sheet.specs.Format.{count_of, address_of, value_of, well_formed_of}
use Rattle.sheet.specs.Sheet.{Sheet, four}
use Rattle.sheet.specs.Spelled.{spelled_of, addresses_of, values_of}
use Rattle.sheet.specs.Refusals as numbers
use Rattle.sheet.specs.Loading as loading
use Rattle.sheet.specs.Writing as writing
use Rattle.head.specs.Outcome as alone
use Rattle.line.specs.declared.calls.Line.{Line}
use Rattle.line.specs.Calls.{head_at}
use Rattle.demands.specs.Calls as calls
use Rattle.demands.specs.Calls.{Calls, named, load, ◌▸◌}
use Rattle.demands.specs.Past.{all_stored, all_right, loadable, count, value, in_force}
use Rattle.demands.specs.Run.{System, machine_of, runs}
use Rattle.demands.specs.Alone.{Turned}
use Rattle.demands.specs.Lines.{Fits}
use Rattle.demands.specs.Demand1.{first, own_rows, save_rows}

-- ---- each address is one of the 39; each value lies in the row of its address, but that of 35h, which is 0 or 1, as older heads had it (request (xii))
abbrev pub Known : List ℕ → Type 0
Known s = (i : ℕ) → i < count_of s → (r : ℕ) × (r < 39) × (address_of s i ≡ address (row_of r))

abbrev pub Right : List ℕ → Type 0
Right s =
    ((i r : ℕ) → i < count_of s → r < 39 → address_of s i ≡ address (row_of r) → address_of s i ≢ 0x35 → fits_in (row_of r) (value_of s i) ≡ true)
    × ((i : ℕ) → i < count_of s → address_of s i ≡ 0x35 → value_of s i ≤ 1)

-- ---- what a sheet is, by the sentences about it (`Sheet` of the crate sheet)
pub record Formed : Type 0 where
  -- n, and of row i the address and the value, which is that of the four bytes of its body
  pub rows : (s : List ℕ) → count_of s ≡ get_or s 0 0
  pub address : (s : List ℕ) (i : ℕ) → address_of s i ≡ get_or s (1 + 3 * i) 0
  pub value : (s : List ℕ) (i : ℕ) → Sheet s → i < get_or s 0 0 → value_of s i ≡ four s (1 + 3 * get_or s 0 0 + 4 * i)
  -- bytes pass the test just where the sentences hold of them
  pub tested : (s : List ℕ) → well_formed_of s ≡ true ↔ Sheet s
  -- and so it is with the tests of its addresses and of its values, by which demand 1 gives 12 and 13
  pub known : (s : List ℕ) → all_stored s ≡ true ↔ Known s
  pub right : (s : List ℕ) → Known s → all_right s ≡ true ↔ Right s
  -- they are then just the bytes that spell its rows; and rows of rising addresses, 39 at most, are spelled by a sheet, of which they are the rows
  pub only : (s : List ℕ) → Sheet s → ((k : ℕ) → get_or s k 0 < 256) → s ≡ spelled_of (addresses_of s) (values_of s)
  pub spelled : (xs ws : List ℕ) → length xs ≡ length ws → length xs ≤ 39
      → ((i j : ℕ) → i < j → j < length xs → get_or xs i 0 < get_or xs j 0) → ((i : ℕ) → get_or ws i 0 < 4294967296)
      → Sheet (spelled_of xs ws) × (addresses_of (spelled_of xs ws) ≡ xs) × (values_of (spelled_of xs ws) ≡ ws)

-- ---- what may be loaded
pub record Loadable (s : List ℕ) : Type 0 where
  pub sheet : Sheet s
  pub known : Known s
  pub right : Right s

-- ---- the stored values before and after a sheet: each row's value stands in the parameter of its address, but that 35h, at place 29, is 0, and every other
-- one is as it was
pub record Stored (before after s : List ℕ) : Type 0 where
  pub rows : (i r : ℕ) → i < count_of s → r < 39 → address_of s i ≡ address (row_of r) → address_of s i ≢ 0x35 → get_or after r 0 ≡ value_of s i
  pub retired : (i : ℕ) → i < count_of s → address_of s i ≡ 0x35 → get_or after 29 0 ≡ 0
  pub others : (r : ℕ) → r < 39 → ((i : ℕ) → i < count_of s → address_of s i ≢ address (row_of r)) → get_or after r 0 ≡ get_or before r 0
  pub long : length after ≡ length before

-- a head h became k when the sheet was loaded into it
pub record Loaded (h k : Head) (s : List ℕ) : Type 0 where
  pub values : Stored h.stored.values k.stored.values s
  -- 00h and 01h come into force at the next restart
  pub number : k.stored.number ≡ h.stored.number
  pub baud : k.stored.baud ≡ h.stored.baud
  -- the interlock, an offer, the errors, the kept values and the calibration, the monitor, the bytes gathered and the keys stay
  pub unlocked : k.stored.unlocked ≡ h.stored.unlocked
  pub offer : k.stored.offer ≡ h.stored.offer
  pub faults : k.faults ≡ h.faults
  pub measurement : k.measurement ≡ h.measurement
  -- so do the set points with the static bit, but that alpha-numeric display may be entered or left (document 02, request (ix))
  pub targets : Turned h k
  pub monitor : k.monitor ≡ h.monitor
  pub ear : k.ear ≡ h.ear
  pub keys : k.keys ≡ h.keys

-- ---- the sheet of these values, written on a space: the count, the 39 addresses with their places, the four bytes of each value; the space after it is unchanged
pub record Saved (values before after : List ℕ) : Type 0 where
  pub rows : get_or after 0 0 ≡ 39
  pub addresses : (r : ℕ) → r < 39 → get_or after (1 + 3 * r) 0 ≡ address (row_of r)
  pub places : (r : ℕ) → r < 39 → get_or after (2 + 3 * r) 0 * 256 + get_or after (3 + 3 * r) 0 ≡ 118 + 4 * r
  pub bodies : (r : ℕ) → r < 39
      → (get_or after (118 + 4 * r) 0 ≡ byte0 (get_or values r 0))
      × (get_or after (119 + 4 * r) 0 ≡ byte1 (get_or values r 0))
      × (get_or after (120 + 4 * r) 0 ≡ byte2 (get_or values r 0))
      × (get_or after (121 + 4 * r) 0 ≡ byte3 (get_or values r 0))
  pub long : length after ≡ length before
  pub rest : drop 274 after ≡ drop 274 before

-- ---- the types of a head's settings: 39 of 32 bits
pub record Typed (h : Head) : Type 0 where
  pub places : length h.stored.values ≡ 39
  pub words : (r : ℕ) → get_or h.stored.values r 0 < 4294967296

pub record Sheets (m : System) : Type 0 where
  -- a sheet is taken just if it may be loaded, whatever the interlock; the account has it so too
  pub takes : (h : Head) (s : List ℕ) → wellformed_of h ≡ true → (m.on_head.ask (alone.load s) h).answer ≡ (Ok tt) ↔ Loadable s
  pub account : (s : List ℕ) → loadable s ≡ true ↔ Loadable s
  pub loads : (h : Head) (s : List ℕ) → (m.on_head.ask (alone.load s) h).answer ≡ (Ok tt) → Loaded h (m.on_head.ask (alone.load s) h).head s
  pub saves : (h : Head) (space : List ℕ) → length h.stored.values ≡ 39 → m.on_head.save h (length space) ≡ (Ok tt)
      → Saved h.stored.values space (m.on_head.sheet h space)
  -- on a line, as the head that is named does alone; no other head changes
  pub line_loads : (l : Line) (i : ℕ) (s : List ℕ) → Fits l → i < l.count
      → ((m.on_line_of.ask (load s) l i).answer ≡ (m.on_head.ask (alone.load s) (head_at l i)).answer)
      × (head_at (m.on_line_of.ask (load s) l i).line i ≡ (m.on_head.ask (alone.load s) (head_at l i)).head)
      × ((k : ℕ) → k ≢ i → head_at (m.on_line_of.ask (load s) l i).line k ≡ head_at l k)
      × ((m.on_line_of.ask (load s) l i).line.count ≡ l.count)
  pub line_saves : (l : Line) (i : ℕ) (space : List ℕ) → Fits l → i < l.count
      → (m.on_line_of.save l i (length space) ≡ m.on_head.save (head_at l i) (length space))
      × (m.on_line_of.sheet l i space ≡ m.on_head.sheet (head_at l i) space)
  -- looking back over the calls, loading is a write of each row of a sheet that may be loaded, and of any other bytes none
  pub counts : (cs : Calls) (j : ℕ) (s : List ℕ) → j < count cs → Loadable s
      → ((i r : ℕ) → i < count_of s → r < 39 → address_of s i ≡ address (row_of r) → address_of s i ≢ 0x35 → value (cs ▸ named j (load s)) j r ≡ value_of s i)
      × ((i : ℕ) → i < count_of s → address_of s i ≡ 0x35 → value (cs ▸ named j (load s)) j 29 ≡ 0)
      × ((r : ℕ) → r < 39 → ((i : ℕ) → i < count_of s → address_of s i ≢ address (row_of r)) → value (cs ▸ named j (load s)) j r ≡ value cs j r)
  pub counts_not : (cs : Calls) (j : ℕ) (s : List ℕ) → j < count cs → (Loadable s → ⊥) → (r : ℕ) → r < 39 → value (cs ▸ named j (load s)) j r ≡ value cs j r
  -- a written sheet is never refused, and makes the stored values equal, whatever head it is loaded into
  pub travels : (g h : Head) (space : List ℕ) → Typed g → Typed h → wellformed_of h ≡ true → m.on_head.save g (length space) ≡ (Ok tt)
      → let k = m.on_head.ask (alone.load (take 274 (m.on_head.sheet g space))) h in
      (k.answer ≡ (Ok tt)) × (k.head.stored.values ≡ g.stored.values)
  -- a head is swapped, on a line grown from none, after any calls: with 274 bytes of space the sheet of head i is written, loading it into head j is
  -- done, and by looking back each stored parameter of head j has then the value of head i's; the number in force stays
  pub swaps : (cs : Calls) (i j : ℕ) (space : List ℕ) → calls.Bytes cs → i < count cs → j < count cs → 274 ≤ length space
      → let l = runs (machine_of m) cs in let s = take 274 (m.on_line_of.sheet l i space) in
      (m.on_line_of.save l i (length space) ≡ (Ok tt))
      × ((m.on_line_of.ask (load s) l j).answer ≡ (Ok tt))
      × ((r : ℕ) → r < 39 → value (cs ▸ named j (load s)) j r ≡ value cs i r)
      × (in_force (cs ▸ named j (load s)) j ≡ in_force cs j)

-- ---- the public functions of the crate sheet do the same, of any values: 11, 12, 13 and 14 are given where a call gives them
abbrev pub number_of : sheet.Refusal → ℕ
number_of Malformed = 11
number_of NotStored = 12
number_of OutOfRow = 13
number_of Short = 14

abbrev pub of_sheet : Result ⊤ sheet.Refusal → Option ℕ
of_sheet (Ok tt) = none
of_sheet (Err why) = some (number_of why)

pub record Functions : Type 0 where
  pub number : (why : sheet.Refusal) → numbers.refusal_of why ≡ number_of why
  pub checks : (s : List ℕ) → of_sheet (loading.check_of s) ≡ first (own_rows (alone.load s))
  pub answers : (values s : List ℕ) → (loading.load_of values s).answer ≡ loading.check_of s
  pub loads : (values s : List ℕ) → length values ≡ 39 → Loadable s → Stored values (loading.load_of values s).values s
  pub refuses : (values s : List ℕ) → (Loadable s → ⊥) → (loading.load_of values s).values ≡ values
  pub writes : (n : ℕ) → of_sheet (writing.write_of n) ≡ first (save_rows n)
  pub written : (values space : List ℕ) → length values ≡ 39 → 274 ≤ length space → Saved values space (writing.written_on values space)
  pub spares : (values space : List ℕ) → length space < 274 → writing.written_on values space ≡ space
