-- Alpha-numeric display (document 02, request (ix); manual 4.1.2), as a whole. What each call does in that mode stands among the other sentences about it: the status
-- word in Bits, a set point's write, a write of 28h and a reset in Acts, the keys, a measurement and a restart in Alone, a sheet in Sheets. Here stand the laws of every
-- head that the calls have made, after any calls, refused ones included: whether it displays is found by looking back, the value of 28h, at place 23, in the
-- account (Past); that a set point is four characters, one a data byte; and, in numbers, what those sentences lean on: the bits of a word, the bytes of a control
-- word and of a telegram, the values of 28h, and that the position does not look at it.
-- Assumes nothing.
use Rattle.std.specs.Prelude.{ℕ, ◌+◌, ◌*◌, ◌/◌, ◌%◌, ◌^◌, ◌<◌, ◌≤◌, ◌≡◌, Bool, true, false, ◌≢◌, ◌⊎◌, List, eqb, length, take, get_or, set, is_some}
use Rattle.wire.specs.Telegram.{fields_of, ten_in}
use Rattle.wire.specs.Word.{byte0, byte1, byte2, byte3}
use Rattle.state.specs.declared.parts.Head.{Head}
use Rattle.state.specs.declared.parts.Measurement.{Measurement}
use Rattle.state.specs.declared.parts.Targets.{Targets}
use Rattle.state.specs.Bits.{bit_set}
use Rattle.state.specs.Position.{view_of}
use Rattle.state.specs.Status.{status_of, difference_of}
use Rattle.state.specs.Wellformed.{wellformed_of}
use Rattle.state.specs.Edges as edges
use Rattle.head.specs.Hear.{gathered_of}
use Rattle.head.specs.Outcome as alone
use Rattle.demands.specs.Calls.{Call, Calls, ◌▸◌}
use Rattle.demands.specs.Past.{gather, accepted, count, value}
use Rattle.demands.specs.Run.{System, machine_of, head_after}
use Rattle.demands.specs.Alone.{Taken, displays}
use Rattle.demands.specs.Every.{locked}

-- 28h of head k is 3 after the calls
abbrev pub displaying : Calls → ℕ → Bool
displaying cs k = eqb (value cs k 23) 3

-- no set point is valid or acknowledged, and the static bit is clear
pub record Bare (t : Targets) : Type 0 where
  pub valid1 : t.valid1 ≡ false
  pub valid2 : t.valid2 ≡ false
  pub reached : t.reached ≡ false
  pub acknowledged1 : t.acknowledged1 ≡ false
  pub acknowledged2 : t.acknowledged2 ≡ false

-- the static bit is not set by what made k of h
abbrev pub Unset : Head → Head → Type 0
Unset h k = k.targets.reached ≡ true → h.targets.reached ≡ true

-- what holds of the targets of every head that the calls made, by whether it displays: a set point that is acknowledged is valid; outside that mode none is
-- acknowledged, and in it the static bit is clear
pub record Sound (display : Bool) (t : Targets) : Type 0 where
  pub valid1 : t.acknowledged1 ≡ true → t.valid1 ≡ true
  pub valid2 : t.acknowledged2 ≡ true → t.valid2 ≡ true
  pub outside : display ≡ false → (t.acknowledged1 ≡ false) × (t.acknowledged2 ≡ false)
  pub inside : display ≡ true → t.reached ≡ false

abbrev pub Kept : Head → Type 0
Kept h = Sound (displays h) h.targets

-- a set point is the four data bytes of a telegram, in their order: four characters, one a data byte
pub record Spelled (set-point : ℕ) (ten : List ℕ) : Type 0 where
  pub fourth : byte3 set-point ≡ get_or ten 8 0
  pub third : byte2 set-point ≡ get_or ten 7 0
  pub second : byte1 set-point ≡ get_or ten 6 0
  pub first : byte0 set-point ≡ get_or ten 5 0

pub record Display (m : System) : Type 0 where
  -- a head is let pass by refusal 20 with 28h 3, and not with 4
  pub three : wellformed_of (edges.value 23 3) ≡ true
  pub four : wellformed_of (edges.value 23 4) ≡ false
  -- the mode changes nothing of the position: A, what FEh would show unfrozen, and the differential value
  pub position : (vs : List ℕ) (g : Measurement) (mode : ℕ) → view_of (set vs 23 mode) g ≡ view_of vs g
  pub difference : (vs : List ℕ) (g : Measurement) (s mode : ℕ) → difference_of (set vs 23 mode) g s ≡ difference_of vs g s
  -- bit n of a word, a control word or a status word, is its nth binary digit
  pub digit : (w n : ℕ) → bit_set w n ≡ eqb (w / 2 ^ n % 2) 1
  -- the control word of a telegram is its bytes 4 and 5, high byte first
  pub word : (ten : List ℕ) → (fields_of ten).word ≡ get_or ten 3 0 * 256 + get_or ten 4 0
  -- and the bytes of a telegram are those that were heard, as the account gathers them: ten are a telegram, fewer stand gathered
  pub telegram : (h : Head) (b t : ℕ) → h.ear.count ≤ 9 → length h.ear.bytes ≡ 10
      → let l = gather (record { bytes = take h.ear.count h.ear.bytes; last = h.ear.at }) b t in
      10 ≤ length l → (is_some (gathered_of h.ear b t).ten ≡ true) × (ten_in (gathered_of h.ear b t).ten ≡ l)
  pub gathers : (h : Head) (b t : ℕ) → h.ear.count ≤ 9 → length h.ear.bytes ≡ 10
      → let l = gather (record { bytes = take h.ear.count h.ear.bytes; last = h.ear.at }) b t in
      let g = gathered_of h.ear b t in length l < 10 → (is_some g.ten ≡ false) × (take g.ear.count g.ear.bytes ≡ l)
  -- an accepted write of FBh or FFh stores its four data bytes, whatever they are, and status bit 9 tells from then on whether they are characters: bit 7 of its
  -- control word
  pub spells1 : (h : Head) (b t : ℕ) (space : List ℕ) → Taken h space → is_some (gathered_of h.ear b t).ten ≡ true
      → let ten = ten_in (gathered_of h.ear b t).ten in
      accepted h.stored.number (locked h) ten ≡ true → (fields_of ten).parameter ≡ 0xFB → ((i : ℕ) → get_or ten i 0 < 256)
      → Spelled (m.on_head.byte h b t (length space)).head.targets.first ten
  pub spells2 : (h : Head) (b t : ℕ) (space : List ℕ) → Taken h space → is_some (gathered_of h.ear b t).ten ≡ true
      → let ten = ten_in (gathered_of h.ear b t).ten in
      accepted h.stored.number (locked h) ten ≡ true → (fields_of ten).parameter ≡ 0xFF → ((i : ℕ) → get_or ten i 0 < 256)
      → Spelled (m.on_head.byte h b t (length space)).head.targets.second ten
  pub identifies : (h : Head) (b t : ℕ) (space : List ℕ) → Taken h space → is_some (gathered_of h.ear b t).ten ≡ true
      → let ten = ten_in (gathered_of h.ear b t).ten in
      accepted h.stored.number (locked h) ten ≡ true → ((fields_of ten).parameter ≡ 0xFB) ⊎ ((fields_of ten).parameter ≡ 0xFF)
      → let k = (m.on_head.byte h b t (length space)).head in displays k ≡ true → bit_set (status_of k) 9 ≡ bit_set (fields_of ten).word 7
  -- no call on a head in alpha-numeric display sets the static bit, whatever head is handed in
  pub byte_unset : (h : Head) (b t n : ℕ) → displays h ≡ true → Unset h (m.on_head.byte h b t n).head
  pub keys_unset : (h : Head) (s n : ℕ) → displays h ≡ true → Unset h (m.on_head.keys h s n).head
  pub ask_unset : (h : Head) (a : alone.Ask) → displays h ≡ true → Unset h (m.on_head.ask a h).head
  -- so it is with a head that is made alone, and each call on it alone keeps it so; and with each head of a line grown from none, after any calls
  pub made_kept : (node serial : ℕ) → Kept (m.on_head.make node serial).head
  pub byte_kept : (h : Head) (b t n : ℕ) → Kept h → Kept (m.on_head.byte h b t n).head
  pub keys_kept : (h : Head) (s n : ℕ) → Kept h → Kept (m.on_head.keys h s n).head
  pub ask_kept : (h : Head) (a : alone.Ask) → Kept h → Kept (m.on_head.ask a h).head
  pub kept : (cs : Calls) (k : ℕ) → k < count cs → Sound (displaying cs k) (head_after (machine_of m) cs k).targets
  -- the call, whichever it is, that enters it or leaves it makes both set points invalid and unacknowledged and clears the static bit; it leaves their values and
  -- the taken control word
  pub turns : (cs : Calls) (c : Call) (k : ℕ) → k < count cs → displaying cs k ≢ displaying (cs ▸ c) k → Bare (head_after (machine_of m) (cs ▸ c) k).targets
  pub survives : (cs : Calls) (c : Call) (k : ℕ) → k < count cs → displaying cs k ≢ displaying (cs ▸ c) k
      → let t = (head_after (machine_of m) cs k).targets in let u = (head_after (machine_of m) (cs ▸ c) k).targets in
      (u.first ≡ t.first) × (u.second ≡ t.second) × (u.word ≡ t.word)
