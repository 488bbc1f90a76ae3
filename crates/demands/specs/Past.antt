-- The account of a line, found by looking back over the calls: how many heads there are, their serial numbers, and of each its stored parameters, its number in
-- force, its interlock, the bytes that stand gathered, the number that is offered and the keys that are down. It names no head and no line: its
-- imports are the wire, the table of parameters, the format of a sheet and the calls.
-- Assumes nothing.
use Rattle.std.specs.Prelude.{ℕ, zero, suc, ◌+◌, ◌-◌, ◌/◌, ◌%◌, Bool, true, false, cond, not, ◌&&◌, ◌||◌, List, [], ◌∷◌, ◌++◌, leb, ltb, eqb, length}
use Rattle.std.proofs.Math.Option.{Option, none, some}
use Rattle.wire.specs.declared.telegram.Telegram.{Telegram}
use Rattle.wire.specs.Check.{hit_of}
use Rattle.wire.specs.Telegram.{fields_of}
use Rattle.rows.specs.declared.access.Access.{Access}
use Rattle.rows.specs.declared.access.Access.TheVariants.{ReadWrite, ReadOnly, WriteOnly, Unknown}
use Rattle.rows.specs.Among.{among}
use Rattle.rows.specs.Table.{row_of, address, delivery}
use Rattle.rows.specs.Access.{stored, access_of}
use Rattle.rows.specs.Ranges.{range_of, is_right}
use Rattle.sheet.specs.Each.{each}
use Rattle.sheet.specs.Format.{count_of, address_of, value_of, well_formed_of}
use Rattle.demands.specs.Calls.{Ask, measure, power, load, bring, Call, new_head, byte, tick, named, keys, dropped, Calls, start, ◌▸◌}

-- ---- what is kept
-- the bytes that stand gathered, and when the last was heard
pub record Ear : Type 0 where
  pub bytes : List ℕ
  pub last : ℕ

-- of a head: the value of the parameter at each place, the number in force, whether the interlock is open, the bytes, the number that is offered by
-- Auto-ID (0: none), the key state
pub record Entry : Type 0 where
  pub value : ℕ → ℕ
  pub number : ℕ
  pub is_open : Bool
  pub ear : Ear
  pub offer : ℕ
  pub keys : ℕ

-- of the line: how many heads there are, the serial numbers that they were made with, in their order, and the entry of each
pub record Account : Type 0 where
  pub count : ℕ
  pub serials : List ℕ
  pub entry : ℕ → Entry

-- what a call changes of a head: the value that it gives the parameter at a place, where it touches it; whether it restarts the head;
-- whether the interlock is open then, which number is offered and which keys are down, where it touches these
pub record Change : Type 0 where
  pub gives : ℕ → Option ℕ
  pub restarts : Bool
  pub opens : Option Bool
  pub offers : Option ℕ
  pub presses : Option ℕ

abbrev pub nothing : Change
nothing = record { gives = λ r. none; restarts = false; opens = none; offers = none; presses = none }

-- ---- a head is made: its delivery values, that of 00h being the node number
unfoldable pub delivered : ℕ → ℕ → ℕ
delivered node r = cond (eqb r 0) node (delivery (row_of r))

abbrev pub making : ℕ → Change
making node = record { gives = λ r. some (delivered node r); restarts = true; opens = some false; offers = none; presses = none }

-- a node number of 1 to 127, while there are fewer than 32, with a serial number that none of them has
unfoldable pub may_add_of : ℕ → List ℕ → ℕ → ℕ → Bool
may_add_of n ss node serial = ltb n 32 && ((leb 1 node && leb node 127) && not (among ss serial))

unfoldable pub grown : Call → ℕ → List ℕ → ℕ
grown (new_head node serial) n ss = cond (may_add_of n ss node serial) (suc n) n
grown (byte b t s) n ss = n
grown (tick t) n ss = n
grown (named j a) n ss = n
grown (keys j s r) n ss = n
grown (dropped t) n ss = n

-- the serial numbers: that of a new head stands after the others, and no other call touches them
unfoldable pub marked : Call → ℕ → List ℕ → List ℕ
marked (new_head node serial) n ss = cond (may_add_of n ss node serial) (ss ++ (serial ∷ [])) ss
marked (byte b t s) n ss = ss
marked (tick t) n ss = ss
marked (named j a) n ss = ss
marked (keys j s r) n ss = ss
marked (dropped t) n ss = ss

-- ---- bytes are gathered: a byte call with ten bytes of space is heard by every head, and a gap of more than 10 ms starts anew
abbrev pub room : ℕ → Bool
room s = leb 10 s

-- the difference modulo 4,294,967,296 of two millisecond readings
unfoldable pub since : ℕ → ℕ → ℕ
since now then = (now + 4294967296 - then) % 4294967296

unfoldable pub gather : Ear → ℕ → ℕ → List ℕ
gather e b t = cond (leb (since t e.last) 10) (e.bytes ++ (b ∷ [])) (b ∷ [])

-- ten make a telegram, and none stand gathered then
unfoldable pub kept : List ℕ → List ℕ
kept l = cond (ltb (length l) 10) l []

-- no bytes stand gathered
abbrev pub no_bytes_of : Ear
no_bytes_of = record { bytes = []; last = 0 }

-- a rack begins with every head dropping what it has gathered
unfoldable pub ear_by : Call → Ear → Ear
ear_by (new_head node serial) e = e
ear_by (byte b t s) e = cond (room s) (record { bytes = kept (gather e b t); last = t }) e
ear_by (tick t) e = e
ear_by (named j a) e = e
ear_by (keys j s n) e = e
ear_by (dropped t) e = no_bytes_of

-- ---- was a telegram accepted, by the number in force and by whether the head was locked: it is sound; it is a write at the number in force
-- to a parameter that may be written, or a broadcast to one that may be broadcast; it is not locked; a number is offered, by D2h, only where the number
-- in force is 31; the value is right
abbrev pub writable : Access → Bool
writable ReadWrite = true
writable ReadOnly = false
writable WriteOnly = true
writable Unknown = false

abbrev pub writes : ℕ → Telegram → Bool
writes force t = eqb t.command 1 && (eqb t.node force && writable (access_of t.parameter))

-- A0h, A8h and AAh may be broadcast
abbrev pub castable : ℕ → Bool
castable a = among (0xA0 ∷ 0xA8 ∷ 0xAA ∷ []) a

abbrev pub casts : Telegram → Bool
casts t = eqb t.command 2 && castable t.parameter

-- one of the 39, or A0h
unfoldable pub lockable : ℕ → Bool
lockable a = among stored a || eqb a 0xA0

abbrev pub offerable : ℕ → ℕ → Bool
offerable force a = not (eqb a 0xD2) || eqb force 31

abbrev pub accepted_fields : ℕ → Bool → Telegram → Bool
accepted_fields force locked t =
    (writes force t || casts t)
    && (not (locked && lockable t.parameter) && (offerable force t.parameter && is_right (range_of t.parameter t.value)))

unfoldable pub accepted : ℕ → Bool → List ℕ → Bool
accepted force locked ten = eqb (hit_of ten) 0 && accepted_fields force locked (fields_of ten)

-- the bus parameters; A0h 1 resets all, 2 all but these, 5 these
abbrev pub bus : ℕ → Bool
bus a = among (0x00 ∷ 0x01 ∷ 0x02 ∷ 0x03 ∷ 0x0E ∷ 0xD0 ∷ []) a

abbrev pub resets : ℕ → ℕ → Bool
resets v a = cond (eqb v 1) true (cond (eqb v 2) (not (bus a)) (cond (eqb v 5) (bus a) false))

-- what an accepted telegram does: written to one of the 39, its value is given there; A0h resets or, with 9, restarts; A8h 1 opens; D2h offers
unfoldable pub gives : ℕ → ℕ → ℕ → Option ℕ
gives a v r =
    cond (eqb a (address (row_of r))) (some v) (cond (eqb a 0xA0 && resets v (address (row_of r))) (some (delivery (row_of r))) none)

abbrev pub obeying : ℕ → ℕ → Change
obeying a v =
    record {
      gives = λ r. gives a v r;
      restarts = eqb a 0xA0 && eqb v 9;
      opens = cond (eqb a 0xA8) (some (eqb v 1)) none;
      offers = cond (eqb a 0xD2) (some v) none;
      presses = none;
    }

-- a number outside 1..31 that is offered, by a sound write of D2h at the number in force, which is 31, drops the offer
abbrev pub withdrawn_fields : ℕ → Telegram → Bool
withdrawn_fields force t =
    eqb t.command 1 && (eqb t.node force && (eqb t.parameter 0xD2 && (eqb force 31 && not (leb 1 t.value && leb t.value 31))))

unfoldable pub withdrawn : ℕ → List ℕ → Bool
withdrawn force ten = eqb (hit_of ten) 0 && withdrawn_fields force (fields_of ten)

abbrev pub dropping : Change
dropping = record { gives = λ r. none; restarts = false; opens = none; offers = some 0; presses = none }

-- 0Eh is 1 and the interlock closed; 0Eh stands at place 14
abbrev pub locked : Entry → Bool
locked e = eqb (e.value 14) 1 && not e.is_open

abbrev pub telling : Entry → List ℕ → Change
telling e ten =
    cond (accepted e.number (locked e) ten) (obeying (fields_of ten).parameter (fields_of ten).value)
    (cond (withdrawn e.number ten) dropping nothing)

-- fewer than ten bytes are no telegram yet
unfoldable pub hearing : Entry → List ℕ → Change
hearing e l = cond (ltb (length l) 10) nothing (telling e l)

-- ---- a sheet is loaded, whatever the interlock: it is accepted where it is one, each address is one of the 39, and each value is right there; 35h at 1, as a sheet
-- of an older head may have it, is a write of 0
abbrev pub all_stored : List ℕ → Bool
all_stored s = each (λ i. among stored (address_of s i)) (count_of s)

abbrev pub meant : List ℕ → ℕ → ℕ
meant s i = cond (eqb (address_of s i) 0x35 && eqb (value_of s i) 1) 0 (value_of s i)

abbrev pub all_right : List ℕ → Bool
all_right s = each (λ i. is_right (range_of (address_of s i) (meant s i))) (count_of s)

unfoldable pub loadable : List ℕ → Bool
loadable s = well_formed_of s && (all_stored s && all_right s)

-- then it is an accepted write of each row, one after another: of the first n rows, what the last that touches the parameter at place r gives it
abbrev pub or_else : {A : Type 0} → Option A → Option A → Option A
or_else (some v) before = some v
or_else none before = before

abbrev pub written : List ℕ → ℕ → ℕ → Option ℕ
written s zero r = none
written s (suc n) r = or_else (gives (address_of s n) (meant s n) r) (written s n r)

abbrev pub storing : List ℕ → Change
storing s = record { gives = λ r. written s (count_of s) r; restarts = false; opens = none; offers = none; presses = none }

unfoldable pub loaded : List ℕ → Change
loaded s = cond (loadable s) (storing s) nothing

-- ---- a head is asked by its number; power is cut; an older head is brought over, which is an accepted write of 0 to 35h
abbrev pub cutting : Change
cutting = record { gives = λ r. none; restarts = true; opens = none; offers = none; presses = none }

unfoldable pub asked : Ask → Entry → Change
asked (measure m) e = nothing
asked power e = cutting
asked (load s) e = loaded s
asked bring e = obeying 0x35 0

-- ---- keys: the key state is taken, where it is 7 at most and ten bytes are lent; up, with weight 4, is newly pressed where it is down and was not
abbrev pub up_pressed : ℕ → ℕ → Bool
up_pressed state before = eqb (state / 4 % 2) 1 && eqb (before / 4 % 2) 0

-- up newly pressed where a number is offered adopts it: an accepted write of 00h, and a restart
abbrev pub adopts : ℕ → Entry → Bool
adopts s e = up_pressed s e.keys && not (eqb e.offer 0)

abbrev pub adopting : ℕ → Change
adopting n = record { gives = λ r. cond (eqb r 0) (some n) none; restarts = true; opens = none; offers = none; presses = none }

abbrev pub pressing : ℕ → Change
pressing s = record { gives = λ r. none; restarts = false; opens = none; offers = none; presses = some s }

unfoldable pub pressed : ℕ → ℕ → Entry → Change
pressed s n e = cond (leb s 7 && room n) (cond (adopts s e) (adopting e.offer) (pressing s)) nothing

-- ---- what a call changes of head k of n, whose serial numbers are ss
-- head k is the one that this call makes; it is the one that this call names
abbrev pub makes : ℕ → List ℕ → ℕ → ℕ → ℕ → Bool
makes n ss node serial k = may_add_of n ss node serial && eqb k n

abbrev pub names : ℕ → ℕ → ℕ → Bool
names n j k = ltb j n && eqb k j

unfoldable pub change : Call → ℕ → List ℕ → ℕ → Entry → Change
change (new_head node serial) n ss k e = cond (makes n ss node serial k) (making node) nothing
change (byte b t s) n ss k e = cond (room s) (hearing e (gather e.ear b t)) nothing
change (tick t) n ss k e = nothing
change (named j a) n ss k e = cond (names n j k) (asked a e) nothing
change (keys j s r) n ss k e = cond (names n j k) (pressed s r e) nothing
change (dropped t) n ss k e = nothing

unfoldable pub look : {A : Type 0} → Option A → A → A
look (some v) before = v
look none before = before

-- the entry after a change, with the bytes as they stand gathered now: a restart takes the value of 00h into force and leaves no bytes, no offer and no
-- key down
unfoldable pub next : Change → Ear → Entry → Entry
next g ear e =
    record {
      value = λ r. look (g.gives r) (e.value r);
      number = cond g.restarts (look (g.gives 0) (e.value 0)) e.number;
      is_open = look g.opens e.is_open;
      ear = cond g.restarts no_bytes_of ear;
      offer = cond g.restarts 0 (look g.offers e.offer);
      keys = cond g.restarts 0 (look g.presses e.keys);
    }

abbrev pub entry_by : Call → ℕ → List ℕ → ℕ → Entry → Entry
entry_by c n ss k e = next (change c n ss k e) (ear_by c e.ear) e

-- ---- the account after these calls
unfoldable pub account : Calls → Account
account start =
    record { count = 0; serials = []; entry = λ k. record { value = delivered 31; number = 31; is_open = false; ear = no_bytes_of; offer = 0; keys = 0 } }
account (cs ▸ c) =
    record {
      count = grown c (account cs).count (account cs).serials;
      serials = marked c (account cs).count (account cs).serials;
      entry = λ k. entry_by c (account cs).count (account cs).serials k ((account cs).entry k);
    }

abbrev pub count : Calls → ℕ
count cs = (account cs).count

abbrev pub serials : Calls → List ℕ
serials cs = (account cs).serials

abbrev pub entry : Calls → ℕ → Entry
entry cs k = (account cs).entry k

abbrev pub value : Calls → ℕ → ℕ → ℕ
value cs k r = (entry cs k).value r

abbrev pub in_force : Calls → ℕ → ℕ
in_force cs k = (entry cs k).number
