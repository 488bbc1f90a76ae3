-- Systems: the calls on a head alone and on a line, the product's own or those of a wrong version (Wrong). The demands are asked of a system, so
-- that a wrong one can be shown to fail them. Demand 3 asks less of it, a machine, whose heads and lines may be any.
-- Assumes nothing.
use Rattle.std.specs.Prelude.{ℕ, zero, suc, Bool, List, [], ◌∷◌, ◌++◌, length, take, Result, ⊤, Ok, Err}
use Rattle.wire.specs.Telegram.{bytes_of}
use Rattle.state.specs.declared.parts.Head.{Head}
use Rattle.state.specs.declared.parts.Ear.{Ear}
use Rattle.effects.specs.Restart.{empty_ear}
use Rattle.head.specs.declared.calls.Called as head-Called
use Rattle.head.specs.declared.calls.Fed as head-Fed
use Rattle.head.specs.Calls as head
use Rattle.head.specs.Outcome as alone
use Rattle.line.specs.declared.calls.Line.{Line}
use Rattle.line.specs.declared.calls.Called.{Called}
use Rattle.line.specs.declared.calls.Fed.{Fed}
use Rattle.line.specs.Calls.{empty_of, head_at, fits_of, grow_of, byte_of, byte_space_of, tick_of, measure_of, keys_of, keys_space_of, power_of, last_hit_of, load_of, save_of, save_space_of, serial_number_of, bring_of}
use Rattle.rack.specs.declared.Racked.{Racked}
use Rattle.rack.specs.Rack.{rack_of, rack_space_of}
use Rattle.demands.specs.Calls.{Ask, measure, power, load, bring, Call, new_head, byte, tick, named, keys, dropped, Calls, start, ◌▸◌}
use Rattle.head.specs.declared.refusal.Refusal.{Refusal}

-- ---- the calls on a head alone: it is made with a node number and a serial number; a byte, by its time and the length of the space lent, and the space after it;
-- a tick, a measurement, power, a sheet loaded, an older head brought over; what the last damaged telegram was hit by; a key state, by the length of the space lent, and the
-- space after it; a sheet written, by the length of the space lent, and the space after it; its serial number
pub record OnHead : Type 0 where
  pub make : ℕ → ℕ → head-Called.Called
  pub byte : Head → ℕ → ℕ → ℕ → head-Fed.Fed
  pub space : Head → ℕ → ℕ → List ℕ → List ℕ
  pub ask : alone.Ask → Head → head-Called.Called
  pub hit : Head → Result ℕ Refusal
  pub keys : Head → ℕ → ℕ → head-Fed.Fed
  pub key_space : Head → ℕ → List ℕ → List ℕ
  pub save : Head → ℕ → Result ⊤ Refusal
  pub sheet : Head → List ℕ → List ℕ
  pub serial : Head → Result ℕ Refusal

-- the calls on a line: it is grown by a node number and a serial number; a byte; a tick; a call that names a head; what the last damaged telegram that a head heard
-- was hit by; a key state of the head that is named; its sheet; its serial number; a rack of telegrams, by its bytes, their time, the length of the
-- space lent and the place in it, and the space after it
pub record OnLine : Type 0 where
  pub grow : Line → ℕ → ℕ → Called
  pub byte : Line → ℕ → ℕ → ℕ → Fed
  pub space : Line → ℕ → ℕ → List ℕ → List ℕ
  pub tick : Line → ℕ → Called
  pub ask : Ask → Line → ℕ → Called
  pub hit : Line → ℕ → Result ℕ Refusal
  pub keys : Line → ℕ → ℕ → ℕ → Fed
  pub key_space : Line → ℕ → ℕ → List ℕ → List ℕ
  pub save : Line → ℕ → ℕ → Result ⊤ Refusal
  pub sheet : Line → ℕ → List ℕ → List ℕ
  pub serial : Line → ℕ → Result ℕ Refusal
  pub rack : Line → List ℕ → ℕ → ℕ → ℕ → Racked
  pub rack_space : Line → List ℕ → ℕ → List ℕ → ℕ → List ℕ

pub record System : Type 0 where
  pub on_head : OnHead
  pub on_line_of : OnLine

-- ---- the product: the definitions that the contracts of the crates head, line and rack cite
unfoldable pub ask_of : Ask → Line → ℕ → Called
ask_of (measure m) l j = measure_of l j m
ask_of power l j = power_of l j
ask_of (load s) l j = load_of l j s
ask_of bring l j = bring_of l j

abbrev pub product : System
product =
    record {
      on_head = record {
        make = head.made_of;
        byte = head.byte_of;
        space = head.byte_space_of;
        ask = alone.called;
        hit = head.last_hit_of;
        keys = head.keys_of;
        key_space = head.keys_space_of;
        save = head.save_of;
        sheet = head.save_space_of;
        serial = head.serial_number_of;
      };
      on_line_of = record {
        grow = grow_of;
        byte = byte_of;
        space = byte_space_of;
        tick = tick_of;
        ask = ask_of;
        hit = last_hit_of;
        keys = keys_of;
        key_space = keys_space_of;
        save = save_of;
        sheet = save_space_of;
        serial = serial_number_of;
        rack = rack_of;
        rack_space = rack_space_of;
      };
    }

-- the same asked of a head alone
abbrev pub alone_of : Ask → alone.Ask
alone_of (measure m) = alone.measure m
alone_of power = alone.power
alone_of (load s) = alone.load s
alone_of bring = alone.bring

-- the line after a call
unfoldable pub after : OnLine → Call → Line → Line
after m (new_head node serial) l = (m.grow l node serial).line
after m (byte b t s) l = (m.byte l b t s).line
after m (tick t) l = (m.tick l t).line
after m (named j a) l = (m.ask a l j).line
after m (keys j s n) l = (m.keys l j s n).line
after m (dropped t) l = (m.rack l [] t 0 0).line

-- ---- what demand 3 asks of a machine
pub record Machine : Type 1 where
  -- a line, and a head taken from it
  pub Line : Type 0
  pub Head : Type 0
  -- a line with no head; the line after a call; what a byte call returns, by byte, time and length of the space
  pub none : Line
  pub after : Call → Line → Line
  pub heard : Line → ℕ → ℕ → ℕ → Result ℕ Refusal
  -- how many heads it has, whether it is well-formed (no refusal 20), and the head at a place
  pub count : Line → ℕ
  pub fits : Line → Bool
  pub head_of : Line → ℕ → Head
  -- a head's number in force, its serial number, its stored values, and the head with no bytes gathered
  pub number : Head → ℕ
  pub serial : Head → ℕ
  pub values : Head → List ℕ
  pub emptied : Head → Head
  -- a byte call on it alone, by byte, time and space lent: the head after it, what it returns, and the space
  pub fed : Head → ℕ → ℕ → List ℕ → Head
  pub told : Head → ℕ → ℕ → List ℕ → Result ℕ Refusal
  pub space : Head → ℕ → ℕ → List ℕ → List ℕ

-- the head with these bytes gathered, and nothing else of it changed
abbrev pub with_ear : Head → Ear → Head
with_ear h e =
    record {
      stored = h.stored;
      faults = h.faults;
      measurement = h.measurement;
      targets = h.targets;
      monitor = h.monitor;
      ear = e;
      keys = h.keys;
    }

-- a system as a machine
abbrev pub machine_of : System → Machine
machine_of m =
    record {
      Line = Line;
      Head = Head;
      none = empty_of;
      after = λ c l. after m.on_line_of c l;
      heard = λ l b t s. (m.on_line_of.byte l b t s).heard;
      count = λ l. l.count;
      fits = fits_of;
      head_of = head_at;
      number = λ h. h.stored.number;
      serial = λ h. h.stored.serial;
      values = λ h. h.stored.values;
      emptied = λ h. with_ear h (empty_ear 0);
      fed = λ h b t s. (m.on_head.byte h b t (length s)).head;
      told = λ h b t s. (m.on_head.byte h b t (length s)).heard;
      space = m.on_head.space;
    }

-- the line after the calls, and head k of it
unfoldable pub runs : (m : Machine) → Calls → m.Line
runs m start = m.none
runs m (cs ▸ c) = m.after c (runs m cs)

abbrev pub head_after : (m : Machine) → Calls → ℕ → m.Head
head_after m cs k = m.head_of (runs m cs) k

-- the replies of bytes put to a head alone, one byte call each, byte i at the time τ i: where a call returns one, it stands in the first ten
-- bytes of the space; more than one are not just one
abbrev pub replied : Result ℕ Refusal → List ℕ → List (List ℕ)
replied (Ok zero) x = []
replied (Ok (suc zero)) x = x ∷ []
replied (Ok (suc (suc n))) x = x ∷ x ∷ []
replied (Err why) x = []

abbrev pub answers : (m : Machine) → List ℕ → (ℕ → ℕ) → ℕ → m.Head → List ℕ → List (List ℕ)
answers m [] τ i h s = []
answers m (b ∷ bs) τ i h s =
    replied (m.told h b (τ i) s) (take 10 (m.space h b (τ i) s)) ++ answers m bs τ (suc i) (m.fed h b (τ i) s) s

-- a sound read of a parameter at a number, whatever its control word and data
abbrev pub read_of : ℕ → ℕ → ℕ → ℕ → List ℕ
read_of number address word value =
    bytes_of (record { command = 0; node = number; parameter = address; word = word; value = value })

-- ---- the product as a machine: the line after the calls, and head k of it
abbrev pub built : Machine
built = machine_of product

abbrev pub run : Calls → Line
run cs = runs built cs

abbrev pub head_in : Calls → ℕ → Head
head_in cs k = head_at (run cs) k
