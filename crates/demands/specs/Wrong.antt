-- Wrong versions, each as a system of its own, and that it does not meet the demand: those that document 01 has us try ("Holding the contracts
-- to the manual"), and others that met an earlier statement of the demands.
-- Assumes nothing.
use Rattle.std.specs.Prelude.{ℕ, zero, suc, ◌≡◌, Bool, false, cond, ◌||◌, List, [], ◌∷◌, ◌++◌, eqb, length, take, drop, replicate, set, Err, Ok, Result}
use Rattle.wire.specs.Telegram.{fields_of, bytes_of}
use Rattle.state.specs.declared.parts.Head.{Head}
use Rattle.state.specs.Settings.{value_at, node_place}
use Rattle.state.specs.With.{with_stored}
use Rattle.effects.specs.Restart.{empty_ear, restarted_of, fresh_of}
use Rattle.head.specs.declared.refusal.Refusal.{Refusal}
use Rattle.head.specs.declared.refusal.Refusal.TheVariants.{Node, OutOfReach}
use Rattle.head.specs.Calls as head
use Rattle.head.specs.Outcome as alone
use Rattle.line.specs.declared.calls.Line.{Line}
use Rattle.line.specs.declared.calls.Called.{Called}
use Rattle.line.specs.Calls as line
use Rattle.rack.specs.Rack as rack
use Rattle.demands.specs.Calls.{Ask, Call, new_head, byte, tick, named, keys, dropped}
use Rattle.demands.specs.Run.{OnHead, OnLine, System, product, ask_of, after, Machine, with_ear, machine_of}
use Rattle.demands.specs.Demand1.{Demand1}
use Rattle.demands.specs.Demand2.{Demand2}
use Rattle.demands.specs.Demand3.{Demand3}

-- ---- refuses every call, for whatever reason
abbrev pub refusing : Refusal → System
refusing why =
    record {
      on_head = record {
        make = λ node serial. head.refused_with (head.factory_of serial) why;
        byte = λ h b t n. record { head = h; heard = Err why };
        space = λ h b t s. s;
        ask = λ a h. head.refused_with h why;
        hit = λ h. Err why;
        keys = λ h s n. record { head = h; heard = Err why };
        key_space = λ h s x. x;
        save = λ h n. Err why;
        sheet = λ h x. x;
        serial = λ h. Err why;
      };
      on_line_of = record {
        grow = λ l node serial. line.refused_with l why;
        byte = λ l b t n. record { line = l; heard = Err why };
        space = λ l b t s. s;
        tick = λ l t. line.refused_with l why;
        ask = λ a l j. line.refused_with l why;
        hit = λ l j. Err why;
        keys = λ l j s n. record { line = l; heard = Err why };
        key_space = λ l j s x. x;
        save = λ l j n. Err why;
        sheet = λ l j x. x;
        serial = λ l j. Err why;
        rack = λ l bs t n p. rack.refused_with l why;
        rack_space = λ l bs t x p. x;
      };
    }

-- ---- changes nothing: every answer and every reply is as it should be, and every head and line as it was
abbrev pub unchanging : System
unchanging =
    record {
      on_head = record {
        make = head.made_of;
        byte = λ h b t n. record { head = h; heard = (head.byte_of h b t n).heard };
        space = head.byte_space_of;
        ask = λ a h. record { head = h; answer = (alone.called a h).answer };
        hit = head.last_hit_of;
        keys = λ h s n. record { head = h; heard = (head.keys_of h s n).heard };
        key_space = head.keys_space_of;
        save = head.save_of;
        sheet = head.save_space_of;
        serial = head.serial_number_of;
      };
      on_line_of = record {
        grow = λ l node serial. record { line = l; answer = (line.grow_of l node serial).answer };
        byte = λ l b t n. record { line = l; heard = (line.byte_of l b t n).heard };
        space = line.byte_space_of;
        tick = λ l t. record { line = l; answer = (line.tick_of l t).answer };
        ask = λ a l j. record { line = l; answer = (ask_of a l j).answer };
        hit = line.last_hit_of;
        keys = λ l j s n. record { line = l; heard = (line.keys_of l j s n).heard };
        key_space = line.keys_space_of;
        save = line.save_of;
        sheet = line.save_space_of;
        serial = line.serial_number_of;
        rack = λ l bs t n p. record { line = l; answer = (rack.rack_of l bs t n p).answer };
        rack_space = rack.rack_space_of;
      };
    }

-- ---- invents the reply count: it is k, whatever was sent
abbrev pub counting : ℕ → System
counting k =
    record {
      on_head = record {
        make = head.made_of;
        byte = λ h b t n. record { head = (head.byte_of h b t n).head; heard = Ok k };
        space = head.byte_space_of;
        ask = alone.called;
        hit = head.last_hit_of;
        keys = head.keys_of;
        key_space = head.keys_space_of;
        save = head.save_of;
        sheet = head.save_space_of;
        serial = head.serial_number_of;
      };
      on_line_of = record {
        grow = line.grow_of;
        byte = λ l b t n. record { line = (line.byte_of l b t n).line; heard = Ok k };
        space = line.byte_space_of;
        tick = line.tick_of;
        ask = ask_of;
        hit = line.last_hit_of;
        keys = line.keys_of;
        key_space = line.keys_space_of;
        save = line.save_of;
        sheet = line.save_space_of;
        serial = line.serial_number_of;
        rack = rack.rack_of;
        rack_space = rack.rack_space_of;
      };
    }

-- ---- sends other replies: where just one reply stands in the space, f of it
abbrev pub respoken : (List ℕ → List ℕ) → Result ℕ Refusal → List ℕ → List ℕ
respoken f (Ok zero) s = s
respoken f (Ok (suc zero)) s = f (take 10 s) ++ drop 10 s
respoken f (Ok (suc (suc n))) s = s
respoken f (Err why) s = s

-- alone, and on a line
abbrev pub head_saying : (List ℕ → List ℕ) → OnHead
head_saying f =
    record {
      make = head.made_of;
      byte = head.byte_of;
      space = λ h b t s. respoken f (head.byte_of h b t (length s)).heard (head.byte_space_of h b t s);
      ask = alone.called;
      hit = head.last_hit_of;
      keys = head.keys_of;
      key_space = head.keys_space_of;
      save = head.save_of;
      sheet = head.save_space_of;
      serial = head.serial_number_of;
    }

abbrev pub line_saying : (List ℕ → List ℕ) → OnLine
line_saying f =
    record {
      grow = line.grow_of;
      byte = line.byte_of;
      space = λ l b t s. respoken f (line.byte_of l b t (length s)).heard (line.byte_space_of l b t s);
      tick = line.tick_of;
      ask = ask_of;
      hit = line.last_hit_of;
      keys = line.keys_of;
      key_space = line.keys_space_of;
      save = line.save_of;
      sheet = line.save_space_of;
      serial = line.serial_number_of;
      rack = rack.rack_of;
      rack_space = rack.rack_space_of;
    }

-- the same reply always
abbrev pub parroting : List ℕ → System
parroting x = record { on_head = head_saying (λ r. x); on_line_of = line_saying (λ r. x) }

-- an invented count: every reply for the parameter a has the data c
abbrev pub altered : ℕ → ℕ → List ℕ → List ℕ
altered a c x =
    cond (eqb (fields_of x).parameter a)
    (bytes_of (record { command = (fields_of x).command; node = (fields_of x).node; parameter = a; word = (fields_of x).word; value = c })) x

abbrev pub inventing : ℕ → ℕ → System
inventing a c = record { on_head = head_saying (altered a c); on_line_of = line_saying (altered a c) }

-- a line that lays ten bytes of 0, which pass the check, for its one reply
abbrev pub zeroing : System
zeroing = record { on_head = product.on_head; on_line_of = line_saying (λ r. replicate 10 0) }

-- ---- wrong in one call on a head alone, whatever the others do: power, or a tick, that does nothing; a restart that takes 00h for the baud
-- setting, or that forgets what is stored at 04h; a refused node number that hands back a head at 7
abbrev pub baud_of_node : Head → Head
baud_of_node h =
    let s = h.stored in
    with_stored h (record { values = s.values; number = s.number; baud = value_at s.values node_place; offer = s.offer; serial = s.serial; unlocked = s.unlocked })

abbrev pub IdlePower : System → Type 0
IdlePower m = (h : Head) → m.on_head.ask alone.power h ≡ head.done_with h

abbrev pub IdleTick : System → Type 0
IdleTick m = (h : Head) (t : ℕ) → m.on_head.ask (alone.tick t) h ≡ head.done_with h

abbrev pub BaudOfNode : System → Type 0
BaudOfNode m = (h : Head) → m.on_head.ask alone.power h ≡ head.done_with (baud_of_node (restarted_of h))

abbrev pub forgotten : Head → Head
forgotten h =
    let s = h.stored in
    with_stored h (record { values = set s.values 4 6; number = s.number; baud = s.baud; offer = s.offer; serial = s.serial; unlocked = s.unlocked })

abbrev pub Forgets : System → Type 0
Forgets m = (h : Head) → m.on_head.ask alone.power h ≡ head.done_with (forgotten (restarted_of h))

abbrev pub SevenMade : System → Type 0
SevenMade m = m.on_head.make 0 0 ≡ head.refused_with (fresh_of 7 0) Node

-- ---- wrong in a call on a line that names a head: head 0 becomes what the named one does; a key state above 7 is refused with 4
abbrev pub first_too : Called → ℕ → Called
first_too c j = record { line = record { heads = set c.line.heads 0 (line.head_at c.line j); count = c.line.count }; answer = c.answer }

abbrev pub FirstToo : System → Type 0
FirstToo m = (a : Ask) (l : Line) (j : ℕ) → m.on_line_of.ask a l j ≡ first_too (ask_of a l j) j

abbrev pub FourForFive : System → Type 0
FourForFive m = (l : Line) (j n : ℕ) → m.on_line_of.keys l j 8 n ≡ line.unfed l OutOfReach

-- ---- obeys the first telegram and only echoes later writes: a line, or a head, and whether a sound telegram has been heard. From then on
-- every byte is answered as before, and what is stored stays as it was
pub record EchoLine : Type 0 where
  pub line : Line
  pub done : Bool

pub record EchoHead : Type 0 where
  pub head : Head
  pub done : Bool

-- the head after, with what the head before had stored
abbrev pub unwritten : Head → Head → Head
unwritten old new = with_stored new old.stored

abbrev pub unwritten_all : List Head → List Head → List Head
unwritten_all [] new = new
unwritten_all (h ∷ hs) [] = []
unwritten_all (h ∷ hs) (g ∷ gs) = unwritten h g ∷ unwritten_all hs gs

-- a sound telegram starts the monitor
abbrev pub echoed_line : EchoLine → Line → EchoLine
echoed_line l new =
    record {
      line = cond l.done (record { heads = unwritten_all l.line.heads new.heads; count = new.count }) new;
      done = l.done || (line.head_at new 0).monitor.running;
    }

abbrev pub echoed_head : EchoHead → Head → EchoHead
echoed_head h new = record { head = cond h.done (unwritten h.head new) new; done = h.done || new.monitor.running }

abbrev pub echo_after : Call → EchoLine → EchoLine
echo_after (new_head node serial) l = record { line = after product.on_line_of (new_head node serial) l.line; done = l.done }
echo_after (byte b t s) l = echoed_line l (after product.on_line_of (byte b t s) l.line)
echo_after (tick t) l = record { line = after product.on_line_of (tick t) l.line; done = l.done }
echo_after (named j a) l = record { line = after product.on_line_of (named j a) l.line; done = l.done }
echo_after (keys j s n) l = record { line = after product.on_line_of (keys j s n) l.line; done = l.done }
echo_after (dropped t) l = record { line = after product.on_line_of (dropped t) l.line; done = l.done }

abbrev pub echoing : Machine
echoing =
    record {
      Line = EchoLine;
      Head = EchoHead;
      none = record { line = line.empty_of; done = false };
      after = echo_after;
      heard = λ l b t s. (line.byte_of l.line b t s).heard;
      count = λ l. l.line.count;
      fits = λ l. line.fits_of l.line;
      head_of = λ l k. record { head = line.head_at l.line k; done = l.done };
      number = λ h. h.head.stored.number;
      serial = λ h. h.head.stored.serial;
      values = λ h. h.head.stored.values;
      emptied = λ h. record { head = with_ear h.head (empty_ear 0); done = h.done };
      fed = λ h b t s. echoed_head h (head.byte_of h.head b t (length s)).head;
      told = λ h b t s. (head.byte_of h.head b t (length s)).heard;
      space = λ h b t s. head.byte_space_of h.head b t s;
    }

-- ---- obeys a new node number at once: after each byte, 00h of every head is in force
abbrev pub at_once : Head → Head
at_once h =
    let s = h.stored in
    with_stored h (record { values = s.values; number = value_at s.values node_place; baud = s.baud; offer = s.offer; serial = s.serial; unlocked = s.unlocked })

abbrev pub at_once_all : List Head → List Head
at_once_all [] = []
at_once_all (h ∷ hs) = at_once h ∷ at_once_all hs

abbrev pub hasty : System
hasty =
    record {
      on_head = product.on_head;
      on_line_of = record {
        grow = line.grow_of;
        byte = λ l b t n.
            let f = line.byte_of l b t n in
            record { line = record { heads = at_once_all f.line.heads; count = f.line.count }; heard = f.heard };
        space = line.byte_space_of;
        tick = line.tick_of;
        ask = ask_of;
        hit = line.last_hit_of;
        keys = line.keys_of;
        key_space = line.keys_space_of;
        save = line.save_of;
        sheet = line.save_space_of;
        serial = line.serial_number_of;
        rack = rack.rack_of;
        rack_space = rack.rack_space_of;
      };
    }

pub record Wrong : Type 0 where
  pub refusing_fails : (why : Refusal) → Demand2 (refusing why) → ⊥
  pub unchanging_fails : Demand2 unchanging → ⊥
  pub parroting_fails : (x : List ℕ) → Demand2 (parroting x) → ⊥
  pub counting_fails : (k : ℕ) → Demand2 (counting k) → ⊥
  pub inventing_80h_fails : (c : ℕ) → Demand2 (inventing 0x80 c) → ⊥
  pub inventing_96h_fails : (c : ℕ) → Demand2 (inventing 0x96 c) → ⊥
  pub zeroing_fails : Demand2 zeroing → ⊥
  pub idle_power_fails : (m : System) → IdlePower m → Demand2 m → ⊥
  pub idle_tick_fails : (m : System) → IdleTick m → Demand2 m → ⊥
  pub baud_of_node_fails : (m : System) → BaudOfNode m → Demand2 m → ⊥
  pub forgetting_fails : (m : System) → Forgets m → Demand2 m → ⊥
  pub first_too_fails : (m : System) → FirstToo m → Demand2 m → ⊥
  pub four_for_five_fails : (m : System) → FourForFive m → Demand1 m → ⊥
  pub seven_made_fails : (m : System) → SevenMade m → Demand1 m → ⊥
  pub echoing_fails : Demand3 echoing → ⊥
  pub hasty_fails : Demand3 (machine_of hasty) → ⊥
