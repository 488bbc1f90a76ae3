-- All calls on a head as one: what is refused, and what head and lent space are afterwards. What the theorems about every call speak of.
-- Assumes nothing.
use Rattle.std.specs.Prelude.{ℕ, Bool, true, false, List, [], ◌∷◌, length, ℤ, Ok, Err, Result, ⊤}
use Rattle.std.proofs.Math.Option.{Option, none, some}
use Rattle.state.specs.declared.parts.Head.{Head}
use Rattle.state.specs.Wellformed.{in_reach_of}
use Rattle.state.specs.Older.{brought_of}
use Rattle.effects.specs.Restart.{restarted_of}
use Rattle.head.specs.declared.refusal.Refusal.{Refusal}
use Rattle.head.specs.declared.refusal.Refusal.TheVariants.{OutOfReach}
use Rattle.head.specs.declared.calls.Called.{Called}
use Rattle.head.specs.Moves.{ticked_of, measured_of}
use Rattle.head.specs.Calls.{Tests, byte_of, byte_space_of, tick_of, measure_of, keys_of, keys_space_of, power_of, bring_of, sheet_tests, loaded_of, load_of}

-- ---- what is asked of a head with no space lent: a tick, a measurement, power, a sheet loaded, an older head brought over
pub data Ask : Type 0 where
  tick : ℕ → Ask
  measure : ℤ → Ask
  power : Ask
  load : List ℕ → Ask
  bring : Ask

-- the call; whether it brings a head over, which has the old test in place of refusal 20's; its own tests, after 20; the head that it makes where they
-- hold
unfoldable pub called : Ask → Head → Called
called (tick at) h = tick_of h at
called (measure m) h = measure_of h m
called power h = power_of h
called (load s) h = load_of h s
called bring h = bring_of h

abbrev pub brings : Ask → Bool
brings (tick at) = false
brings (measure m) = false
brings power = false
brings (load s) = false
brings bring = true

unfoldable pub own : Ask → Tests
own (tick at) = []
own (measure m) = (in_reach_of m, OutOfReach) ∷ []
own power = []
own (load s) = sheet_tests s
own bring = []

unfoldable pub next : Ask → Head → Head
next (tick at) h = ticked_of h at
next (measure m) h = measured_of h m
next power h = restarted_of h
next (load s) h = loaded_of h s
next bring h = brought_of h

-- ---- every call: a byte at a time, or a key state, with the space lent, or what is asked with none
pub data Call : Type 0 where
  byte : ℕ → ℕ → List ℕ → Call
  keys : ℕ → List ℕ → Call
  asked : Ask → Call

abbrev pub of_answer : Result ⊤ Refusal → Option Refusal
of_answer (Ok tt) = none
of_answer (Err why) = some why

abbrev pub of_heard : Result ℕ Refusal → Option Refusal
of_heard (Ok n) = none
of_heard (Err why) = some why

-- why the call is refused, if it is
abbrev pub refusal_by : Call → Head → Option Refusal
refusal_by (byte b at space) h = of_heard (byte_of h b at (length space)).heard
refusal_by (keys k space) h = of_heard (keys_of h k (length space)).heard
refusal_by (asked a) h = of_answer (called a h).answer

-- the head afterwards
abbrev pub head_after : Call → Head → Head
head_after (byte b at space) h = (byte_of h b at (length space)).head
head_after (keys k space) h = (keys_of h k (length space)).head
head_after (asked a) h = (called a h).head

-- the lent space before and afterwards; a call that lends none has none
abbrev pub lent_by : Call → List ℕ
lent_by (byte b at space) = space
lent_by (keys k space) = space
lent_by (asked a) = []

abbrev pub space_after : Call → Head → List ℕ
space_after (byte b at space) h = byte_space_of h b at space
space_after (keys k space) h = keys_space_of h k space
space_after (asked a) h = []
