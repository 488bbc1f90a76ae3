-- The calls on a line, as a list: the public calls of the crate line with their arguments, and a rack of no telegram (a rack of some is that one and its
-- byte calls: Turns). Refused ones stand in it like any other.
-- Assumes nothing.
use Rattle.std.specs.Prelude.{ℕ, ◌<◌, List, [], ◌∷◌, ℤ, get_or}

-- what is asked of a head by its number, with no space lent: a measurement, power, a sheet loaded, an older head brought over
pub data Ask : Type 0 where
  measure : ℤ → Ask
  power : Ask
  load : List ℕ → Ask
  bring : Ask

-- grow by a node number and a serial number; a byte at a time, with so much space lent; a tick; a call that names a head; a key state of the head that is named, with so
-- much space lent; a rack of no telegram at a time, at which each head drops the bytes it has gathered
pub data Call : Type 0 where
  new_head : ℕ → ℕ → Call
  byte : ℕ → ℕ → ℕ → Call
  tick : ℕ → Call
  named : ℕ → Ask → Call
  keys : ℕ → ℕ → ℕ → Call
  dropped : ℕ → Call

-- calls in the order of time: the last stands last
infixl 60 ◌▸◌
pub data Calls : Type 0 where
  start : Calls
  ◌▸◌ : Calls → Call → Calls

-- each byte heard, and each of a sheet, is one of eight bits, as the types of the calls have it
abbrev pub IsSheet : Ask → Type 0
IsSheet (measure m) = Unit {0}
IsSheet power = Unit {0}
IsSheet (load s) = (k : ℕ) → get_or s k 0 < 256
IsSheet bring = Unit {0}

abbrev pub IsByte : Call → Type 0
IsByte (new_head node serial) = Unit {0}
IsByte (byte b t s) = b < 256
IsByte (tick t) = Unit {0}
IsByte (named j a) = IsSheet a
IsByte (keys j s n) = Unit {0}
IsByte (dropped t) = Unit {0}

abbrev pub Bytes : Calls → Type 0
Bytes start = Unit {0}
Bytes (cs ▸ c) = Bytes cs × IsByte c

-- bytes, all at one time, each with ten bytes of space; and at the time 0
abbrev pub hearing_at : ℕ → Calls → List ℕ → Calls
hearing_at t cs [] = cs
hearing_at t cs (b ∷ bs) = hearing_at t (cs ▸ byte b t 10) bs

abbrev pub hearing : Calls → List ℕ → Calls
hearing cs bs = hearing_at 0 cs bs
