-- Older heads (document 02, request (xii)): incremental measurement is retired, so that 35h is 0 and incremental off in every head that refusal 20 lets
-- pass. An older head may still have 35h at 1 or incremental on. The call that brings it over has a test of its own, the old one.
-- Assumes nothing.
use Rattle.std.specs.Prelude.{ℕ, Bool, false, cond, not, ◌&&◌, ◌||◌, leb, eqb, ℤ, pos, set}
use Rattle.state.specs.declared.parts.Head.{Head}
use Rattle.state.specs.declared.parts.Stored.{Stored}
use Rattle.state.specs.declared.parts.Measurement.{Measurement}
use Rattle.state.specs.Settings.{value_at, incremental_place}
use Rattle.state.specs.Wellformed.{wellformed_of}

-- 35h of a head
abbrev pub incremental_of : Head → ℕ
incremental_of h = value_at h.stored.values incremental_place

-- 35h above 0, or incremental still on
unfoldable pub is_older : Head → Bool
is_older h = not (eqb (incremental_of h) 0) || h.measurement.incremental

-- 35h 0, incremental off, and its start as told; all else is kept
abbrev pub retired_stored : Stored → Stored
retired_stored s =
    record {
      values = set s.values incremental_place 0;
      number = s.number;
      baud = s.baud;
      offer = s.offer;
      serial = s.serial;
      unlocked = s.unlocked;
    }

abbrev pub retired_measurement : ℤ → Measurement → Measurement
retired_measurement start g =
    record { m = g.m; zero = g.zero; adopted = g.adopted; incremental = false; start = start; frozen = g.frozen; kept = g.kept }

unfoldable pub retired_of : ℤ → Head → Head
retired_of start h =
    record {
      stored = retired_stored h.stored;
      faults = h.faults;
      measurement = retired_measurement start h.measurement;
      targets = h.targets;
      monitor = h.monitor;
      ear = h.ear;
      keys = h.keys;
    }

-- the old test: 35h 0 or 1, incremental on or off; everything else, its start among it, as refusal 20 has it
unfoldable pub older_fits : Head → Bool
older_fits h = leb (incremental_of h) 1 && wellformed_of (retired_of h.measurement.start h)

-- refusal 20's test of a head: the old one where the call brings a head over
abbrev pub passes_of : Bool → Head → Bool
passes_of bringing h = cond bringing (older_fits h) (wellformed_of h)

-- brought over: 35h 0, incremental off, its start 0, so that the head is at its absolute position; one that is no older head is as it was
unfoldable pub brought_of : Head → Head
brought_of h = cond (is_older h) (retired_of (pos 0) h) h
