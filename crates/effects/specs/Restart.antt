-- The restart, and a head as it is made (document 01, "Restart (A0h 9, power)" of "What each one does"; Auto-ID and serial numbers: document 02,
-- requests (ii) and (xi)).
-- Assumes nothing.
use Rattle.std.specs.Prelude.{ℕ, false, List, map, pos, set, replicate}
use Rattle.rows.specs.Table.{rows, delivery}
use Rattle.state.specs.declared.parts.Head.{Head}
use Rattle.state.specs.declared.parts.Monitor.{Monitor}
use Rattle.state.specs.declared.parts.Ear.{Ear}
use Rattle.state.specs.Settings.{node_place}
use Rattle.state.specs.Errors.{empty_list}
use Rattle.state.specs.With.{with_stored}
use Rattle.effects.specs.Stored.{adopted_stored, restarted_stored}
use Rattle.effects.specs.Faults.{restarted_faults}
use Rattle.effects.specs.Measured.{restarted_measurement}
use Rattle.effects.specs.Aimed.{no_targets}

-- no bytes gathered; the last byte came at a time
unfoldable pub empty_ear : ℕ → Ear
empty_ear at = record { bytes = replicate 10 0; count = 0; at = at }

unfoldable pub stopped : Monitor
stopped = record { running = false; since = 0 }

-- keeps the 39, the serial number, interlock, error memory, calibration and last measurement; takes 00h and 01h into force; clears everything else
unfoldable pub restarted_of : Head → Head
restarted_of h =
    record {
      stored = restarted_stored h.stored;
      faults = restarted_faults h.faults;
      measurement = restarted_measurement h.measurement;
      targets = no_targets;
      monitor = stopped;
      ear = empty_ear 0;
      keys = 0;
    }

-- Auto-ID: the number that is offered is stored, and the head restarts last
unfoldable pub adopted_of : Head → Head
adopted_of h = restarted_of (with_stored h (adopted_stored h.stored))

-- the delivery values; that of 00h is the number given when the head is made
unfoldable pub delivered_of : ℕ → List ℕ
delivered_of node = set (map delivery rows) node_place node

-- a head before it is first switched on: its serial number, interlock closed, nothing measured or calibrated, no error
abbrev pub unpowered : ℕ → ℕ → Head
unpowered node serial =
    record {
      stored = record { values = delivered_of node; number = 0; baud = 0; offer = 0; serial = serial; unlocked = false };
      faults = record { memory = empty_list; inputs = empty_list; pending = 0; hit = 0; damaged = 0 };
      measurement = record { m = pos 0; zero = pos 0; adopted = 0; incremental = false; start = pos 0; frozen = false; kept = pos 0 };
      targets = no_targets;
      monitor = stopped;
      ear = empty_ear 0;
      keys = 0;
    }

-- a new head is as after a restart, its error memory empty
unfoldable pub fresh_of : ℕ → ℕ → Head
fresh_of node serial = restarted_of (unpowered node serial)
