-- A head, and the parts of it that have single things changed, with that thing another and all else as it is.
-- Assumes nothing.
use Rattle.std.specs.Prelude.{ℕ, Bool, List, ℤ}
use Rattle.state.specs.declared.parts.Head.{Head}
use Rattle.state.specs.declared.parts.Stored.{Stored}
use Rattle.state.specs.declared.parts.ErrorList.{ErrorList}
use Rattle.state.specs.declared.parts.Faults.{Faults}
use Rattle.state.specs.declared.parts.Measurement.{Measurement}
use Rattle.state.specs.declared.parts.Targets.{Targets}
use Rattle.state.specs.declared.parts.Monitor.{Monitor}
use Rattle.state.specs.declared.parts.Ear.{Ear}

-- ---- a head
abbrev pub with_stored : Head → Stored → Head
with_stored h s =
    record { stored = s; faults = h.faults; measurement = h.measurement; targets = h.targets; monitor = h.monitor; ear = h.ear; keys = h.keys }

abbrev pub with_faults : Head → Faults → Head
with_faults h f =
    record { stored = h.stored; faults = f; measurement = h.measurement; targets = h.targets; monitor = h.monitor; ear = h.ear; keys = h.keys }

abbrev pub with_measurement : Head → Measurement → Head
with_measurement h g =
    record { stored = h.stored; faults = h.faults; measurement = g; targets = h.targets; monitor = h.monitor; ear = h.ear; keys = h.keys }

abbrev pub with_targets : Head → Targets → Head
with_targets h t =
    record { stored = h.stored; faults = h.faults; measurement = h.measurement; targets = t; monitor = h.monitor; ear = h.ear; keys = h.keys }

abbrev pub with_monitor : Head → Monitor → Head
with_monitor h m =
    record { stored = h.stored; faults = h.faults; measurement = h.measurement; targets = h.targets; monitor = m; ear = h.ear; keys = h.keys }

abbrev pub with_ear : Head → Ear → Head
with_ear h e =
    record { stored = h.stored; faults = h.faults; measurement = h.measurement; targets = h.targets; monitor = h.monitor; ear = e; keys = h.keys }

abbrev pub with_keys : Head → ℕ → Head
with_keys h k =
    record { stored = h.stored; faults = h.faults; measurement = h.measurement; targets = h.targets; monitor = h.monitor; ear = h.ear; keys = k }

-- ---- its stored part
abbrev pub with_values : Stored → List ℕ → Stored
with_values s vs = record { values = vs; number = s.number; baud = s.baud; offer = s.offer; serial = s.serial; unlocked = s.unlocked }

abbrev pub with_lock : Stored → Bool → Stored
with_lock s b = record { values = s.values; number = s.number; baud = s.baud; offer = s.offer; serial = s.serial; unlocked = b }

abbrev pub with_offer : Stored → ℕ → Stored
with_offer s n = record { values = s.values; number = s.number; baud = s.baud; offer = n; serial = s.serial; unlocked = s.unlocked }

-- ---- its errors
abbrev pub with_memory : Faults → ErrorList → Faults
with_memory f l = record { memory = l; inputs = f.inputs; pending = f.pending; hit = f.hit; damaged = f.damaged }

abbrev pub with_inputs : Faults → ErrorList → Faults
with_inputs f l = record { memory = f.memory; inputs = l; pending = f.pending; hit = f.hit; damaged = f.damaged }

abbrev pub with_pending : Faults → ℕ → Faults
with_pending f code = record { memory = f.memory; inputs = f.inputs; pending = code; hit = f.hit; damaged = f.damaged }

abbrev pub with_damaged : Faults → ℕ → Faults
with_damaged f n = record { memory = f.memory; inputs = f.inputs; pending = f.pending; hit = f.hit; damaged = n }

abbrev pub with_hit : Faults → ℕ → Faults
with_hit f hit = record { memory = f.memory; inputs = f.inputs; pending = f.pending; hit = hit; damaged = f.damaged }

-- ---- its measurement: the zero and the adopted calibration value; whether a value is kept, and which
abbrev pub with_zero : Measurement → ℤ → ℕ → Measurement
with_zero g zero adopted =
    record { m = g.m; zero = zero; adopted = adopted; incremental = g.incremental; start = g.start; frozen = g.frozen; kept = g.kept }

abbrev pub with_kept : Measurement → Bool → ℤ → Measurement
with_kept g on v = record { m = g.m; zero = g.zero; adopted = g.adopted; incremental = g.incremental; start = g.start; frozen = on; kept = v }

-- ---- its set points: each with its validity; the last taken control word; the static bit; the acknowledgements
abbrev pub with_first : Targets → ℕ → Bool → Targets
with_first t v on =
    record { first = v; valid1 = on; second = t.second; valid2 = t.valid2; word = t.word; reached = t.reached; acknowledged1 = t.acknowledged1; acknowledged2 = t.acknowledged2 }

abbrev pub with_second : Targets → ℕ → Bool → Targets
with_second t v on =
    record { first = t.first; valid1 = t.valid1; second = v; valid2 = on; word = t.word; reached = t.reached; acknowledged1 = t.acknowledged1; acknowledged2 = t.acknowledged2 }

abbrev pub with_word : Targets → ℕ → Targets
with_word t word =
    record { first = t.first; valid1 = t.valid1; second = t.second; valid2 = t.valid2; word = word; reached = t.reached; acknowledged1 = t.acknowledged1; acknowledged2 = t.acknowledged2 }

abbrev pub with_reached : Targets → Bool → Targets
with_reached t on =
    record { first = t.first; valid1 = t.valid1; second = t.second; valid2 = t.valid2; word = t.word; reached = on; acknowledged1 = t.acknowledged1; acknowledged2 = t.acknowledged2 }

abbrev pub with_acknowledged : Targets → Bool → Bool → Targets
with_acknowledged t one two =
    record { first = t.first; valid1 = t.valid1; second = t.second; valid2 = t.valid2; word = t.word; reached = t.reached; acknowledged1 = one; acknowledged2 = two }
