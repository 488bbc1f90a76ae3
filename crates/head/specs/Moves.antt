-- What a tick, a measurement and a key state do to a head (document 01, "Times and keys", "Position and status"; a number that is
-- offered: document 02, request (ii); set points that are acknowledged: request (ix); up switches nothing: request (xii)).
-- Assumes nothing.
use Rattle.std.specs.Prelude.{ℕ, ◌*◌, ◌/◌, ◌%◌, Bool, cond, not, ◌&&◌, ℤ, ◌==◌, nat_le, nat_lt, Some, None}
use Rattle.wire.specs.Faults.{code_of}
use Rattle.wire.specs.declared.fault.Fault.TheVariants.{Timeout}
use Rattle.state.specs.declared.parts.Head.{Head}
use Rattle.state.specs.Settings.{value_at, timeout_place, calibration_key_place, acknowledgement_place}
use Rattle.state.specs.Mode.{display_of}
use Rattle.state.specs.Status.{status_of}
use Rattle.state.specs.With.{with_faults, with_measurement, with_targets, with_monitor, with_keys, with_pending}
use Rattle.effects.specs.Faults.{raised_of}
use Rattle.effects.specs.Measured.{calibrated_of, moved_of}
use Rattle.effects.specs.Aimed.{settled_of, lacking_of, all_given_of}
use Rattle.effects.specs.Restart.{stopped, adopted_of}
use Rattle.reply.specs.Reply.{adoption_of}
use Rattle.head.specs.declared.hear.Stepped.{Stepped}
use Rattle.head.specs.Hear.{elapsed_of, stepped}

-- 02h above 0 and at least 100 times 02h ms
unfoldable pub overdue_of : ℕ → ℕ → Bool
overdue_of timeout elapsed = nat_lt 0 timeout && nat_le (100 * timeout) elapsed

-- a tick raises 0081h once and stops the monitor
unfoldable pub ticked_of : Head → ℕ → Head
ticked_of h at =
    cond (h.monitor.running && overdue_of (value_at h.stored.values timeout_place) (elapsed_of at h.monitor.since))
    (with_monitor (with_faults h (raised_of h.faults (code_of Timeout))) stopped)
    h

-- a measurement, and the static bit set where A is within window 1 after it, and never in alpha-numeric display
unfoldable pub measured_of : Head → ℤ → Head
measured_of h m =
    with_targets (with_measurement h (moved_of m h.measurement)) (settled_of h.stored.values (moved_of m h.measurement) h.targets)

-- the keys by their weights in a key state
abbrev pub left_key : ℕ
left_key = 1

abbrev pub star_key : ℕ
star_key = 2

abbrev pub up_key : ℕ
up_key = 4

-- the key of this weight is newly pressed
unfoldable pub pressed_of : ℕ → ℕ → ℕ → Bool
pressed_of keys before weight = keys / weight % 2 == 1 && before / weight % 2 == 0

-- left newly pressed acknowledges a pending error; else, in alpha-numeric display, all valid set points where one lacks it; else it calibrates if 05h
-- is 1
unfoldable pub left_of : Bool → Head → Head
left_of on h =
    cond on
    (cond (not (h.faults.pending == 0)) (with_faults h (with_pending h.faults 0))
    (cond (display_of h.stored.values && lacking_of h.targets) (with_targets h (all_given_of h.targets))
    (cond (value_at h.stored.values calibration_key_place == 1)
    (with_measurement h (calibrated_of h.stored.values h.measurement))
    h)))
    h

-- star newly pressed acknowledges all valid set points, in alpha-numeric display with 3Eh 2, whatever the error
unfoldable pub star_of : Bool → Head → Head
star_of on h =
    cond (on && (display_of h.stored.values && value_at h.stored.values acknowledgement_place == 2)) (with_targets h (all_given_of h.targets)) h

-- left is taken before star, and both before up: the head with its new key state, once left and star are taken
abbrev pub star_taken : Head → ℕ → Head
star_taken h keys = star_of (pressed_of keys h.keys star_key) (left_of (pressed_of keys h.keys left_key) (with_keys h keys))

-- up newly pressed where a number is offered
abbrev pub adopts_of : Head → ℕ → Bool
adopts_of h keys = pressed_of keys h.keys up_key && not (h.stored.offer == 0)

-- adopts it: the head sends a write's reply, with the status word of before the call, and restarts last. Else up does nothing (request (xii)), and
-- there is no reply
unfoldable pub keyed_of : Head → ℕ → Stepped
keyed_of h keys =
    cond (adopts_of h keys)
    (stepped (adopted_of (star_taken h keys)) (Some (adoption_of (status_of h) h.stored.offer)))
    (stepped (star_taken h keys) None)
