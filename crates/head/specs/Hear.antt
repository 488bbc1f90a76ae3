-- A byte heard (document 01, "Times and keys", "A telegram's way through the head"): gathered, and with the tenth a telegram obeyed
-- and answered.
-- Assumes nothing.
use Rattle.std.specs.Prelude.{ℕ, ◌+◌, ◌-◌, ◌%◌, Bool, true, false, cond, not, ◌&&◌, List, ◌==◌, nat_lt, slice_index, slice_set, Some, None, Option, is_some}
use Rattle.wire.specs.Check.{hit_of}
use Rattle.wire.specs.Telegram.{ten_in}
use Rattle.judge.specs.declared.deed.Deed.{Deed}
use Rattle.judge.specs.declared.deed.Deed.TheVariants.{Nothing, Store, Reset, Restart, Calibrate, Forget, Unlock, Freeze, Aim1, Aim2, ClearStatic, Release, Offer, Withdraw}
use Rattle.judge.specs.declared.judged.Judged.{Judged}
use Rattle.judge.specs.declared.verdict.Standing.{Standing}
use Rattle.judge.specs.Judged.{judged_of}
use Rattle.state.specs.declared.parts.Head.{Head}
use Rattle.state.specs.declared.parts.Ear.{Ear}
use Rattle.state.specs.declared.parts.Targets.{Targets}
use Rattle.state.specs.declared.parts.Monitor.{Monitor}
use Rattle.state.specs.Settings.{value_at, mode_place}
use Rattle.state.specs.With.{with_ear}
use Rattle.effects.specs.Stored.{locked_of, stored_by}
use Rattle.effects.specs.Faults.{counted_of, complained_of, faults_by}
use Rattle.effects.specs.Measured.{measurement_by}
use Rattle.effects.specs.Aimed.{turned_of, targets_by}
use Rattle.effects.specs.Restart.{empty_ear, restarted_of}
use Rattle.head.specs.declared.hear.Gathered.{Gathered}
use Rattle.head.specs.declared.hear.Stepped.{Stepped}
use Rattle.reply.specs.Reply.{reply_of}

-- the difference modulo 4,294,967,296 of two millisecond readings
unfoldable pub elapsed_of : ℕ → ℕ → ℕ
elapsed_of now then = (now + 4294967296 - then) % 4294967296

-- a byte more than 10 ms after the one before it starts a new telegram
unfoldable pub kept_ear : Ear → ℕ → Ear
kept_ear e at = cond (nat_lt 10 (elapsed_of at e.at)) (empty_ear at) e

-- one byte more, of fewer than ten
abbrev pub one_more_of : Ear → ℕ → ℕ → Ear
one_more_of e b at = record { bytes = slice_set e.bytes e.count b; count = e.count + 1; at = at }

-- nine bytes and one make a telegram, and none is gathered then
abbrev pub gathered_on : Ear → ℕ → ℕ → Gathered
gathered_on e b at =
    cond (nat_lt e.count 9) (record { ear = one_more_of e b at; ten = None }) (record { ear = empty_ear at; ten = Some (slice_set e.bytes 9 b) })

unfoldable pub gathered_of : Ear → ℕ → ℕ → Gathered
gathered_of e b at = gathered_on (kept_ear e at) b at

-- what the checks ask of a head
unfoldable pub standing_of : Head → Standing
standing_of h = record { number = h.stored.number; locked = locked_of h.stored; inputs = h.faults.inputs.count }

unfoldable pub restarts_of : Deed → Bool
restarts_of Nothing = false
restarts_of (Store i word) = false
restarts_of (Reset command) = false
restarts_of Restart = true
restarts_of Calibrate = false
restarts_of Forget = false
restarts_of (Unlock b) = false
restarts_of Freeze = false
restarts_of (Aim1 v word) = false
restarts_of (Aim2 v word) = false
restarts_of ClearStatic = false
restarts_of Release = false
restarts_of (Offer n) = false
restarts_of Withdraw = false

-- a sound telegram, for whomever, starts the monitor
unfoldable pub started_of : ℕ → ℕ → Monitor → Monitor
started_of hit at m = cond (hit == 0) (record { running = true; since = at }) m

-- the targets after a telegram: what it does, and then whether it entered or left alpha-numeric display, by 28h before and after
abbrev pub retargeted : Deed → Head → Targets
retargeted d h =
    turned_of (value_at h.stored.values mode_place) (value_at (stored_by d h.stored).values mode_place)
    (targets_by d h.stored.values h.measurement h.targets)

-- the head after a telegram's own effects: each part by its own
abbrev pub affected_of : Judged → Head → ℕ → Head
affected_of j h at =
    record {
      stored = stored_by j.deed h.stored;
      faults = faults_by j.deed h.targets.word (complained_of j.verdict (counted_of j.hit h.faults));
      measurement = measurement_by j.deed h.stored.values h.measurement;
      targets = retargeted j.deed h;
      monitor = started_of j.hit at h.monitor;
      ear = empty_ear at;
      keys = h.keys;
    }

-- A0h 9: then restart
unfoldable pub told_of : Judged → Head → ℕ → Head
told_of j h at = cond (restarts_of j.deed) (restarted_of (affected_of j h at)) (affected_of j h at)

-- the head after a telegram, and the reply to it
abbrev pub stepped : Head → Option (List ℕ) → Stepped
stepped h s = record { head = h; reply = s }

unfoldable pub tell_of : Head → List ℕ → ℕ → Stepped
tell_of h ten at =
    stepped (told_of (judged_of ten (standing_of h)) h at) (reply_of (judged_of ten (standing_of h)) h (told_of (judged_of ten (standing_of h)) h at))

-- sound, no broadcast, and the node byte is not this number: what such a telegram does is `passed_of`, with no reply
unfoldable pub passes_of : List ℕ → ℕ → Bool
passes_of ten number = hit_of ten == 0 && (not (slice_index ten 0 == 2) && not (slice_index ten 1 == number))

unfoldable pub passed_of : Head → ℕ → Head
passed_of h at =
    record {
      stored = h.stored;
      faults = counted_of 0 h.faults;
      measurement = h.measurement;
      targets = h.targets;
      monitor = started_of 0 at h.monitor;
      ear = empty_ear at;
      keys = h.keys;
    }

-- a byte that ends no telegram changes the bytes gathered alone, and draws no reply
abbrev pub step_by : Head → Gathered → ℕ → Stepped
step_by h g at =
    cond (is_some g.ten) (tell_of h (ten_in g.ten) at) (stepped (with_ear h g.ear) None)

unfoldable pub step_of : Head → ℕ → ℕ → Stepped
step_of h b at = step_by h (gathered_of h.ear b at) at
