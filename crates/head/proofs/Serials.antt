-- Every call on a head keeps its serial number, refused or not (document 02, request (xi)): through each telegram by what its deed does to the stored
-- part, and through the other calls because no key, tick or measurement touches that part and a sheet stores values alone.
-- Assumes nothing.
use Rattle.std.proofs.Common.{◌≡◌, ℕ, Bool, true, false, cond, ◌&&◌, [], ◌∷◌, length, is_some, refl, ap, ◌∙◌}
use Rattle.wire.specs.Telegram.{ten_in}
use Rattle.judge.specs.declared.judged.Judged.{Judged}
use Rattle.judge.specs.Judged.{judged_of}
use Rattle.state.specs.declared.parts.Head.{Head}
use Rattle.state.specs.declared.parts.Stored.{Stored}
use Rattle.state.specs.Settings.{value_at, timeout_place}
use Rattle.state.specs.Older.{is_older, retired_of, passes_of, brought_of}
use Rattle.effects.proofs.Serial.{deed_serial, restarted_serial, adopted_serial}
use Rattle.head.specs.declared.refusal.Refusal.TheVariants.{Malformed}
use Rattle.head.specs.declared.calls.Called.{Called}
use Rattle.head.specs.declared.calls.Fed.{Fed}
use Rattle.head.specs.declared.hear.Stepped.{Stepped}
use Rattle.head.specs.Hear.{elapsed_of, standing_of, restarts_of, affected_of, told_of, tell_of, gathered_of, step_of}
use Rattle.head.specs.Moves.{overdue_of, ticked_of, measured_of, star_taken, adopts_of, keyed_of}
use Rattle.head.specs.Calls.{Tests, refused_with, done_with, fed_with, unfed, lent_tests, lent_of, keys_tests, byte_of, keys_of, loaded_of}
use Rattle.head.specs.Outcome.{Ask, tick, measure, power, load, bring, brings, own, next, Call, byte, keys, asked, called, head_after}
use Rattle.head.proofs.Tests.{either}
use Rattle.head.proofs.Asked.{called_is}
use Rattle.head.proofs.Keeps.{same, taken_stored}

-- x has the serial number of h
abbrev Kept : Head → Head → Type 0
Kept h x = x.stored.serial ≡ h.stored.serial

either_kept : (h : Head) (b : Bool) (x y : Stepped) → Kept h x.head → Kept h y.head → Kept h (cond b x y).head
either_kept h true x y p q = p
either_kept h false x y p q = q

told_kept : (j : Judged) (h : Head) (at : ℕ) → Kept h (told_of j h at)
unfolding told_of
told_kept j h at =
    let d = deed_serial j.deed h.stored in same (Kept h) (restarts_of j.deed) (restarted_serial (affected_of j h at) ∙ d) d

pub step_serial : (h : Head) (b at : ℕ) → (step_of h b at).head.stored.serial ≡ h.stored.serial
unfolding step_of tell_of
step_serial h b at =
    either_kept h (is_some (gathered_of h.ear b at).ten) _ _ (told_kept (judged_of (ten_in (gathered_of h.ear b at).ten) (standing_of h)) h at) refl

pub tick_serial : (h : Head) (at : ℕ) → (ticked_of h at).stored.serial ≡ h.stored.serial
unfolding ticked_of
tick_serial h at = same (Kept h) (h.monitor.running && overdue_of (value_at h.stored.values timeout_place) (elapsed_of at h.monitor.since)) refl refl

keyed_kept : (h : Head) (k : ℕ) → Kept h (keyed_of h k).head
unfolding keyed_of
keyed_kept h k =
    let t : Kept h (star_taken h k) = ap (λ (s : Stored). s.serial) (taken_stored h k) in
    either_kept h (adopts_of h k) _ _ (adopted_serial (star_taken h k) ∙ t) t

next_kept : (a : Ask) (h : Head) → Kept h (next a h)
unfolding next measured_of loaded_of brought_of retired_of
next_kept (tick at) h = tick_serial h at
next_kept (measure m) h = refl
next_kept power h = restarted_serial h
next_kept (load s) h = refl
next_kept bring h = same (Kept h) (is_older h) refl refl

pub asked_serial : (a : Ask) (h : Head) → (called a h).head.stored.serial ≡ h.stored.serial
asked_serial a h =
    rw (called_is a h) (either (λ (c : Called). Kept h c.head) (refused_with h) (done_with (next a h)) ((passes_of (brings a) h, Malformed) ∷ own a) (λ why. refl) (λ t. next_kept a h))

lent_kept : (h : Head) (own : Tests) (room : ℕ) (s : Stepped) → Kept h s.head → Kept h (lent_of h own room s).head
lent_kept h own room s k = either (λ (f : Fed). Kept h f.head) (unfed h) (fed_with s) (lent_tests h own room) (λ why. refl) (λ t. k)

pub keys_serial : (h : Head) (k room : ℕ) → (keys_of h k room).head.stored.serial ≡ h.stored.serial
unfolding keys_of
keys_serial h k room = lent_kept h (keys_tests k) room (keyed_of h k) (keyed_kept h k)

-- over all calls
pub call_serial : (c : Call) (h : Head) → (head_after c h).stored.serial ≡ h.stored.serial
unfolding byte_of
call_serial (byte b at space) h = lent_kept h [] (length space) (step_of h b at) (step_serial h b at)
call_serial (keys k space) h = keys_serial h k (length space)
call_serial (asked a) h = asked_serial a h
