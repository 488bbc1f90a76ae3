-- The versions that are wrong in alpha-numeric display fail: each by one call on a head at 31, and the part of the head that should have been otherwise.
-- Assumes nothing.
use Prim.Native.Nat.{ℕ, ◌≤◌}
use mathlib.Core.Path.{◌≡◌, refl, sym, ◌∙◌, ap}
use mathlib.Core.Bool.{true, false, ◌&&◌, ◌||◌, true≢false, false≢true}
use native.Mathlib.Omega.{arith}
use lib.Dec.{eqb}
use lib.IntN.{pos, nat_abs}
use Rattle.std.specs.Prelude.{is_some}
use Rattle.wire.specs.Telegram.{fields_of, ten_in}
use Rattle.state.specs.declared.parts.Head.{Head}
use Rattle.state.specs.Wellformed.{wellformed_of}
use Rattle.effects.specs.Restart.{fresh_of}
use Rattle.head.specs.Hear.{gathered_of}
use Rattle.head.specs.Calls as head
use Rattle.head.specs.Outcome as alone
use Rattle.line.specs.Calls.{head_at}
use Rattle.demands.specs.Cases.{split, gathered}
use Rattle.demands.specs.Past.{accepted}
use Rattle.demands.specs.Run.{System}
use Rattle.demands.specs.Lines.{Fits}
use Rattle.demands.specs.Alone.{key_gives, adopts, Keyed}
use Rattle.demands.specs.Acts.{act_of, Acted}
use Rattle.demands.specs.Every.{locked}
use Rattle.demands.specs.Demand2.{Demand2}
use Rattle.demands.specs.Sheets.{Sheets}
use Rattle.demands.specs.WrongDisplay.{pair, blank, job, both, pressed_left, taken, reached, faulty, starred, starred_faulty, moved, with_flags, with_points, calibrated, zeroed_at, Hears, Presses, Asks, Wrong2, waiting, crossed, showing, own_word, WrongDisplay}
use Rattle.demands.specs.WrongWords.{Fails}
use Rattle.demands.proofs.Computing.{computing}
use Rattle.demands.proofs.Wrongs.{space}
use Rattle.demands.proofs.WrongWords.{fails}

-- the byte call ends an accepted write, of anything but A0h 9: what it is to do
abbrev Writes : Head → ℕ → Type 0
Writes h b =
    let ten = ten_in (gathered_of h.ear b 0).ten in
    (wellformed_of h ≡ true)
    × (is_some (gathered_of h.ear b 0).ten ≡ true)
    × (accepted h.stored.number (locked h) ten ≡ true)
    × ((eqb (fields_of ten).parameter 0xA0 && eqb (fields_of ten).value 9) ≡ false)

module _ (m : System) (d : Demand2 m) where
  acted : (h : Head) (b : ℕ) (f : Head → Head) → Writes h b → Hears h b f m
      → let asked = fields_of (ten_in (gathered_of h.ear b 0).ten) in
      Acted h (f (head.byte_of h b 0 10).head) (act_of asked.parameter asked.value) asked.value asked.word
  acted h b f (well, ends, ok, not9) e = rw (← e) (d.every.acts h b 0 space (record { well = well; room = omega arith }) ends ok not9)

  keyed : (h : Head) (s : ℕ) (f : Head → Head) → wellformed_of h ≡ true → s ≤ 7 → adopts h s ≡ false → Presses h s f m
      → Keyed h (f (head.keys_of h s 10).head) s
  keyed h s f well few adopts-not e = rw (← e) (d.presses h s space (record { well = well; room = omega arith }) few adopts-not).0

waiting_fails : Fails waiting
unfolding computing
waiting_fails = fails waiting (gathered (pressed_left job) 0x001F20000000000000) 0x3F 0x204 0x20C (λ e. omega arith) (refl, refl, refl, refl, refl)

crossed_fails : Fails crossed
unfolding computing
crossed_fails = fails crossed (gathered (pressed_left job) 0x001F20000000000000) 0x3F 0x224 0x20C (λ e. omega arith) (refl, refl, refl, refl, refl)

own_word_fails : Fails own_word
unfolding computing
own_word_fails = fails own_word (gathered blank 0x001F20008000000000) 0xBF 0x200 0 (λ e. omega arith) (refl, refl, refl, refl, refl)

showing_fails : Fails showing
unfolding computing
showing_fails = fails showing (gathered (with_flags false false true false false blank) 0x001F20000000000000) 0x3F 0x10 0 (λ e. omega arith) (refl, refl, refl, refl, refl)

star_waits_fails : Wrong2 (Presses starred_faulty 2 (with_flags true false false false false))
unfolding computing
star_waits_fails m e d = false≢true (keyed m d starred_faulty 2 (with_flags true false false false false) refl (omega arith) refl e).acknowledged1

kept_fails : Wrong2 (Hears (gathered taken 0x011FFB00844A4F4237) 0x11 (with_flags true true false true true))
unfolding computing
kept_fails m e d = true≢false (acted m d (gathered taken 0x011FFB00844A4F4237) 0x11 (with_flags true true false true true) (refl, refl, refl, refl) e).acknowledged1

invalid_fails : Wrong2 (Hears (gathered blank 0x011FFB04004A4F4237) 0x91 (with_flags false false false true false))
unfolding computing
invalid_fails m e d = true≢false (acted m d (gathered blank 0x011FFB04004A4F4237) 0x91 (with_flags false false false true false) (refl, refl, refl, refl) e).acknowledged1

outside_fails : Wrong2 (Hears (gathered (fresh_of 31 0) 0x011FFB04044A4F4237) 0x95 (with_flags true false false true false))
unfolding computing
outside_fails m e d = true≢false (acted m d (gathered (fresh_of 31 0) 0x011FFB04044A4F4237) 0x95 (with_flags true false false true false) (refl, refl, refl, refl) e).acknowledged1

own_only_fails : Wrong2 (Hears (gathered job 0x011FFF060000000000) 0xE7 (with_flags true true false false false))
unfolding computing
own_only_fails m e d = false≢true (acted m d (gathered job 0x011FFF060000000000) 0xE7 (with_flags true true false false false) (refl, refl, refl, refl) e).acknowledged1

other_bit_fails : Wrong2 (Hears (gathered blank 0x011FFB00444A4F4237) 0xD1 (with_flags true false false true false))
unfolding computing
other_bit_fails m e d = true≢false (acted m d (gathered blank 0x011FFB00444A4F4237) 0xD1 (with_flags true false false true false) (refl, refl, refl, refl) e).acknowledged1

static_fails : Wrong2 (Hears (gathered blank 0x011FFF020000000000) 0xE3 (with_flags false true true false false))
unfolding computing
static_fails m e d = true≢false (acted m d (gathered blank 0x011FFF020000000000) 0xE3 (with_flags false true true false false) (refl, refl, refl, refl) e).reached

measured_fails : Wrong2 (Asks both (alone.measure (pos 1)) (with_flags true true true false false))
unfolding computing
measured_fails m e d = true≢false (rw e at (d.measures both (pos 1) (rw e)).reached)

left_valid_fails : Wrong2 (Hears (gathered both 0x011F28000000000000) 0x36 (with_flags true true false false false))
unfolding computing
left_valid_fails m e d = true≢false (acted m d (gathered both 0x011F28000000000000) 0x36 (with_flags true true false false false) (refl, refl, refl, refl) e).valid1

reset_valid_fails : Wrong2 (Hears (gathered both 0x011FA0000000000001) 0xBF (with_flags true true false false false))
unfolding computing
reset_valid_fails m e d = true≢false (acted m d (gathered both 0x011FA0000000000001) 0xBF (with_flags true true false false false) (refl, refl, refl, refl) e).valid1

reset_two_fails : Wrong2 (Hears (gathered both 0x011FA0000000000002) 0xBC (with_flags true true false false false))
unfolding computing
reset_two_fails m e d = true≢false (acted m d (gathered both 0x011FA0000000000002) 0xBC (with_flags true true false false false) (refl, refl, refl, refl) e).valid2

entered_static_fails : Wrong2 (Hears (gathered reached 0x011F28000000000003) 0x35 (with_flags false false true false false))
unfolding computing
entered_static_fails m e d = true≢false (acted m d (gathered reached 0x011F28000000000003) 0x35 (with_flags false false true false false) (refl, refl, refl, refl) e).reached

emptied_fails : Wrong2 (Hears (gathered both 0x011F28000000000000) 0x36 (with_points 0 0 0x200))
unfolding computing
emptied_fails m e d = let z : ◌≡◌ {A = ℕ} 0 0x4A4F4237 = (acted m d (gathered both 0x011F28000000000000) 0x36 (with_points 0 0 0x200) (refl, refl, refl, refl) e).first in omega arith

word_lost_fails : Wrong2 (Hears (gathered both 0x011F28000000000000) 0x36 (with_points 0x4A4F4237 0 0))
unfolding computing
word_lost_fails m e d = let z : ◌≡◌ {A = ℕ} 0 0x200 = (acted m d (gathered both 0x011F28000000000000) 0x36 (with_points 0x4A4F4237 0 0) (refl, refl, refl, refl) e).word in omega arith

three_over_three_fails : Wrong2 (Hears (gathered both 0x011F28000000000003) 0x35 (with_flags false false false false false))
unfolding computing
three_over_three_fails m e d = false≢true (acted m d (gathered both 0x011F28000000000003) 0x35 (with_flags false false false false false) (refl, refl, refl, refl) e).valid1

five_fails : Wrong2 (Hears (gathered both 0x011FA0000000000005) 0xBB (with_flags false false false false false))
unfolding computing
five_fails m e d = false≢true (acted m d (gathered both 0x011FA0000000000005) 0xBB (with_flags false false false false false) (refl, refl, refl, refl) e).valid1

abbrev polled : Head
polled = gathered taken 0x001FFA000000000000

polled_told : (wellformed_of polled ≡ true) × (is_some (gathered_of polled.ear 0xE5 0).ten ≡ true) × ((fields_of (ten_in (gathered_of polled.ear 0xE5 0).ten)).command ≡ 0) × (polled.targets.acknowledged1 ≡ true)
unfolding computing
polled_told = (refl, refl, refl, refl)

polled_fails : Wrong2 (Hears polled 0xE5 (with_flags true true false false false))
polled_fails m e d =
    let k = polled_told in
    let q = (d.every.polls polled 0xE5 0 space (record { well = k.0; room = omega arith }) k.1 k.2).acknowledged1 in
    false≢true (sym (ap (λ (h : Head). h.targets.acknowledged1) e) ∙ q ∙ k.3)

calibrates_fails : Wrong2 (Presses (moved job) 1 calibrated)
unfolding computing
calibrates_fails m e d = let z : ◌≡◌ {A = ℕ} 100 0 = ap nat_abs (keyed m d (moved job) 1 calibrated refl (omega arith) refl e).zero in omega arith

error_too_fails : Wrong2 (Presses faulty 1 (with_flags true false false true false))
unfolding computing
error_too_fails m e d = true≢false (keyed m d faulty 1 (with_flags true false false true false) refl (omega arith) refl e).acknowledged1

left_invalid_fails : Wrong2 (Presses job 1 (with_flags true false false true true))
unfolding computing
left_invalid_fails m e d = true≢false (keyed m d job 1 (with_flags true false false true true) refl (omega arith) refl e).acknowledged2

one_of_two_fails : Wrong2 (Presses both 1 (with_flags true true false true false))
unfolding computing
one_of_two_fails m e d = false≢true (keyed m d both 1 (with_flags true true false true false) refl (omega arith) refl e).acknowledged2

no_calibration_fails : Wrong2 (Presses (moved taken) 1 (zeroed_at 0))
unfolding computing
no_calibration_fails m e d = let z : ◌≡◌ {A = ℕ} 0 100 = ap nat_abs (keyed m d (moved taken) 1 (zeroed_at 0) refl (omega arith) refl e).zero in omega arith

star_fails : Wrong2 (Presses job 2 (with_flags true false false true false))
unfolding computing
star_fails m e d = true≢false (keyed m d job 2 (with_flags true false false true false) refl (omega arith) refl e).acknowledged1

no_star_fails : Wrong2 (Presses starred 2 (with_flags true false false false false))
unfolding computing
no_star_fails m e d = false≢true (keyed m d starred 2 (with_flags true false false false false) refl (omega arith) refl e).acknowledged1

restart_fails : Wrong2 (Asks taken alone.power (with_flags false false false true true))
unfolding computing
restart_fails m e d = true≢false (rw e at (d.powers taken (rw e)).acknowledged1)

sheet_fails : (m : System) → Asks both (alone.load (split 8 0x0128000400000000)) (with_flags true true false false false) m → Sheets m → ⊥
unfolding computing
sheet_fails m e d = true≢false (rw e at (d.loads both (split 8 0x0128000400000000) (rw e)).targets.valid1)

pair_told : Fits pair × (head_at pair 1 ≡ job) × (wellformed_of job ≡ true) × (adopts job 1 ≡ false) × (job.targets.acknowledged1 ≡ false) × ((job.targets.acknowledged1 || (key_gives job 1 && job.targets.valid1)) ≡ true)
unfolding computing
pair_told = (record { fits = refl; places = refl }, refl, refl, refl, refl, refl)

first_pressed_fails : (m : System) → head_at (m.on_line_of.keys pair 1 1 10).line 1 ≡ job → Demand2 m → ⊥
first_pressed_fails m e d =
    let p = pair_told in
    let there = (d.line_presses pair 1 1 space p.0 (omega arith)).0.there in
    let k = (d.presses job 1 space (record { well = p.2; room = omega arith }) (omega arith) p.3).0.acknowledged1 in
    let own : job ≡ (m.on_head.keys job 1 10).head = sym e ∙ there ∙ ap (λ (h : Head). (m.on_head.keys h 1 10).head) p.1 in
    false≢true (sym p.4 ∙ ap (λ (h : Head). h.targets.acknowledged1) own ∙ k ∙ p.5)

pub wrong_display : WrongDisplay
wrong_display =
    record {
      showing_fails = showing_fails;
      star_waits_fails = star_waits_fails;
      waiting_fails = waiting_fails;
      crossed_fails = crossed_fails;
      own_word_fails = own_word_fails;
      kept_fails = kept_fails;
      invalid_fails = invalid_fails;
      outside_fails = outside_fails;
      own_only_fails = own_only_fails;
      other_bit_fails = other_bit_fails;
      static_fails = static_fails;
      measured_fails = measured_fails;
      left_valid_fails = left_valid_fails;
      reset_valid_fails = reset_valid_fails;
      reset_two_fails = reset_two_fails;
      entered_static_fails = entered_static_fails;
      emptied_fails = emptied_fails;
      word_lost_fails = word_lost_fails;
      three_over_three_fails = three_over_three_fails;
      five_fails = five_fails;
      polled_fails = polled_fails;
      calibrates_fails = calibrates_fails;
      error_too_fails = error_too_fails;
      left_invalid_fails = left_invalid_fails;
      one_of_two_fails = one_of_two_fails;
      no_calibration_fails = no_calibration_fails;
      star_fails = star_fails;
      no_star_fails = no_star_fails;
      restart_fails = restart_fails;
      sheet_fails = sheet_fails;
      first_pressed_fails = first_pressed_fails;
    }
