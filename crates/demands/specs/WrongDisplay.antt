-- Versions that are wrong in alpha-numeric display (document 02, request (ix)), and that they fail what is asked of a system: each is wrong in one call on a head, or on
-- a line of two, whatever its others do; or in the status word of its replies.
-- Assumes nothing.
use Rattle.std.specs.Prelude.{ℕ, ◌+◌, ◌-◌, ◌≡◌, Bool, true, false, cond, not, ◌&&◌, pos, set}
use Rattle.state.specs.declared.parts.Head.{Head}
use Rattle.state.specs.Bits.{bit_set}
use Rattle.state.specs.With.{with_measurement, with_targets}
use Rattle.effects.specs.Measured.{calibrated_of}
use Rattle.effects.specs.Restart.{fresh_of}
use Rattle.head.specs.Moves.{keyed_of, measured_of}
use Rattle.head.specs.Calls as head
use Rattle.head.specs.Outcome as alone
use Rattle.line.specs.declared.calls.Line.{Line}
use Rattle.line.specs.Calls as line
use Rattle.line.specs.Calls.{head_at}
use Rattle.demands.specs.Cases.{split, heard_ten, gathered}
use Rattle.demands.specs.Run.{System}
use Rattle.demands.specs.Every.{word_told}
use Rattle.demands.specs.Demand2.{Demand2}
use Rattle.demands.specs.Sheets.{Sheets}
use Rattle.demands.specs.WrongWords.{Wording, Fails}

-- ---- heads at 31
-- 28h is 3; FBh holds JOB7, valid, as characters; FFh 0, valid, too; and both are acknowledged, by left
abbrev pub blank : Head
blank = heard_ten 0x011F2800000000000335 (fresh_of 31 0)

abbrev pub job : Head
job = heard_ten 0x011FFB00844A4F423711 blank

abbrev pub both : Head
both = heard_ten 0x011FFF020000000000E3 job

abbrev pub pressed_left : Head → Head
pressed_left h = (keyed_of (keyed_of h 1).head 0).head

abbrev pub taken : Head
taken = pressed_left both

-- set point 2 is 0 and valid outside that mode: it is reached, and the static bit is set
abbrev pub reached : Head
reached = heard_ten 0x011FFF020000000000E3 (fresh_of 31 0)

-- an error is pending; star acknowledges too; both; m is 100
abbrev pub faulty : Head
faulty = heard_ten 0x001F200000000000003E (heard_ten 0x001F200000000000003E (heard_ten 0x001F200000000000003E job))

abbrev pub starred : Head
starred = heard_ten 0x011F3E00000000000222 job

abbrev pub starred_faulty : Head
starred_faulty = heard_ten 0x011F3E00000000000222 faulty

abbrev pub moved : Head → Head
moved h = measured_of h (pos 100)

abbrev pub pair : Line
pair = record { heads = set (set (line.empty_of).heads 0 (fresh_of 12 1)) 1 job; count = 2 }

-- ---- a head that is otherwise in its targets
abbrev pub with_flags : Bool → Bool → Bool → Bool → Bool → Head → Head
with_flags valid1 valid2 static acknowledged1 acknowledged2 h =
    with_targets h
    (record {
      first = h.targets.first;
      valid1 = valid1;
      second = h.targets.second;
      valid2 = valid2;
      word = h.targets.word;
      reached = static;
      acknowledged1 = acknowledged1;
      acknowledged2 = acknowledged2;
    })

abbrev pub with_points : ℕ → ℕ → ℕ → Head → Head
with_points first second word h =
    let t = h.targets in
    with_targets h
    (record {
      first = first;
      valid1 = t.valid1;
      second = second;
      valid2 = t.valid2;
      word = word;
      reached = t.reached;
      acknowledged1 = t.acknowledged1;
      acknowledged2 = t.acknowledged2;
    })

-- calibrated; or its zero at a number
abbrev pub calibrated : Head → Head
calibrated h = with_measurement h (calibrated_of h.stored.values h.measurement)

abbrev pub zeroed_at : ℕ → Head → Head
zeroed_at place h =
    let g = h.measurement in
    with_measurement h
    (record {
      m = g.m;
      zero = pos place;
      adopted = g.adopted;
      incremental = g.incremental;
      start = g.start;
      frozen = g.frozen;
      kept = g.kept;
    })

-- ---- the byte b, which ends a telegram, is met otherwise: the head that should stand then is made another by f
abbrev pub Hears : Head → ℕ → (Head → Head) → System → Type 0
Hears h b f m = (m.on_head.byte h b 0 10).head ≡ f (head.byte_of h b 0 10).head

abbrev pub Presses : Head → ℕ → (Head → Head) → System → Type 0
Presses h state f m = (m.on_head.keys h state 10).head ≡ f (head.keys_of h state 10).head

abbrev pub Asks : Head → alone.Ask → (Head → Head) → System → Type 0
Asks h a f m = m.on_head.ask a h ≡ head.done_with (f (alone.called a h).head)

abbrev pub Wrong2 : (System → Type 0) → Type 0
Wrong2 is = (m : System) → is m → Demand2 m → ⊥

-- ---- the status word: bit 3 waits for bit 10; 3 and 5 the other way round; the static bit is shown; bit 9 is set by bit 7 of the telegram's own control word too,
-- whatever parameter it reads
abbrev pub waiting : Wording
waiting asked x h k = let w = word_told asked x h k in cond (bit_set w 3 && not (bit_set w 10)) (w - 8) w

abbrev pub crossed : Wording
crossed asked x h k =
    let w = word_told asked x h k in cond (bit_set w 3 && not (bit_set w 5)) (w + 32 - 8) (cond (bit_set w 5 && not (bit_set w 3)) (w + 8 - 32) w)

abbrev pub showing : Wording
showing asked x h k = let w = word_told asked x h k in cond (k.targets.reached && not (bit_set w 4)) (w + 16) w

abbrev pub own_word : Wording
own_word asked x h k = let w = word_told asked x h k in cond (bit_set asked.word 7 && not (bit_set w 9)) (w + 512) w

pub record WrongDisplay : Type 0 where
  pub waiting_fails : Fails waiting
  pub crossed_fails : Fails crossed
  pub showing_fails : Fails showing
  pub own_word_fails : Fails own_word
  -- an acknowledgement is kept over a write; given to an invalid set point; given outside the mode; not given to the other set point; given by the other bit
  pub kept_fails : Wrong2 (Hears (gathered taken 0x011FFB00844A4F4237) 0x11 (with_flags true true false true true))
  pub invalid_fails : Wrong2 (Hears (gathered blank 0x011FFB04004A4F4237) 0x91 (with_flags false false false true false))
  pub outside_fails : Wrong2 (Hears (gathered (fresh_of 31 0) 0x011FFB04044A4F4237) 0x95 (with_flags true false false true false))
  pub own_only_fails : Wrong2 (Hears (gathered job 0x011FFF060000000000) 0xE7 (with_flags true true false false false))
  pub other_bit_fails : Wrong2 (Hears (gathered blank 0x011FFB00444A4F4237) 0xD1 (with_flags true false false true false))
  -- a write of FFh sets the static bit, and so does a measurement
  pub static_fails : Wrong2 (Hears (gathered blank 0x011FFF020000000000) 0xE3 (with_flags false true true false false))
  pub measured_fails : Wrong2 (Asks both (alone.measure (pos 1)) (with_flags true true true false false))
  -- leaving by a write of 28h, by A0h 1 and by A0h 2 keeps validity; entering keeps the static bit; leaving loses the set points, or the taken control word; 3 over 3, and
  -- A0h 5, are taken for a change
  pub left_valid_fails : Wrong2 (Hears (gathered both 0x011F28000000000000) 0x36 (with_flags true true false false false))
  pub reset_valid_fails : Wrong2 (Hears (gathered both 0x011FA0000000000001) 0xBF (with_flags true true false false false))
  pub reset_two_fails : Wrong2 (Hears (gathered both 0x011FA0000000000002) 0xBC (with_flags true true false false false))
  pub entered_static_fails : Wrong2 (Hears (gathered reached 0x011F28000000000003) 0x35 (with_flags false false true false false))
  pub emptied_fails : Wrong2 (Hears (gathered both 0x011F28000000000000) 0x36 (with_points 0 0 0x200))
  pub word_lost_fails : Wrong2 (Hears (gathered both 0x011F28000000000000) 0x36 (with_points 0x4A4F4237 0 0))
  pub three_over_three_fails : Wrong2 (Hears (gathered both 0x011F28000000000003) 0x35 (with_flags false false false false false))
  pub five_fails : Wrong2 (Hears (gathered both 0x011FA0000000000005) 0xBB (with_flags false false false false false))
  -- the reading of FAh withdraws
  pub polled_fails : Wrong2 (Hears (gathered taken 0x001FFA000000000000) 0xE5 (with_flags true true false false false))
  -- left calibrates as well; gives while an error is pending; gives to an invalid set point; gives to one of two; does not calibrate where nothing lacks
  pub calibrates_fails : Wrong2 (Presses (moved job) 1 calibrated)
  pub error_too_fails : Wrong2 (Presses faulty 1 (with_flags true false false true false))
  pub left_invalid_fails : Wrong2 (Presses job 1 (with_flags true false false true true))
  pub one_of_two_fails : Wrong2 (Presses both 1 (with_flags true true false true false))
  pub no_calibration_fails : Wrong2 (Presses (moved taken) 1 (zeroed_at 0))
  -- star gives with 3Eh 0; does not with 3Eh 2; waits for the error
  pub star_fails : Wrong2 (Presses job 2 (with_flags true false false true false))
  pub no_star_fails : Wrong2 (Presses starred 2 (with_flags true false false false false))
  pub star_waits_fails : Wrong2 (Presses starred_faulty 2 (with_flags true false false false false))
  -- a restart keeps the acknowledgements
  pub restart_fails : Wrong2 (Asks taken alone.power (with_flags false false false true true))
  -- leaving by a sheet of 28h 0 keeps validity
  pub sheet_fails : (m : System) → Asks both (alone.load (split 8 0x0128000400000000)) (with_flags true true false false false) m → Sheets m → ⊥
  -- on a line of two heads with such a set point left at the second is taken for left at the first
  pub first_pressed_fails : (m : System) → head_at (m.on_line_of.keys pair 1 1 10).line 1 ≡ job → Demand2 m → ⊥
