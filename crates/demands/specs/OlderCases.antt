-- Older heads brought over, worked out by hand from document 02, request (xii): none can come from a script, since incremental measurement is retired there.
-- Assumes nothing.
use Rattle.std.specs.Prelude.{ℕ, ◌≡◌, true, false, List, [], ◌∷◌, map, pos, set, replicate}
use Rattle.std.proofs.Math.Option.{none, some}
use Rattle.state.specs.declared.parts.Head.{Head}
use Rattle.state.specs.declared.parts.Measurement.{Measurement}
use Rattle.state.specs.With.{with_stored, with_measurement, with_targets, with_keys, with_values}
use Rattle.effects.specs.Restart.{fresh_of}
use Rattle.head.specs.Calls as head
use Rattle.head.specs.Outcome.{bring}
use Rattle.line.specs.declared.calls.Line.{Line}
use Rattle.line.specs.Calls as line
use Rattle.demands.specs.Cases.{split, gathered}
use Rattle.demands.specs.Sentences.{Step, hears, asked, presses, answered}
use Rattle.demands.specs.Demand1.{of_answer}
use Rattle.demands.specs.WrongSerials.{in_row}

abbrev pub new : Head
new = fresh_of 31 0

-- 35h at a value, at place 29
abbrev pub with35 : ℕ → Head → Head
with35 v h = with_stored h (with_values h.stored (set h.stored.values 29 v))

-- at m 70, 20 being the zero and 7 the adopted calibration value, so that the absolute position is 57; incremental is on since 50, so that it showed 20,
-- and 20 is kept for FEh where it is frozen
abbrev pub since50 : Measurement
since50 = record { m = pos 70; zero = pos 20; adopted = 7; incremental = true; start = pos 50; frozen = false; kept = pos 0 }

abbrev pub frozen50 : Measurement
frozen50 = record { m = pos 70; zero = pos 20; adopted = 7; incremental = true; start = pos 50; frozen = true; kept = pos 20 }

-- 35h 1, as the factory once delivered it; incremental on; both, with a frozen value, the set point 20 valid and reached at 20, and up still held
abbrev pub armed : Head
armed = with35 1 new

abbrev pub running : Head
running = with_measurement new since50

abbrev pub busy : Head
busy =
    with_keys
    (with_targets (with_measurement armed frozen50)
    (record { first = 0; valid1 = false; second = 20; valid2 = true; word = 0x0200; reached = true; acknowledged1 = false; acknowledged2 = false }))
    4

-- 35h 1, with nine bytes of a read of 35h gathered
abbrev pub reading : Head
reading = gathered armed 0x001F35000000000000

-- no older head, but a start is left over
abbrev pub left_over_of : Head
left_over_of = with_measurement new (record { m = pos 0; zero = pos 0; adopted = 0; incremental = false; start = pos 50; frozen = false; kept = pos 0 })

-- a line of two older heads, with 1 and 2 as serial numbers, and a head that is none
abbrev pub serialed : ℕ → Head → Head
serialed serial h =
    let s = h.stored in
    with_stored h (record { values = s.values; number = s.number; baud = s.baud; offer = s.offer; serial = serial; unlocked = s.unlocked })

abbrev pub pair : Line
pair = record { heads = serialed 1 running ∷ serialed 2 armed ∷ in_row 3 30; count = 3 }

-- what a head replies to, once it is brought over
pub record Over (h : Head) (steps : List Step) (replies : List ℕ) : Type 0 where
  pub taken : of_answer (head.bring_of h).answer ≡ none
  pub says : answered (asked bring ∷ steps) h ≡ map (split 10) replies

pub record OlderCases : Type 0 where
  -- 35h 1: the head is then as a new one; 35h reads 0 and answers 1 with 02 82
  pub armed_over : head.bring_of armed ≡ head.done_with new
  pub armed_says : Over armed (hears 0 0x001F350000000000002A ∷ hears 0 0x011F350000000000012A ∷ [])
      (0x001F350000000000002A ∷ 0x011FFD00000000028263 ∷ [])
  -- incremental on with a start: 57 is shown, and again after up
  pub running_says : Over running (hears 0 0x001FFE000000000000E1 ∷ presses 4 ∷ hears 0 0x001FFE000000000000E1 ∷ [])
      (0x001FFE000000000039D8 ∷ 0x001FFE80000000003958 ∷ [])
  -- both: the word has bits 15, 10, 8, 6, 4 and 1, for 57 lies above the set point 20 and outside the window of 5; the kept 20 is shown, then 57, with bit 8 gone
  pub busy_says : Over busy (hears 0 0x001F200000000000003F ∷ hears 0 0x001FFE000000000000E1 ∷ hears 0 0x001FFE000000000000E1 ∷ [])
      (0x001F20855200000005ED ∷ 0x001FFE84520000001423 ∷ 0x001FFE8452000000390E ∷ [])
  -- nine bytes gathered are still there: the tenth makes the read of 35h whole, and it is answered
  pub gathered_over : of_answer (head.bring_of reading).answer ≡ none
  pub gathered_says : head.byte_space_of (head.bring_of reading).head 0x2A 0 (replicate 10 7) ≡ split 10 0x001F350000000000002A
  -- a head that is none is as it was, a start that is left over included; 35h 2 is no older head's
  pub new_over : head.bring_of new ≡ head.done_with new
  pub left_over : head.bring_of left_over_of ≡ head.done_with left_over_of
  pub refused_two : of_answer (head.bring_of (with35 2 new)).answer ≡ some 20
  -- two older heads on a line: every other call is refused, each is brought over whatever the other is, and then every call is done
  pub before : of_answer (line.tick_of pair 0).answer ≡ some 20
  pub first : of_answer (line.bring_of pair 0).answer ≡ none
  pub between : of_answer (line.power_of (line.bring_of pair 0).line 2).answer ≡ some 20
  pub second : of_answer (line.bring_of (line.bring_of pair 0).line 1).answer ≡ none
  pub after : of_answer (line.tick_of (line.bring_of (line.bring_of pair 0).line 1).line 0).answer ≡ none
  pub other_order : (line.bring_of (line.bring_of pair 1).line 0).line ≡ (line.bring_of (line.bring_of pair 0).line 1).line
  pub third : (line.bring_of pair 2).line ≡ pair
  pub nobody : of_answer (line.bring_of pair 3).answer ≡ some 3
