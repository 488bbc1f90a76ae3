-- What each one does (document 01, the section of that name; document 02, requests (i), (ii), (ix), (xi) and (xii)), each as a step from head to head.
-- Assumes nothing.
use Rattle.std.specs.Prelude.{ℕ, Bool, true, false, cond, not, ◌&&◌, ◌||◌, List, [], ◌∷◌, eqb, pos, set, replicate}
use Rattle.state.specs.declared.parts.Head.{Head}
use Rattle.state.specs.declared.parts.Targets.{Targets}
use Rattle.state.specs.declared.parts.Ear.{Ear}
use Rattle.state.specs.Bits.{bit_set}
use Rattle.state.specs.Errors.{empty_list}
use Rattle.state.specs.With.{with_stored, with_faults, with_measurement, with_targets, with_values, with_lock, with_offer, with_memory, with_pending, with_zero, with_kept, with_first, with_second, with_word, with_reached, with_acknowledged}
use Rattle.engine.specs.Addresses.{the39, place, default_of, is_bus}
use Rattle.engine.specs.Shows.{value, displays, current, near, steers}

-- ---- the 39 with other values. Entering or leaving mode 3 makes both set points invalid and unacknowledged and clears the static bit
abbrev pub invalid : Targets → Targets
invalid t = with_acknowledged (with_reached (with_second (with_first t t.first false) t.second false) false) false false

abbrev pub alike : Bool → Bool → Bool
alike a b = cond a b (not b)

unfoldable pub with_the39 : List ℕ → Head → Head
with_the39 vs h =
    let k = with_stored h (with_values h.stored vs) in
    with_targets k (cond (alike (displays h) (displays k)) h.targets (invalid h.targets))

-- one of them is written
unfoldable pub store : ℕ → ℕ → Head → Head
store a v h = with_the39 (set h.stored.values (place a) v) h

-- A0h 1: all 39 to the manual's default, 00h to 31; 2: all but the bus six; 5: the bus six
unfoldable pub resets : ℕ → ℕ → Bool
resets command a = cond (eqb command 1) true (cond (eqb command 2) (not (is_bus a)) (cond (eqb command 5) (is_bus a) false))

abbrev pub reset_all : ℕ → List ℕ → List ℕ → List ℕ
reset_all command (a ∷ more) (v ∷ vs) = cond (resets command a) (default_of a) v ∷ reset_all command more vs
reset_all command [] vs = vs
reset_all command (a ∷ more) [] = []

unfoldable pub reset : ℕ → Head → Head
reset command h = with_the39 (reset_all command the39 h.stored.values) h

-- ---- A8h: 1 opens the interlock, 0 closes it. D2h: the number is offered, and 0 is none
unfoldable pub unlock : Bool → Head → Head
unlock b h = with_stored h (with_lock h.stored b)

unfoldable pub offer : ℕ → Head → Head
offer number h = with_stored h (with_offer h.stored number)

-- ---- A0h 7 and A7h: calibration makes m the zero and adopts 1Fh
unfoldable pub calibrate : Head → Head
calibrate h = with_measurement h (with_zero h.measurement h.measurement.m (value 0x1F h))

-- AAh keeps what FEh would now show unfrozen; a read of FEh releases it, and 0 is kept then
unfoldable pub freeze : Head → Head
freeze h = with_measurement h (with_kept h.measurement true (current h))

unfoldable pub release : Head → Head
release h = with_measurement h (with_kept h.measurement false (pos 0))

-- A0h 8 empties the error memory
unfoldable pub forget_errors : Head → Head
forget_errors h = with_faults h (with_memory h.faults empty_list)

-- ---- set points and the control word. A read of FAh clears the static bit
unfoldable pub clear_static : Head → Head
clear_static h = with_targets h (with_reached h.targets false)

-- bit 5 acknowledges the error if the last taken word had it 0
unfoldable pub acknowledge : ℕ → Head → Head
acknowledge word h = with_faults h (cond (bit_set word 5 && not (bit_set h.targets.word 5)) (with_pending h.faults 0) h.faults)

-- the word is taken, and its bit 4 clears the static bit
abbrev pub taken : ℕ → Targets → Targets
taken word t = with_reached (with_word t word) (t.reached && not (bit_set word 4))

-- in mode 3 bits 10 and 6 give the acknowledgement, for 1 and 2, to valid ones only; in other modes there is none
abbrev pub give : Bool → ℕ → Targets → Targets
give mode3 word t =
    with_acknowledged t (mode3 && (t.acknowledged1 || (bit_set word 10 && t.valid1))) (mode3 && (t.acknowledged2 || (bit_set word 6 && t.valid2)))

-- FBh: the set point, its validity by bit 2; its acknowledgement is withdrawn, and then may be given
unfoldable pub aim_first : ℕ → ℕ → Head → Head
aim_first v word h =
    let t = with_first (taken word h.targets) v (bit_set word 2) in
    with_targets (acknowledge word h) (give (displays h) word (with_acknowledged t false t.acknowledged2))

-- the static bit is set if bit 5 of the status word holds, and not in mode 3
abbrev pub settles : Head → Bool
settles k = steers k && near 0x20 k

abbrev pub settle : Head → Head
settle k = with_targets k (with_reached k.targets (k.targets.reached || settles k))

-- FFh likewise, its validity by bit 9; and then the static bit may be set
unfoldable pub aim_second : ℕ → ℕ → Head → Head
aim_second v word h =
    let t = with_second (taken word h.targets) v (bit_set word 9) in
    settle (with_targets (acknowledge word h) (give (displays h) word (with_acknowledged t t.acknowledged1 false)))

-- ---- restart
-- no bytes gathered, the last having come at a time
abbrev pub no_bytes_of : ℕ → Ear
no_bytes_of time = record { bytes = replicate 10 0; count = 0; at = time }

-- keeps the 39, the serial number, interlock, error memory, calibration and last measurement; takes 00h and 01h into force; clears everything else, the offer and the kept
-- exclusive-or among it
unfoldable pub restart : Head → Head
restart h =
    let s = h.stored in
    let g = h.measurement in
    record {
      stored = record { values = s.values; number = value 0x00 h; baud = value 0x01 h; offer = 0; serial = s.serial; unlocked = s.unlocked };
      faults = record { memory = h.faults.memory; inputs = empty_list; pending = 0; hit = 0; damaged = 0 };
      measurement = record { m = g.m; zero = g.zero; adopted = g.adopted; incremental = false; start = pos 0; frozen = false; kept = pos 0 };
      targets = record { first = 0; valid1 = false; second = 0; valid2 = false; word = 0; reached = false; acknowledged1 = false; acknowledged2 = false };
      monitor = record { running = false; since = 0 };
      ear = no_bytes_of 0;
      keys = 0;
    }
