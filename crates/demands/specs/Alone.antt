-- What power, a tick, a measurement, a key state and the call that brings an older head over do to a head alone, in the sentences of document 01 and of document 02, requests
-- (ii), (ix) and (xii): h is the head before the call, k the head after it. Each part of a head has its sentence, that it is as it was among them.
-- Assumes nothing.
use Rattle.std.specs.Prelude.{ℕ, ◌*◌, ◌/◌, ◌%◌, ◌≤◌, ◌≡◌, Bool, true, false, cond, not, ◌&&◌, ◌||◌, ◌≢◌, List, [], ◌∷◌, ◌++◌, leb, ltb, eqb, ℤ, pos, length, take, drop}
use Rattle.wire.specs.declared.telegram.Telegram.{Telegram}
use Rattle.wire.specs.Check.{hit_of}
use Rattle.wire.specs.Telegram.{fields_of}
use Rattle.state.specs.declared.parts.Head.{Head}
use Rattle.state.specs.declared.parts.ErrorList.{ErrorList}
use Rattle.state.specs.Settings.{value_at}
use Rattle.state.specs.Bits.{bit_set}
use Rattle.state.specs.Errors.{remembered_of}
use Rattle.state.specs.Status.{status_of}
use Rattle.state.specs.Wellformed.{wellformed_of}
use Rattle.demands.specs.Past.{since, delivered}

-- the value of a parameter, by its place, which is named by its number, so that no sentence goes by where a definition finds it: 00h to 03h stand at 0 to 3, 05h at 5,
-- 0Eh at 14, 1Bh at 16, 1Fh at 19, 20h at 20, 28h at 23, 31h at 25, 35h at 29, 3Eh at 35. (That it is so: `keeps` of `ByAddress`, in the crate exchange, by a list of
-- the 39 addresses.)
abbrev pub setting : Head → ℕ → ℕ
setting h i = value_at h.stored.values i

-- document 02, request (ix): 28h, at place 23, is 3, which is alpha-numeric display; whether it is so before a call just where it is so after it
abbrev pub displays : Head → Bool
displays h = eqb (setting h 23) 3

abbrev pub stays : Head → Head → Bool
stays h k = cond (displays h) (displays k) (not (displays k))

-- entering or leaving makes both set points invalid and unacknowledged and clears the static bit; the values of the set points and the taken control word
-- survive it
pub record Turned (h k : Head) : Type 0 where
  pub first : k.targets.first ≡ h.targets.first
  pub valid1 : k.targets.valid1 ≡ (stays h k && h.targets.valid1)
  pub second : k.targets.second ≡ h.targets.second
  pub valid2 : k.targets.valid2 ≡ (stays h k && h.targets.valid2)
  pub word : k.targets.word ≡ h.targets.word
  pub reached : k.targets.reached ≡ (stays h k && h.targets.reached)
  pub acknowledged1 : k.targets.acknowledged1 ≡ (stays h k && h.targets.acknowledged1)
  pub acknowledged2 : k.targets.acknowledged2 ≡ (stays h k && h.targets.acknowledged2)

-- the codes in an error list, the oldest first; one more, where a full list drops its oldest
abbrev pub entries : ErrorList → List ℕ
entries l = take l.count l.codes

abbrev pub entered : List ℕ → ℕ → List ℕ
entered codes code = cond (ltb (length codes) 10) codes (drop 1 codes) ++ (code ∷ [])

-- a byte call that is not refused: the head is well-formed and ten bytes are lent
pub record Taken (h : Head) (space : List ℕ) : Type 0 where
  pub well : wellformed_of h ≡ true
  pub room : 10 ≤ length space

-- ---- power, and A0h 9: a restart. What the ear holds past its count, and when the last byte came, cannot be seen where none is gathered
pub record Restarted (h k : Head) : Type 0 where
  -- keeps the 39, interlock, error memory, calibration and last measurement (and its serial number: Serials)
  pub values : k.stored.values ≡ h.stored.values
  pub unlocked : k.stored.unlocked ≡ h.stored.unlocked
  pub memory : k.faults.memory ≡ h.faults.memory
  pub zero : k.measurement.zero ≡ h.measurement.zero
  pub adopted : k.measurement.adopted ≡ h.measurement.adopted
  pub m : k.measurement.m ≡ h.measurement.m
  -- takes 00h and 01h into force
  pub number : k.stored.number ≡ setting h 0
  pub baud : k.stored.baud ≡ setting h 1
  -- drops an offer (document 02, request (ii))
  pub offer : k.stored.offer ≡ 0
  -- clears everything else: set points 0, invalid and unacknowledged, taken control word 0, static bit
  pub first : k.targets.first ≡ 0
  pub valid1 : k.targets.valid1 ≡ false
  pub second : k.targets.second ≡ 0
  pub valid2 : k.targets.valid2 ≡ false
  pub word : k.targets.word ≡ 0
  pub reached : k.targets.reached ≡ false
  pub acknowledged1 : k.targets.acknowledged1 ≡ false
  pub acknowledged2 : k.targets.acknowledged2 ≡ false
  -- pending error, the last non-zero exclusive-or (document 02, request (i)), counts, input list, keys
  pub pending : k.faults.pending ≡ 0
  pub hit : k.faults.hit ≡ 0
  pub damaged : k.faults.damaged ≡ 0
  pub inputs : entries k.faults.inputs ≡ []
  pub keys : k.keys ≡ 0
  -- freezing, incremental, monitor, each with the value that goes with it, and the bytes gathered
  pub frozen : k.measurement.frozen ≡ false
  pub kept : k.measurement.kept ≡ pos 0
  pub incremental : k.measurement.incremental ≡ false
  pub start : k.measurement.start ≡ pos 0
  pub running : k.monitor.running ≡ false
  pub since' : k.monitor.since ≡ 0
  pub gathered : k.ear.count ≡ 0

-- ---- a tick: the monitor runs, 02h is above 0, and at least 100 times 02h ms have gone by
abbrev pub overdue : Head → ℕ → Bool
overdue h t = h.monitor.running && (ltb 0 (setting h 2) && leb (100 * setting h 2) (since t h.monitor.since))

pub record Ticked (h k : Head) (t : ℕ) : Type 0 where
  -- then it raises 0081h, which becomes the pending error and enters the error memory, and stops the monitor; else it does nothing
  pub pending : k.faults.pending ≡ cond (overdue h t) 0x0081 h.faults.pending
  pub memory : k.faults.memory ≡ cond (overdue h t) (remembered_of h.faults.memory 0x0081) h.faults.memory
  pub running : k.monitor.running ≡ cond (overdue h t) false h.monitor.running
  pub since' : k.monitor.since ≡ cond (overdue h t) 0 h.monitor.since
  pub inputs : k.faults.inputs ≡ h.faults.inputs
  pub hit : k.faults.hit ≡ h.faults.hit
  pub damaged : k.faults.damaged ≡ h.faults.damaged
  pub stored : k.stored ≡ h.stored
  pub measurement : k.measurement ≡ h.measurement
  pub targets : k.targets ≡ h.targets
  pub ear : k.ear ≡ h.ear
  pub keys : k.keys ≡ h.keys

-- ---- a measurement; bit 5 of a head's status word
abbrev pub bit5 : Head → Bool
bit5 h = bit_set (status_of h) 5

pub record Measured (h k : Head) (x : ℤ) : Type 0 where
  pub m : k.measurement.m ≡ x
  -- the static bit is set where bit 5 holds after it, and never in alpha-numeric display
  pub reached : k.targets.reached ≡ (h.targets.reached || (not (displays k) && bit5 k))
  pub zero : k.measurement.zero ≡ h.measurement.zero
  pub adopted : k.measurement.adopted ≡ h.measurement.adopted
  pub incremental : k.measurement.incremental ≡ h.measurement.incremental
  pub start : k.measurement.start ≡ h.measurement.start
  pub frozen : k.measurement.frozen ≡ h.measurement.frozen
  pub kept : k.measurement.kept ≡ h.measurement.kept
  pub first : k.targets.first ≡ h.targets.first
  pub valid1 : k.targets.valid1 ≡ h.targets.valid1
  pub second : k.targets.second ≡ h.targets.second
  pub valid2 : k.targets.valid2 ≡ h.targets.valid2
  pub word : k.targets.word ≡ h.targets.word
  pub acknowledged1 : k.targets.acknowledged1 ≡ h.targets.acknowledged1
  pub acknowledged2 : k.targets.acknowledged2 ≡ h.targets.acknowledged2
  pub stored : k.stored ≡ h.stored
  pub faults : k.faults ≡ h.faults
  pub monitor : k.monitor ≡ h.monitor
  pub ear : k.ear ≡ h.ear
  pub keys : k.keys ≡ h.keys

-- ---- a key state: the key of this weight, 1 left, 2 star, 4 up, is down and was not before
abbrev pub newly : ℕ → Head → ℕ → Bool
newly weight h state = eqb (state / weight % 2) 1 && eqb (h.keys / weight % 2) 0

-- in alpha-numeric display a valid set point lacks its acknowledgement
abbrev pub lacks : Head → Bool
lacks h = displays h && ((h.targets.valid1 && not h.targets.acknowledged1) || (h.targets.valid2 && not h.targets.acknowledged2))

-- left newly pressed acknowledges a pending error; else, where a valid set point lacks it, all valid ones; else it calibrates if 05h is 1
abbrev pub left_gives : Head → ℕ → Bool
left_gives h state = newly 1 h state && (eqb h.faults.pending 0 && lacks h)

abbrev pub calibrates : Head → ℕ → Bool
calibrates h state = newly 1 h state && (eqb h.faults.pending 0 && (not (lacks h) && eqb (setting h 5) 1))

-- star newly pressed acknowledges all valid ones too, in alpha-numeric display with 3Eh, at place 35, 2, whatever the error
abbrev pub star_gives : Head → ℕ → Bool
star_gives h state = newly 2 h state && (displays h && eqb (setting h 35) 2)

abbrev pub key_gives : Head → ℕ → Bool
key_gives h state = left_gives h state || star_gives h state

-- up newly pressed adopts the number that is offered, if one is; else it does nothing
abbrev pub adopts : Head → ℕ → Bool
adopts h state = newly 4 h state && not (eqb h.stored.offer 0)

-- a key state that adopts no number
pub record Keyed (h k : Head) (state : ℕ) : Type 0 where
  pub keys : k.keys ≡ state
  pub pending : k.faults.pending ≡ cond (newly 1 h state) 0 h.faults.pending
  -- calibration makes m the zero and adopts 1Fh
  pub zero : k.measurement.zero ≡ cond (calibrates h state) h.measurement.m h.measurement.zero
  pub adopted : k.measurement.adopted ≡ cond (calibrates h state) (setting h 19) h.measurement.adopted
  -- no key switches incremental measurement
  pub incremental : k.measurement.incremental ≡ h.measurement.incremental
  pub start : k.measurement.start ≡ h.measurement.start
  pub m : k.measurement.m ≡ h.measurement.m
  pub frozen : k.measurement.frozen ≡ h.measurement.frozen
  pub kept : k.measurement.kept ≡ h.measurement.kept
  pub memory : k.faults.memory ≡ h.faults.memory
  pub inputs : k.faults.inputs ≡ h.faults.inputs
  pub hit : k.faults.hit ≡ h.faults.hit
  pub damaged : k.faults.damaged ≡ h.faults.damaged
  pub stored : k.stored ≡ h.stored
  -- only the acknowledgements of valid set points are given
  pub acknowledged1 : k.targets.acknowledged1 ≡ (h.targets.acknowledged1 || (key_gives h state && h.targets.valid1))
  pub acknowledged2 : k.targets.acknowledged2 ≡ (h.targets.acknowledged2 || (key_gives h state && h.targets.valid2))
  pub first : k.targets.first ≡ h.targets.first
  pub valid1 : k.targets.valid1 ≡ h.targets.valid1
  pub second : k.targets.second ≡ h.targets.second
  pub valid2 : k.targets.valid2 ≡ h.targets.valid2
  pub word : k.targets.word ≡ h.targets.word
  pub reached : k.targets.reached ≡ h.targets.reached
  pub monitor : k.monitor ≡ h.monitor
  pub ear : k.ear ≡ h.ear

-- one that does: the head j stands as left has made it, which is taken before up, with the number in 00h, whatever the interlock; it restarts last
pub record Adopting (h j : Head) (state : ℕ) : Type 0 where
  pub node : setting j 0 ≡ h.stored.offer
  pub values : (r : ℕ) → r ≢ 0 → setting j r ≡ setting h r
  pub unlocked : j.stored.unlocked ≡ h.stored.unlocked
  pub zero : j.measurement.zero ≡ cond (calibrates h state) h.measurement.m h.measurement.zero
  pub adopted : j.measurement.adopted ≡ cond (calibrates h state) (setting h 19) h.measurement.adopted
  pub m : j.measurement.m ≡ h.measurement.m
  pub memory : j.faults.memory ≡ h.faults.memory

pub record Adopted (h k : Head) (state : ℕ) : Type 0 where
  pub before : Head
  pub adopting : Adopting h before state
  pub restarted : Restarted before k

-- what it sends: the reply x of a write, with node 31, parameter D2h, the new number as data, and this status word
pub record Announces (x : Telegram) (number status : ℕ) : Type 0 where
  pub command : x.command ≡ 1
  pub node : x.node ≡ 31
  pub parameter : x.parameter ≡ 0xD2
  pub word : x.word ≡ status
  pub value : x.value ≡ number

-- it stands in the first ten bytes of the space and passes its check, with the status word of before the call; the rest is unchanged
pub record Announced (h : Head) (before after : List ℕ) : Type 0 where
  pub long : length after ≡ length before
  pub rest : drop 10 after ≡ drop 10 before
  pub passes : hit_of (take 10 after) ≡ 0
  pub fields : Announces (fields_of (take 10 after)) h.stored.offer (status_of h)

-- ---- an older head is one whose 35h, at place 29, is above 0, or that has incremental on
abbrev pub older : Head → Bool
older h = not (eqb (setting h 29) 0) || h.measurement.incremental

-- it is brought over
pub record Brought (h k : Head) : Type 0 where
  -- its 35h becomes 0, and it returns to its absolute position: incremental is off, and its start 0
  pub retired : setting k 29 ≡ 0
  pub incremental : k.measurement.incremental ≡ false
  pub start : older h ≡ true → k.measurement.start ≡ pos 0
  -- all else is kept: the other 38, the number and the baud setting in force, the offer, the serial number, the interlock
  pub values : (r : ℕ) → r ≢ 29 → setting k r ≡ setting h r
  pub places : length k.stored.values ≡ length h.stored.values
  pub number : k.stored.number ≡ h.stored.number
  pub baud : k.stored.baud ≡ h.stored.baud
  pub offer : k.stored.offer ≡ h.stored.offer
  pub serial : k.stored.serial ≡ h.stored.serial
  pub unlocked : k.stored.unlocked ≡ h.stored.unlocked
  -- m, calibration and the frozen value, both lists with all that is kept of errors, the set points with the static bit, the monitor, the bytes gathered, the keys
  pub m : k.measurement.m ≡ h.measurement.m
  pub zero : k.measurement.zero ≡ h.measurement.zero
  pub adopted : k.measurement.adopted ≡ h.measurement.adopted
  pub frozen : k.measurement.frozen ≡ h.measurement.frozen
  pub kept : k.measurement.kept ≡ h.measurement.kept
  pub faults : k.faults ≡ h.faults
  pub targets : k.targets ≡ h.targets
  pub monitor : k.monitor ≡ h.monitor
  pub ear : k.ear ≡ h.ear
  pub keys : k.keys ≡ h.keys
  -- a head that is no older one is as it was
  pub unchanged : older h ≡ false → k ≡ h

-- ---- a new head is as after a restart, its error memory empty: interlock closed, m, the zero and the adopted value 0, and the delivery values,
-- of which that of 00h is the number given
pub record New (k : Head) (node : ℕ) : Type 0 where
  pub restarted : Restarted k k
  pub memory : entries k.faults.memory ≡ []
  pub unlocked : k.stored.unlocked ≡ false
  pub m : k.measurement.m ≡ pos 0
  pub zero : k.measurement.zero ≡ pos 0
  pub adopted : k.measurement.adopted ≡ 0
  pub values : (r : ℕ) → setting k r ≡ delivered node r
