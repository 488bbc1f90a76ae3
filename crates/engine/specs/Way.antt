-- A telegram's way through the head (document 01, the section of that name; document 02, requests (i), (ii) and (iii)): ten bytes at once, the checks in order, the first that applies
-- decides.
-- Assumes nothing.
use Rattle.std.specs.Prelude.{ℕ, ◌+◌, ◌-◌, ◌*◌, Bool, true, cond, not, ◌&&◌, ◌||◌, List, [], ◌∷◌, eqb, ltb, Some, None, Result, Ok, Err, ⊤}
use Rattle.std.specs.Int.Signed.{lt_z}
use Rattle.wire.specs.declared.telegram.Telegram.{Telegram}
use Rattle.wire.specs.declared.fault.Fault.{Fault}
use Rattle.wire.specs.declared.fault.Fault.TheVariants.{CheckSum, Unlisted, Below, Above, UnknownParameter, NoAccess, WriteRefused, ReadRefused, DeviceState, Locked}
use Rattle.wire.specs.Word.{byte0}
use Rattle.wire.specs.Faults.{code_of}
use Rattle.wire.specs.Telegram.{bytes_of}
use Rattle.signed.specs.Number.{word_of}
use Rattle.state.specs.declared.parts.Head.{Head}
use Rattle.state.specs.declared.parts.Faults.{Faults}
use Rattle.state.specs.Errors.{remembered_of, entry_of}
use Rattle.state.specs.With.{with_faults, with_monitor, with_ear, with_memory, with_inputs, with_pending, with_damaged, with_hit}
use Rattle.engine.specs.declared.Told.{Told}
use Rattle.engine.specs.Addresses.{within, is_stored, is_read_only, is_write_only, is_known, may_broadcast, limits_of, is_listed, number_in}
use Rattle.engine.specs.Shows.{value, current, differential, status}
use Rattle.engine.specs.Does.{store, reset, unlock, offer, calibrate, freeze, release, forget_errors, clear_static, aim_first, aim_second, no_bytes_of, restart}

-- ---- hearing, whatever comes of it
-- a raised error becomes the pending one and enters the error memory
abbrev pub raised : ℕ → Faults → Faults
raised code f = with_pending (with_memory f (remembered_of f.memory code)) code

-- the exclusive-or of a damaged telegram is kept, and it counts: three in a row raise error 0080h and the count returns to 0. Any sound telegram sets it to 0
unfoldable pub counted : ℕ → Faults → Faults
counted hit f =
    cond (eqb hit 0) (with_damaged f 0)
    (cond (ltb f.damaged 2) (with_damaged (with_hit f hit) (f.damaged + 1)) (raised (code_of CheckSum) (with_damaged (with_hit f hit) 0)))

-- a sound telegram, for whomever, starts the monitor; no bytes are gathered
unfoldable pub hearing : ℕ → ℕ → Head → Head
hearing hit time h =
    let k = with_faults h (counted hit h.faults) in
    with_ear (with_monitor k (cond (eqb hit 0) (record { running = true; since = time }) h.monitor)) (no_bytes_of time)

-- ---- silence; and a reply, which copies command and node, with the status word of a head in the control word's place
unfoldable pub silent : Head → Told
silent after = record { head = after; reply = None }

unfoldable pub reply : Telegram → ℕ → Head → ℕ → Head → Told
reply t parameter shown v after =
    record {
      head = after;
      reply = Some (bytes_of (record { command = t.command; node = t.node; parameter = parameter; word = status shown; value = v }));
    }

-- ---- the first row that applies decides
abbrev pub first : List (Bool × Told) → Told → Told
first [] last = last
first (r ∷ rows) last = cond r.0 r.1 (first rows last)

-- ---- of a check: what comes next where it lets pass, and else what it decides
abbrev pub decided_or : Result ⊤ Told → Told → Told
decided_or (Ok passed) next = next
decided_or (Err told) next = told

-- 0Eh is 1 and the interlock closed
abbrev pub locked : Head → Bool
locked h = eqb (value 0x0E h) 1 && not h.stored.unlocked

-- 96h: its number in the first data byte; 0 gives the count, n the nth oldest code
abbrev pub input_error : Head → ℕ → ℕ
input_error h number = cond (eqb number 0) h.faults.inputs.count (number * 16777216 + entry_of h.faults.inputs (number - 1))

-- ---- the telegram t
module _ (t : Telegram) where
  abbrev pub reads : Bool
  reads = eqb t.command 0

  abbrev pub writes : Bool
  writes = eqb t.command 1

  abbrev pub casts : Bool
  casts = eqb t.command 2

  abbrev pub is : ℕ → Bool
  is a = eqb t.parameter a

  -- an answer with the status word after; a write is answered so with the value written, a broadcast never
  abbrev pub answer : ℕ → Head → Told
  answer v after = reply t t.parameter after v after

  abbrev pub doing : Head → Told
  doing after = cond writes (answer t.value after) (silent after)

  -- an error reply has FDh as parameter and the code as data, and enters the input list
  unfoldable pub complain : Fault → Head → Told
  complain fault n =
      let after = with_faults n (with_inputs n.faults (remembered_of n.faults.inputs (code_of fault))) in
      reply t 0xFD after (code_of fault) after

  -- a refused broadcast is silent; a refused telegram changes nothing but what hearing it did, and that list
  abbrev pub refuse : Fault → Head → Told
  refuse fault n = cond casts (silent n) (complain fault n)

  -- a value of D2h outside its range drops the offer
  abbrev pub outside : Fault → Head → Told
  outside fault n = cond casts (silent n) (complain fault (cond (is 0xD2) (offer 0 n) n))

  -- nothing is asked of a head with this number in force: checks 1, 2, 4 and 5 come to silence. No check goes by it, and `way` does not: it says when the code may be silent at once
  abbrev pub unasked : ℕ → ℕ → Bool
  unasked number hit = cond (eqb hit 0 && casts) (not (may_broadcast t.parameter)) (not (eqb t.node number))

  -- ---- the head h before it
  module _ (h : Head) where
    abbrev pub mine : Bool
    mine = eqb t.node h.stored.number

    -- an answer with the status word before, and so to a write
    abbrev pub answer_old : ℕ → Head → Told
    answer_old v after = reply t t.parameter h v after

    abbrev pub doing_old : ℕ → Head → Told
    doing_old v after = cond writes (answer_old v after) (silent after)

    -- FFh by 03h: 0 the set point, 1 the current value as FEh would show it unfrozen, 2 the differential value, both after the write: what FEh shows does not go by
    -- set points, and S is the value written
    abbrev pub response : ℕ
    response = cond (eqb (value 0x03 h) 1) (word_of (current h)) (cond (eqb (value 0x03 h) 2) (word_of (differential h t.value)) t.value)

    -- ---- and the head n that has heard it
    module _ (n : Head) where
      -- a read that passed: its data are those before its effects
      unfoldable pub read : Told
      read =
          first
          ((is_stored t.parameter, answer (value t.parameter h) n)
          ∷ (is 0x65, answer 11 n)
          ∷ (is 0x67, answer 100 n)
          ∷ (is 0x80, answer h.faults.memory.count n)
          ∷ (within 0x81 0x8A t.parameter, answer (entry_of h.faults.memory (t.parameter - 0x81)) n)
          ∷ (is 0x96, answer (input_error h (byte0 t.value)) n)
          ∷ (is 0xFA, answer_old (status h) (clear_static n))
          ∷ (is 0xFB, answer h.targets.first n)
          ∷ (is 0xFC, answer (word_of (differential h h.targets.second)) n)
          ∷ (is 0xFD, answer h.faults.pending n)
          ∷ (is 0xFE, answer (word_of (cond h.measurement.frozen h.measurement.kept (current h))) (release n))
          ∷ (is 0xFF, answer h.targets.second n)
          ∷ [])
          -- no other comes here
          (answer 0 n)

      -- A0h: 1, 2 and 5 reset, 7 calibrates, 8 empties the error memory, 9 replies and restarts
      unfoldable pub system : Told
      system =
          first
          ((eqb t.value 7, doing (calibrate n))
          ∷ (eqb t.value 8, doing (forget_errors n))
          ∷ (eqb t.value 9, doing_old t.value (restart n))
          ∷ [])
          (doing (reset t.value n))

      -- a write or a broadcast that passed; an offer is remembered without a reply
      unfoldable pub write : Told
      write =
          first
          ((is_stored t.parameter, doing (store t.parameter t.value n))
          ∷ (is 0xA0, system)
          ∷ (is 0xA7, doing (calibrate n))
          ∷ (is 0xA8, doing (unlock (eqb t.value 1) n))
          ∷ (is 0xAA, doing (freeze n))
          ∷ (is 0xD2, silent (offer t.value n))
          ∷ (is 0xFB, doing_old t.value (aim_first t.value t.word n))
          ∷ (is 0xFF, doing_old response (aim_second t.value t.word n))
          ∷ [])
          -- no other comes here
          (doing n)

      unfoldable pub obeyed : Told
      obeyed = cond reads read write

      -- ---- the checks, each with what comes if it does not apply
      -- 1. exclusive-or not 0: replied only if the node byte is the number in force and the command is not 02h
      abbrev pub check1 : ℕ → Told → Told
      check1 hit next = cond (eqb hit 0) next (cond mine (refuse CheckSum n) (silent n))

      -- 2. not a broadcast, and node byte not the number in force: silence
      abbrev pub check2 : Told → Told
      check2 next = cond (not casts && not mine) (silent n) next

      -- 3. command above 02h
      abbrev pub check3 : Told → Told
      check3 next = cond (ltb 2 t.command) (refuse NoAccess n) next

      -- 4. unknown parameter
      abbrev pub check4 : Told → Told
      check4 next = cond (is_known t.parameter) next (refuse UnknownParameter n)

      -- 5. write to read only; read of write only; broadcast to a parameter that allows none: silence
      abbrev pub check5 : Told → Told
      check5 next =
          cond (writes && is_read_only t.parameter) (refuse WriteRefused n)
          (cond (reads && is_write_only t.parameter) (refuse ReadRefused n)
          (cond (casts && not (may_broadcast t.parameter)) (silent n) next))

      -- 6. locked, and the write or broadcast is to one of the 39 or A0h; or it is to D2h, and the number in force is not 31
      abbrev pub check6 : Told → Told
      check6 next =
          cond ((writes || casts) && (locked h && (is_stored t.parameter || is 0xA0))) (refuse Locked n)
          (cond ((writes || casts) && (is 0xD2 && not (eqb h.stored.number 31))) (refuse DeviceState n) next)

      -- 7. value below low, above high, in between and not listed
      abbrev pub ranged : Told → Told
      ranged next =
          let l = limits_of t.parameter in
          let v = number_in t.parameter t.value in
          cond (lt_z v l.low) (outside Below n) (cond (lt_z l.high v) (outside Above n) (cond (is_listed t.parameter t.value) next (refuse Unlisted n)))

      -- for 96h a number above the count
      abbrev pub numbered : Told → Told
      numbered next = cond (is 0x96 && ltb h.faults.inputs.count (byte0 t.value)) (refuse Above n) next

      abbrev pub check7 : Told → Told
      check7 next = cond (writes || casts) (ranged (numbered next)) (numbered next)

      -- in this order; the first that applies decides
      unfoldable pub way : ℕ → Told
      way hit = check1 hit (check2 (check3 (check4 (check5 (check6 (check7 obeyed))))))
