-- What is the same for every telegram, over the public byte call of a head alone: what a reply copies, and which status word it carries; what a read,
-- and a write of a stored parameter, leave as they were; what a sound one and a damaged one do to the monitor and to the errors.
-- Assumes nothing.
use Rattle.std.specs.Prelude.{ℕ, ◌+◌, ◌<◌, ◌≤◌, ◌≡◌, Bool, true, false, cond, not, ◌&&◌, ◌||◌, ◌≢◌, ◌⊎◌, List, ltb, eqb, length, take, Ok, is_some}
use Rattle.wire.specs.declared.telegram.Telegram.{Telegram}
use Rattle.wire.specs.Check.{hit_of}
use Rattle.wire.specs.declared.fault.Fault.{Fault}
use Rattle.wire.specs.Faults.{code_of}
use Rattle.wire.specs.Telegram.{fields_of, ten_in}
use Rattle.wire.specs.Word.{byte0}
use Rattle.signed.specs.Number.{word_of}
use Rattle.rows.specs.declared.access.Access.{Access}
use Rattle.rows.specs.declared.access.Access.TheVariants.{ReadWrite, ReadOnly, WriteOnly, Unknown}
use Rattle.rows.specs.Access.{access_of}
use Rattle.rows.specs.Table.{row_of, address}
use Rattle.judge.specs.declared.deed.Deed.TheVariants.{Restart}
use Rattle.judge.specs.declared.verdict.Verdict.TheVariants.{Refused}
use Rattle.judge.specs.Judged.{judged_of}
use Rattle.state.specs.declared.parts.Head.{Head}
use Rattle.state.specs.Errors.{remembered_of}
use Rattle.state.specs.Position.{view_of}
use Rattle.state.specs.Status.{status_of, difference_of}
use Rattle.head.specs.Hear.{standing_of, gathered_of}
use Rattle.demands.specs.Past.{accepted, gives, look}
use Rattle.demands.specs.Run.{System}
use Rattle.demands.specs.Alone.{Taken, setting, Turned}
use Rattle.demands.specs.Acts.{act_of, Acted}

-- the reply x to the telegram t copies command and node, and has this status word in the control word's place
pub record Copies (t x : Telegram) (status : ℕ) : Type 0 where
  pub command : x.command ≡ t.command
  pub node : x.node ≡ t.node
  pub word : x.word ≡ status

-- the telegrams that keep the status word of before (document 02, request (iii)): writes of FBh and FFh, reads of FAh, and A0h 9
abbrev pub keeps_word : Telegram → Bool
keeps_word t =
    (eqb t.command 1 && (eqb t.parameter 0xFB || (eqb t.parameter 0xFF || (eqb t.parameter 0xA0 && eqb t.value 9))))
    || (eqb t.command 0 && eqb t.parameter 0xFA)

-- the status word of the reply x to the telegram t: that of the head before where t is one of these and is obeyed, else that of the head after. (What is
-- obeyed is answered with its own parameter, an error with FDh.)
abbrev pub word_told : Telegram → Telegram → Head → Head → ℕ
word_told t x before after = cond (eqb x.parameter t.parameter && keeps_word t) (status_of before) (status_of after)

-- a head that was polled by a read of p, the exclusive-or of whose ten bytes is x: what is stored, the set points with their validity and acknowledgement, the taken
-- control word, the measurement and the keys are as they were, but that FAh may clear the static bit and FEh release the frozen value; and so are the errors, but
-- for the input list, where it is sound
pub record Polled (h k : Head) (p x : ℕ) : Type 0 where
  pub stored : k.stored ≡ h.stored
  pub first : k.targets.first ≡ h.targets.first
  pub valid1 : k.targets.valid1 ≡ h.targets.valid1
  pub second : k.targets.second ≡ h.targets.second
  pub valid2 : k.targets.valid2 ≡ h.targets.valid2
  pub word : k.targets.word ≡ h.targets.word
  pub acknowledged1 : k.targets.acknowledged1 ≡ h.targets.acknowledged1
  pub acknowledged2 : k.targets.acknowledged2 ≡ h.targets.acknowledged2
  pub m : k.measurement.m ≡ h.measurement.m
  pub zero : k.measurement.zero ≡ h.measurement.zero
  pub adopted : k.measurement.adopted ≡ h.measurement.adopted
  pub incremental : k.measurement.incremental ≡ h.measurement.incremental
  pub start : k.measurement.start ≡ h.measurement.start
  pub keys : k.keys ≡ h.keys
  pub reached : p ≢ 0xFA → k.targets.reached ≡ h.targets.reached
  pub frozen : p ≢ 0xFE → k.measurement.frozen ≡ h.measurement.frozen
  pub kept : p ≢ 0xFE → k.measurement.kept ≡ h.measurement.kept
  pub pending : x ≡ 0 → k.faults.pending ≡ h.faults.pending
  pub memory : x ≡ 0 → k.faults.memory ≡ h.faults.memory

-- one more damaged telegram is the third in a row
abbrev pub third : Head → Bool
third h = not (ltb h.faults.damaged 2)

-- a head after a damaged telegram, the exclusive-or of whose ten bytes is x
pub record Damaged (h k : Head) (x : ℕ) : Type 0 where
  pub hit : k.faults.hit ≡ x
  pub damaged : k.faults.damaged ≡ cond (third h) 0 (h.faults.damaged + 1)
  pub pending : k.faults.pending ≡ cond (third h) 0x0080 h.faults.pending
  pub memory : k.faults.memory ≡ cond (third h) (remembered_of h.faults.memory 0x0080) h.faults.memory
  -- whichever bits were hit, it does not start the monitor, and is not obeyed
  pub monitor : k.monitor ≡ h.monitor
  pub stored : k.stored ≡ h.stored
  pub measurement : k.measurement ≡ h.measurement
  pub targets : k.targets ≡ h.targets
  pub keys : k.keys ≡ h.keys

-- a head after a sound telegram, heard at this time, that does nothing to it, but that this number is offered then. (What the ear holds past its count,
-- and when the last byte came, cannot be seen where none is gathered.)
pub record Passed (h k : Head) (time remembered : ℕ) : Type 0 where
  pub values : k.stored.values ≡ h.stored.values
  pub number : k.stored.number ≡ h.stored.number
  pub baud : k.stored.baud ≡ h.stored.baud
  pub unlocked : k.stored.unlocked ≡ h.stored.unlocked
  pub offer : k.stored.offer ≡ remembered
  pub memory : k.faults.memory ≡ h.faults.memory
  pub inputs : k.faults.inputs ≡ h.faults.inputs
  pub pending : k.faults.pending ≡ h.faults.pending
  pub hit : k.faults.hit ≡ h.faults.hit
  pub damaged : k.faults.damaged ≡ 0
  pub measurement : k.measurement ≡ h.measurement
  pub targets : k.targets ≡ h.targets
  pub monitor : k.monitor ≡ record { running = true; since = time }
  pub gathered : k.ear.count ≡ 0
  pub keys : k.keys ≡ h.keys

-- a head after a telegram that it answered with an error of this code: it is entered, and but for the error 0080h, its list and count (Damaged), the
-- monitor, the bytes gathered and an offer that is dropped (AutoId) all is as it was
pub record Complained (h k : Head) (hit code : ℕ) : Type 0 where
  pub inputs : k.faults.inputs ≡ remembered_of h.faults.inputs code
  pub memory : hit ≡ 0 → k.faults.memory ≡ h.faults.memory
  pub pending : hit ≡ 0 → k.faults.pending ≡ h.faults.pending
  pub values : k.stored.values ≡ h.stored.values
  pub number : k.stored.number ≡ h.stored.number
  pub baud : k.stored.baud ≡ h.stored.baud
  pub unlocked : k.stored.unlocked ≡ h.stored.unlocked
  pub measurement : k.measurement ≡ h.measurement
  pub targets : k.targets ≡ h.targets
  pub gathered : k.ear.count ≡ 0
  pub keys : k.keys ≡ h.keys

-- a telegram that is this head's to answer: the node byte is the number in force, and the command is not 02h
abbrev pub mine : Telegram → Head → Bool
mine t h = eqb t.node h.stored.number && not (eqb t.command 2)

-- 0Eh, at place 14, is 1 and the interlock closed
abbrev pub locked : Head → Bool
locked h = eqb (setting h 14) 1 && not h.stored.unlocked

-- read and write, or read only
abbrev pub readable : Access → Bool
readable ReadWrite = true
readable ReadOnly = true
readable WriteOnly = false
readable Unknown = false

-- the answer to an FFh write, by 03h of the head before it and the head k after it: the set point, the current value as FEh would show it unfrozen, or the
-- differential value
abbrev pub aim_answer : ℕ → Head → ℕ
aim_answer how k =
    cond (eqb how 1) (word_of (view_of k.stored.values k.measurement).shown)
    (cond (eqb how 2) (word_of (difference_of k.stored.values k.measurement k.targets.second)) k.targets.second)

pub record Every (m : System) : Type 0 where
  -- a reply copies command and node, and carries the status word of before or of after
  pub copies : (h : Head) (b t : ℕ) (space : List ℕ) → Taken h space → is_some (gathered_of h.ear b t).ten ≡ true
      → (m.on_head.byte h b t (length space)).heard ≡ Ok 1
      → let asked = fields_of (ten_in (gathered_of h.ear b t).ten) in
      let x = fields_of (take 10 (m.on_head.space h b t space)) in
      Copies asked x (word_told asked x h (m.on_head.byte h b t (length space)).head)
  pub polls : (h : Head) (b t : ℕ) (space : List ℕ) → Taken h space → is_some (gathered_of h.ear b t).ten ≡ true
      → let ten = ten_in (gathered_of h.ear b t).ten in
      (fields_of ten).command ≡ 0 → Polled h (m.on_head.byte h b t (length space)).head (fields_of ten).parameter (hit_of ten)
  -- a write of a stored parameter, of 1Fh too, leaves the zero, the adopted value and all else of the measurement; and the set points, but that it may enter or
  -- leave alpha-numeric display
  pub sets : (h : Head) (b t : ℕ) (space : List ℕ) → Taken h space → is_some (gathered_of h.ear b t).ten ≡ true
      → (fields_of (ten_in (gathered_of h.ear b t).ten)).command ≡ 1
      → (r : ℕ) → r < 39 → (fields_of (ten_in (gathered_of h.ear b t).ten)).parameter ≡ address (row_of r)
      → let k = (m.on_head.byte h b t (length space)).head in (k.measurement ≡ h.measurement) × Turned h k
  -- a sound telegram starts the monitor, also one for another head
  pub starts : (h : Head) (b t : ℕ) (space : List ℕ) → Taken h space → is_some (gathered_of h.ear b t).ten ≡ true
      → hit_of (ten_in (gathered_of h.ear b t).ten) ≡ 0 → (judged_of (ten_in (gathered_of h.ear b t).ten) (standing_of h)).deed ≢ Restart
      → (m.on_head.byte h b t (length space)).head.monitor ≡ record { running = true; since = t }
  -- it leaves what the head keeps of the last damaged one, and sets their count to 0 (a restart: `restarts` of Demand2)
  pub spares : (h : Head) (b t : ℕ) (space : List ℕ) → Taken h space → is_some (gathered_of h.ear b t).ten ≡ true
      → hit_of (ten_in (gathered_of h.ear b t).ten) ≡ 0 → (judged_of (ten_in (gathered_of h.ear b t).ten) (standing_of h)).deed ≢ Restart
      → let k = (m.on_head.byte h b t (length space)).head in (k.faults.hit ≡ h.faults.hit) × (k.faults.damaged ≡ 0)
  -- a damaged one, for whomever, is kept by its exclusive-or, and counts; the third in a row raises 0080h, and the count returns to 0
  pub counts : (h : Head) (b t : ℕ) (space : List ℕ) → Taken h space → is_some (gathered_of h.ear b t).ten ≡ true
      → hit_of (ten_in (gathered_of h.ear b t).ten) ≢ 0 → Damaged h (m.on_head.byte h b t (length space)).head (hit_of (ten_in (gathered_of h.ear b t).ten))
  -- and whichever bits were hit, the answer is the same: 00 80, which enters the input list, where it is this head's to answer; else silence, and
  -- that list is as it was
  pub refuses : (h : Head) (b t : ℕ) (space : List ℕ) → Taken h space → is_some (gathered_of h.ear b t).ten ≡ true
      → hit_of (ten_in (gathered_of h.ear b t).ten) ≢ 0
      → let own = mine (fields_of (ten_in (gathered_of h.ear b t).ten)) h in
      let x = fields_of (take 10 (m.on_head.space h b t space)) in
      ((m.on_head.byte h b t (length space)).heard ≡ Ok (cond own 1 0))
      × (own ≡ true → (x.parameter ≡ 0xFD) × (x.value ≡ 0x0080))
      × ((m.on_head.byte h b t (length space)).head.faults.inputs ≡ cond own (remembered_of h.faults.inputs 0x0080) h.faults.inputs)
  -- an error reply enters the input list with its code
  pub complains : (h : Head) (b t : ℕ) (space : List ℕ) → Taken h space → is_some (gathered_of h.ear b t).ten ≡ true
      → (f : Fault) → (judged_of (ten_in (gathered_of h.ear b t).ten) (standing_of h)).verdict ≡ Refused f
      → (m.on_head.byte h b t (length space)).head.faults.inputs ≡ remembered_of h.faults.inputs (code_of f)
  -- whatever is judged: a reply with FDh in the parameter's place, but for a sound read of FDh, is an error's; it enters the input list with the code that it
  -- tells, and the telegram changes only what document 01 lists
  pub errs : (h : Head) (b t : ℕ) (space : List ℕ) → Taken h space → is_some (gathered_of h.ear b t).ten ≡ true
      → let ten = ten_in (gathered_of h.ear b t).ten in
      let x = fields_of (take 10 (m.on_head.space h b t space)) in
      (m.on_head.byte h b t (length space)).heard ≡ Ok 1 → x.parameter ≡ 0xFD
      → ((fields_of ten).parameter ≢ 0xFD) ⊎ (((fields_of ten).command ≢ 0) ⊎ (hit_of ten ≢ 0))
      → Complained h (m.on_head.byte h b t (length space)).head (hit_of ten) x.value
  -- a sound telegram for another head is met with silence, and does nothing
  pub passes : (h : Head) (b t : ℕ) (space : List ℕ) → Taken h space → is_some (gathered_of h.ear b t).ten ≡ true
      → let ten = ten_in (gathered_of h.ear b t).ten in
      hit_of ten ≡ 0 → (fields_of ten).command ≢ 2 → (fields_of ten).node ≢ h.stored.number
      → ((m.on_head.byte h b t (length space)).heard ≡ Ok 0)
      × (m.on_head.space h b t space ≡ space)
      × Passed h (m.on_head.byte h b t (length space)).head t h.stored.offer
  -- a sound broadcast that is not accepted, by the account's own tests (Past), is met with silence, and does nothing
  pub uncast : (h : Head) (b t : ℕ) (space : List ℕ) → Taken h space → is_some (gathered_of h.ear b t).ten ≡ true
      → let ten = ten_in (gathered_of h.ear b t).ten in
      hit_of ten ≡ 0 → (fields_of ten).command ≡ 2 → accepted h.stored.number (locked h) ten ≡ false
      → ((m.on_head.byte h b t (length space)).heard ≡ Ok 0)
      × (m.on_head.space h b t space ≡ space)
      × Passed h (m.on_head.byte h b t (length space)).head t h.stored.offer
  -- no broadcast is answered
  pub casts : (h : Head) (b t : ℕ) (space : List ℕ) → Taken h space → is_some (gathered_of h.ear b t).ten ≡ true
      → (fields_of (ten_in (gathered_of h.ear b t).ten)).command ≡ 2
      → ((m.on_head.byte h b t (length space)).heard ≡ Ok 0) × (m.on_head.space h b t space ≡ space)
  -- a sound read, at the number in force, of a parameter that may be read is answered, with that parameter, whatever its control word and its data; of 96h where
  -- its number is not above the count. It enters nothing in the input list
  pub read : (h : Head) (b t : ℕ) (space : List ℕ) → Taken h space → is_some (gathered_of h.ear b t).ten ≡ true
      → let ten = ten_in (gathered_of h.ear b t).ten in
      hit_of ten ≡ 0 → (fields_of ten).command ≡ 0 → (fields_of ten).node ≡ h.stored.number → readable (access_of (fields_of ten).parameter) ≡ true
      → ((fields_of ten).parameter ≡ 0x96 → byte0 (fields_of ten).value ≤ h.faults.inputs.count)
      → ((m.on_head.byte h b t (length space)).heard ≡ Ok 1)
      × ((fields_of (take 10 (m.on_head.space h b t space))).parameter ≡ (fields_of ten).parameter)
      × ((m.on_head.byte h b t (length space)).head.faults.inputs ≡ h.faults.inputs)
  -- a sound telegram at the number in force whose command is above 02h is 00 84, whatever its parameter
  pub above : (h : Head) (b t : ℕ) (space : List ℕ) → Taken h space → is_some (gathered_of h.ear b t).ten ≡ true
      → let ten = ten_in (gathered_of h.ear b t).ten in
      let x = fields_of (take 10 (m.on_head.space h b t space)) in
      hit_of ten ≡ 0 → 2 < (fields_of ten).command → (fields_of ten).node ≡ h.stored.number
      → ((m.on_head.byte h b t (length space)).heard ≡ Ok 1) × (x.parameter ≡ 0xFD) × (x.value ≡ 0x0084)
  -- a write that is accepted, by the account's own tests, is answered, but for D2h; with the value written, but for FFh
  pub written : (h : Head) (b t : ℕ) (space : List ℕ) → Taken h space → is_some (gathered_of h.ear b t).ten ≡ true
      → let ten = ten_in (gathered_of h.ear b t).ten in
      let x = fields_of (take 10 (m.on_head.space h b t space)) in
      accepted h.stored.number (locked h) ten ≡ true → (fields_of ten).command ≡ 1 → (fields_of ten).parameter ≢ 0xD2
      → ((m.on_head.byte h b t (length space)).heard ≡ Ok 1)
      × (x.parameter ≡ (fields_of ten).parameter)
      × ((fields_of ten).parameter ≢ 0xFF → (fields_of ten).value < 4294967296 → x.value ≡ (fields_of ten).value)
  -- and one of FFh is answered by 03h, after the write
  pub aimed : (h : Head) (b t : ℕ) (space : List ℕ) → Taken h space → is_some (gathered_of h.ear b t).ten ≡ true
      → let ten = ten_in (gathered_of h.ear b t).ten in
      accepted h.stored.number (locked h) ten ≡ true → (fields_of ten).command ≡ 1 → (fields_of ten).parameter ≡ 0xFF → (fields_of ten).value < 4294967296
      → (fields_of (take 10 (m.on_head.space h b t space))).value ≡ aim_answer (setting h 3) (m.on_head.byte h b t (length space)).head
  -- an accepted write or broadcast, but for A0h 9, does what its address says, and leaves all else that is not stored
  pub acts : (h : Head) (b t : ℕ) (space : List ℕ) → Taken h space → is_some (gathered_of h.ear b t).ten ≡ true
      → let asked = fields_of (ten_in (gathered_of h.ear b t).ten) in
      accepted h.stored.number (locked h) (ten_in (gathered_of h.ear b t).ten) ≡ true → (eqb asked.parameter 0xA0 && eqb asked.value 9) ≡ false
      → Acted h (m.on_head.byte h b t (length space)).head (act_of asked.parameter asked.value) asked.value asked.word
  -- and stores what the account has of it, also in a head that was handed in
  pub stores : (h : Head) (b t : ℕ) (space : List ℕ) → Taken h space → is_some (gathered_of h.ear b t).ten ≡ true
      → let asked = fields_of (ten_in (gathered_of h.ear b t).ten) in
      accepted h.stored.number (locked h) (ten_in (gathered_of h.ear b t).ten) ≡ true → length h.stored.values ≡ 39
      → (r : ℕ) → r < 39 → setting (m.on_head.byte h b t (length space)).head r ≡ look (gives asked.parameter asked.value r) (setting h r)
  -- A8h opens the interlock with 1 and closes it with 0, and no other touches it
  pub locks : (h : Head) (b t : ℕ) (space : List ℕ) → Taken h space → is_some (gathered_of h.ear b t).ten ≡ true
      → let asked = fields_of (ten_in (gathered_of h.ear b t).ten) in
      accepted h.stored.number (locked h) (ten_in (gathered_of h.ear b t).ten) ≡ true → length h.stored.values ≡ 39
      → (m.on_head.byte h b t (length space)).head.stored.unlocked ≡ cond (eqb asked.parameter 0xA8) (eqb asked.value 1) h.stored.unlocked
  -- after a telegram, whichever it is, none is gathered
  pub ends : (h : Head) (b t : ℕ) (space : List ℕ) → Taken h space → is_some (gathered_of h.ear b t).ten ≡ true
      → (m.on_head.byte h b t (length space)).head.ear.count ≡ 0
  -- only a restart takes 00h and 01h into force: no write of them, and no reset
  pub in_force_lem : (h : Head) (b t : ℕ) (space : List ℕ) → Taken h space → is_some (gathered_of h.ear b t).ten ≡ true
      → (judged_of (ten_in (gathered_of h.ear b t).ten) (standing_of h)).deed ≢ Restart
      → let k = (m.on_head.byte h b t (length space)).head in (k.stored.number ≡ h.stored.number) × (k.stored.baud ≡ h.stored.baud)
