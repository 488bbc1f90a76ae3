-- What a head answers (document 01, "Ten bytes", "A telegram's way through the head", "What each one does"; D2h: document 02, request (ii)).
-- All read data are those of the head before the telegram's effects; the status word is that of Word.
-- Assumes nothing.
use Rattle.std.specs.Prelude.{ℕ, ◌+◌, ◌-◌, ◌*◌, cond, not, ◌&&◌, List, eqb, Some, None, Option}
use Rattle.wire.specs.declared.telegram.Telegram.{Telegram}
use Rattle.wire.specs.Word.{byte0}
use Rattle.wire.specs.Telegram.{bytes_of}
use Rattle.wire.specs.Faults.{code_of}
use Rattle.wire.specs.declared.fault.Fault.{Fault}
use Rattle.signed.specs.Number.{word_of}
use Rattle.rows.specs.declared.kind.Kind.{Kind}
use Rattle.rows.specs.declared.kind.Kind.TheVariants.{Stored, SetPoint1, SetPoint2, ReadOnly, WriteOnly, Unknown}
use Rattle.rows.specs.declared.kind.Shown.{Shown}
use Rattle.rows.specs.declared.kind.Shown.TheVariants.{Identification, Version, ErrorCount, ErrorAt, InputErrors, StatusWord, Differential, Pending, Position}
use Rattle.judge.specs.declared.judged.Judged.{Judged}
use Rattle.judge.specs.declared.verdict.Verdict.{Verdict}
use Rattle.judge.specs.declared.verdict.Verdict.TheVariants.{Obeyed, Silent, Refused}
use Rattle.judge.specs.Commands.{reads_of, writes_of}
use Rattle.state.specs.declared.parts.Head.{Head}
use Rattle.state.specs.declared.parts.ErrorList.{ErrorList}
use Rattle.state.specs.declared.parts.Measurement.{Measurement}
use Rattle.state.specs.Settings.{value_at, response_place}
use Rattle.state.specs.Errors.{entry_of}
use Rattle.state.specs.Position.{view_of}
use Rattle.state.specs.Status.{status_of, difference_of}
use Rattle.reply.specs.Word.{carried_of}

-- 96h returns its number in the first data byte: 0 gives the count, n the nth oldest code in the low bytes
unfoldable pub input_of : ErrorList → ℕ → ℕ
input_of l number = cond (eqb number 0) l.count (number * 16777216 + entry_of l (number - 1))

-- FEh, signed: the kept value while frozen
unfoldable pub position_word : List ℕ → Measurement → ℕ
position_word vs g = word_of (cond g.frozen g.kept (view_of vs g).shown)

-- what a read only parameter shows; value is the telegram's own, which only 96h looks at
abbrev pub shows_of : Shown → Head → ℕ → ℕ
shows_of Identification h value = 11
shows_of Version h value = 100
shows_of ErrorCount h value = h.faults.memory.count
shows_of (ErrorAt i) h value = entry_of h.faults.memory i
shows_of InputErrors h value = input_of h.faults.inputs (byte0 value)
shows_of StatusWord h value = status_of h
shows_of Differential h value = word_of (difference_of h.stored.values h.measurement h.targets.second)
shows_of Pending h value = h.faults.pending
shows_of Position h value = position_word h.stored.values h.measurement

-- the data of a read
unfoldable pub read_of : Kind → Head → ℕ → ℕ
read_of (Stored i) h value = value_at h.stored.values i
read_of SetPoint1 h value = h.targets.first
read_of SetPoint2 h value = h.targets.second
read_of (ReadOnly s) h value = shows_of s h value
read_of (WriteOnly o) h value = 0
read_of Unknown h value = 0

-- the answer to an FFh write by 03h: 0 the set point, 1 the current value as FEh would show it unfrozen, 2 the differential value,
-- both after the write
abbrev pub set_point_answer : Head → ℕ → ℕ
set_point_answer h value =
    cond (eqb (value_at h.stored.values response_place) 1) (word_of (view_of h.stored.values h.measurement).shown)
    (cond (eqb (value_at h.stored.values response_place) 2) (word_of (difference_of h.stored.values h.measurement value)) value)

-- a write is answered with the value written
unfoldable pub answer_of : ℕ → Head → ℕ → ℕ
answer_of a h value = cond (eqb a 0xFF) (set_point_answer h value) value

unfoldable pub silence : Option (List ℕ)
silence = None

-- a reply copies command, node and parameter, with the status word in the control word's place
abbrev pub fields_said : Telegram → ℕ → ℕ → ℕ → Telegram
fields_said t parameter word value =
    record { command = t.command; node = t.node; parameter = parameter; word = word; value = value }

unfoldable pub said : Telegram → ℕ → ℕ → ℕ → Option (List ℕ)
said t parameter word value = Some (bytes_of (fields_said t parameter word value))

-- an error reply has FDh as parameter and data 00 00 code2 code1
unfoldable pub error_reply : Telegram → ℕ → Fault → Option (List ℕ)
error_reply t word fault = said t 0xFD word (code_of fault)

-- a read is answered with its data, a write with its answer, a broadcast never; nor is a number that is offered by D2h
unfoldable pub value_reply : Judged → Head → ℕ → Option (List ℕ)
value_reply j h word =
    cond (reads_of j.command) (said j.telegram j.telegram.parameter word (read_of j.kind h j.telegram.value))
    (cond (writes_of j.command && not (eqb j.telegram.parameter 0xD2)) (said j.telegram j.telegram.parameter word (answer_of j.telegram.parameter h j.telegram.value)) silence)

abbrev pub reply_by : Verdict → Judged → Head → ℕ → Option (List ℕ)
reply_by Obeyed j h word = value_reply j h word
reply_by Silent j h word = silence
reply_by (Refused fault) j h word = error_reply j.telegram word fault

-- by the head before the telegram's effects and the head after them
unfoldable pub reply_of : Judged → Head → Head → Option (List ℕ)
reply_of j before after = reply_by j.verdict j before (carried_of j.deed before after)

-- Auto-ID: what a head sends that adopts the number it was offered: a write's reply with node 31, parameter D2h and the new number as data
unfoldable pub adoption_of : ℕ → ℕ → List ℕ
adoption_of word number = bytes_of (record { command = 1; node = 31; parameter = 0xD2; word = word; value = number })
