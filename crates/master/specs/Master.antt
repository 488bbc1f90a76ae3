-- The master's end of the wire (document 02, request (vi)): any command telegram of its fields, and bytes read as the reply to a question.
-- Assumes nothing.
use Rattle.std.specs.Prelude.{ℕ, Bool, cond, not, ◌&&◌, ◌||◌, List, leb, eqb, length, get_or, replicate, Ok, Err}
use Rattle.wire.specs.declared.telegram.Telegram.{Telegram}
use Rattle.wire.specs.Word.{half_of}
use Rattle.wire.specs.Check.{hit_of}
use Rattle.wire.specs.Telegram.{fields_of, bytes_of}
use Rattle.master.specs.declared.Refusal.{Refusal}
use Rattle.master.specs.declared.Refusal.TheVariants.{Outside}
use Rattle.master.specs.declared.Built.{Built}
use Rattle.master.specs.declared.Reading.{Reading}
use Rattle.master.specs.declared.Reading.TheVariants.{Value, Error, Foreign}

-- the document's number
abbrev pub refusal_of : Refusal → ℕ
refusal_of Outside = 10

-- ---- building: a command up to 02h, a node up to 127, 0 among them
abbrev pub may_build : Telegram → Bool
may_build question = leb question.command 2 && leb question.node 127

abbrev pub refused : Built
refused = record { answer = Err Outside; ten = replicate 10 0 }

unfoldable pub built_of : Telegram → Built
built_of question = cond (may_build question) (record { answer = Ok tt; ten = bytes_of question }) refused

-- ---- reading: the same command and node, and the same parameter or FDh; nothing belongs to a broadcast
abbrev pub belongs_of : Telegram → Telegram → Bool
belongs_of question reply =
    not (eqb question.command 2)
    && (eqb reply.command question.command
    && (eqb reply.node question.node
    && (eqb reply.parameter question.parameter || eqb reply.parameter 0xFD)))

-- FDh tells of an error, save to a read of FDh itself
abbrev pub error_of : Telegram → Telegram → Bool
error_of question reply = eqb reply.parameter 0xFD && (not (eqb question.command 0) || not (eqb question.parameter 0xFD))

-- the code is in the low two data bytes, and the upper two are not looked at
abbrev pub code_in : List ℕ → ℕ
code_in ten = half_of (get_or ten 7 0) (get_or ten 8 0)

-- ten bytes that pass the check and belong to the question
unfoldable pub meaning_of : Telegram → List ℕ → Reading
meaning_of question ten =
    cond (eqb (hit_of ten) 0 && belongs_of question (fields_of ten))
    (cond (error_of question (fields_of ten)) (Error (code_in ten)) (Value (fields_of ten).value))
    Foreign

-- nor does anything belong but ten bytes
unfoldable pub reading_of : Telegram → List ℕ → Reading
reading_of question reply = cond (eqb (length reply) 10) (meaning_of question reply) Foreign
