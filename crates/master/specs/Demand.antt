-- What is asked of a master (document 02, request (vi)), of any master: what it builds of fields, and what it reads in bytes.
-- Assumes nothing.
use Rattle.std.specs.Prelude.{ℕ, ◌+◌, ◌*◌, ◌≤◌, ◌≡◌, ◌≢◌, ◌⊎◌, List, length, get_or, replicate, Ok, Err, Result, ⊤}
use Rattle.wire.specs.declared.telegram.Telegram.{Telegram}
use Rattle.wire.specs.Word.{half_of, whole_of}
use Rattle.wire.specs.Check.{hit_of}
use Rattle.wire.specs.Telegram.{bytes_of, Fits}
use Rattle.master.specs.declared.Built.{Built}
use Rattle.master.specs.declared.Reading.{Reading}
use Rattle.master.specs.declared.Reading.TheVariants.{Value, Error, Foreign}
use Rattle.master.specs.Master.{refusal_of, built_of, reading_of}
use Rattle.master.specs.declared.Refusal.{Refusal}

-- the calls of a master: a telegram built of its fields, and bytes read as the reply to a question
pub record Master : Type 0 where
  pub build : Telegram → Built
  pub read : Telegram → List ℕ → Reading

-- the master that the contracts speak of
abbrev pub product : Master
product = record { build = built_of; read = reading_of }

-- 0 where a telegram is built, else the number of the refusal
abbrev pub number_of : Result ⊤ Refusal → ℕ
number_of (Ok tt) = 0
number_of (Err why) = refusal_of why

-- ---- building
-- a command up to 02h and a node up to 127
pub record May (question : Telegram) : Type 0 where
  pub command : question.command ≤ 2
  pub node : question.node ≤ 127

-- command, node, parameter, control word and data, high byte first
pub record Spelled (question : Telegram) (ten : List ℕ) : Type 0 where
  pub command : get_or ten 0 0 ≡ question.command
  pub node : get_or ten 1 0 ≡ question.node
  pub parameter : get_or ten 2 0 ≡ question.parameter
  pub word : get_or ten 3 0 * 256 + get_or ten 4 0 ≡ question.word
  pub value : get_or ten 5 0 * 16777216 + get_or ten 6 0 * 65536 + get_or ten 7 0 * 256 + get_or ten 8 0 ≡ question.value

-- the ten bytes of document 01, as the heads' own telegrams are made (wire): they pass the check and spell the fields, where bytes can hold these
pub record Builds (question : Telegram) (b : Built) : Type 0 where
  pub done : b.answer ≡ (Ok tt)
  pub bytes : b.ten ≡ bytes_of question
  pub long : length b.ten ≡ 10
  pub passes : hit_of b.ten ≡ 0
  pub spelled : Fits question → Spelled question b.ten

-- 10, and nothing is built
pub record Refuses (b : Built) : Type 0 where
  pub number : number_of b.answer ≡ 10
  pub nothing : b.ten ≡ replicate 10 0

-- ---- reading
-- the reply belongs to the question; also to one that cannot be built, as of command 03h, which a head answers with an error
pub record Belongs (question : Telegram) (reply : List ℕ) : Type 0 where
  pub asked : question.command ≢ 2
  pub long : length reply ≡ 10
  pub passes : hit_of reply ≡ 0
  pub command : get_or reply 0 0 ≡ question.command
  pub node : get_or reply 1 0 ≡ question.node
  pub parameter : (get_or reply 2 0 ≡ question.parameter) ⊎ (get_or reply 2 0 ≡ 0xFD)

-- the question is a read of FDh itself
abbrev pub ReadsErrors : Telegram → Type 0
ReadsErrors question = (question.command ≡ 0) × (question.parameter ≡ 0xFD)

pub record Demanded (m : Master) : Type 0 where
  pub builds : (question : Telegram) → May question → Builds question (m.build question)
  pub refuses : (question : Telegram) → (May question → ⊥) → Refuses (m.build question)
  -- what does not belong to the question is no reply to it
  pub foreign : (question : Telegram) (reply : List ℕ) → (Belongs question reply → ⊥) → m.read question reply ≡ Foreign
  -- what belongs is a value, its four data bytes, where it has another parameter than FDh or FDh was read
  pub value : (question : Telegram) (reply : List ℕ) → Belongs question reply → (get_or reply 2 0 ≢ 0xFD) ⊎ ReadsErrors question
      → m.read question reply ≡ Value (whole_of (get_or reply 5 0) (get_or reply 6 0) (get_or reply 7 0) (get_or reply 8 0))
  -- and else an error, its low two data bytes
  pub error : (question : Telegram) (reply : List ℕ) → Belongs question reply → get_or reply 2 0 ≡ 0xFD → (ReadsErrors question → ⊥)
      → m.read question reply ≡ Error (half_of (get_or reply 7 0) (get_or reply 8 0))
