-- Masters that are wrong, each in one thing: proofs/Wrongs shows that none does what is asked (Demand).
-- Assumes nothing.
use Rattle.std.specs.Prelude.{ℕ, Bool, true, false, cond, not, ◌&&◌, ◌||◌, List, leb, eqb, length, get_or, Ok, Err}
use Rattle.wire.specs.declared.telegram.Telegram.{Telegram}
use Rattle.wire.specs.Word.{half_of}
use Rattle.wire.specs.Check.{hit_of}
use Rattle.wire.specs.Telegram.{fields_of, bytes_of}
use Rattle.master.specs.declared.Refusal.TheVariants.{Outside}
use Rattle.master.specs.declared.Reading.TheVariants.{Value, Error, Foreign}
use Rattle.master.specs.Master.{may_build, refused, built_of, belongs_of, error_of, code_in, reading_of}
use Rattle.master.specs.Demand.{Master}

-- ---- reading by other tests: what belongs to a question, and what of it is an error
abbrev reading : (Telegram → List ℕ → Bool) → (Telegram → Telegram → Bool) → Master
reading belongs isError =
    record {
      build = built_of;
      read = λ question reply.
          cond (belongs question reply) (cond (isError question (fields_of reply)) (Error (code_in reply)) (Value (fields_of reply).value)) Foreign;
    }

-- ten bytes that pass the check and have such fields
abbrev ten_with : (Telegram → Telegram → Bool) → Telegram → List ℕ → Bool
ten_with belongs question reply = eqb (length reply) 10 && (eqb (hit_of reply) 0 && belongs question (fields_of reply))

-- a reply belongs where these four hold: asked, command, node and parameter
abbrev four_hold : (Telegram → Bool) → (Telegram → Telegram → Bool) → (Telegram → Telegram → Bool) → (Telegram → Telegram → Bool) → Telegram → List ℕ → Bool
four_hold asked command node parameter =
    ten_with (λ question reply. asked question && (command question reply && (node question reply && parameter question reply)))

abbrev no_cast : Telegram → Bool
no_cast question = not (eqb question.command 2)

abbrev same_command : Telegram → Telegram → Bool
same_command question reply = eqb reply.command question.command

abbrev same_node : Telegram → Telegram → Bool
same_node question reply = eqb reply.node question.node

abbrev same_parameter : Telegram → Telegram → Bool
same_parameter question reply = eqb reply.parameter question.parameter

abbrev of_error : Telegram → Telegram → Bool
of_error question reply = eqb reply.parameter 0xFD

abbrev own_or_error : Telegram → Telegram → Bool
own_or_error question reply = same_parameter question reply || of_error question reply

abbrev always : Telegram → Telegram → Bool
always question reply = true

-- takes a reply of another node, of another command, of any parameter; an answer to a broadcast
abbrev pub any_node : Master
any_node = reading (four_hold no_cast same_command always own_or_error) error_of

abbrev pub any_command : Master
any_command = reading (four_hold no_cast always same_node own_or_error) error_of

abbrev pub any_parameter : Master
any_parameter = reading (four_hold no_cast same_command same_node always) error_of

abbrev pub cast_answered : Master
cast_answered = reading (four_hold (λ question. true) same_command same_node own_or_error) error_of

-- takes no error reply at all
abbrev pub no_errors : Master
no_errors = reading (four_hold no_cast same_command same_node same_parameter) error_of

-- takes nine bytes, eleven bytes, and bytes that do not pass the check
abbrev long_as : (ℕ → Bool) → Master
long_as long = reading (λ question reply. long (length reply) && (eqb (hit_of reply) 0 && belongs_of question (fields_of reply))) error_of

abbrev pub nine_taken : Master
nine_taken = long_as (λ n. leb 9 n && leb n 10)

abbrev pub more_taken : Master
more_taken = long_as (λ n. leb 10 n)

abbrev pub unchecked : Master
unchecked = reading (λ question reply. eqb (length reply) 10 && belongs_of question (fields_of reply)) error_of

-- FDh is always an error; always a value; a value wherever FDh was asked for, by a write too; to every read
abbrev pub always_error : Master
always_error = reading (ten_with belongs_of) of_error

abbrev pub never_error : Master
never_error = reading (ten_with belongs_of) (λ question reply. false)

abbrev pub value_to_write : Master
value_to_write = reading (ten_with belongs_of) (λ question reply. of_error question reply && not (same_parameter question reply))

abbrev pub value_to_read : Master
value_to_read = reading (ten_with belongs_of) (λ question reply. of_error question reply && not (eqb question.command 0))

-- looks at the upper two data bytes of an error, and takes it for no reply where they are not 0
abbrev pub upper_looked_at : Master
upper_looked_at =
    reading (λ question reply. ten_with belongs_of question reply && (not (error_of question (fields_of reply)) || (eqb (get_or reply 5 0) 0 && eqb (get_or reply 6 0) 0)))
    error_of

-- takes the upper two data bytes for the code
abbrev pub upper_code : Master
upper_code =
    record {
      build = built_of;
      read = λ question reply.
          cond (ten_with belongs_of question reply)
          (cond (error_of question (fields_of reply)) (Error (half_of (get_or reply 5 0) (get_or reply 6 0))) (Value (fields_of reply).value))
          Foreign;
    }

-- ---- building by another test
abbrev building : (Telegram → Bool) → Master
building may =
    record { build = λ question. cond (may question) (record { answer = Ok tt; ten = bytes_of question }) refused; read = reading_of }

-- builds command 3, node 128; not node 0
abbrev pub command_three : Master
command_three = building (λ question. leb question.command 3 && leb question.node 127)

abbrev pub node_above : Master
node_above = building (λ question. leb question.command 2 && leb question.node 128)

abbrev pub node_from_one : Master
node_from_one = building (λ question. may_build question && leb 1 question.node)

-- refuses, and builds all the same
abbrev pub built_anyhow : Master
built_anyhow = record { build = λ question. record { answer = cond (may_build question) (Ok tt) (Err Outside); ten = bytes_of question }; read = reading_of }
