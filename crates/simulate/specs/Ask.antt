-- What an ask asks, and what its bytes draw as the master reads it (document 02, request (vi)).
-- Assumes nothing.
use Rattle.std.specs.Prelude.{ℕ, cond, List, [], ◌∷◌, take, ◌==◌, Ok, Err, Result}
use Rattle.wire.specs.declared.telegram.Telegram.{Telegram}
use Rattle.wire.specs.Word.{half_of, byte2, byte3}
use Rattle.master.specs.Master.{reading_of}
use Rattle.hex_digits.specs.Digits.{digits_of}
use Rattle.simulate.specs.declared.ask.Drawn.{Drawn}
use Rattle.simulate.specs.declared.ask.Drawn.TheVariants.{Nothing, Reply, Collision}
use Rattle.head.specs.declared.refusal.Refusal.{Refusal}

-- the telegram of these fields: the low byte of each of three, the low two bytes of the control word, and the data
abbrev pub question_of : ℕ → ℕ → ℕ → ℕ → ℕ → Telegram
question_of command node parameter control value =
    record {
      command = byte3 command;
      node = byte3 node;
      parameter = byte3 parameter;
      word = half_of (byte2 control) (byte3 control);
      value = value;
    }

-- what a byte drew, as the master reads it: one reply stands in the first ten bytes of the space. A byte that is refused draws nothing
unfoldable pub told_of : Telegram → Result ℕ Refusal → List ℕ → Drawn
told_of question (Ok n) space =
    cond (n == 0) Nothing (cond (n == 1) (Reply (reading_of question (take 10 space))) (Collision n))
told_of question (Err why) space = Nothing

-- an error code as four digits
unfoldable pub code_digits_of : ℕ → List ℕ
code_digits_of code = digits_of (byte2 code ∷ byte3 code ∷ [])
