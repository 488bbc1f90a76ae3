-- A head's answer to a whole telegram (document 02, request (xiii)): refusal 20 first, then the telegram's way.
-- Assumes nothing.
use Rattle.std.specs.Prelude.{ℕ, cond, List, replicate, is_some}
use Rattle.wire.specs.Check.{hit_of}
use Rattle.wire.specs.Telegram.{fields_of, ten_in}
use Rattle.state.specs.declared.parts.Head.{Head}
use Rattle.state.specs.Wellformed.{wellformed_of}
use Rattle.engine.specs.declared.Told.{Told}
use Rattle.engine.specs.declared.Answered.{Answered}
use Rattle.engine.specs.declared.Outcome.TheVariants.{Silence, Reply, Refused}
use Rattle.engine.specs.declared.Refusal.{Refusal}
use Rattle.engine.specs.declared.Refusal.TheVariants.{Malformed}
use Rattle.engine.specs.Way.{hearing, way}

-- the document's number
abbrev pub refusal_of : Refusal → ℕ
refusal_of Malformed = 20

-- what a head does that is told ten bytes, all of which have come when the last came
unfoldable pub told_of : Head → List ℕ → ℕ → Told
told_of h ten time = way (fields_of ten) h (hearing (hit_of ten) time h) (hit_of ten)

-- as an answer; and refused: the head as it was, and no reply
abbrev pub answered_by : Told → Answered
answered_by x = record { head = x.head; outcome = cond (is_some x.reply) Reply Silence; reply = ten_in x.reply }

abbrev pub refused_with : Head → Answered
refused_with h = record { head = h; outcome = Refused Malformed; reply = replicate 10 0 }

unfoldable pub answer_of : Head → List ℕ → ℕ → Answered
answer_of h ten time = cond (wellformed_of h) (answered_by (told_of h ten time)) (refused_with h)
