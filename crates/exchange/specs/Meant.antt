-- What a head means by its reply to a question, and by its silence, in a master's words (document 02, request (vi)): by the verdict on the question and by
-- what it does, not by any byte that is sent. What a read shows and a write is answered with are the head's own (reply); Addresses says it without them.
-- Assumes nothing.
use Rattle.std.specs.Prelude.{Bool, true, false, cond, not, ◌&&◌, ◌||◌, List, [], ◌∷◌, eqb, leb}
use Rattle.wire.specs.declared.telegram.Telegram.{Telegram}
use Rattle.wire.specs.Faults.{code_of}
use Rattle.wire.specs.Telegram.{bytes_of}
use Rattle.judge.specs.declared.command.Command.{Command}
use Rattle.judge.specs.declared.command.Command.TheVariants.{Read, Write, Broadcast, Other}
use Rattle.judge.specs.declared.deed.Deed.{Deed}
use Rattle.judge.specs.declared.deed.Deed.TheVariants.{Nothing, Store, Reset, Restart, Calibrate, Forget, Unlock, Freeze, Aim1, Aim2, ClearStatic, Release, Offer, Withdraw}
use Rattle.judge.specs.declared.judged.Judged.{Judged}
use Rattle.judge.specs.declared.verdict.Verdict.{Verdict}
use Rattle.judge.specs.declared.verdict.Verdict.TheVariants.{Obeyed, Silent, Refused}
use Rattle.judge.specs.Judged.{judged_of}
use Rattle.state.specs.declared.parts.Head.{Head}
use Rattle.reply.specs.Reply.{read_of, answer_of}
use Rattle.head.specs.Hear.{standing_of}
use Rattle.master.specs.declared.Reading.{Reading}
use Rattle.master.specs.declared.Reading.TheVariants.{Value, Error}

-- the deed that offers a number
unfoldable pub is_offer : Deed → Bool
is_offer Nothing = false
is_offer (Store i value) = false
is_offer (Reset command) = false
is_offer Restart = false
is_offer Calibrate = false
is_offer Forget = false
is_offer (Unlock b) = false
is_offer Freeze = false
is_offer (Aim1 value word) = false
is_offer (Aim2 value word) = false
is_offer ClearStatic = false
is_offer Release = false
is_offer (Offer n) = true
is_offer Withdraw = false

-- an obeyed read means what it shows; an obeyed write what it is answered with, but that an offer is remembered without a reply; a broadcast nothing. (No
-- other command is obeyed.)
abbrev pub obeyed_means : Command → Judged → Head → List Reading
obeyed_means Read j h = Value (read_of j.kind h j.telegram.value) ∷ []
obeyed_means Write j h = cond (is_offer j.deed) [] (Value (answer_of j.telegram.parameter h j.telegram.value) ∷ [])
obeyed_means Broadcast j h = []
obeyed_means Other j h = []

-- a refusal means the code of the check that refused, and silence nothing
abbrev pub meant_by : Verdict → Judged → Head → List Reading
meant_by Obeyed j h = obeyed_means j.command j h
meant_by Silent j h = []
meant_by (Refused fault) j h = Error (code_of fault) ∷ []

unfoldable pub meant_of : Telegram → Head → List Reading
meant_of question h = let j = judged_of (bytes_of question) (standing_of h) in meant_by j.verdict j h

-- ---- where document 01 has silence for an undamaged telegram of command 00h, 01h or 02h: a broadcast, a telegram for another node, and (document 02,
-- request (ii)) a number, 1 to 31, that is offered to a head whose number in force is 31
abbrev pub offers : Telegram → Head → Bool
offers question h =
    eqb question.command 1
    && (eqb question.parameter 0xD2
    && (eqb h.stored.number 31
    && (leb 1 question.value && leb question.value 31)))

abbrev pub unanswered : Telegram → Head → Bool
unanswered question h = eqb question.command 2 || (not (eqb question.node h.stored.number) || offers question h)
