-- Racks in a script: the words of the replies that a rack laid (document 02, request (x)).
-- Assumes nothing.
use Rattle.std.specs.Prelude.{ℕ, zero, suc, ◌*◌, ◌/◌, min, List, [], ◌++◌, length, drop, Ok, Err, Result}
use Rattle.line.specs.declared.calls.Line.{Line}
use Rattle.rack.specs.Rack.{rack_of, rack_space_of}
use Rattle.simulate.specs.Feeding.{word_of}
use Rattle.head.specs.declared.refusal.Refusal.{Refusal}
use Rattle.rack.specs.declared.Tally.{Tally}

-- the words of so many replies that stand one after another
unfoldable pub reply_words_of : List ℕ → ℕ → List ℕ
reply_words_of replies zero = []
reply_words_of replies (suc n) = word_of replies ++ reply_words_of (drop 10 replies) n

-- how many replies an answer counts; a refusal counts none
abbrev pub counted_of : Result Tally Refusal → ℕ
counted_of (Ok tally) = tally.replies
counted_of (Err why) = 0

-- the words at the start of a text, as many as there is room for, and the rest of it unchanged: a word is 21 characters
abbrev pub shown_count : List ℕ → ℕ → ℕ
shown_count out n = min n (length out / 21)

unfoldable pub shown_on : List ℕ → List ℕ → ℕ → List ℕ
shown_on out replies n = let m = shown_count out n in reply_words_of replies m ++ drop (21 * m) out

-- the text after a rack: the words of the replies that it laid, which stand in the space, as the call leaves it, from the place on
abbrev pub shown_of : Line → List ℕ → ℕ → List ℕ → ℕ → List ℕ → List ℕ
shown_of l bytes time space place out =
    shown_on out (drop place (rack_space_of l bytes time space place)) (counted_of (rack_of l bytes time (length space) place).answer)
