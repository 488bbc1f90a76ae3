-- What the heads of a line do with a byte and with a tick (document 01, "The line, and calls refused"): both reach every head, and each
-- does what it does alone. Heads do not hear replies.
-- Assumes nothing.
use Rattle.std.specs.Prelude.{ℕ, zero, suc, ◌+◌, Bool, true, false, cond, ◌&&◌, List, [], ◌∷◌, ◌++◌, eqb, length, replicate, Some, None, Option, is_some}
use Rattle.wire.specs.Telegram.{ten_in}
use Rattle.state.specs.declared.parts.Head.{Head}
use Rattle.state.specs.Older.{passes_of}
use Rattle.head.specs.declared.hear.Stepped.{Stepped}
use Rattle.head.specs.Hear.{step_of}
use Rattle.head.specs.Moves.{ticked_of}
use Rattle.head.specs.Calls.{laid_on_of}
use Rattle.line.specs.declared.round.Replies.{Replies}

-- f at the first n elements
abbrev pub each : {A : Type 0} → (A → A) → ℕ → List A → List A
each f zero xs = xs
each f (suc n) [] = []
each f (suc n) (x ∷ xs) = f x ∷ each f n xs

-- the first n heads pass refusal 20's test, which is the old one where the call brings a head over
abbrev pub all_pass_of : Bool → ℕ → List Head → Bool
all_pass_of bringing zero hs = true
all_pass_of bringing (suc n) [] = true
all_pass_of bringing (suc n) (h ∷ hs) = passes_of bringing h && all_pass_of bringing n hs

-- they are well-formed
abbrev pub all_fit : ℕ → List Head → Bool
all_fit n hs = all_pass_of false n hs

-- a head after a byte, and after a tick
abbrev pub stepped_by : ℕ → ℕ → Head → Head
stepped_by b at h = (step_of h b at).head

abbrev pub ticked_at : ℕ → Head → Head
ticked_at at h = ticked_of h at

-- the reply of a step, if there is one
abbrev pub said_by : Stepped → List (List ℕ)
said_by s = cond (is_some s.reply) (ten_in s.reply ∷ []) []

-- the replies of the first n heads, in the heads' order, where f is what each does; and those to a byte
abbrev pub replies_by : (Head → Stepped) → ℕ → List Head → List (List ℕ)
replies_by f zero hs = []
replies_by f (suc n) [] = []
replies_by f (suc n) (h ∷ hs) = said_by (f h) ++ replies_by f n hs

abbrev pub replies_of : ℕ → List Head → ℕ → ℕ → List (List ℕ)
replies_of n hs b at = replies_by (λ h. step_of h b at) n hs

-- the replies counted one head at a time, with the last of them
abbrev pub no_reply : Replies
no_reply = record { count = 0; last = replicate 10 0 }

abbrev pub counted : Replies → Option (List ℕ) → Replies
counted r None = r
counted r (Some ten) = record { count = r.count + 1; last = ten }

-- and so counted they are so many, and the last is the last
abbrev pub last_or : List ℕ → List (List ℕ) → List ℕ
last_or d [] = d
last_or d (r ∷ rs) = last_or r rs

abbrev pub tally : List (List ℕ) → Replies
tally rs = record { count = length rs; last = last_or (replicate 10 0) rs }

-- just one reply is laid
abbrev pub laid_for : Replies → List ℕ → List ℕ
laid_for r space = cond (eqb r.count 1) (laid_on_of space r.last) space
