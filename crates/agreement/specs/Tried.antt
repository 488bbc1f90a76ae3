-- The marked cases of document 01 and the sentences of both documents (demands, Cases and Sentences), put to an engine as whole telegrams: the answers there were worked out from the documents.
-- Assumes nothing.
use Rattle.std.specs.Prelude.{ℕ, ◌≡◌, Bool, true, cond, ◌&&◌, List, [], ◌∷◌, ◌++◌, map, eqb}
use Rattle.state.specs.declared.parts.Head.{Head}
use Rattle.effects.specs.Restart.{fresh_of}
use Rattle.head.specs.Moves.{keyed_of}
use Rattle.head.specs.Outcome.{called}
use Rattle.line.specs.Round.{said_by}
use Rattle.demands.specs.Cases.{split, Feed, Case, says, rounds, differs, cases}
use Rattle.demands.specs.Sentences as sentences
use Rattle.demands.specs.Sentences.{Step, hears, asked, presses, sentences}
use Rattle.agreement.specs.Answers.{drawn}
use Rattle.agreement.specs.Agreement.{Engine}

-- ---- what an engine draws from a head
abbrev pub tells : Engine → List Step → Head → List (List ℕ)
tells e [] h = []
tells e (hears time ten ∷ ss) h = drawn (e h (split 10 ten) time) ++ tells e ss (e h (split 10 ten) time).head
tells e (asked a ∷ ss) h = tells e ss (called a h).head
tells e (presses s ∷ ss) h = said_by (keyed_of h s) ++ tells e ss (keyed_of h s).head

abbrev pub AllTold : Engine → List sentences.Told → Type 0
AllTold e [] = Unit {0}
AllTold e (t ∷ ts) = (tells e t.steps (fresh_of 31 0) ≡ map (split 10) t.replies) × AllTold e ts

-- ---- of the marked cases those of whole telegrams; the others are about gaps and about numbers
abbrev pub feeds : Engine → List Feed → Head → List (List ℕ)
feeds e [] h = []
feeds e (f ∷ fs) h = drawn (e h (split 10 f.digits) f.time) ++ feeds e fs (e h (split 10 f.digits) f.time).head

abbrev pub are_whole : List Feed → Bool
are_whole [] = true
are_whole (f ∷ fs) = eqb f.bytes 10 && are_whole fs

abbrev pub Says : Engine → Case → Type 0
Says e (says node fs replies) = cond (are_whole fs) (feeds e fs (fresh_of node 0) ≡ map (split 10) replies) (Unit {0})
Says e (rounds p k r) = Unit {0}
Says e (differs a s d) = Unit {0}

abbrev pub AllSay : Engine → List Case → Type 0
AllSay e [] = Unit {0}
AllSay e (c ∷ cs) = Says e c × AllSay e cs

pub record Tried (e : Engine) : Type 0 where
  pub marked : AllSay e cases
  pub told : AllTold e sentences
