-- Which lines are looked at by their words: none that is too long, and none that is passed over. What the words of the others say is the reader's.
-- Assumes nothing.
use Rattle.std.specs.Prelude.{ℕ, Bool, cond, List, [], ◌∷◌, ltb, eqb, length, get_or}
use Prim.Native.Char.{code}
use Rattle.script.specs.declared.words.Kind.{Kind}
use Rattle.script.specs.declared.words.Kind.TheVariants as kind
use Rattle.script.specs.Words.{Word, words_of}

-- the word starts with `#`
abbrev pub is_note : Word → Bool
is_note w = eqb (get_or w.chars 0 0) (code "#")

-- how long a line may be
abbrev pub longest : ℕ
longest = 4096

module _ {A : Type 0} where
  -- a line with no word, or whose first word starts with `#`, is passed over; any other goes by its words
  abbrev pub unless_passed : A → (Word → List Word → A) → List Word → A
  unless_passed passed said [] = passed
  unless_passed passed said (w ∷ ws) = cond (is_note w) passed (said w ws)

  -- A line without newline and carriage return. A line too long says nothing, whatever stands in it, also where it would be passed over: the test
  -- comes before any word is looked at, so that nobody has to keep more of a line than this to know what it means.
  abbrev pub unless_long : A → (List Word → A) → List ℕ → A
  unless_long long said line = cond (ltb longest (length line)) long (said (words_of line))

-- the kind of a line; of one that goes by its words, where the first of them starts
unfoldable pub kind_of : List ℕ → Kind
kind_of line = unless_long kind.Long (unless_passed kind.Passed (λ w ws. kind.Spoken w.start)) line
