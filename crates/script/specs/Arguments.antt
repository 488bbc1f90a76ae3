-- What a command takes after its name, and what its words say as that: numbers, each up to its limit, and then perhaps one word more.
-- Assumes nothing.
use Rattle.std.specs.Prelude.{ℕ, suc, cond, List, [], ◌∷◌, eqb, ℤ, pos, set, replicate, Some, None, Option}
use Rattle.script.specs.declared.arguments.Arguments.{Arguments}
use Rattle.script.specs.declared.arguments.Last.{Last}
use Rattle.script.specs.declared.arguments.Last.TheVariants as last
use Rattle.script.specs.Words.{Word}
use Rattle.text.specs.Numbers.{number_of, signed_of, count_of}

-- no number; there is room for six, as many as a command may take
abbrev pub no_numbers : List ℕ
no_numbers = replicate 6 0

-- what words say that fit: the numbers in their order, the number with a sign, the place where the digits of the bytes start, and the bytes' count;
-- 0 for what is not there
abbrev pub given_of : List ℕ → ℤ → ℕ → ℕ → Arguments
given_of numbers v from count = record { numbers = numbers; value = v; from = from; count = count }

-- what a word says goes on to `f`; a word that does not say it makes the words unfit
abbrev pub if_number : Option ℕ → (ℕ → Option Arguments) → Option Arguments
if_number (Some n) f = f n
if_number None f = None

abbrev pub if_value : Option ℤ → (ℤ → Arguments) → Option Arguments
if_value (Some v) f = Some (f v)
if_value None f = None

abbrev pub if_some : ℕ → (ℕ → Arguments) → Option Arguments
if_some n f = cond (eqb n 0) None (Some (f n))

-- no word, and exactly one: a missing or an extra word makes the words unfit
abbrev pub none : Arguments → List Word → Option Arguments
none a [] = Some a
none a (w ∷ ws) = None

abbrev pub one : (Word → Option Arguments) → List Word → Option Arguments
one f [] = None
one f (w ∷ []) = f w
one f (w ∷ v ∷ ws) = None

-- a number of 32 bits with a sign; bytes, at least one
abbrev pub signed : List ℕ → Word → Option Arguments
signed numbers w = if_value (signed_of w.chars) (λ v. given_of numbers v 0 0)

abbrev pub bytes : List ℕ → Word → Option Arguments
bytes numbers w = if_some (count_of w.chars) (λ count. given_of numbers (pos 0) w.start count)

-- what comes after the numbers: no word, a number with a sign, bytes, or bytes that may be left out
unfoldable pub last_of : Last → List ℕ → List Word → Option Arguments
last_of last.Nothing numbers ws = none (given_of numbers (pos 0) 0 0) ws
last_of last.Signed numbers ws = one (signed numbers) ws
last_of last.Bytes numbers ws = one (bytes numbers) ws
last_of last.PerhapsBytes numbers [] = Some (given_of numbers (pos 0) 0 0)
last_of last.PerhapsBytes numbers (w ∷ ws) = one (bytes numbers) (w ∷ ws)

-- each limit takes a word, which says a number up to it: number `i` and those that follow
abbrev pub arguments_from : ℕ → List ℕ → List ℕ → Last → List Word → Option Arguments
arguments_from i numbers [] after ws = last_of after numbers ws
arguments_from i numbers (limit ∷ limits) after [] = None
arguments_from i numbers (limit ∷ limits) after (w ∷ ws) =
    if_number (number_of limit w.chars) (λ n. arguments_from (suc i) (set numbers i n) limits after ws)

-- what the words say that come after a command's own, which takes a number up to each of the limits and then what is said
unfoldable pub arguments_of : List ℕ → Last → List Word → Option Arguments
arguments_of limits after ws = arguments_from 0 no_numbers limits after ws
