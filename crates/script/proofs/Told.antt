-- What a `Send`, a `Load`, a `Rack`, a `Space` and an `Ask` tell of the words that they came from, and that a line too long is none: a property that
-- holds of every way to a command is followed down the definition.
-- Assumes nothing.
use Rattle.std.specs.Prelude.{Some, None, Option}
use Prim.Native.Nat.{ℕ, suc, ◌<◌, ◌≤◌}
use native.Mathlib.Omega.{arith}
use mathlib.Core.Path.{◌≡◌, refl, subst}
use mathlib.Core.Logic.{◌⊎◌, inl, inr}
use mathlib.Core.Bool.{Bool, true, false, cond}
use mathlib.Core.List.{List, [], ◌∷◌, ◌++◌}
use borrow.Author.Tests.{eqb-false, ltb-false, lt-ltb}
use lib.Dec.{ltb, eqb}
use lib.IntN.{pos}
use lib.ListN.{length, set}
use Rattle.script.specs.declared.Command.{Command}
use Rattle.script.specs.declared.Command.TheVariants as command
use Rattle.script.specs.declared.Name.{Name}
use Rattle.script.specs.declared.Name.TheVariants as name
use Rattle.script.specs.declared.arguments.Arguments.{Arguments}
use Rattle.script.specs.declared.arguments.Last.{Last}
use Rattle.script.specs.declared.arguments.Last.TheVariants as last
use Rattle.text.specs.Lines.{bare_of}
use Rattle.script.specs.Words.{Word, words_of}
use Rattle.text.specs.Numbers.{number_of, count_of}
use Rattle.script.specs.Arguments.{no_numbers, given_of, if_number, last_of, arguments_from, arguments_of}
use Rattle.script.specs.Kinds.{longest, is_note}
use Rattle.script.specs.Meaning.{whole, byte, half, largest_space, row_of, if_fit, if_named, name_of, order_of, command_of, spoken_of, meaning_of}
use Rattle.text.proofs.Spelled.{number_within}
use Rattle.text.proofs.Bare.{bare_long}

-- words that say numbers of 32 bits, one each
abbrev pub Says : List Word → List ℕ → Type 0
Says [] [] = Unit {0}
Says [] (k ∷ ks) = ⊥
Says (w ∷ ws) [] = ⊥
Says (w ∷ ws) (k ∷ ks) = (number_of whole w.chars ≡ Some k) × Says ws ks

-- the words of a command of the name `n` that takes the numbers `said` and bytes, and of one whose bytes are left out
pub record Carrying (n : Name) (ws : List Word) (said : List ℕ) (from count : ℕ) : Type 0 where
  pub first : Word
  pub numbers : List Word
  pub digits : Word
  pub words : ws ≡ first ∷ (numbers ++ (digits ∷ []))
  pub called : name_of first.chars ≡ Some n
  pub numbered : Says numbers said
  pub starts : digits.start ≡ from
  pub counts : count_of digits.chars ≡ count
  pub some : count ≡ 0 → ⊥

pub record Without (n : Name) (ws : List Word) (said : List ℕ) (count : ℕ) : Type 0 where
  pub first : Word
  pub numbers : List Word
  pub words : ws ≡ first ∷ numbers
  pub called : name_of first.chars ≡ Some n
  pub numbered : Says numbers said
  pub none : count ≡ 0

-- numbers that the fields of a telegram can hold
pub record Asking (c n p w : ℕ) : Type 0 where
  pub command : c ≤ byte
  pub node : n ≤ byte
  pub parameter : p ≤ byte
  pub word : w ≤ half

-- what is to hold of a command that came from the words `ws`
abbrev Told : List Word → Command → Type 0
Told ws command.Blank = Unit {0}
Told ws command.Malformed = Unit {0}
Told ws (command.Grow n s) = Unit {0}
Told ws (command.Send t from n) = Carrying name.Send ws (t ∷ []) from n
Told ws (command.Tick t) = Unit {0}
Told ws (command.Measure h v) = Unit {0}
Told ws (command.Keys h s) = Unit {0}
Told ws (command.Power h) = Unit {0}
Told ws (command.Space n) = n ≤ largest_space
Told ws (command.Xor h) = Unit {0}
Told ws (command.Ask t c n p w d) = Asking c n p w
Told ws (command.Save h) = Unit {0}
Told ws (command.Load h from n) = Carrying name.Load ws (h ∷ []) from n ⊎ Without name.Load ws (h ∷ []) n
Told ws (command.Rack t p from n) = Carrying name.Rack ws (t ∷ p ∷ []) from n ⊎ Without name.Rack ws (t ∷ p ∷ []) n
Told ws (command.Bring h) = Unit {0}

of_test : (from : List Word) (b : Bool) (c d : Command) → Told from c → Told from d → Told from (cond b c d)
of_test from true c d p q = p
of_test from false c d p q = q

-- the command that a row makes of what was read
abbrev order : Name → Option Arguments → Command
order n a = if_fit a (row_of n).made

-- words that fit make a command of which it holds; others make none
of_fit : (from : List Word) (a : Option Arguments) (made : Arguments → Command) → ((b : Arguments) → Told from (made b)) → Told from (if_fit a made)
of_fit from (Some b) made h = h b
of_fit from None made h = tt

-- the next number, and what comes after it
of_next : (from : List Word) (n : Name) (after : Last) (i limit : ℕ) (numbers limits : List ℕ) (ws : List Word)
    → ((w : Word) (k : ℕ) (vs : List Word) → ws ≡ w ∷ vs → number_of limit w.chars ≡ Some k
    → Told from (order n (arguments_from (suc i) (set numbers i k) limits after vs)))
    → Told from (order n (arguments_from i numbers (limit ∷ limits) after ws))
of_next from n after i limit numbers limits [] h = tt
of_next from n after i limit numbers limits (w ∷ ws) h = read (number_of limit w.chars) refl
  where
    read : (r : Option ℕ) → number_of limit w.chars ≡ r
        → Told from (order n (if_number r (λ (k : ℕ). arguments_from (suc i) (set numbers i k) limits after ws)))
    read None e = tt
    read (Some k) e = h w k ws refl e

-- bytes, at least one: the only word that is left
of_bytes : (from : List Word) (n : Name) (numbers : List ℕ) (ws : List Word)
    → ((b : Word) → ws ≡ b ∷ [] → (count_of b.chars ≡ 0 → ⊥)
    → Told from ((row_of n).made (given_of numbers (pos 0) b.start (count_of b.chars))))
    → Told from (order n (last_of last.Bytes numbers ws))
unfolding last_of
of_bytes from n numbers [] h = tt
of_bytes from n numbers (b ∷ []) h = go (eqb (count_of b.chars) 0) refl
  where
    go : (t : Bool) → eqb (count_of b.chars) 0 ≡ t
        → Told from (order n (cond t None (Some (given_of numbers (pos 0) b.start (count_of b.chars)))))
    go true e = tt
    go false e = h b refl (eqb-false (count_of b.chars) 0 e)
of_bytes from n numbers (b ∷ c ∷ ws) h = tt

-- bytes that may be left out: no word is left, or just one
of_perhaps : (from : List Word) (n : Name) (numbers : List ℕ) (ws : List Word)
    → (ws ≡ [] → Told from ((row_of n).made (given_of numbers (pos 0) 0 0)))
    → ((b : Word) → ws ≡ b ∷ [] → (count_of b.chars ≡ 0 → ⊥)
    → Told from ((row_of n).made (given_of numbers (pos 0) b.start (count_of b.chars))))
    → Told from (order n (last_of last.PerhapsBytes numbers ws))
unfolding last_of
of_perhaps from n numbers [] out h = out refl
of_perhaps from n numbers (b ∷ ws) out h = of_bytes from n numbers (b ∷ ws) h

-- the words of a command that takes numbers and bytes, put together, and of one whose bytes are left out
carries : {w : Word} {ws : List Word} {n : Name} {said : List ℕ} (numbers : List Word) (b : Word) → name_of w.chars ≡ Some n → Says numbers said
    → ws ≡ numbers ++ (b ∷ []) → (count_of b.chars ≡ 0 → ⊥) → Carrying n (w ∷ ws) said b.start (count_of b.chars)
carries {w} numbers b e says is z =
    record {
      first = w;
      numbers = numbers;
      digits = b;
      words = rw is;
      called = e;
      numbered = says;
      starts = refl;
      counts = refl;
      some = z;
    }

lacks : {w : Word} {ws : List Word} {n : Name} {said : List ℕ} (numbers : List Word) → name_of w.chars ≡ Some n → Says numbers said → ws ≡ numbers
    → Without n (w ∷ ws) said 0
lacks {w} numbers e says is = record { first = w; numbers = numbers; words = rw is; called = e; numbered = says; none = refl }

told_send : (w : Word) (ws : List Word) → name_of w.chars ≡ Some name.Send → Told (w ∷ ws) (order_of name.Send ws)
unfolding order_of arguments_of
told_send w ws e =
    of_next (w ∷ ws) name.Send last.Bytes 0 whole no_numbers [] ws (λ a t vs is k.
    of_bytes (w ∷ ws) name.Send (set no_numbers 0 t) vs (λ b sole z. carries (a ∷ []) b e (k, tt) (rw (is, sole)) z))

told_load : (w : Word) (ws : List Word) → name_of w.chars ≡ Some name.Load → Told (w ∷ ws) (order_of name.Load ws)
unfolding order_of arguments_of
told_load w ws e =
    of_next (w ∷ ws) name.Load last.PerhapsBytes 0 whole no_numbers [] ws (λ a h vs is k.
    of_perhaps (w ∷ ws) name.Load (set no_numbers 0 h) vs
    (λ none. inr (lacks (a ∷ []) e (k, tt) (rw (is, none))))
    (λ b sole z. inl (carries (a ∷ []) b e (k, tt) (rw (is, sole)) z)))

told_rack : (w : Word) (ws : List Word) → name_of w.chars ≡ Some name.Rack → Told (w ∷ ws) (order_of name.Rack ws)
unfolding order_of arguments_of
told_rack w ws e =
    of_next (w ∷ ws) name.Rack last.PerhapsBytes 0 whole no_numbers (whole ∷ []) ws (λ a t vs is k.
    of_next (w ∷ ws) name.Rack last.PerhapsBytes 1 whole (set no_numbers 0 t) [] vs (λ b p us next m.
    of_perhaps (w ∷ ws) name.Rack (set (set no_numbers 0 t) 1 p) us
    (λ none. inr (lacks (a ∷ b ∷ []) e (k, (m, tt)) (rw (is, next, none))))
    (λ c sole z. inl (carries (a ∷ b ∷ []) c e (k, (m, tt)) (rw (is, next, sole)) z))))

-- a property of any numbers, each up to its limit and in its place: number `i` and those that follow
abbrev Any : (List ℕ → Type 0) → ℕ → List ℕ → List ℕ → Type 0
Any P i numbers [] = P numbers
Any P i numbers (limit ∷ limits) = (k : ℕ) → k ≤ limit → Any P (suc i) (set numbers i k) limits

-- a command that takes numbers and nothing else: it holds of what it makes of any of them
of_numbers : (from : List Word) (n : Name) (i : ℕ) (numbers limits : List ℕ) (ws : List Word)
    → Any (λ (ns : List ℕ). Told from ((row_of n).made (given_of ns (pos 0) 0 0))) i numbers limits
    → Told from (order n (arguments_from i numbers limits last.Nothing ws))
unfolding last_of
of_numbers from n i numbers [] [] h = h
of_numbers from n i numbers [] (w ∷ ws) h = tt
of_numbers from n i numbers (limit ∷ limits) ws h =
    of_next from n last.Nothing i limit numbers limits ws (λ w k vs is e.
    of_numbers from n (suc i) (set numbers i k) limits vs (h k (number_within limit w.chars e)))

told_space : (w : Word) (ws : List Word) → Told (w ∷ ws) (order_of name.Space ws)
unfolding order_of arguments_of
told_space w ws = of_numbers (w ∷ ws) name.Space 0 no_numbers (largest_space ∷ []) ws (λ n within. within)

told_ask : (w : Word) (ws : List Word) → Told (w ∷ ws) (order_of name.Ask ws)
unfolding order_of arguments_of
told_ask w ws =
    of_numbers (w ∷ ws) name.Ask 0 no_numbers (whole ∷ byte ∷ byte ∷ byte ∷ half ∷ whole ∷ []) ws
    (λ _ _ _ command _ node _ parameter _ word _ _. record { command = command; node = node; parameter = parameter; word = word })

told_named : (w : Word) (ws : List Word) (r : Option Name) → name_of w.chars ≡ r → Told (w ∷ ws) (if_named r ws)
unfolding order_of
told_named w ws None e = tt
told_named w ws (Some name.Head) e = of_fit (w ∷ ws) (arguments_of (row_of name.Head).limits (row_of name.Head).last ws) (row_of name.Head).made (λ b. tt)
told_named w ws (Some name.Send) e = told_send w ws e
told_named w ws (Some name.Tick) e = of_fit (w ∷ ws) (arguments_of (row_of name.Tick).limits (row_of name.Tick).last ws) (row_of name.Tick).made (λ b. tt)
told_named w ws (Some name.Measure) e = of_fit (w ∷ ws) (arguments_of (row_of name.Measure).limits (row_of name.Measure).last ws) (row_of name.Measure).made (λ b. tt)
told_named w ws (Some name.Keys) e = of_fit (w ∷ ws) (arguments_of (row_of name.Keys).limits (row_of name.Keys).last ws) (row_of name.Keys).made (λ b. tt)
told_named w ws (Some name.Power) e = of_fit (w ∷ ws) (arguments_of (row_of name.Power).limits (row_of name.Power).last ws) (row_of name.Power).made (λ b. tt)
told_named w ws (Some name.Space) e = told_space w ws
told_named w ws (Some name.Xor) e = of_fit (w ∷ ws) (arguments_of (row_of name.Xor).limits (row_of name.Xor).last ws) (row_of name.Xor).made (λ b. tt)
told_named w ws (Some name.Ask) e = told_ask w ws
told_named w ws (Some name.Save) e = of_fit (w ∷ ws) (arguments_of (row_of name.Save).limits (row_of name.Save).last ws) (row_of name.Save).made (λ b. tt)
told_named w ws (Some name.Load) e = told_load w ws e
told_named w ws (Some name.Rack) e = told_rack w ws e
told_named w ws (Some name.Bring) e = of_fit (w ∷ ws) (arguments_of (row_of name.Bring).limits (row_of name.Bring).last ws) (row_of name.Bring).made (λ b. tt)

told_command : (ws : List Word) → Told ws (command_of ws)
unfolding command_of
told_command [] = tt
told_command (w ∷ ws) = of_test (w ∷ ws) (is_note w) command.Blank (if_named (name_of w.chars) ws) tt (told_named w ws (name_of w.chars) refl)

told : (line : List ℕ) → Told (words_of (bare_of line)) (meaning_of line)
unfolding meaning_of spoken_of
told line =
    let ws = words_of (bare_of line) in
    of_test ws (ltb longest (length (bare_of line))) command.Malformed (command_of ws) tt (told_command ws)

-- the words of a `Send`, of a `Load` and of a `Rack`
pub sending : (line : List ℕ) {time from count : ℕ} → meaning_of line ≡ command.Send time from count
    → Carrying name.Send (words_of (bare_of line)) (time ∷ []) from count
sending line e = subst (Told (words_of (bare_of line))) e (told line)

pub loading : (line : List ℕ) {at from count : ℕ} → meaning_of line ≡ command.Load at from count
    → Carrying name.Load (words_of (bare_of line)) (at ∷ []) from count ⊎ Without name.Load (words_of (bare_of line)) (at ∷ []) count
loading line e = subst (Told (words_of (bare_of line))) e (told line)

pub racking : (line : List ℕ) {time place from count : ℕ} → meaning_of line ≡ command.Rack time place from count
    → Carrying name.Rack (words_of (bare_of line)) (time ∷ place ∷ []) from count
    ⊎ Without name.Rack (words_of (bare_of line)) (time ∷ place ∷ []) count
racking line e = subst (Told (words_of (bare_of line))) e (told line)

-- a `Space` is no more than 1,024
pub space_within : (line : List ℕ) {size : ℕ} → meaning_of line ≡ command.Space size → size ≤ largest_space
space_within line e = subst (Told (words_of (bare_of line))) e (told line)

-- the numbers of an `Ask` fit a telegram
pub asking : (line : List ℕ) {t c n p w d : ℕ} → meaning_of line ≡ command.Ask t c n p w d → Asking c n p w
asking line e = subst (Told (words_of (bare_of line))) e (told line)

-- a line of more than 4,097 bytes is none, whatever stands in it: no reader needs more of it to know
pub too_long : (line : List ℕ) → suc longest < length line → meaning_of line ≡ command.Malformed
unfolding meaning_of spoken_of
too_long line h = let k = bare_long line in simp (lt-ltb longest (length (bare_of line)) (omega arith))

-- a command stands in a line that is not too long
pub not_too_long : (line : List ℕ) → (meaning_of line ≡ command.Malformed → ⊥) → length (bare_of line) ≤ longest
unfolding meaning_of spoken_of
not_too_long line h = go (ltb longest (length (bare_of line))) refl h
  where
    go : (t : Bool) → ltb longest (length (bare_of line)) ≡ t → (cond t command.Malformed (command_of (words_of (bare_of line))) ≡ command.Malformed → ⊥)
        → length (bare_of line) ≤ longest
    go true e k = absurd (k refl)
    go false e k = ltb-false longest (length (bare_of line)) e
