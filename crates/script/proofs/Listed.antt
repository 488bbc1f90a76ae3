-- What a `Telegram` promises of its line: its only word is twenty hex digits, and `byte_at` reads from it the ten bytes that it stands for; and what
-- a line too long is for whoever lists telegrams. A property that holds of every way to an entry is followed down the definition.
-- Assumes nothing.
use Prim.Native.Nat.{ℕ, suc, ◌<◌}
use native.Mathlib.Omega.{arith}
use mathlib.Core.Path.{◌≡◌, refl, subst}
use mathlib.Core.Bool.{Bool, true, false, cond}
use mathlib.Core.List.{List, [], ◌∷◌}
use borrow.Author.Tests.{eqb-true, lt-ltb}
use lib.Dec.{ltb, eqb}
use lib.ListN.{length}
use Rattle.script.specs.declared.telegrams.Entry.{Entry}
use Rattle.script.specs.declared.telegrams.Entry.TheVariants.{Blank, Malformed, Telegram}
use Rattle.text.specs.Lines.{bare_of}
use Rattle.text.specs.Numbers.{bytes_of, count_of}
use Rattle.text.proofs.Bare.{bare_long}
use Rattle.script.specs.Words.{Word, words_of}
use Rattle.script.specs.Kinds.{is_note, longest, unless_passed}
use Rattle.script.specs.Meaning.{byte_at_of, read}
use Rattle.script.specs.Telegrams.{telegram_of, listed_of, entry_of}
use Rattle.script.proofs.Carried.{ending}

-- the words of a telegram whose digits start at the place `from`
pub record Single (ws : List Word) (from : ℕ) : Type 0 where
  pub digits : Word
  pub words : ws ≡ digits ∷ []
  pub starts : digits.start ≡ from
  pub counts : count_of digits.chars ≡ 10

-- what is to hold of an entry that came from the words `ws`
abbrev Told : List Word → Entry → Type 0
Told ws Blank = Unit {0}
Told ws Malformed = Unit {0}
Told ws (Telegram from) = Single ws from

of_test : (from : List Word) (b : Bool) (x y : Entry) → (b ≡ true → Told from x) → Told from y → Told from (cond b x y)
of_test from true x y p q = p refl
of_test from false x y p q = q

told_telegram : (w : Word) (ws : List Word) → Told (w ∷ ws) (telegram_of w ws)
told_telegram w [] =
    of_test (w ∷ []) (eqb (count_of w.chars) 10) (Telegram w.start) Malformed
    (λ e. record { digits = w; words = refl; starts = refl; counts = eqb-true (count_of w.chars) 10 e })
    tt
told_telegram w (v ∷ ws) = tt

told_words : (ws : List Word) → Told ws (unless_passed Blank telegram_of ws)
told_words [] = tt
told_words (w ∷ ws) = of_test (w ∷ ws) (is_note w) Blank (telegram_of w ws) (λ e. tt) (told_telegram w ws)

told : (line : List ℕ) → Told (words_of (bare_of line)) (entry_of line)
unfolding entry_of listed_of
told line =
    let ws = words_of (bare_of line) in
    of_test ws (ltb longest (length (bare_of line))) Malformed (unless_passed Blank telegram_of ws) (λ e. tt) (told_words ws)

-- a line that is a telegram
pub single : (line : List ℕ) {from : ℕ} → entry_of line ≡ Telegram from → Single (words_of (bare_of line)) from
single line e = subst (Told (words_of (bare_of line))) e (told line)

pub ten_read : (line : List ℕ) {from : ℕ} (e : entry_of line ≡ Telegram from) → read (byte_at_of line from) 10 ≡ bytes_of (single line e).digits.chars
ten_read line e =
    let s = single line e in
    (ending line [] s.digits s.words s.starts s.counts (λ z. omega arith)).bytes

-- a line of more than 4,097 bytes is none, whatever stands in it: no reader needs more of it to know
pub too_long : (line : List ℕ) → suc longest < length line → entry_of line ≡ Malformed
unfolding entry_of listed_of
too_long line h = let k = bare_long line in simp (lt-ltb longest (length (bare_of line)) (omega arith))
