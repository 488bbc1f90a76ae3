-- `script::telegrams::listed` meets its contract: each kind of line is a case of the definition, and the only word is the one whose digits count.
use Prim.Native.Nat.{ℕ}
use mathlib.Core.Path.{◌≡◌, refl, ◌∙◌}
use mathlib.Core.Bool.{cond}
use mathlib.Core.List.{List, [], ◌∷◌}
use borrow.Author.Tests.{eq-eqb, ne_eqb}
use lib.Dec.{eqb}
use Rattle.text.specs.Numbers.{count_of}
use Rattle.script.specs.declared.telegrams.Entry.{Entry}
use Rattle.script.specs.declared.telegrams.Entry.TheVariants.{Blank, Malformed, Telegram}
use Rattle.script.specs.declared.words.Kind.{Kind}
use Rattle.script.specs.declared.words.Kind.TheVariants.{Spoken}
use Rattle.script.specs.Words.{Word}
use Rattle.script.specs.Places.{words_at, after_of, sole_of}
use Rattle.script.specs.Kinds.{kind_of}
use Rattle.script.specs.Telegrams.{telegram_of, listed_of}
use Rattle.script.proofs.Split.{word_at}
use Rattle.script.proofs.ByKind.{by_kind}
use Rattle.script.proofs.telegrams.listed.Goals as goal

-- what so many bytes are, whose digits start at a place
abbrev counted : ℕ → ℕ → Entry
counted n at = cond (eqb n 10) (Telegram at) Malformed

-- more words than one have no digits that count
sole-counts : (w : Word) (ws : List Word) → counted (count_of (sole_of (w ∷ ws))) w.start ≡ telegram_of w ws
unfolding count_of
sole-counts w [] = refl
sole-counts w (v ∷ ws) = refl

-- a line that goes by its words; `cs` are the characters of the only word
module _ (l : List ℕ) {k : Kind} {at n : ℕ} {cs : List ℕ} (e : k ≡ kind_of l) (s : k ≡ Spoken at) (count : n ≡ count_of cs)
    (sole : cs ≡ sole_of (words_at l 0)) where
  listed : counted n at ≡ listed_of l
  unfolding listed_of
  listed =
      let t = by_kind Malformed Blank telegram_of l k e s in
      rw (count, sole, t.1) (sole-counts (word_at l at) (words_at l (after_of l 0)) ∙ t.0)

  ten : n ≡ 10 → Telegram at ≡ listed_of l
  ten h = simp (eq-eqb n 10 h) at listed

  not-ten : (n ≡ 10 → ⊥) → Malformed ≡ listed_of l
  not-ten h = simp (ne_eqb n 10 h) at listed

pub returns-in-Long : goal.returns-in-Long
unfolding listed_of
returns-in-Long c = by_kind Malformed Blank telegram_of _ _ c.kind_of.ensures c.in-Long.is

pub returns-in-Passed : goal.returns-in-Passed
unfolding listed_of
returns-in-Passed c = by_kind Malformed Blank telegram_of _ _ c.kind_of.ensures c.in-Passed.is

pub returns-then-hex_bytes-eq-TEN : goal.returns-then-hex_bytes-eq-TEN
unfolding listed_of
returns-then-hex_bytes-eq-TEN c = ten _ c.kind_of.ensures c.in-Spoken.is c.hex_bytes.ensures c.sole.ensures c.if-hex_bytes-eq-TEN.true

pub returns-else-hex_bytes-eq-TEN : goal.returns-else-hex_bytes-eq-TEN
unfolding listed_of
returns-else-hex_bytes-eq-TEN c = not-ten _ c.kind_of.ensures c.in-Spoken.is c.hex_bytes.ensures c.sole.ensures c.if-hex_bytes-eq-TEN.false
