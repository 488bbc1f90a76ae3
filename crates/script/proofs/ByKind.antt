-- A line by its kind: the first word from the first place on is the one that the definitions go by, and each that goes by the kind of a line
-- comes to what that kind says.
-- Assumes nothing.
use Prim.Native.Nat.{ℕ, ◌<◌, ◌≤◌}
use mathlib.Core.Path.{◌≡◌, refl, sym, ap, subst, ◌∙◌}
use mathlib.Core.Bool.{Bool, true, false}
use mathlib.Core.List.{List, [], ◌∷◌}
use native.Mathlib.Omega.{arith}
use borrow.Author.Tests.{eq-eqb, ne_eqb, lt-ltb, le-ltb}
use lib.Dec.{ltb}
use lib.ListN.{length, get_or, drop}
use Rattle.script.specs.declared.words.Kind.{Kind}
use Rattle.script.specs.declared.words.Kind.TheVariants.{Long, Passed, Spoken}
use Rattle.script.specs.Words.{Word, front, words_of}
use Rattle.script.specs.Places.{words_at, start_of, after_of}
use Rattle.script.specs.Kinds.{is_note, longest, unless_passed, unless_long, kind_of}
use Rattle.script.proofs.Split.{word_at, some_left, none_left, first_char, peel, all_words}

-- what a line comes to for a reader
abbrev pub comes_to : {A : Type 0} → A → A → (Word → List Word → A) → List ℕ → A
comes_to long passed said l = unless_long long (unless_passed passed said) l

-- ---- a line by its length and by what stands where its first word starts
module _ {A : Type 0} (long passed : A) (said : Word → List Word → A) (l : List ℕ) where
  pub too_long : longest < length l → long ≡ comes_to long passed said l
  too_long h = simp (lt-ltb longest (length l) h)

  module _ {s : ℕ} (is : s ≡ start_of l 0) (short : length l ≤ longest) where
    pub no_word : length l ≤ s → passed ≡ comes_to long passed said l
    no_word h = simp (le-ltb longest (length l) short, all_words l, none_left l 0 (omega arith))

    module _ (h : s < length l) where
      first_word : words_of l ≡ word_at l s ∷ words_at l (after_of l 0)
      first_word = all_words l ∙ rw is (some_left l 0 (omega arith))

      its_char : get_or (front (drop s l)) 0 0 ≡ get_or l s 0
      its_char = rw is (first_char l 0 (omega arith))

      pub a_note : get_or l s 0 ≡ 35 → passed ≡ comes_to long passed said l
      a_note e = simp (le-ltb longest (length l) short, first_word, its_char, eq-eqb (get_or l s 0) 35 e)

      pub some_said : (get_or l s 0 ≡ 35 → ⊥) → said (word_at l s) (words_at l (after_of l 0)) ≡ comes_to long passed said l
      some_said e = simp (le-ltb longest (length l) short, first_word, its_char, ne_eqb (get_or l s 0) 35 e)

-- ---- a line by its kind
-- a first word that is known starts where the first word starts
first_starts : (l : List ℕ) {w : Word} {ws : List Word} → words_of l ≡ w ∷ ws → (w ≡ word_at l w.start) × (ws ≡ words_at l (after_of l 0))
first_starts l e =
    let p = peel l 0 (sym (all_words l) ∙ e) in
    (p.0 ∙ ap (λ (n : ℕ). word_at l n) (sym (ap (λ (v : Word). v.start) p.0)), p.1)

module _ {A : Type 0} (long passed : A) (said : Word → List Word → A) (l : List ℕ) where
  -- what a kind says of a line
  abbrev Told : Kind → Type 0
  Told Long = long ≡ comes_to long passed said l
  Told Passed = passed ≡ comes_to long passed said l
  Told (Spoken at) =
      (said (word_at l at) (words_at l (after_of l 0)) ≡ comes_to long passed said l) × (words_at l 0 ≡ word_at l at ∷ words_at l (after_of l 0))

  is : (k : Kind) → kind_of l ≡ k → Told k → Told (kind_of l)
  is k e t = subst Told (sym e) t

  told : Told (kind_of l)
  unfolding kind_of
  told = by_length (ltb longest (length l)) refl
    where
      by_note : ltb longest (length l) ≡ false → (w : Word) (ws : List Word) → words_of l ≡ w ∷ ws → (b : Bool) → is_note w ≡ b → Told (kind_of l)
      by_note s w ws e true n = is Passed (simp (s, e, n)) (simp (s, e, n))
      by_note s w ws e false n =
          let p = first_starts l e in
          is (Spoken w.start) (simp (s, e, n)) (rw (← p.0, ← p.1) (simp (s, e, n)), rw (← all_words l, ← p.0, ← p.1) e)

      by_words : ltb longest (length l) ≡ false → (vs : List Word) → words_of l ≡ vs → Told (kind_of l)
      by_words s [] e = is Passed (simp (s, e)) (simp (s, e))
      by_words s (w ∷ ws) e = by_note s w ws e (is_note w) refl

      by_length : (b : Bool) → ltb longest (length l) ≡ b → Told (kind_of l)
      by_length true e = is Long (simp e) (simp e)
      by_length false e = by_words e (words_of l) refl

  pub by_kind : {k : Kind} (r : Kind) → r ≡ kind_of l → r ≡ k → Told k
  by_kind r e f = subst Told (sym e ∙ f) told
