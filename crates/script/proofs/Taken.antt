-- A command's arguments found one by one: the words from a place on are read as the definition reads them.
-- Assumes nothing.
use Rattle.std.specs.Prelude.{Some, None, Option}
use Prim.Native.Nat.{ℕ, suc, ◌+◌, ◌<◌, ◌≤◌}
use mathlib.Core.Path.{◌≡◌, refl, sym}
use mathlib.Core.Logic.{⊎_elim}
use mathlib.Core.List.{List, [], ◌∷◌}
use native.Mathlib.Numerals.{add-one}
use native.Mathlib.Omega.{arith}
use borrow.Author.Tests.{eq-eqb, ne_eqb}
use lib.IntN.{ℤ, pos}
use lib.ListN.{length, get_or, set, drop, drop_of_length-le}
use lib.Seq.{drop-cons}
use Rattle.script.specs.declared.arguments.Arguments.{Arguments}
use Rattle.script.specs.declared.arguments.Last.{Last}
use Rattle.script.specs.declared.arguments.Last.TheVariants.{Nothing, Signed, Bytes, PerhapsBytes}
use Rattle.script.specs.Words.{Word}
use Rattle.script.specs.Places.{words_at, start_of, after_of, first_of, sole_of}
use Rattle.text.specs.Numbers.{number_of, signed_of, count_of}
use Rattle.script.specs.Arguments.{given_of, one, if_number, if_value, if_some, signed, bytes, last_of, arguments_from}
use Rattle.script.proofs.Split.{less_or_not, word_at, some_left, none_left}

-- what is no word says nothing
number_none : (limit : ℕ) → number_of limit [] ≡ None
unfolding number_of
number_none limit = refl

value_none : signed_of [] ≡ None
unfolding signed_of number_of
value_none = refl

count_none : count_of [] ≡ 0
unfolding count_of
count_none = refl

-- exactly one word, where no characters do not fit
one_of : (g : ℕ → List ℕ → Option Arguments) → ((s : ℕ) → g s [] ≡ None) → (w : Word) (ws : List Word)
    → one (λ (v : Word). g v.start v.chars) (w ∷ ws) ≡ g w.start (sole_of (w ∷ ws))
one_of g none w [] = refl
one_of g none w (v ∷ ws) = sym (none w.start)

one_is : (l : List ℕ) (from : ℕ) (g : ℕ → List ℕ → Option Arguments) → ((s : ℕ) → g s [] ≡ None)
    → one (λ (v : Word). g v.start v.chars) (words_at l from) ≡ g (start_of l from) (sole_of (words_at l from))
one_is l from g none =
    ⊎_elim
    (λ (h : start_of l from < length l). rw (some_left l from h) (one_of g none (word_at l (start_of l from)) (words_at l (after_of l from))))
    (λ (h : length l ≤ start_of l from). rw (none_left l from h) (sym (none (start_of l from))))
    (less_or_not (start_of l from) (length l))

-- what comes after the numbers `ns`: no word or some, found by the place `s` past the gaps
module _ (l : List ℕ) (from : ℕ) (ns : List ℕ) {s : ℕ} (at : s ≡ start_of l from) where
  pub none_more : length l ≤ s → Some (given_of ns (pos 0) 0 0) ≡ last_of Nothing ns (words_at l from)
  unfolding last_of
  none_more h = rw (none_left l from (omega arith))

  pub some_more : s < length l → None ≡ last_of Nothing ns (words_at l from)
  unfolding last_of
  some_more h = rw (some_left l from (omega arith))

  pub no_bytes_more : length l ≤ s → Some (given_of ns (pos 0) 0 0) ≡ last_of PerhapsBytes ns (words_at l from)
  unfolding last_of
  no_bytes_more h = rw (none_left l from (omega arith))

  pub bytes_more : s < length l → last_of Bytes ns (words_at l from) ≡ last_of PerhapsBytes ns (words_at l from)
  unfolding last_of
  bytes_more h = rw (some_left l from (omega arith))

-- one word as a number with a sign, and as bytes; `cs` are the characters of the only word
module _ (l : List ℕ) (from : ℕ) (ns : List ℕ) {cs : List ℕ} (is : cs ≡ sole_of (words_at l from)) where
  pub value_last : {r x : Option ℤ} → r ≡ signed_of cs → r ≡ x → if_value x (λ (v : ℤ). given_of ns v 0 0) ≡ last_of Signed ns (words_at l from)
  unfolding last_of
  value_last e k =
      rw (← k, e, is)
      (sym (one_is l from (λ (n : ℕ) (c : List ℕ). signed ns (record { start = n; chars = c })) (λ (n : ℕ). rw value_none)))

  module _ {n : ℕ} (e : n ≡ count_of cs) where
    bytes_last : if_some n (given_of ns (pos 0) (start_of l from)) ≡ last_of Bytes ns (words_at l from)
    unfolding last_of
    bytes_last =
        rw (e, is)
        (sym (one_is l from (λ (k : ℕ) (c : List ℕ). bytes ns (record { start = k; chars = c })) (λ (k : ℕ). rw count_none)))

    pub no_bytes : n ≡ 0 → None ≡ last_of Bytes ns (words_at l from)
    no_bytes z = simp (eq-eqb n 0 z) at bytes_last

    pub some_bytes : (n ≡ 0 → ⊥) → {p : ℕ} → p ≡ start_of l from → Some (given_of ns (pos 0) p n) ≡ last_of Bytes ns (words_at l from)
    some_bytes z q = rw q (simp (ne_eqb n 0 z) at bytes_last)

-- number `i`: the first word from the place on says it, and the others follow past its end
number_first_lem : (l : List ℕ) (from i limit : ℕ) (ns limits : List ℕ) (after : Last)
    → arguments_from i ns (limit ∷ limits) after (words_at l from)
    ≡ if_number (number_of limit (first_of (words_at l from))) (λ (n : ℕ). arguments_from (suc i) (set ns i n) limits after (words_at l (after_of l from)))
number_first_lem l from i limit ns limits after =
    ⊎_elim
    (λ (h : start_of l from < length l). rw (some_left l from h))
    (λ (h : length l ≤ start_of l from). rw (none_left l from h, number_none limit))
    (less_or_not (start_of l from) (length l))

-- the limits that are left from number `i` on
module _ (limits : List ℕ) (i : ℕ) where
  pub numbers_end : length limits ≤ i → (ns : List ℕ) (after : Last) (ws : List Word)
      → last_of after ns ws ≡ arguments_from i ns (drop i limits) after ws
  numbers_end h ns after ws = rw (drop_of_length-le limits {i = i} h)

  module _ (h : i < length limits) (l : List ℕ) (from : ℕ) (ns : List ℕ) (after : Last) {cs : List ℕ} (is : cs ≡ first_of (words_at l from))
      {r : Option ℕ} (e : r ≡ number_of (get_or limits i 0) cs) where
    pub number_unfit : r ≡ None → None ≡ arguments_from i ns (drop i limits) after (words_at l from)
    number_unfit u = rw (drop-cons limits i 0 h, number_first_lem l from i (get_or limits i 0) ns (drop (suc i) limits) after, ← is, ← e, u)

    pub number_on : {n p : ℕ} → r ≡ Some n → p ≡ after_of l from
        → arguments_from (i + 1) (set ns i n) (drop (i + 1) limits) after (words_at l p)
        ≡ arguments_from i ns (drop i limits) after (words_at l from)
    number_on u q = rw (drop-cons limits i 0 h, number_first_lem l from i (get_or limits i 0) ns (drop (suc i) limits) after, ← is, ← e, u, ← q, add-one)
