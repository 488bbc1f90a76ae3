-- A line's words by the places where they start and end: the words from a place on are the first one and the words from its end on.
-- Assumes nothing.
use Rattle.std.specs.List.{position_or_len}
use Prim.Native.Nat.{ℕ, suc, ◌+◌, ◌-◌, ◌<◌, ◌≤◌}
use native.Mathlib.Nat.{add-zero, add-suc, suc-add, add-sub_cancel_left, not-suc-le-zero}
use native.Mathlib.Omega.{arith}
use mathlib.Core.Path.{◌≡◌, refl, ap, ◌∙◌}
use mathlib.Core.Logic.{◌⊎◌, inl, inr, ⊎_elim}
use mathlib.Core.Bool.{Bool, true, false, not}
use mathlib.Core.List.{List, [], ◌∷◌}
use borrow.Author.Tests.{ltb-true, ltb-false}
use lib.Dec.{ltb}
use lib.ListN.{length, get_or, take, drop, length-take, length-drop}
use lib.Seq.{drop-cons, drop-drop, get_or-drop}
use Rattle.script.specs.Words.{Word, is_gap, front, words_from, words_of}
use Rattle.script.specs.Places.{words_at, gaps, start_of, end_of, after_of, first_of, sole_of}

pub less_or_not : (a b : ℕ) → (a < b) ⊎ (b ≤ a)
less_or_not a b = go (ltb a b) refl
  where
    go : (t : Bool) → ltb a b ≡ t → (a < b) ⊎ (b ≤ a)
    go true e = inl (ltb-true a b e)
    go false e = inr (ltb-false a b e)

-- past the gaps is the place of the first other character, and past a word that of the first gap
pub gaps_end : (cs : List ℕ) → position_or_len (λ c. not (is_gap c)) cs ≡ gaps cs
gaps_end [] = refl
gaps_end (c ∷ cs) = go (is_gap c) refl (gaps_end cs)
  where
    go : (b : Bool) → is_gap c ≡ b → position_or_len (λ c. not (is_gap c)) cs ≡ gaps cs
        → position_or_len (λ c. not (is_gap c)) (c ∷ cs) ≡ gaps (c ∷ cs)
    go true e h = simp e (omega arith)
    go false e h = simp e

pub front_end : (cs : List ℕ) → position_or_len is_gap cs ≡ length (front cs)
front_end [] = refl
front_end (c ∷ cs) = go (is_gap c) refl (front_end cs)
  where
    go : (b : Bool) → is_gap c ≡ b → position_or_len is_gap cs ≡ length (front cs) → position_or_len is_gap (c ∷ cs) ≡ length (front (c ∷ cs))
    go true e h = simp e
    go false e h = simp e (omega arith)

-- what is left of a word adds no word
passes : (at : ℕ) (cs : List ℕ)
    → words_from true at cs ≡ words_from false (at + length (front cs)) (drop (length (front cs)) cs)
passes at [] = refl
passes at (c ∷ cs) = go (is_gap c) refl (passes (suc at) cs)
  where
    go : (b : Bool) → is_gap c ≡ b
        → words_from true (suc at) cs ≡ words_from false (suc at + length (front cs)) (drop (length (front cs)) cs)
        → words_from true at (c ∷ cs) ≡ words_from false (at + length (front (c ∷ cs))) (drop (length (front (c ∷ cs))) (c ∷ cs))
    go true e h = simp (e, add-zero)
    go false e h = simp e (h ∙ ap (λ (n : ℕ). words_from false n (drop (length (front cs)) cs)) (omega arith))

-- a word that starts where the characters start, and the words past it
abbrev opened : ℕ → List ℕ → List Word
opened at cs = record { start = at; chars = front cs } ∷ words_from false (at + length (front cs)) (drop (length (front cs)) cs)

-- the first word starts past the gaps
opens : (at : ℕ) (cs : List ℕ) → gaps cs < length cs → words_from false at cs ≡ opened (at + gaps cs) (drop (gaps cs) cs)
opens at [] h = absurd (not-suc-le-zero h)
opens at (c ∷ cs) h = go (is_gap c) refl h (opens (suc at) cs)
  where
    go : (b : Bool) → is_gap c ≡ b → gaps (c ∷ cs) < length (c ∷ cs)
        → (gaps cs < length cs → words_from false (suc at) cs ≡ opened (suc at + gaps cs) (drop (gaps cs) cs))
        → words_from false at (c ∷ cs) ≡ opened (at + gaps (c ∷ cs)) (drop (gaps (c ∷ cs)) (c ∷ cs))
    go true e k ih = simp e (ih (let q = simp e at k in omega arith) ∙ ap (λ (n : ℕ). opened n (drop (gaps cs) cs)) (omega arith))
    go false e k ih = simp (e, add-zero, add-suc, suc-add, passes (suc at) cs)

ends : (at : ℕ) (cs : List ℕ) → length cs ≤ gaps cs → words_from false at cs ≡ []
ends at [] h = refl
ends at (c ∷ cs) h = go (is_gap c) refl h (ends (suc at) cs)
  where
    go : (b : Bool) → is_gap c ≡ b → length (c ∷ cs) ≤ gaps (c ∷ cs) → (length cs ≤ gaps cs → words_from false (suc at) cs ≡ [])
        → words_from false at (c ∷ cs) ≡ []
    go true e k ih = simp e (ih (let q = simp e at k in omega arith))
    go false e k ih = absurd (let q = simp e at k in omega arith)

-- a word's characters are the part of the line up to its end
pub fronts : (cs : List ℕ) → take (length (front cs)) cs ≡ front cs
fronts [] = refl
fronts (c ∷ cs) = go (is_gap c) refl (fronts cs)
  where
    go : (b : Bool) → is_gap c ≡ b → take (length (front cs)) cs ≡ front cs
        → take (length (front (c ∷ cs))) (c ∷ cs) ≡ front (c ∷ cs)
    go true e ih = simp e
    go false e ih = simp (e, ih)

pub front_short : (cs : List ℕ) → length (front cs) ≤ length cs
front_short cs = omega (arith, simp length-take at (ap length (fronts cs)))

end_within : (l : List ℕ) (s : ℕ) → s ≤ length l → end_of l s ≤ length l
unfolding end_of
end_within l s h = let k = front_short (drop s l) in let q = length-drop s l in omega arith

end_after : (l : List ℕ) (s : ℕ) → s ≤ end_of l s
unfolding end_of
end_after l s = omega arith

part_is : (l : List ℕ) (s : ℕ) → take (end_of l s - s) (drop s l) ≡ front (drop s l)
unfolding end_of
part_is l s = rw add-sub_cancel_left (fronts (drop s l))

-- what stands past the gaps is no gap
no_gap : (cs : List ℕ) → gaps cs < length cs → is_gap (get_or cs (gaps cs) 0) ≡ false
no_gap [] h = absurd (not-suc-le-zero h)
no_gap (c ∷ cs) h = go (is_gap c) refl h (no_gap cs)
  where
    go : (b : Bool) → is_gap c ≡ b → gaps (c ∷ cs) < length (c ∷ cs) → (gaps cs < length cs → is_gap (get_or cs (gaps cs) 0) ≡ false)
        → is_gap (get_or (c ∷ cs) (gaps (c ∷ cs)) 0) ≡ false
    go true e k ih = simp e (ih (let q = simp e at k in omega arith))
    go false e k ih = simp e

-- the word that starts at a place
abbrev pub word_at : List ℕ → ℕ → Word
word_at l s = record { start = s; chars = front (drop s l) }

-- the words from a place on, where there is one, and where there is none
module _ (l : List ℕ) (from : ℕ) where
  pub some_left : start_of l from < length l → words_at l from ≡ word_at l (start_of l from) ∷ words_at l (after_of l from)
  unfolding start_of end_of after_of words_at
  some_left h = let q = length-drop from l in simp drop-drop at (opens from (drop from l) (omega arith))

  -- its first character stands in the line at its start
  pub first_char : start_of l from < length l → get_or (front (drop (start_of l from) l)) 0 0 ≡ get_or l (start_of l from) 0
  unfolding start_of
  first_char h =
      let q = length-drop from l in
      let g = simp get_or-drop at (no_gap (drop from l) (omega arith)) in
      simp (drop-cons l (from + gaps (drop from l)) 0 h, g)

  pub none_left : length l ≤ start_of l from → words_at l from ≡ []
  unfolding start_of words_at
  none_left h = let q = length-drop from l in ends from (drop from l) (omega arith)

  before_next : start_of l from ≤ start_of l (after_of l from)
  unfolding start_of end_of after_of
  before_next = omega arith

-- all words of a line
pub all_words : (l : List ℕ) → words_of l ≡ words_at l 0
unfolding words_of words_at
all_words l = refl

-- of words that are known, the first starts past the gaps, and the others follow past its end
pub peel : (l : List ℕ) (from : ℕ) {w : Word} {ws : List Word} → words_at l from ≡ w ∷ ws
    → (w ≡ word_at l (start_of l from)) × (ws ≡ words_at l (after_of l from))
peel l from e =
    ⊎_elim
    (λ (h : start_of l from < length l). let q = some_left l from h in (cc, cc))
    (λ (h : length l ≤ start_of l from). let q = none_left l from h in let z : ◌≡◌ {A = ℕ} 0 1 = cc in absurd (omega arith))
    (less_or_not (start_of l from) (length l))

-- the only word is the first one, where no other starts past it
module _ (l : List ℕ) (from n s : ℕ) (hn : n ≡ after_of l from) (hs : s ≡ start_of l n) where
  pub sole_more : s < length l → [] ≡ sole_of (words_at l from)
  sole_more h =
      let q = before_next l from in
      let e : s ≡ start_of l (after_of l from) = rw (← hn) hs in
      simp (some_left l from (omega arith), ← hn, some_left l n (omega arith))

  pub sole_first : length l ≤ s → first_of (words_at l from) ≡ sole_of (words_at l from)
  sole_first h =
      ⊎_elim
      (λ (k : start_of l from < length l). simp (some_left l from k, ← hn, none_left l n (omega arith)))
      (λ (k : length l ≤ start_of l from). simp (none_left l from k))
      (less_or_not (start_of l from) (length l))

-- the first word's part of the line
module _ (l : List ℕ) (from s e : ℕ) (hs : s ≡ start_of l from) where
  pub first_none : length l ≤ s → first_of (words_at l from) ≡ []
  first_none h = simp (none_left l from (omega arith))

  module _ (he : e ≡ end_of l s) (h : s < length l) where
    pub first_part : take (e - s) (drop s l) ≡ first_of (words_at l from)
    first_part = simp (some_left l from (omega arith), ← hs, he) (part_is l s)

    pub first_order : s ≤ e
    first_order = let k = end_after l s in omega arith

    pub first_within : e ≤ length l
    first_within = let k = end_within l s (omega arith) in omega arith
