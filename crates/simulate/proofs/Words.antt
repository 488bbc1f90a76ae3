-- The words of replies that stand one after another: each is 21 characters, and one more is laid after those before it.
-- Assumes nothing.
use Rattle.std.proofs.Common.{◌≡◌, ℕ, zero, suc, ◌+◌, ◌*◌, ◌≤◌, Bool, true, false, cond, ltb, List, [], ◌∷◌, ◌++◌, length, take, drop, replicate, sym, refl, ap, ◌∙◌, append_assoc, append-nil, add-one, arith, length-append, length-drop, length-take-le, drop-drop, take_at, drop_at, ltb-false}
use Prim.Native.Char.{code}
use Rattle.hex_digits.specs.Digits.{digits_of}
use Rattle.text.specs.Laid.{laid_of, kept_of}
use Rattle.simulate.specs.Feeding.{word_of}
use Rattle.simulate.specs.Racks.{reply_words_of, shown_count, shown_on}
use Rattle.text.proofs.Laid.{kept, laid}

digits_size : (bs : List ℕ) → length (digits_of bs) ≡ 2 * length bs
digits_size [] = refl
digits_size (b ∷ bs) = let e = digits_size bs in omega arith

pub word_size : (space : List ℕ) → length (word_of space) ≡ 21
unfolding word_of
word_size space = go (ltb (length space) 10) refl
  where
    go : (t : Bool) → ltb (length space) 10 ≡ t → length (cond t (replicate 21 (code " ")) (code " " ∷ digits_of (take 10 space))) ≡ 21
    go true e = refl
    go false e =
        let d = digits_size (take 10 space) in
        let t = length-take-le 10 space (ltb-false (length space) 10 e) in
        omega arith

pub words_size : (replies : List ℕ) (n : ℕ) → length (reply_words_of replies n) ≡ 21 * n
unfolding reply_words_of
words_size replies zero = refl
words_size replies (suc n) =
    let w = word_size replies in
    let ws = words_size (drop 10 replies) n in
    simp length-append (omega arith)

-- the last of them
last_word : (replies : List ℕ) (n : ℕ) → reply_words_of replies (suc n) ≡ reply_words_of replies n ++ word_of (drop (10 * n) replies)
unfolding reply_words_of
last_word replies zero = append-nil (word_of replies)
last_word replies (suc n) =
    let e : 10 + 10 * n ≡ 10 * suc n = omega arith in
    ap (λ (l : List ℕ). word_of replies ++ l) (last_word (drop 10 replies) n)
    ∙ rw (drop-drop, e) (sym (append_assoc (word_of replies) (reply_words_of (drop 10 replies) n) (word_of (drop (10 * suc n) replies))))

-- the words of the first i replies at the start of a text
abbrev pub shown_so_far : List ℕ → List ℕ → ℕ → List ℕ
shown_so_far out replies i = reply_words_of replies i ++ drop (21 * i) out

pub none_shown : (out replies : List ℕ) → out ≡ shown_so_far out replies 0
unfolding reply_words_of
none_shown out replies = refl

-- word i laid after those before it
module _ (out replies : List ℕ) (i : ℕ) (room : 21 * i + 21 ≤ length out) {o w : List ℕ} {n : ℕ} (so_far : o ≡ shown_so_far out replies i)
    (word : w ≡ word_of (drop (10 * i) replies)) (at : n ≡ 21 * i) where
  size : length w ≡ 21
  size = rw word (word_size (drop (10 * i) replies))

  same : length o ≡ length out
  same = let ws = words_size replies i in let left = length-drop (21 * i) out in rw so_far (simp length-append (omega arith))

  fits : n + length w ≤ length o
  fits = let s = size in let k = same in omega arith

  pub kept_more : kept_of o n w ≡ 21 * (i + 1)
  kept_more = let s = size in kept o n w fits ∙ omega arith

  pub shown_more : laid_of o n w ≡ shown_so_far out replies (i + 1)
  shown_more =
      let ws = reply_words_of replies i in
      let s = words_size replies i in
      let past : n + length w ≡ 21 * i + 21 = let k = size in omega arith in
      let next : 21 * i + 21 ≡ 21 * (i + 1) = omega arith in
      let before : take n o ≡ ws = rw (at, so_far) (take_at ws (drop (21 * i) out) (21 * i) s) in
      let after : drop (n + length w) o ≡ drop (21 * (i + 1)) out =
      rw (past, so_far, ← drop-drop 21 (21 * i) (ws ++ drop (21 * i) out), drop_at ws (drop (21 * i) out) (21 * i) s, drop-drop, next) in
      let words : reply_words_of replies (i + 1) ≡ ws ++ w = rw (add-one, word) (last_word replies i) in
      laid o n w fits ∙ rw (before, after, words)

-- all that there is room for
pub all_shown : (out replies : List ℕ) (n : ℕ) {o : List ℕ} (i : ℕ) → i ≡ shown_count out n → o ≡ shown_so_far out replies i
    → o ≡ shown_on out replies n
unfolding shown_on
all_shown out replies n i e so_far = so_far ∙ rw e
