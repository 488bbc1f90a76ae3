-- A piece laid in a lent text, byte by byte: where there is room for all of it, and where there is not; and pieces laid one after another.
-- Assumes nothing.
use Prim.Native.Nat.{ℕ, ◌+◌, ◌≤◌, ◌<◌}
use mathlib.Core.Path.{◌≡◌, sym}
use mathlib.Core.List.{List, ◌++◌}
use native.Mathlib.Numerals.{add-one}
use native.Mathlib.Omega.{arith}
use borrow.Author.Tests.{le-leb, lt-leb}
use lib.ListN.{length, get_or, take, drop, set, length-append, length-drop}
use lib.Seq.{paste, paste-zero, paste-suc, take-length, take_at}
use Rattle.text.specs.Laid.{laid_of, kept_of}

module _ (out : List ℕ) (from : ℕ) (piece : List ℕ) where
  pub cramped : length out < from + length piece → (from ≡ kept_of out from piece) × (out ≡ laid_of out from piece)
  unfolding kept_of laid_of
  cramped h = let t = lt-leb (from + length piece) (length out) h in (simp t, simp t)

  module _ (h : from + length piece ≤ length out) where
    pub kept : kept_of out from piece ≡ from + length piece
    unfolding kept_of
    kept = simp (le-leb (from + length piece) (length out) h)

    pub laid : laid_of out from piece ≡ (take from out ++ piece) ++ drop (from + length piece) out
    unfolding laid_of
    laid = simp (le-leb (from + length piece) (length out) h)

  -- the first i bytes of it
  pub none_yet : out ≡ paste out from piece 0
  none_yet = paste-zero out from piece

  pub one_more : {o : List ℕ} (i : ℕ) → from + i < length out → i < length piece → o ≡ paste out from piece i
      → set o (from + i) (get_or piece i 0) ≡ paste out from piece (i + 1)
  one_more i p q e = rw (e, add-one) (paste-suc out from piece i 0 p q)

  pub all_of_it : {o : List ℕ} (i : ℕ) → from + length piece ≤ length out → o ≡ paste out from piece i → i ≡ length piece
      → (from + length piece ≡ kept_of out from piece) × (o ≡ laid_of out from piece)
  all_of_it i h e is = (sym (kept h), rw (e, is, laid h, take-length piece))

-- a text of so many characters that starts with those of `p`, which are `n`
pub record Starts (room : ℕ) (o : List ℕ) (n : ℕ) (p : List ℕ) : Type 0 where
  pub long : length o ≡ room
  pub size : length p ≡ n
  pub is : take n o ≡ p

-- one piece more, laid after them
pub laid_on : {room n : ℕ} {o p : List ℕ} → Starts room o n p → (piece : List ℕ) → n + length piece ≤ room → {m : ℕ} {q : List ℕ}
    → m ≡ kept_of o n piece → q ≡ laid_of o n piece → Starts room q m (p ++ piece)
laid_on {n = n} {o} {p} s piece h k l =
    let long = s.long in
    let fits : n + length piece ≤ length o = omega arith in
    let size = s.size in
    let all : length (p ++ piece) ≡ n + length piece = simp length-append (omega arith) in
    let whole = laid o n piece fits in
    let is = s.is in
    record {
      long = rw (l, whole, is) (simp (length-append, length-drop) (omega arith));
      size = rw (k, kept o n piece fits) all;
      is = rw (l, whole, is, k, kept o n piece fits) (take_at (p ++ piece) (drop (n + length piece) o) (n + length piece) all);
    }
