-- Replies of ten bytes laid one after another in a part of the space: where there is room for them all they stand side by side, and what is before and
-- after them is as it was.
-- Assumes nothing.
use Prim.Native.Nat.{ℕ, ◌+◌, ◌-◌, ◌*◌, ◌≤◌, ◌<◌}
use mathlib.Core.Path.{◌≡◌, refl, sym, ◌∙◌}
use mathlib.Core.List.{List, [], ◌∷◌, ◌++◌, append_assoc, append-nil}
use native.Mathlib.Omega.{arith}
use borrow.Author.Tests.{le-ltb}
use borrow.Rule.Slice.PartMut.{mid_of, put_mid, Post-is}
use lib.ListN.{length, take, drop, length-append, length-drop, drop_of_length-le}
use lib.Seq.{take_all, take_at, drop_at, drop-drop, drop-length}
use Rattle.head.specs.Calls.{laid_on_of}
use Rattle.rack.specs.Rack.{laid_at, laid_from, joined, filled}

-- ---- a part that runs to the end: what it is, and the whole with it put back
module _ (a : ℕ) (xs : List ℕ) (h : a ≤ length xs) where
  pub part_end : mid_of a (length xs - a) xs ≡ drop a xs
  part_end = take_all (length xs - a) (drop a xs) (simp length-drop (omega arith))

  pub put_end : (ys : List ℕ) → put_mid a (length xs - a) xs ys ≡ take a xs ++ ys
  put_end ys = rw (Post-is a (length xs) xs h, drop-length xs, append-nil ys)

-- past the end nothing is laid
pub laid_past : (space : List ℕ) (place : ℕ) (ten : List ℕ) → length space < place → space ≡ laid_at space place ten
unfolding laid_at laid_on_of
laid_past space place ten h =
    let p : length space ≤ place = omega arith in
    rw (take_all place space p, drop_of_length-le space p, append-nil space)

-- ---- replies of ten bytes
abbrev pub Tens : List (List ℕ) → Type 0
Tens [] = Unit {0}
Tens (r ∷ rs) = (length r ≡ 10) × Tens rs

first : (pre s r : List ℕ) → 10 ≤ length s → laid_at (pre ++ s) (length pre) r ≡ (pre ++ r) ++ drop 10 s
unfolding laid_at laid_on_of
first pre s r wide =
    rw (take_at pre s (length pre) refl, drop_at pre s (length pre) refl, le-ltb (length s) 10 wide) (sym (append_assoc pre r (drop 10 s)))

side : (rs : List (List ℕ)) → Tens rs → (pre s : List ℕ) → 10 * length rs ≤ length s
    → laid_from rs (length pre) (pre ++ s) ≡ pre ++ (joined rs ++ drop (length (joined rs)) s)
unfolding laid_from
side [] t pre s room = refl
side (r ∷ rs) t pre s room =
    let wide : 10 ≤ length s = omega arith in
    let here : length pre + 10 ≡ length (pre ++ r) = rw length-append (rw t.0) in
    let left : 10 * length rs ≤ length (drop 10 s) = simp length-drop (omega arith) in
    rw (first pre s r wide, here) (side rs t.1 (pre ++ r) (drop 10 s) left ∙ rw (drop-drop, length-append, t.0) (simp append_assoc))

pub side_by_side : (rs : List (List ℕ)) → Tens rs → (place : ℕ) (space : List ℕ) → 10 * length rs ≤ length space - place
    → take place space ++ laid_from rs 0 (drop place space) ≡ filled rs place space
side_by_side rs t place space room =
    let left : 10 * length rs ≤ length (drop place space) = simp length-drop room in
    rw (side rs t [] (drop place space) left, drop-drop)
