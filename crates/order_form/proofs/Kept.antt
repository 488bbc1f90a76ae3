-- A list that is kept, element by element, in an array with room for so many: the array holds the list, as far as there is room.
-- Assumes nothing.
use Prim.Native.Nat.{ℕ, suc, ◌≤◌, ◌<◌}
use mathlib.Core.Path.{◌≡◌, refl, sym, ◌∙◌, ap}
use mathlib.Core.Bool.{Bool, true, false, cond}
use mathlib.Core.List.{List, [], ◌∷◌, ◌++◌}
use native.Mathlib.Omega.{arith}
use borrow.Author.Tests.{ltb-true, ltb-false}
use lib.Dec.{ltb}
use lib.ListN.{length, take, get_or, set, length-set}
use lib.Seq.{take-suc-set, take_all, take-append-le, get_or-take}

pub record Kept {A : Type 0} (room : ℕ) (xs a : List A) : Type 0 where
  pub long : length a ≡ room
  pub front : take (length xs) a ≡ take room xs

pub length_snoc : {A : Type 0} (xs : List A) (x : A) → length (xs ++ (x ∷ [])) ≡ suc (length xs)
length_snoc [] x = refl
length_snoc (y ∷ xs) x = ap suc (length_snoc xs x)

pub none_kept : {A : Type 0} (a : List A) → Kept (length a) [] a
none_kept a = record { long = refl; front = sym (take_all (length a) [] (omega arith)) }

-- one more is stored just after the others, where there is room
pub one_more : {A : Type 0} (room : ℕ) (xs a : List A) (x : A) → Kept room xs a
    → Kept room (xs ++ (x ∷ [])) (cond (ltb (length xs) room) (set a (length xs) x) a)
one_more room xs a x k = go (ltb (length xs) room) refl
  where
    go : (b : Bool) → ltb (length xs) room ≡ b → Kept room (xs ++ (x ∷ [])) (cond b (set a (length xs) x) a)
    go true e =
        let h : length xs < room = ltb-true (length xs) room e in
        let whole : take (length xs) a ≡ xs = k.front ∙ take_all room xs (omega arith) in
        let fits : length (xs ++ (x ∷ [])) ≤ room = rw (length_snoc xs x) (omega arith) in
        record {
          long = length-set a (length xs) x ∙ k.long;
          front = rw (length_snoc xs x, take-suc-set a (length xs) x (omega (arith, k.long)), whole) (sym (take_all room (xs ++ (x ∷ [])) fits));
        }
    go false e =
        let h : room ≤ length xs = ltb-false (length xs) room e in
        record {
          long = k.long;
          front =
              rw (length_snoc xs x, take_all (suc (length xs)) a (omega (arith, k.long)), take-append-le room xs (x ∷ []) h)
              (sym (take_all (length xs) a (omega (arith, k.long))) ∙ k.front);
        }

-- what stands at a place
pub kept_at : {A : Type 0} (room : ℕ) (xs a : List A) → Kept room xs a → (i : ℕ) (d : A) → i < length xs → i < room → get_or a i d ≡ get_or xs i d
kept_at room xs a k i d h l = sym (get_or-take (length xs) a i d h) ∙ ap (λ (ys : List _). get_or ys i d) k.front ∙ get_or-take room xs i d l
