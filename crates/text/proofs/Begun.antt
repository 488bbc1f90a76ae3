-- A line that has begun: how its start stands to the lines of what follows, and that one byte more is kept while there is room.
-- Assumes nothing.
use Prim.Native.Nat.{ℕ}
use mathlib.Core.Bool.{Bool, true, false}
use mathlib.Core.List.{List, [], ◌∷◌, ◌++◌, append_assoc}
use mathlib.Core.Path.{◌≡◌, refl, sym}
use native.Mathlib.Omega.{arith}
use borrow.Author.Tests.{ltb-true, ltb-false, le-ltb}
use lib.Dec.{ltb}
use lib.ListN.{length, take, length-append}
use lib.Seq.{take_all, take-append-le, length-take-le}
use Rattle.text.specs.Reading.{kept_of, begun_of}

-- the lines of what follows on the start of a line
abbrev pub joined : List ℕ → List (List ℕ) → List (List ℕ)
joined [] [] = []
joined (b ∷ t) [] = (b ∷ t) ∷ []
joined t (l ∷ ls) = (t ++ l) ∷ ls

pub joined_none : (ls : List (List ℕ)) → joined [] ls ≡ ls
joined_none [] = refl
joined_none (l ∷ ls) = refl

pub joined_one : (t : List ℕ) (b : ℕ) (ls : List (List ℕ)) → joined t (begun_of b ls) ≡ joined (t ++ (b ∷ [])) ls
joined_one [] b [] = refl
joined_one (x ∷ t) b [] = refl
joined_one t b (l ∷ ls) = simp append_assoc

-- a byte more of a line that is kept up to the room
pub kept : (room : ℕ) (t : List ℕ) (b : ℕ) → kept_of room (take room t) b ≡ take room (t ++ (b ∷ []))
kept room t b = go (ltb (length t) room) refl
  where
    go : (x : Bool) → ltb (length t) room ≡ x → kept_of room (take room t) b ≡ take room (t ++ (b ∷ []))
    go true e =
        let less = ltb-true (length t) room e in
        rw (take_all room t (omega arith)) (simp e (sym (take_all room (t ++ (b ∷ [])) (simp length-append (omega arith)))))
    go false e =
        let full = ltb-false (length t) room e in
        simp (length-take-le room t full, le-ltb room room (omega arith)) (sym (take-append-le room t (b ∷ []) full))
