-- The lines of a text are what its newlines end, and one more where something stands after the last newline.
-- Assumes nothing.
use Prim.Native.Nat.{ℕ}
use Prim.Native.Char.{code}
use mathlib.Core.List.{List, [], ◌∷◌, ◌++◌}
use mathlib.Core.Path.{◌≡◌, refl}
use borrow.Author.Tests.{ne_eqb}
use Rattle.text.specs.Reading.{lines_of}

-- no byte is a newline, and none of any line
abbrev pub Plain : List ℕ → Type 0
Plain [] = Unit {0}
Plain (b ∷ bs) = (b ≡ code "\n" → ⊥) × Plain bs

abbrev pub AllPlain : List (List ℕ) → Type 0
AllPlain [] = Unit {0}
AllPlain (l ∷ ls) = Plain l × AllPlain ls

-- the lines, each with its newline, and then what stands after the last
abbrev pub written : List (List ℕ) → List ℕ → List ℕ
written [] last = last
written (l ∷ ls) last = l ++ (code "\n" ∷ written ls last)

abbrev pub last_of : List ℕ → List (List ℕ)
last_of [] = []
last_of (b ∷ bs) = (b ∷ bs) ∷ []

one_line : (l rest : List ℕ) → Plain l → lines_of (l ++ (code "\n" ∷ rest)) ≡ l ∷ lines_of rest
one_line [] rest p = refl
one_line (b ∷ l) rest p = simp (ne_eqb b 10 p.0, one_line l rest p.1)

last_line : (l : List ℕ) → Plain l → lines_of l ≡ last_of l
last_line [] p = refl
last_line (b ∷ []) p = simp (ne_eqb b 10 p.0)
last_line (b ∷ c ∷ l) p = simp (ne_eqb b 10 p.0) (rw (last_line (c ∷ l) p.1))

pub lines_written : (ls : List (List ℕ)) (last : List ℕ) → AllPlain ls → Plain last → lines_of (written ls last) ≡ ls ++ last_of last
lines_written [] last p q = last_line last q
lines_written (l ∷ ls) last p q = simp (one_line l (written ls last) p.0, lines_written ls last p.1 q)
