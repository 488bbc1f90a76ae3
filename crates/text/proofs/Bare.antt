-- A line without its carriage return: the last byte goes where it is one, and no other. It is the start of the line, and one byte shorter at the most.
-- Assumes nothing.
use Prim.Native.Nat.{ℕ, suc, ◌-◌, ◌≤◌}
use Prim.Native.Char.{code}
use native.Mathlib.Omega.{arith}
use mathlib.Core.Path.{◌≡◌, refl}
use mathlib.Core.Bool.{Bool, true, false, cond}
use mathlib.Core.List.{List, [], ◌∷◌, ◌++◌}
use borrow.Author.Tests.{eq-eqb, ne_eqb}
use lib.Dec.{eqb}
use lib.ListN.{length, get_or, take, length-append}
use lib.Seq.{length-take-le, take_all, take_at, get_or_at}
use Rattle.text.specs.Lines.{bare_of}

-- the definition, by a line's last byte
module _ (l : List ℕ) (c : ℕ) where
  before_last : length (l ++ (c ∷ [])) - 1 ≡ length l
  before_last = simp length-append (omega arith)

  pub bare_return : c ≡ code "\r" → bare_of (l ++ (c ∷ [])) ≡ l
  unfolding bare_of
  bare_return e = simp (before_last, get_or_at l c [] 0 (length l) refl, eq-eqb c 13 e, take_at l (c ∷ []) (length l) refl)

  pub bare_other : (c ≡ code "\r" → ⊥) → bare_of (l ++ (c ∷ [])) ≡ l ++ (c ∷ [])
  unfolding bare_of
  bare_other n = simp (before_last, get_or_at l c [] 0 (length l) refl, ne_eqb c 13 n)

module _ (line : List ℕ) where
  short : length (take (length line - 1) line) ≡ length line - 1
  short = length-take-le (length line - 1) line (omega arith)

  pub bare_long : length line ≤ suc (length (bare_of line))
  unfolding bare_of
  bare_long = go (eqb (get_or line (length line - 1) 0) 13)
    where
      go : (b : Bool) → length line ≤ suc (length (cond b (take (length line - 1) line) line))
      go true = simp short (omega arith)
      go false = omega arith

  pub bare_within : length (bare_of line) ≤ length line
  unfolding bare_of
  bare_within = go (eqb (get_or line (length line - 1) 0) 13)
    where
      go : (b : Bool) → length (cond b (take (length line - 1) line) line) ≤ length line
      go true = simp short (omega arith)
      go false = omega arith

  pub bare_start : take (length (bare_of line)) line ≡ bare_of line
  unfolding bare_of
  bare_start = go (eqb (get_or line (length line - 1) 0) 13)
    where
      go : (b : Bool) → take (length (cond b (take (length line - 1) line) line)) line ≡ cond b (take (length line - 1) line) line
      go true = rw short
      go false = take_all (length line) line (omega arith)
