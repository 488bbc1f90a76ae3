-- What each byte of a piece adds to the line that it is taken into: the tests on the byte say which case of the definitions holds.
-- Assumes nothing.
use Prim.Native.Nat.{ℕ, suc, ◌+◌, ◌-◌, ◌≤◌, ◌<◌, min}
use Prim.Native.Char.{code}
use mathlib.Core.Bool.{Bool, true, false, cond}
use mathlib.Core.List.{List, [], ◌∷◌}
use mathlib.Core.Path.{◌≡◌, refl, ◌∙◌}
use native.Mathlib.Omega.{arith}
use native.Mathlib.Numerals.{add-one}
use borrow.Author.Tests.{eq-eqb, ne_eqb}
use lib.ListN.{length, drop, get_or, set, length-set, drop_of_length-le}
use lib.Seq.{drop-cons, set_out}
use Rattle.text.specs.declared.lines.Taken.{Taken}
use Rattle.text.specs.Lines.{front_of, ends_of, filled_of}

-- past the end of the line nothing is stored
pub filled_out : (line : List ℕ) (kept : ℕ) (bs : List ℕ) → length line ≤ kept → filled_of line kept bs ≡ line
filled_out line kept [] h = refl
filled_out line kept (b ∷ bs) h = rw (set_out line kept b h) (filled_out line (suc kept) bs (omega arith))

pub length_filled : (line : List ℕ) (kept : ℕ) (bs : List ℕ) → length (filled_of line kept bs) ≡ length line
length_filled line kept [] = refl
length_filled line kept (b ∷ bs) = length_filled (set line kept b) (suc kept) bs ∙ length-set line kept b

-- what is taken of the rest of a piece that starts at the place `at`, and the line then
abbrev pub taken_at : ℕ → ℕ → ℕ → List ℕ → Taken
taken_at room kept at rest =
    let n = length (front_of rest) in
    record { kept = kept + min n (room - kept); at = at + n + cond (ends_of rest) 1 0; ended = ends_of rest }

-- the parts make the whole
whole : {k m i j : ℕ} (e : Bool) → k ≡ m → i ≡ j
    → ◌≡◌ {A = Taken} (record { kept = k; at = i; ended = e }) (record { kept = m; at = j; ended = e })
whole e p q = rw (p, q)

module _ (room : ℕ) (line : List ℕ) (k at : ℕ) (rest : List ℕ) (i : ℕ) where
  pub past : length rest ≤ i
      → (record { kept = k; at = at; ended = false } ≡ taken_at room k at (drop i rest)) × (line ≡ filled_of line k (front_of (drop i rest)))
  past h = (simp (drop_of_length-le rest h) (whole false (omega arith) (omega arith)), simp (drop_of_length-le rest h))

  module _ (h : i < length rest) where
    pub newline : get_or rest i 0 ≡ code "\n"
        → (record { kept = k; at = at + 1; ended = true } ≡ taken_at room k at (drop i rest)) × (line ≡ filled_of line k (front_of (drop i rest)))
    newline e =
        (simp (drop-cons rest i 0 h, eq-eqb _ _ e) (whole true (omega arith) (omega arith)), simp (drop-cons rest i 0 h, eq-eqb _ _ e))

    module _ (n : get_or rest i 0 ≡ code "\n" → ⊥) where
      pub stored : k < room
          → (taken_at room (k + 1) (at + 1) (drop (i + 1) rest) ≡ taken_at room k at (drop i rest))
          × (filled_of (set line k (get_or rest i 0)) (k + 1) (front_of (drop (i + 1) rest)) ≡ filled_of line k (front_of (drop i rest)))
      stored l = (
        simp (add-one, drop-cons rest i 0 h, ne_eqb _ _ n) (whole _ (omega arith) (omega arith)),
        simp (add-one, drop-cons rest i 0 h, ne_eqb _ _ n),
      )

      pub dropped : room ≤ k → length line ≤ k
          → (taken_at room k (at + 1) (drop (i + 1) rest) ≡ taken_at room k at (drop i rest))
          × (filled_of line k (front_of (drop (i + 1) rest)) ≡ filled_of line k (front_of (drop i rest)))
      dropped l m = (
        simp (add-one, drop-cons rest i 0 h, ne_eqb _ _ n) (whole _ (omega arith) (omega arith)),
        simp (filled_out line k (front_of (drop (i + 1) rest)) m, filled_out line k (front_of (drop i rest)) m),
      )
