-- A text does what its lines do, one after another, in whatever pieces it comes, where what is kept of a line does what the line does.
-- By induction over the bytes, with the start of a line carried along.
-- Assumes nothing.
use Prim.Native.Nat.{ℕ, ◌<◌}
use Prim.Native.Char.{code}
use mathlib.Core.Bool.{Bool, true, false}
use mathlib.Core.List.{List, [], ◌∷◌, ◌++◌, append-nil, flatten}
use mathlib.Core.Path.{◌≡◌, refl, sym, ◌∙◌}
use native.Mathlib.Omega.{arith}
use borrow.Author.Tests.{ne_eqb}
use lib.Dec.{eqb}
use lib.ListN.{length, take, length-take}
use lib.Seq.{take-nil}
use Rattle.text.specs.Reading.{Progress, lines_of, closed_of, heard_of, read_of, pieces_of, after_all}
use Rattle.text.proofs.Begun.{joined, joined_none, joined_one, kept}

module _ {S : Type 0} (obeyed : S → List ℕ → S) (room : ℕ) where
  pub pieces : (p : Progress S) (a b : List ℕ) → read_of obeyed room p (a ++ b) ≡ read_of obeyed room (read_of obeyed room p a) b
  unfolding read_of
  pieces p [] b = refl
  pieces p (x ∷ a) b = pieces (heard_of obeyed room p x) a b

  pub in_pieces : (p : Progress S) (ps : List (List ℕ)) → pieces_of obeyed room p ps ≡ read_of obeyed room p (flatten ps)
  unfolding read_of flatten
  in_pieces p [] = refl
  in_pieces p (a ∷ ps) = in_pieces (read_of obeyed room p a) ps ∙ sym (pieces p a (flatten ps))

  module _ (same : (s : S) (l : List ℕ) → obeyed s (take room l) ≡ obeyed s l) (some : 0 < room) where
    closed : (s : S) (t : List ℕ) → closed_of obeyed (record { state = s; text = take room t }) ≡ after_all obeyed s (joined t [])
    unfolding closed_of
    closed s [] = simp take-nil
    closed s (b ∷ t) = simp (ne_eqb (length (take room (b ∷ t))) 0 (λ e. omega (arith, length-take room (b ∷ t))), same)

    -- what reading on comes to, where `t` is the start of a line
    abbrev Right : S → List ℕ → List ℕ → Type 0
    Right s t bytes = closed_of obeyed (read_of obeyed room (record { state = s; text = take room t }) bytes) ≡ after_all obeyed s (joined t (lines_of bytes))

    step : (b : ℕ) (bs : List ℕ) → ((s : S) (t : List ℕ) → Right s t bs) → (s : S) (t : List ℕ) → Right s t (b ∷ bs)
    unfolding read_of
    step b bs on s t = go (eqb b (code "\n")) refl
      where
        go : (x : Bool) → eqb b (code "\n") ≡ x → Right s t (b ∷ bs)
        go true e = simp (e, same, append-nil) (simp (take-nil, joined_none) at (on (obeyed s t) []))
        go false e = simp (e, kept, joined_one) (on s (t ++ (b ∷ [])))

    after : (s : S) (t bytes : List ℕ) → Right s t bytes
    unfolding read_of
    after s t [] = closed s t
    after s t (b ∷ bs) = step b bs (λ u k. after u k bs) s t

    -- the whole text, from its start
    pub text_read : (s : S) (bytes : List ℕ)
        → closed_of obeyed (read_of obeyed room (record { state = s; text = [] }) bytes) ≡ after_all obeyed s (lines_of bytes)
    text_read s bytes = simp (take-nil, joined_none) at (after s [] bytes)
