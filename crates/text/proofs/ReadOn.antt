-- What a program's loop over the lines of a piece needs: how far the text is read after what `Kept::take_in` takes, and with each line ended.
-- By induction over what is left of the piece.
-- Assumes nothing.
use Prim.Native.Nat.{ℕ, ◌+◌, ◌-◌, ◌≤◌, ◌<◌}
use Prim.Native.Char.{code}
use mathlib.Core.Bool.{Bool, true, false, cond}
use mathlib.Core.List.{List, [], ◌∷◌}
use mathlib.Core.Path.{◌≡◌, refl, ap, sym, ◌∙◌}
use native.Mathlib.Omega.{arith}
use native.Mathlib.Nat.{suc-add}
use lib.Dec.{eqb}
use lib.ListN.{length, drop, length-drop}
use lib.Seq.{drop-drop}
use Rattle.std.specs.Prelude.{Some, None}
use Rattle.text.specs.Lines.{front_of, ends_of}
use Rattle.text.specs.Keeping.{all_kept, kept_after, next_of}
use Rattle.text.specs.Reading.{Progress, ended_of, read_of}

-- the next newline is one of what is left, and takes one byte more
size : (rest : List ℕ) → ends_of rest ≡ true → length (front_of rest) + 1 ≤ length rest
size [] e = absurd (cc)
size (b ∷ bs) e = go (eqb b (code "\n")) refl (size bs)
  where
    go : (t : Bool) → eqb b (code "\n") ≡ t → (ends_of bs ≡ true → length (front_of bs) + 1 ≤ length bs) → length (front_of (b ∷ bs)) + 1 ≤ length (b ∷ bs)
    go true h on = simp h (omega arith)
    go false h on = let k = on (simp h at e) in simp h (omega arith)

module _ {S : Type 0} (obeyed : S → List ℕ → S) (room : ℕ) (s : S) where
  abbrev at : List ℕ → Progress S
  at text = record { state = s; text = text }

  up_to : (text rest : List ℕ) → ends_of rest ≡ true
      → read_of obeyed room (at text) rest
      ≡ read_of obeyed room (ended_of obeyed (at (all_kept room text (front_of rest)))) (drop (length (front_of rest) + 1) rest)
  unfolding read_of
  up_to text [] e = absurd (cc)
  up_to text (b ∷ bs) e = go (eqb b (code "\n")) refl (λ t. up_to t bs)
    where
      go : (t : Bool) → eqb b (code "\n") ≡ t
          → ((t : List ℕ) → ends_of bs ≡ true
          → read_of obeyed room (at t) bs ≡ read_of obeyed room (ended_of obeyed (at (all_kept room t (front_of bs)))) (drop (length (front_of bs) + 1) bs))
          → read_of obeyed room (at text) (b ∷ bs)
          ≡ read_of obeyed room (ended_of obeyed (at (all_kept room text (front_of (b ∷ bs))))) (drop (length (front_of (b ∷ bs)) + 1) (b ∷ bs))
      go true h on = simp h
      go false h on = simp (h, suc-add) (on _ (simp h at e))

  to_end : (text rest : List ℕ) → ends_of rest ≡ false → read_of obeyed room (at text) rest ≡ at (all_kept room text (front_of rest))
  unfolding read_of
  to_end text [] e = refl
  to_end text (b ∷ bs) e = go (eqb b (code "\n")) refl (λ t. to_end t bs)
    where
      go : (t : Bool) → eqb b (code "\n") ≡ t
          → ((t : List ℕ) → ends_of bs ≡ false → read_of obeyed room (at t) bs ≡ at (all_kept room t (front_of bs)))
          → read_of obeyed room (at text) (b ∷ bs) ≡ at (all_kept room text (front_of (b ∷ bs)))
      go true h on = let k : true ≡ false = simp h at e in absurd (cc)
      go false h on = simp h (on _ (simp h at e))

-- where the piece goes on
newline : (piece : List ℕ) (from next : ℕ) → Some next ≡ next_of piece from
    → (ends_of (drop from piece) ≡ true) × (next ≡ from + (length (front_of (drop from piece)) + 1))
unfolding next_of
newline piece from next e = go (ends_of (drop from piece)) refl e
  where
    go : (t : Bool) → ends_of (drop from piece) ≡ t → Some next ≡ cond t (Some (from + length (front_of (drop from piece)) + 1)) None
        → (ends_of (drop from piece) ≡ true) × (next ≡ from + (length (front_of (drop from piece)) + 1))
    go true h k = let n : next ≡ from + length (front_of (drop from piece)) + 1 = cc in (h, omega arith)
    go false h k = absurd (cc)

none : (piece : List ℕ) (from : ℕ) → None ≡ next_of piece from → ends_of (drop from piece) ≡ false
unfolding next_of
none piece from e = go (ends_of (drop from piece)) refl e
  where
    go : (t : Bool) → ends_of (drop from piece) ≡ t → None ≡ cond t (Some (from + length (front_of (drop from piece)) + 1)) None
        → ends_of (drop from piece) ≡ false
    go true h k = absurd (cc)
    go false h k = h

-- less of it is left then
pub fewer : (piece : List ℕ) (from next : ℕ) → Some next ≡ next_of piece from → length piece - next < length piece - from
fewer piece from next e =
    let n = newline piece from next e in let k = size (drop from piece) n.0 in let l = length-drop from piece in let m = n.1 in omega arith

module _ {S : Type 0} (obeyed : S → List ℕ → S) (room : ℕ) (s : S) (text piece : List ℕ) (from : ℕ) where
  -- with the line ended, and with the piece at its end
  pub line_read : (next : ℕ) → Some next ≡ next_of piece from
      → read_of obeyed room (at obeyed room s text) (drop from piece)
      ≡ read_of obeyed room (ended_of obeyed (at obeyed room s (kept_after room text piece from))) (drop next piece)
  unfolding kept_after
  line_read next e =
      let n = newline piece from next e in
      let left = ap (λ (k : ℕ). drop k piece) n.1 ∙ sym (drop-drop (length (front_of (drop from piece)) + 1) from piece) in
      rw left (up_to obeyed room s text (drop from piece) n.0)

  pub rest_read : None ≡ next_of piece from
      → read_of obeyed room (at obeyed room s text) (drop from piece) ≡ at obeyed room s (kept_after room text piece from)
  unfolding kept_after
  rest_read e = to_end obeyed room s text (drop from piece) (none piece from e)
