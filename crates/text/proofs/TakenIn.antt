-- What `lines::take_in` leaves at the start of a line is what is kept of it, byte for byte, and less of the piece is left: by induction over the bytes that are taken.
-- Assumes nothing.
use Prim.Native.Nat.{ℕ, suc, ◌+◌, ◌-◌, ◌≤◌, ◌<◌, min}
use Prim.Native.Char.{code}
use mathlib.Core.Bool.{Bool, true, false, cond}
use mathlib.Core.List.{List, [], ◌∷◌}
use mathlib.Core.Path.{◌≡◌, refl}
use native.Mathlib.Omega.{arith}
use borrow.Author.Tests.{ltb-true, ltb-false}
use lib.Dec.{eqb, ltb}
use lib.ListN.{length, take, drop, set, length-set, length-drop}
use lib.Seq.{length-take-le, take-suc-set}
use Rattle.std.specs.Prelude.{Some, None}
use Rattle.text.specs.declared.lines.Taken.{Taken}
use Rattle.text.specs.Lines.{front_of, ends_of, taken_of, filled_of}
use Rattle.text.specs.Keeping.{all_kept, kept_after, next_of}
use Rattle.text.proofs.Filled.{filled_out}

-- what is kept of a line after bytes of it
abbrev text_of : List ℕ → ℕ → List ℕ → List ℕ
text_of line kept bs = take (kept + min (length bs) (length line - kept)) (filled_of line kept bs)

none : (line : List ℕ) (kept : ℕ) → text_of line kept [] ≡ take kept line
none line kept = let e : kept + min 0 (length line - kept) ≡ kept = omega arith in rw e refl

full : (line : List ℕ) (kept : ℕ) (bs : List ℕ) → length line ≤ kept → text_of line kept bs ≡ take kept line
full line kept bs h =
    let e : kept + min (length bs) (length line - kept) ≡ kept = omega arith in
    rw (filled_out line kept bs h, e) refl

stored : (line : List ℕ) (kept b : ℕ) (bs : List ℕ) → kept < length line → text_of line kept (b ∷ bs) ≡ text_of (set line kept b) (suc kept) bs
stored line kept b bs h =
    let e : kept + min (suc (length bs)) (length line - kept) ≡ suc kept + min (length bs) (length line - suc kept) = omega arith in
    rw e (simp length-set)

stored_kept : (room : ℕ) (line : List ℕ) (kept b : ℕ) (bs : List ℕ) → length line ≡ room → kept ≤ room
    → ((l : List ℕ) (k : ℕ) → length l ≡ room → k ≤ room → text_of l k bs ≡ all_kept room (take k l) bs)
    → text_of line kept (b ∷ bs) ≡ all_kept room (take kept line) (b ∷ bs)
stored_kept room line kept b bs is fits on = go (ltb kept room) refl
  where
    go : (t : Bool) → ltb kept room ≡ t → text_of line kept (b ∷ bs) ≡ all_kept room (take kept line) (b ∷ bs)
    go true e =
        let less = ltb-true kept room e in
        simp (stored line kept b bs (omega arith), length-take-le kept line (omega arith), e, ← take-suc-set line kept b (omega arith))
        (on (set line kept b) (suc kept) (simp length-set is) (omega arith))
    go false e =
        let past = ltb-false kept room e in
        simp (full line kept (b ∷ bs) (omega arith), length-take-le kept line (omega arith), e)
        (simp (full line kept bs (omega arith)) at (on line kept is fits))

kept_is : (room : ℕ) (line : List ℕ) (kept : ℕ) (bs : List ℕ) → length line ≡ room → kept ≤ room → text_of line kept bs ≡ all_kept room (take kept line) bs
kept_is room line kept [] is fits = none line kept
kept_is room line kept (b ∷ bs) is fits = stored_kept room line kept b bs is fits (λ l k. kept_is room l k bs)

-- after a call with the result `r` and the line `next`
module _ (room : ℕ) (line : List ℕ) (kept : ℕ) (piece : List ℕ) (from : ℕ) (is : length line ≡ room) (fits : kept ≤ room) {r : Taken}
    (taken : r ≡ taken_of (length line) kept piece from) where
  pub fit : r.kept ≤ room
  unfolding taken_of
  fit = rw taken (omega arith)

  pub left : {next : List ℕ} → next ≡ filled_of line kept (front_of (drop from piece)) → take r.kept next ≡ kept_after room (take kept line) piece from
  unfolding taken_of kept_after
  left filled = rw (taken, filled) (kept_is room line kept (front_of (drop from piece)) is fits)

  pub on : r.ended ≡ true → Some r.at ≡ next_of piece from
  unfolding taken_of next_of
  on e = let is_end : ends_of (drop from piece) ≡ true = rw taken at e in rw taken (simp is_end)

  pub over : r.ended ≡ false → None ≡ next_of piece from
  unfolding taken_of next_of
  over e = let no_end : ends_of (drop from piece) ≡ false = rw taken at e in simp no_end

-- of what is left something is taken
some : (rest : List ℕ) → 0 < length rest → 0 < length (front_of rest) + cond (ends_of rest) 1 0
some [] h = absurd (omega arith)
some (b ∷ bs) h = go (eqb b (code "\n")) refl
  where
    go : (t : Bool) → eqb b (code "\n") ≡ t → 0 < length (front_of (b ∷ bs)) + cond (ends_of (b ∷ bs)) 1 0
    go true e = simp e (omega arith)
    go false e = simp e (omega arith)

-- so less of the piece is left, whether a newline was found or not
pub fewer : {r : Taken} (room kept : ℕ) (piece : List ℕ) (from : ℕ) → r ≡ taken_of room kept piece from → from < length piece
    → length piece - r.at < length piece - from
unfolding taken_of
fewer room kept piece from taken h = let k = some (drop from piece) (simp length-drop (omega arith)) in rw taken (omega arith)
