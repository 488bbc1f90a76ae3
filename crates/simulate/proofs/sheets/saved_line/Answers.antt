-- 548 digits fill the blanks between `saved` and the newline.
use Rattle.std.proofs.Common.{◌≡◌, ℕ, ◌≤◌, List, [], ◌∷◌, ◌++◌, length, take, replicate, ap, ◌∙◌, arith, length-take-le, le-ltb}
use Prim.Native.Char.{code}
use Rattle.hex_digits.specs.Digits.{spelled_on}
use Rattle.text.specs.Text.{text}
use Rattle.simulate.specs.Sheets.{saved_line_of}
use Rattle.simulate.proofs.Digits.{filled}
use Rattle.simulate.proofs.sheets.saved_line.Goals as goal

spelled : (space digits : List ℕ) → 274 ≤ length space → digits ≡ spelled_on (replicate 548 (code " ")) (take 274 space)
    → text "saved " ++ (digits ++ (code "\n" ∷ [])) ≡ saved_line_of space
unfolding saved_line_of
spelled space digits room e =
    let sheet : length (take 274 space) ≡ 274 = length-take-le 274 space room in
    simp (le-ltb (length space) 274 room)
    (ap (λ (l : List ℕ). text "saved " ++ (l ++ (code "\n" ∷ []))) (e ∙ filled (replicate 548 (code " ")) (take 274 space) (omega arith)))

pub returns : goal.returns
returns c = rw c.copy_from_slice.ensures.after (spelled c.args.space.now c.spell.new.text c.if-space-lt274.false (rw c.copy_from_slice.ensures.after at c.spell.ensures))
