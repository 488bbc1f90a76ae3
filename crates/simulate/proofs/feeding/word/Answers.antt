-- Twenty digits fill the 20 blanks after the first.
use Rattle.std.proofs.Common.{◌≡◌, ℕ, ◌≤◌, List, [], ◌∷◌, ◌++◌, length, take, replicate, ap, ◌∙◌, append-nil, arith, length-take-le, le-ltb}
use Prim.Native.Char.{code}
use Rattle.hex_digits.specs.Digits.{digits_of, spelled_on}
use Rattle.simulate.specs.Feeding.{word_of}
use Rattle.simulate.proofs.Digits.{filled}
use Rattle.simulate.proofs.feeding.word.Goals as goal

spelled : (space text : List ℕ) → 10 ≤ length space → text ≡ spelled_on (replicate 20 (code " ")) (take 10 space) → code " " ∷ (text ++ []) ≡ word_of space
unfolding word_of
spelled space text room e =
    let ten : length (take 10 space) ≡ 10 = length-take-le 10 space room in
    simp (le-ltb (length space) 10 room)
    (ap (λ (l : List ℕ). code " " ∷ (l ++ [])) (e ∙ filled (replicate 20 (code " ")) (take 10 space) (omega arith))
    ∙ ap (λ (l : List ℕ). code " " ∷ l) (append-nil (digits_of (take 10 space))))

pub returns : goal.returns
returns c = spelled c.args.space.now c.spell.new.text c.if-space-lt10.false c.spell.ensures
