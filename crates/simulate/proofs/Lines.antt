-- A script does what its lines do, one after another, in whatever pieces it comes, and however long its lines are: of a line that is too long
-- what is kept is too long as well.
-- Assumes nothing.
use Rattle.std.proofs.Common.{◌≡◌, ℕ, List, [], ◌∷◌, take, refl, ap, ◌∙◌, arith}
use mathlib.Core.List.{flatten}
use Rattle.text.specs.Reading.{lines_of, closed_of, pieces_of, after_all}
use Rattle.text.proofs.Pieces.{in_pieces, text_read}
use Rattle.text.proofs.Kept.{start_does}
use Rattle.script.proofs.Told.{too_long}
use Rattle.simulate.specs.declared.desk.Desk.{Desk}
use Rattle.simulate.specs.Desk.{obeyed_of}
use Rattle.simulate.specs.Reading.{State, noted_of, most}

-- what is kept of a line means what the line means
meant : (d : Desk) (line : List ℕ) → obeyed_of d (take most line) ≡ obeyed_of d line
unfolding obeyed_of
meant d = start_does (obeyed_of d) most d (λ line long. simp (too_long line (omega arith)))

noted : (s : State) (line : List ℕ) → noted_of s (take most line) ≡ noted_of s line
noted s line = rw (meant s.desk line)

-- the count of lines changes nothing on the desk
desk_after : (s : State) (ls : List (List ℕ)) → (after_all noted_of s ls).desk ≡ after_all obeyed_of s.desk ls
desk_after s [] = refl
desk_after s (l ∷ ls) = desk_after (noted_of s l) ls

-- a script
pub script_read : (s : State) (pieces : List (List ℕ))
    → (closed_of noted_of (pieces_of noted_of most (record { state = s; text = [] }) pieces)).desk ≡ after_all obeyed_of s.desk (lines_of (flatten pieces))
script_read s pieces =
    rw (in_pieces noted_of most)
    (ap (λ (r : State). r.desk) (text_read noted_of most noted (omega arith) s (flatten pieces)) ∙ desk_after s (lines_of (flatten pieces)))
