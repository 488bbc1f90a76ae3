-- A list of telegrams does what its lines do, one after another, and is answered as they are, in whatever pieces it comes and however long its lines
-- are: of a line that is too long what is kept is too long as well.
-- Assumes nothing.
use Rattle.std.proofs.Common.{◌≡◌, ℕ, List, [], ◌∷◌, ◌++◌, take, sym, ap, ◌∙◌, append_assoc, append-nil, arith}
use mathlib.Core.List.{flatten}
use Rattle.state.specs.declared.parts.Head.{Head}
use Rattle.text.specs.Reading.{lines_of, closed_of, pieces_of, after_all}
use Rattle.text.proofs.Kept.{start_does}
use Rattle.text.proofs.Pieces.{in_pieces, text_read}
use Rattle.script.proofs.Listed.{too_long}
use Rattle.office.specs.Answer.{error_line}
use Rattle.office.specs.Desk.{obeyed_of, answer_to}
use Rattle.office.specs.Reading.{State, number_of, noted_of, answered_of, answers_of, Told, told_of, most}

-- what is kept of a line does what the line does, and is answered as the line is
does : (h : Head) (line : List ℕ) → obeyed_of h (take most line) ≡ obeyed_of h line
unfolding obeyed_of
does h = start_does (obeyed_of h) most h (λ line long. simp (too_long line (omega arith)))

says : (h : Head) (number : ℕ) (line : List ℕ) → answer_to h (take most line) number ≡ answer_to h line number
unfolding answer_to
says h number = start_does (λ line. answer_to h line number) most (error_line number) (λ line long. simp (too_long line (omega arith)))

noted : (s : State) (line : List ℕ) → noted_of s (take most line) ≡ noted_of s line
noted s line = rw (does s.head line)

told : (t : Told) (line : List ℕ) → told_of t (take most line) ≡ told_of t line
told t line = rw (does t.state.head line, says t.state.head (number_of t.state) line)

-- a list: what the program holds after it
pub list_read : (s : State) (pieces : List (List ℕ))
    → closed_of noted_of (pieces_of noted_of most (record { state = s; text = [] }) pieces) ≡ after_all noted_of s (lines_of (flatten pieces))
list_read s pieces = rw (in_pieces noted_of most) (text_read noted_of most noted (omega arith) s (flatten pieces))

-- and what was written for it: the answers of its lines, one after another
told_all : (t : Told) (ls : List (List ℕ)) → (after_all told_of t ls).said ≡ t.said ++ answers_of t.state ls
told_all t [] = sym (append-nil t.said)
told_all t (l ∷ ls) = told_all (told_of t l) ls ∙ append_assoc t.said (answered_of t.state l) (answers_of (noted_of t.state l) ls)

pub list_answered : (s : State) (pieces : List (List ℕ))
    → (closed_of told_of (pieces_of told_of most (record { state = record { state = s; said = [] }; text = [] }) pieces)).said
    ≡ answers_of s (lines_of (flatten pieces))
list_answered s pieces =
    let start : Told = record { state = s; said = [] } in
    rw (in_pieces told_of most)
    (ap (λ (t : Told). t.said) (text_read told_of most told (omega arith) start (flatten pieces)) ∙ told_all start (lines_of (flatten pieces)))
