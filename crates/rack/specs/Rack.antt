-- A rack of telegrams in one call (document 02, request (x)). Each head first drops the bytes it has gathered; then the bytes are fed to that line one at
-- a time, all at the given time, each by the line's own byte call with ten bytes of space of its own. A byte that draws just one reply has it laid,
-- after those before it; two or more are a collision, which lays nothing and is counted once.
-- Assumes nothing.
use Rattle.std.specs.Prelude.{ℕ, zero, suc, ◌+◌, ◌-◌, ◌%◌, Bool, ◌&&◌, List, [], ◌∷◌, ◌++◌, leb, eqb, length, take, drop, get_or, replicate, Ok, Err, Result}
use Rattle.state.specs.declared.parts.Head.{Head}
use Rattle.state.specs.declared.parts.Ear.{Ear}
use Rattle.state.specs.With.{with_ear}
use Rattle.effects.specs.Restart.{empty_ear}
use Rattle.head.specs.declared.refusal.Refusal.{Refusal}
use Rattle.head.specs.declared.refusal.Refusal.TheVariants.{Malformed, RackLength, RackSpace}
use Rattle.head.specs.Calls.{Tests, guarded, laid_on_of}
use Rattle.line.specs.declared.calls.Line.{Line}
use Rattle.line.specs.Round.{each}
use Rattle.line.specs.Calls.{fits_of, byte_of, byte_space_of}
use Rattle.rack.specs.declared.Racked.{Racked}

-- not 15: a multiple of ten, and 640 at most
unfoldable pub is_rack : ℕ → Bool
is_rack n = eqb (n % 10) 0 && leb n 640

-- not 16: the place is in the space or at its end, and from there on are as many bytes as the input has
unfoldable pub room_for : ℕ → ℕ → ℕ → Bool
room_for n room place = leb place room && leb n (room - place)

-- each head of a line with these bytes gathered; with none
abbrev pub eared : Line → Ear → Line
eared l e = record { heads = each (λ (h : Head). with_ear h e) l.count l.heads; count = l.count }

unfoldable pub dropped_of : Line → ℕ → Line
dropped_of l at = eared l (empty_ear at)

-- ---- bytes fed one at a time: the line after them, the replies that are laid, in their order, and the collisions
pub record Fed : Type 0 where
  pub line : Line
  pub laid : List (List ℕ)
  pub collisions : ℕ

-- what a byte call drew, and then what the bytes after it came to: just one reply is laid before theirs, two or more are one collision
abbrev pub drawing : Result ℕ Refusal → List ℕ → Fed → Fed
drawing (Ok zero) ten f = f
drawing (Ok (suc zero)) ten f = record { line = f.line; laid = ten ∷ f.laid; collisions = f.collisions }
drawing (Ok (suc (suc n))) ten f = record { line = f.line; laid = f.laid; collisions = suc f.collisions }
drawing (Err why) ten f = f

unfoldable pub fed_of : Line → List ℕ → ℕ → Fed
fed_of l [] at = record { line = l; laid = []; collisions = 0 }
fed_of l (b ∷ bs) at = drawing (byte_of l b at 10).heard (byte_space_of l b at (replicate 10 0)) (fed_of (byte_of l b at 10).line bs at)

-- the ten bytes from a place on
abbrev pub ten_at : List ℕ → ℕ → List ℕ
ten_at bs j =
    get_or bs j 0 ∷ get_or bs (j + 1) 0 ∷ get_or bs (j + 2) 0 ∷ get_or bs (j + 3) 0 ∷ get_or bs (j + 4) 0 ∷ get_or bs (j + 5) 0 ∷ get_or bs (j + 6) 0
    ∷ get_or bs (j + 7) 0 ∷ get_or bs (j + 8) 0 ∷ get_or bs (j + 9) 0 ∷ []

-- ---- replies laid one after another
-- one at a place, where there is room for it
unfoldable pub laid_at : List ℕ → ℕ → List ℕ → List ℕ
laid_at space place ten = take place space ++ laid_on_of (drop place space) ten

unfoldable pub laid_from : List (List ℕ) → ℕ → List ℕ → List ℕ
laid_from [] place space = space
laid_from (r ∷ rs) place space = laid_from rs (place + 10) (laid_at space place r)

-- replies as they stand one after another
abbrev pub joined : List (List ℕ) → List ℕ
joined [] = []
joined (r ∷ rs) = r ++ joined rs

-- from the place on; the bytes before it and after the last reply are as they were
abbrev pub filled : List (List ℕ) → ℕ → List ℕ → List ℕ
filled rs place space = take place space ++ (joined rs ++ drop (place + length (joined rs)) space)

-- ---- the call: 20, then 15, then 16; refused, nothing is done
abbrev pub refused_with : Line → Refusal → Racked
refused_with l why = record { line = l; answer = Err why }

abbrev pub racked : Fed → Racked
racked f = record { line = f.line; answer = Ok (record { replies = length f.laid; collisions = f.collisions }) }

abbrev pub rack_tests : Line → ℕ → ℕ → ℕ → Tests
rack_tests l n room place = (fits_of l, Malformed) ∷ (is_rack n, RackLength) ∷ (room_for n room place, RackSpace) ∷ []

unfoldable pub rack_of : Line → List ℕ → ℕ → ℕ → ℕ → Racked
rack_of l bs at room place = guarded (refused_with l) (rack_tests l (length bs) room place) (racked (fed_of (dropped_of l at) bs at))

unfoldable pub rack_space_of : Line → List ℕ → ℕ → List ℕ → ℕ → List ℕ
rack_space_of l bs at space place =
    guarded (λ why. space) (rack_tests l (length bs) (length space) place) (filled (fed_of (dropped_of l at) bs at).laid place space)
