-- A rack of telegrams in one call (document 02, request (x)), asked of any system beside its own byte calls: each head first drops the bytes it has
-- gathered; then the results equal feeding the bytes one at a time, all at the given time, to that line. The replies are laid one after another from a
-- place that the caller names; bytes before it and after the last reply keep their content. A collision lays nothing and is counted. Which racks are
-- refused, and that a refused one does nothing: Demand1, `line_rack` and `rack_same`.
-- Assumes nothing.
use Rattle.std.specs.Prelude.{ℕ, zero, suc, ◌+◌, ◌-◌, ◌*◌, ◌%◌, ◌<◌, ◌≤◌, ◌≡◌, List, [], ◌∷◌, ◌++◌, length, take, drop, replicate, Ok, Err, Result}
use Rattle.state.specs.declared.parts.Head.{Head}
use Rattle.line.specs.declared.calls.Line.{Line}
use Rattle.line.specs.Calls.{head_at}
use Rattle.demands.specs.Run.{OnLine, System, with_ear}
use Rattle.demands.specs.Lines.{Fits}
use Rattle.head.specs.declared.refusal.Refusal.{Refusal}

-- ---- a rack that is not refused: neither 20 nor 15 nor 16
pub record Taken (l : Line) (bs : List ℕ) (room place : ℕ) : Type 0 where
  pub line : Fits l
  pub tens : length bs % 10 ≡ 0
  pub most : length bs ≤ 640
  pub within : place ≤ room
  pub room_left : length bs ≤ room - place

-- ---- bytes fed one at a time by the line's byte call, all at one time, each with ten bytes of space of its own: the line after them
abbrev pub fed : OnLine → Line → List ℕ → ℕ → Line
fed m l [] t = l
fed m l (b ∷ bs) t = fed m (m.byte l b t 10).line bs t

-- and what each drew: the answer to it, and its space
pub record Drawn : Type 0 where
  pub heard : Result ℕ Refusal
  pub space : List ℕ

abbrev pub drawn : OnLine → Line → List ℕ → ℕ → List Drawn
drawn m l [] t = []
drawn m l (b ∷ bs) t = record { heard = (m.byte l b t 10).heard; space = m.space l b t (replicate 10 0) } ∷ drawn m (m.byte l b t 10).line bs t

-- a reply that is alone is laid; of none, and of several at once, nothing is
abbrev pub lone : Result ℕ Refusal → List ℕ → List (List ℕ)
lone (Ok zero) x = []
lone (Ok (suc zero)) x = x ∷ []
lone (Ok (suc (suc n))) x = []
lone (Err why) x = []

abbrev pub replies : List Drawn → List (List ℕ)
replies [] = []
replies (d ∷ ds) = lone d.heard d.space ++ replies ds

-- two replies or more are one collision, however many heads took part
abbrev pub collided : Result ℕ Refusal → ℕ
collided (Ok zero) = 0
collided (Ok (suc zero)) = 0
collided (Ok (suc (suc n))) = 1
collided (Err why) = 0

abbrev pub collisions : List Drawn → ℕ
collisions [] = 0
collisions (d ∷ ds) = collided d.heard + collisions ds

-- no byte was refused; each reply has ten bytes
abbrev pub AllHeard : List Drawn → Type 0
AllHeard [] = Unit {0}
AllHeard (d ∷ ds) = ((n : ℕ) × (d.heard ≡ Ok n)) × AllHeard ds

abbrev pub Tens : List (List ℕ) → Type 0
Tens [] = Unit {0}
Tens (r ∷ rs) = (length r ≡ 10) × Tens rs

-- ---- replies one after another, from a place of the space on
abbrev pub joined : List (List ℕ) → List ℕ
joined [] = []
joined (r ∷ rs) = r ++ joined rs

abbrev pub laid_at : ℕ → List (List ℕ) → List ℕ → List ℕ
laid_at place rs space = take place space ++ (joined rs ++ drop (place + length (joined rs)) space)

-- ---- a head k that is h with no bytes gathered, and of which nothing else changed (when the last byte was heard, and what stands where none is
-- gathered, may be any: nothing looks at it)
pub record Emptied (h k : Head) : Type 0 where
  pub none : k.ear.count ≡ 0
  pub rest : k ≡ with_ear h k.ear

-- the line at which the feeding begins: that after a rack of no telegram
abbrev pub emptied : OnLine → Line → ℕ → Line
emptied m l t = (m.rack l [] t 0 0).line

pub record Racks (m : System) : Type 0 where
  -- a rack of no telegram drops what is gathered at each head, and does nothing else
  pub drops : (l : Line) (t : ℕ) → Fits l
      → ((emptied m.on_line_of l t).count ≡ l.count) × ((k : ℕ) → k < l.count → Emptied (head_at l k) (head_at (emptied m.on_line_of l t) k))
  -- the line, the answer and the space are those of the byte calls after it
  pub feeds : (l : Line) (bs : List ℕ) (t n p : ℕ) → Taken l bs n p → (m.on_line_of.rack l bs t n p).line ≡ fed m.on_line_of (emptied m.on_line_of l t) bs t
  pub answers : (l : Line) (bs : List ℕ) (t n p : ℕ) → Taken l bs n p
      → let ds = drawn m.on_line_of (emptied m.on_line_of l t) bs t in
      (m.on_line_of.rack l bs t n p).answer ≡ Ok (record { replies = length (replies ds); collisions = collisions ds })
  pub lays : (l : Line) (bs : List ℕ) (t : ℕ) (space : List ℕ) (p : ℕ) → Taken l bs (length space) p
      → m.on_line_of.rack_space l bs t space p ≡ laid_at p (replies (drawn m.on_line_of (emptied m.on_line_of l t) bs t)) space
  -- no byte of it is refused; each reply has ten bytes, and with the collisions they are as many as the telegrams at most, so that the room suffices
  pub heard : (l : Line) (bs : List ℕ) (t n p : ℕ) → Taken l bs n p → AllHeard (drawn m.on_line_of (emptied m.on_line_of l t) bs t)
  pub few : (l : Line) (bs : List ℕ) (t n p : ℕ) → Taken l bs n p
      → let ds = drawn m.on_line_of (emptied m.on_line_of l t) bs t in Tens (replies ds) × (10 * (length (replies ds) + collisions ds) ≤ length bs)
  -- for each telegram, ten bytes after whole ones, one reply at most, or one collision
  pub telegram : (l : Line) (before ten : List ℕ) (t : ℕ) → Fits l → length before % 10 ≡ 0 → length ten ≡ 10
      → let ds = drawn m.on_line_of (fed m.on_line_of (emptied m.on_line_of l t) before t) ten t in length (replies ds) + collisions ds ≤ 1
  -- afterwards the line fits, no byte is gathered at any head, and what stands past the count is as it was
  pub fits : (l : Line) (bs : List ℕ) (t n p : ℕ) → Taken l bs n p → Fits (m.on_line_of.rack l bs t n p).line
  pub none_left : (l : Line) (bs : List ℕ) (t n p : ℕ) → Taken l bs n p
      → (k : ℕ) → k < l.count → (head_at (m.on_line_of.rack l bs t n p).line k).ear.count ≡ 0
  pub spares : (l : Line) (bs : List ℕ) (t n p k : ℕ) → Taken l bs n p → l.count ≤ k → head_at (m.on_line_of.rack l bs t n p).line k ≡ head_at l k
