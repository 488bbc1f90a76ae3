-- A stretch of bytes on a line: a call that takes the bytes from a place on and has them heard one after another, up to and with the first that draws a
-- reply. It is asked of any such call, beside the byte call of any system: it is refused as a byte is, and else it is its byte calls.
-- Assumes nothing.
use Rattle.std.specs.Prelude.{ℕ, suc, ◌+◌, ◌≤◌, ◌≡◌, List, [], ◌∷◌, length, Ok}
use Rattle.std.proofs.Math.Option.{some}
use Rattle.line.specs.declared.calls.Line.{Line}
use Rattle.line.specs.declared.calls.Stretch.{Stretch}
use Rattle.demands.specs.Calls.{byte}
use Rattle.demands.specs.Run.{System}
use Rattle.demands.specs.Demand1.{first, rows_for, of_heard}
use Rattle.demands.specs.Lines.{Fits}

-- by line, bytes, the place of the first of them, time and length of the space; and the space after it
abbrev pub Until : Type 0
Until = Line → List ℕ → ℕ → ℕ → ℕ → Stretch

abbrev pub UntilSpace : Type 0
UntilSpace = Line → List ℕ → ℕ → List ℕ → List ℕ

pub record Stretches (m : System) (until : Until) (laid : UntilSpace) : Type 0 where
  -- 20, then 6: the rows of a byte call, whatever the byte; refused, line and space are as they were, and the next byte is the first
  pub number : (l : Line) (bs : List ℕ) (b from at : ℕ) (space : List ℕ)
      → of_heard (until l bs from at (length space)).heard ≡ first (rows_for (byte b at (length space)) l)
  pub same : (l : Line) (bs : List ℕ) (from at : ℕ) (space : List ℕ) (n : ℕ) → of_heard (until l bs from at (length space)).heard ≡ some n
      → ((until l bs from at (length space)).line ≡ l) × ((until l bs from at (length space)).next ≡ from) × (laid l bs at space ≡ space)
  -- where no byte is left, nothing more comes and nothing changes
  pub none : (l : Line) (from at : ℕ) (space : List ℕ) → Fits l → 10 ≤ length space
      → (until l [] from at (length space) ≡ record { line = l; heard = Ok 0; next = from }) × (laid l [] at space ≡ space)
  -- a byte that draws no reply: it is heard, and then those after it
  pub silent : (l : Line) (b : ℕ) (bs : List ℕ) (from at : ℕ) (space : List ℕ)
      → let k = m.on_line_of.byte l b at (length space) in
      k.heard ≡ Ok 0
      → (until l (b ∷ bs) from at (length space) ≡ until k.line bs (from + 1) at (length space))
      × (laid l (b ∷ bs) at space ≡ laid k.line bs at (m.on_line_of.space l b at space))
  -- a byte that draws a reply or several is the last: line, answer and space are those of its call
  pub last : (l : Line) (b : ℕ) (bs : List ℕ) (from at : ℕ) (space : List ℕ) (n : ℕ)
      → let k = m.on_line_of.byte l b at (length space) in
      k.heard ≡ Ok (suc n)
      → (until l (b ∷ bs) from at (length space) ≡ record { line = k.line; heard = k.heard; next = from + 1 })
      × (laid l (b ∷ bs) at space ≡ m.on_line_of.space l b at space)
