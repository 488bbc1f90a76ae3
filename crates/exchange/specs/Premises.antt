-- The premises that Exchange defines ask no more than what is written out here: one that asked more would leave cases out, and still be met somewhere.
-- Assumes nothing.
use Rattle.std.specs.Prelude.{ℕ, suc, ◌<◌, ◌≤◌, ◌≡◌, true, ◌≢◌, List, length}
use Rattle.wire.specs.declared.telegram.Telegram.{Telegram}
use Rattle.wire.specs.Telegram as wire
use Rattle.state.specs.declared.parts.Head.{Head}
use Rattle.state.specs.Wellformed.{wellformed_of}
use Rattle.line.specs.declared.calls.Line.{Line}
use Rattle.line.specs.Calls.{head_at, fits_of}
use Rattle.demands.specs.Past.{since}
use Rattle.exchange.specs.Typed.{Typed}
use Rattle.exchange.specs.Exchange.{Asks, Ready, Given, Quiet}

pub record Premises : Type 0 where
  pub asks : (q : Telegram) → wire.Fits q → q.command ≤ 2 → q.node ≤ 127 → Asks q
  pub given : (τ : ℕ → ℕ) (space : List ℕ) → ((i : ℕ) → since (τ (suc i)) (τ i) ≤ 10) → 10 ≤ length space → Given τ space
  pub ready : (h : Head) → Typed h → wellformed_of h ≡ true → h.ear.count ≡ 0 → Ready h
  pub quiet : (l : Line) → fits_of l ≡ true → length l.heads ≡ 32
      → ((k : ℕ) → k < l.count → Typed (head_at l k) × ((head_at l k).ear.count ≡ 0))
      → ((j k : ℕ) → j < l.count → k < l.count → j ≢ k → (head_at l j).stored.number ≢ (head_at l k).stored.number)
      → Quiet l
