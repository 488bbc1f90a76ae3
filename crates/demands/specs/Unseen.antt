-- What a head keeps of the last damaged telegram (document 02, request (i)) changes nothing else: two heads that differ in it alone give the same
-- answer to every byte, lay the same reply, and differ afterwards at most in it. (The other calls: Alone names every part of the head.) Nor does the
-- number that a head is offered (request (ii)), as long as no key is pressed.
-- Assumes nothing.
use Rattle.std.specs.Prelude.{ℕ, ◌≡◌, List}
use Rattle.state.specs.declared.parts.Head.{Head}
use Rattle.state.specs.Wellformed.{wellformed_of}
use Rattle.state.specs.With.{with_stored, with_faults, with_offer, with_hit}
use Rattle.demands.specs.Run.{System}

-- a head that keeps x
abbrev pub keeping : Head → ℕ → Head
keeping h x = with_faults h (with_hit h.faults x)

-- but for what they keep, two heads are the same
abbrev pub Alike : Head → Head → Type 0
Alike h k = keeping h 0 ≡ keeping k 0

pub record Unseen (m : System) : Type 0 where
  pub heard : (h : Head) (x b t n : ℕ) → (m.on_head.byte (keeping h x) b t n).heard ≡ (m.on_head.byte h b t n).heard
  pub laid : (h : Head) (x b t : ℕ) (space : List ℕ) → m.on_head.space (keeping h x) b t space ≡ m.on_head.space h b t space
  pub after : (h : Head) (x b t n : ℕ) → Alike (m.on_head.byte (keeping h x) b t n).head (m.on_head.byte h b t n).head

-- a head that is offered n, 0 for none
abbrev pub offering : Head → ℕ → Head
offering h n = with_stored h (with_offer h.stored n)

-- but for what they are offered, two heads are the same
abbrev pub AlikeOffered : Head → Head → Type 0
AlikeOffered h k = offering h 0 ≡ offering k 0

-- an offer is well-formed at node 31 alone (Wellformed): both heads are, or neither
abbrev pub BothFit : Head → ℕ → Type 0
BothFit h n = wellformed_of (offering h n) ≡ wellformed_of h

pub record OfferUnseen (m : System) : Type 0 where
  pub heard : (h : Head) (x b t n : ℕ) → BothFit h x → (m.on_head.byte (offering h x) b t n).heard ≡ (m.on_head.byte h b t n).heard
  pub laid : (h : Head) (x b t : ℕ) (space : List ℕ) → BothFit h x → m.on_head.space (offering h x) b t space ≡ m.on_head.space h b t space
  pub after : (h : Head) (x b t n : ℕ) → BothFit h x → AlikeOffered (m.on_head.byte (offering h x) b t n).head (m.on_head.byte h b t n).head
