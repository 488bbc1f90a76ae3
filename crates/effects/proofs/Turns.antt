-- Where 28h stays what it was, alpha-numeric display is neither entered nor left, and the targets stay.
-- Assumes nothing.
use Prim.Native.Nat.{ℕ}
use mathlib.Core.Path.{◌≡◌, refl}
use mathlib.Core.Bool.{true, false, cond, not}
use Rattle.state.specs.declared.parts.Targets.{Targets}
use Rattle.state.specs.Mode.{is_display}
use Rattle.effects.specs.Aimed.{stays_of, turned_of}

pub stays_same : (mode : ℕ) → stays_of mode mode ≡ true
unfolding stays_of
stays_same mode = elim (is_display mode) as (λ b. cond b b (not b) ≡ true) [ true ↦ refl | false ↦ refl ]

pub turned_same : (mode : ℕ) (t : Targets) → turned_of mode mode t ≡ t
unfolding turned_of
turned_same mode t = rw (stays_same mode)
