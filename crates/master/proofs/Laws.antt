-- The one refusal has the number 10.
-- Assumes nothing.
use mathlib.Core.Path.{◌≡◌, refl}
use Rattle.master.specs.declared.Refusal.{Refusal}
use Rattle.master.specs.declared.Refusal.TheVariants.{Outside}
use Rattle.master.specs.Master.{refusal_of}

pub refusal_ten : (why : Refusal) → 10 ≡ refusal_of why
refusal_ten Outside = refl
