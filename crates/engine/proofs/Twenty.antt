-- There is one refusal, and its number is 20.
-- Assumes nothing.
use mathlib.Core.Path.{◌≡◌, refl}
use Rattle.engine.specs.declared.Refusal.{Refusal}
use Rattle.engine.specs.declared.Refusal.TheVariants.{Malformed}
use Rattle.engine.specs.Answer.{refusal_of}

pub refusal_twenty : (why : Refusal) → 20 ≡ refusal_of why
refusal_twenty Malformed = refl
