-- Every marked case holds: each is computed over the definitions.
-- Assumes nothing.
use mathlib.Core.Path.{refl}
use Rattle.demands.specs.Cases.{cases, All}
use Rattle.demands.proofs.Computing.{computing}

pub all_marked : All cases
unfolding cases computing
all_marked =
    (refl, (refl, (refl, (refl, (refl, (refl, (refl, (refl, (refl, (refl, (refl, (refl, (refl, (refl, (refl, (refl, (refl, (refl, tt))))))))))))))))))
