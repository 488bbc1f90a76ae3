-- The racks that were worked out by hand come to what they should: each computes.
-- Assumes nothing.
use mathlib.Core.Path.{refl}
use Rattle.demands.specs.Run.{product}
use Rattle.demands.specs.RackCases.{RackCases}
use Rattle.demands.proofs.Computing.{computing}

pub rack_cases : RackCases product
unfolding computing
rack_cases =
    record {
      polled = record { answers = refl; lays = refl };
      collided = record { answers = refl; lays = refl };
      renumbered = record { answers = refl; lays = refl };
      dropped = refl;
      gathered = refl;
    }
