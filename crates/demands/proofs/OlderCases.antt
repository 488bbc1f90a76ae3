-- The older heads that were worked out by hand come to what they should: each computes.
-- Assumes nothing.
use mathlib.Core.Path.{refl}
use Rattle.demands.specs.OlderCases.{OlderCases}
use Rattle.demands.proofs.Computing.{computing}

pub older_cases : OlderCases
unfolding computing
older_cases =
    record {
      armed_over = refl;
      armed_says = record { taken = refl; says = refl };
      running_says = record { taken = refl; says = refl };
      busy_says = record { taken = refl; says = refl };
      gathered_over = refl;
      gathered_says = refl;
      new_over = refl;
      left_over = refl;
      refused_two = refl;
      before = refl;
      first = refl;
      between = refl;
      second = refl;
      after = refl;
      other_order = refl;
      third = refl;
      nobody = refl;
    }
