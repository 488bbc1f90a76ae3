use Rattle.demands.proofs.ordered_rests.Goals as goal
use Rattle.demands.proofs.Ordered.{rests}

pub returns : goal.returns
returns c = rests
