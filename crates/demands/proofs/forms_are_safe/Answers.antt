use Rattle.demands.proofs.forms_are_safe.Goals as goal
use Rattle.demands.proofs.Ordered.{safe}

pub returns : goal.returns
returns c = safe
