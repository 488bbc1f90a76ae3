-- `effects::restart::delivered` meets its contract: reset 1 gives every place its delivery value.
use Rattle.effects.specs.Restart.{delivered_of}
use Rattle.effects.proofs.Resets.{all_delivered}
use Rattle.effects.proofs.restart.delivered.Goals as goal

pub returns : goal.returns
unfolding delivered_of
returns c = rw (c.reset-v.ensures, all_delivered)
