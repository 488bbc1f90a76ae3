-- Past the end there is no part to lay on.
use Rattle.rack.proofs.Filled.{laid_past}
use Rattle.rack.proofs.lay.Goals as goal

pub returns-else-place-space : goal.returns-else-place-space
returns-else-place-space c = laid_past _ _ _ c.if-place-space.false
