-- The bytes gathered are those that the digits stand for, and they are the ones fed.
use Rattle.simulate.proofs.Brought.{sends}
use Rattle.simulate.proofs.desk.Desk.send.Goals as goal

pub returns : goal.returns
returns g c = sends _ _ _ c.feed.ensures c.gather-n.ensures.bytes_after c.gather-n.ensures.value
