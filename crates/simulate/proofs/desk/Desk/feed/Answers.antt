-- The space lent has as many bytes as there is room.
use Rattle.std.proofs.Common.{◌≡◌, arith, rules}
use Rattle.simulate.specs.Desk.{room_of}
use Rattle.simulate.proofs.Bytes.{feeds}
use Rattle.simulate.proofs.desk.Desk.feed.Goals as goal

pub returns : goal.returns
returns g c =
    let lent : c.min-size.result ≡ room_of c.args.self.now.space = search rules in
    feeds _ _ _ _ lent (omega arith) c.feed_all-self.ensures
