-- It is a stretch of one byte.
use Rattle.line.proofs.Stretch.{until_byte}
use Rattle.line.proofs.calls.byte.Goals as goal

pub returns : goal.returns
returns c =
    let e = c.until_reply-s.ensures in
    let w = until_byte c.args.l c.args.b 0 c.args.at c.args.space.now (e.value, e.space_after) in
    record { value = w.0; space_after = w.1 }
