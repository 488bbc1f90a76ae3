-- A turn: the bytes go on further, and the line is that of feeding so many.
use Rattle.std.proofs.Common.{refl, arith}
use Rattle.simulate.proofs.Bytes.{fed_none, fed_further}
use Rattle.simulate.proofs.feeding.feed_all.Goals as goal

pub loop-i-init : goal.loop-i-init
loop-i-init g c = (omega arith, fed_none _ _ _ _)

pub loop-i-smaller : goal.loop-i-smaller
loop-i-smaller g c =
    let on = fed_further c.args.time c.args.line c.args.bytes.now c.loop-i.space c.loop-i.i c.loop-i-test.true c.until_reply-s.ensures.value c.after-i.ensures refl
    c.loop-i.invariant.1 in
    omega (arith, on.0, on.1)

pub loop-i-preserved : goal.loop-i-preserved
loop-i-preserved g c =
    let on = fed_further c.args.time c.args.line c.args.bytes.now c.loop-i.space c.loop-i.i c.loop-i-test.true c.until_reply-s.ensures.value c.after-i.ensures refl
    c.loop-i.invariant.1 in
    (on.1, rw c.until_reply-s.auto.space on.2)
