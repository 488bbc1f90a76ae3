-- A byte more of the word.
use Rattle.std.proofs.Common.{◌<◌, length, arith, length-set}
use Rattle.script.proofs.Gathered.{gathered}
use Rattle.simulate.proofs.carried.gather.Goals as goal

pub loop-i-preserved : goal.loop-i-preserved
loop-i-preserved c =
    let p : c.loop-i.i < length c.loop-i.bytes = omega arith in
    (simp length-set (omega arith), gathered _ c.loop-i.bytes c.loop-i.i p c.byte_at.ensures c.loop-i.invariant.1)
