use Rattle.std.proofs.Common.{arith}
use Rattle.line.proofs.Laws.{heard_turn, heard_few, heard_all}
use Rattle.line.proofs.round.told.Goals as goal

pub with-replies-requires : goal.with-replies-requires
with-replies-requires c = omega (arith, heard_few c.loop-h.invariant)

pub loop-h-preserved : goal.loop-h-preserved
loop-h-preserved c = heard_turn c.loop-h.invariant c.loop-h-test.true _ _ c.tell-said.ensures _ c.with-replies.ensures

pub returns : goal.returns
returns c = heard_all c.loop-h.invariant c.loop-h-test.false c.loop-h.auto.h-index-end
