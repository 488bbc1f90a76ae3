-- A head that has heard the tick more.
use Rattle.std.proofs.Common.{◌<◌, length, arith}
use Rattle.std.proofs.lemmas.List.Edits.{map_over_more}
use Rattle.line.specs.Round.{ticked_at}
use Rattle.line.proofs.Laws.{get_d_either}
use Rattle.line.proofs.calls.tick_each.Goals as goal

pub loop-h-preserved : goal.loop-h-preserved
loop-h-preserved c =
    let k = c.loop-h in
    let p : k.h-index < length k.heads = omega arith in
    rw c.ticked.ensures (map_over_more (ticked_at c.args.at) c.args.heads.now k.heads k.h-index _ c.loop-h-test.true k.invariant (get_d_either _ _ k.h-index k.heads p))
