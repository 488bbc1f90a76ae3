use Rattle.std.proofs.Common.{◌<◌, length, arith}
use Rattle.std.proofs.lemmas.List.Edits.{map_over_more}
use Rattle.state.specs.declared.parts.Head.{Head}
use Rattle.state.specs.With.{with_ear}
use Rattle.line.proofs.Laws.{get_d_either}
use Rattle.rack.proofs.drop_bytes.Goals as goal

pub loop-h-preserved : goal.loop-h-preserved
loop-h-preserved c =
    let k = c.loop-h in
    let p : k.h-index < length k.heads = omega arith in
    rw c.empty_ear-h.ensures (map_over_more (λ (h : Head). with_ear h _) c.args.heads.now k.heads k.h-index _ c.loop-h-test.true k.invariant (get_d_either _ _ k.h-index k.heads p))
