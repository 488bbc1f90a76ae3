-- The mask leaves 127 bits.
use mathlib.Core.Path.{sym, ap, ◌∙◌}
use lib.Bits.{and_mask}
use lib.Count.{ones}
use Rattle.free_number.proofs.Maps.{count_whole}
use Rattle.free_number.proofs.map.count.Goals as goal

pub returns : goal.returns
returns c = rw c.whole.ensures (ap ones (and_mask _ 127) ∙ sym (count_whole c.args.map))
