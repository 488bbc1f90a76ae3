-- `script::arguments::bytes` meets its contract: the only word from the place on is the one that the definition takes.
use Rattle.script.proofs.Taken.{no_bytes, some_bytes}
use Rattle.script.proofs.arguments.bytes.Goals as goal

pub returns-then-count-eq0 : goal.returns-then-count-eq0
returns-then-count-eq0 c = no_bytes _ _ _ c.sole.ensures c.hex_bytes-count.ensures c.if-count-eq0.true

pub returns : goal.returns
returns c = rw c.numbers_alone.ensures (some_bytes _ _ _ c.sole.ensures c.hex_bytes-count.ensures c.if-count-eq0.false c.start.ensures)
