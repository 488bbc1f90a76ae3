-- `script::arguments::perhaps_bytes` meets its contract: no word is left where none starts past the gaps.
use Rattle.std.proofs.Common.{Some, ap, ◌∙◌}
use Rattle.script.proofs.Taken.{no_bytes_more, bytes_more}
use Rattle.script.proofs.arguments.perhaps_bytes.Goals as goal

pub returns-then-start-rest : goal.returns-then-start-rest
returns-then-start-rest c = c.bytes.ensures ∙ bytes_more _ _ _ c.start.ensures c.if-start-rest.true

pub returns : goal.returns
returns c = ap Some c.numbers_alone.ensures ∙ no_bytes_more _ _ _ c.start.ensures c.if-start-rest.false
