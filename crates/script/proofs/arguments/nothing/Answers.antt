-- `script::arguments::nothing` meets its contract: no word is left where none starts past the gaps.
use Rattle.std.proofs.Common.{Some, ap, ◌∙◌}
use Rattle.script.proofs.Taken.{none_more, some_more}
use Rattle.script.proofs.arguments.nothing.Goals as goal

pub returns-then-start-rest : goal.returns-then-start-rest
returns-then-start-rest c = some_more _ _ _ c.start.ensures c.if-start-rest.true

pub returns : goal.returns
returns c = ap Some c.numbers_alone.ensures ∙ none_more _ _ _ c.start.ensures c.if-start-rest.false
