-- `script::words::Rest::sole` meets its contract: the first word is the only one where no other starts past it.
use mathlib.Core.Path.{◌∙◌}
use Rattle.script.proofs.Split.{sole_more, sole_first}
use Rattle.script.proofs.words.Rest.sole.Goals as goal

pub returns-then-start-self : goal.returns-then-start-self
returns-then-start-self c =
    let next = c.after-next.ensures in
    sole_more _ _ _ _ next.from (rw next.line at c.start.ensures) c.if-start-self.true

pub returns : goal.returns
returns c =
    let next = c.after-next.ensures in
    c.first.ensures ∙ sole_first _ _ _ _ next.from (rw next.line at c.start.ensures) c.if-start-self.false
