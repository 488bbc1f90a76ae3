use Rattle.std.proofs.Common.{◌∙◌, rules}
use Rattle.line.specs.Calls.{grow_of}
use Rattle.line.proofs.Apart.{among_heads}
use Rattle.line.proofs.calls.grow.Goals as goal

pub returns-then-is_taken : goal.returns-then-is_taken
unfolding grow_of
returns-then-is_taken c = let e = c.is_taken.ensures ∙ among_heads c.args.serial c.args.l.count c.args.l.heads in search rules

pub returns : goal.returns
unfolding grow_of
returns c = let e = c.is_taken.ensures ∙ among_heads c.args.serial c.args.l.count c.args.l.heads in search rules
