-- `form_text::cuts::trimmed_start` meets its contract: what stands from the first character on that is no space.
use Rattle.std.proofs.Common.{rules}
use Rattle.form_text.proofs.Dropped.{start_first}
use Rattle.form_text.proofs.cuts.trimmed_start.Goals as goal

pub returns-in-Some : goal.returns-in-Some
returns-in-Some c = search (rules, start_first)
