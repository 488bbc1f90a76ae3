-- `form_text::cuts::trimmed_end` meets its contract: what stands up to the last character that is no space.
use Rattle.std.proofs.Common.{rules}
use Rattle.form_text.proofs.Dropped.{end_last}
use Rattle.form_text.proofs.cuts.trimmed_end.Goals as goal

pub returns-in-Some : goal.returns-in-Some
returns-in-Some c = search (rules, end_last)
