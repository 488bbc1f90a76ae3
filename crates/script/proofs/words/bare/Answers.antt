-- `script::words::bare` meets its contract: a line without its carriage return is the start of the line.
use mathlib.Core.Path.{sym}
use lib.Seq.{length-take-le}
use Rattle.text.proofs.Bare.{bare_within, bare_start}
use Rattle.script.proofs.words.bare.Goals as goal

pub slice_bounds-result-end : goal.slice_bounds-result-end
slice_bounds-result-end c = let line = c.args.line.now in sym (length-take-le _ line (rw c.bare_length-n.ensures (bare_within line)))

pub returns : goal.returns
returns c = rw (c.bare_length-n.ensures, bare_start)
