-- `form_text::entry` meets its contract: the definition, function by function.
use mathlib.Core.Path.{sym, ◌∙◌}
use borrow.Author.Tests.{lt-ltb, le-ltb}
use lib.Seq.{length-take-le}
use Rattle.text.proofs.Bare.{bare_within, bare_start}
use Rattle.form_text.specs.Form.{entry_of}
use Rattle.form_text.proofs.entry.Goals as goal

pub returns-then-n-gt-LONGEST : goal.returns-then-n-gt-LONGEST
unfolding entry_of
returns-then-n-gt-LONGEST c = simp (← c.unmarked-unmarked.ensures, ← c.bare_length-n.ensures, lt-ltb _ _ c.if-n-gt-LONGEST.true)

pub slice_bounds-trimmed-end : goal.slice_bounds-trimmed-end
unfolding entry_of
slice_bounds-trimmed-end c = let line = c.unmarked-unmarked.result.now in
    sym (length-take-le _ line (rw c.bare_length-n.ensures (bare_within line)))

pub returns : goal.returns
unfolding entry_of
returns c = let line = c.unmarked-unmarked.result.now in
    simp (← c.unmarked-unmarked.ensures, ← c.bare_length-n.ensures, le-ltb _ _ c.if-n-gt-LONGEST.false)
    (c.read.ensures ∙ rw (c.trimmed.ensures, c.bare_length-n.ensures, bare_start line))
