-- A line that fits has no more heads than places.
use Rattle.std.proofs.Common.{◌≤◌, sym, ◌∙◌, rules}
use Rattle.line.proofs.Laws.{fits_small}
use Rattle.line.proofs.calls.tick.Goals as goal

pub slice_bounds-tick_each-end : goal.slice_bounds-tick_each-end
slice_bounds-tick_each-end c = let p : c.args.l.count ≤ 32 = fits_small c.args.l (sym c.fits_by.ensures ∙ c.if-not-fits_by.false) in search rules
