-- `rows::range::all_right` meets its contract: the three parts are the walk over the document's rows.
use mathlib.Core.Path.{◌≡◌}
use lib.ListN.{length}
use Rattle.rows.proofs.Written.{written_out}
use borrow.Author.Rules.{rules}
use Rattle.rows.proofs.range.all_right.Goals as goal

pub returns : goal.returns
returns c = let a = c.args in
    let long : length a.values ≡ 39 = search rules in
    rw (c.right_from-3.ensures, c.right_from-2.ensures, c.right_from.ensures) (written_out a.values long)
