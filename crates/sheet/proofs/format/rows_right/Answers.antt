-- `sheet::format::rows_right` meets its contract: it is true just where each row is so. The search takes the number that the range gives at i where a list is read at i.
use Rattle.std.proofs.Common.{◌≡◌, ◌<◌, ℕ, true, rules, get_or, refl}
use Rattle.std.proofs.iter.runs.Sources.{ranges}
use Rattle.sheet.specs.Format.{row_right}
use Rattle.sheet.proofs.Each.{each_answered}
use Rattle.sheet.proofs.format.rows_right.Goals as goal

pub returns : goal.returns
returns c =
    let s = c.args.sheet.now in
    let all : ((i : ℕ) → i < c.args.n → row_right s c.args.n i ≡ true) → c.all.result ≡ true = λ h. search (rules, ranges, h) in
    each_answered (row_right s c.args.n) c.args.n c.all.result ((λ t i lt. let read : get_or s i 0 ≡ get_or s i 0 = refl in search (rules, ranges)), all)
