-- `form_text::any_digit` meets its contract: what `any` finds is what the definition looks for.
use Rattle.std.proofs.Common.{rules, tests}
use Rattle.std.proofs.lemmas.Iterator.{YieldsList-from_slice}
use Rattle.std.proofs.lemmas.Iterator.Search.{any_from_yields_List}
use Rattle.text.specs.Numbers.{within}
use Rattle.form_text.specs.Form.{any_digit}
use Rattle.form_text.proofs.any_digit.Goals as goal

pub returns : goal.returns
unfolding any_digit
returns c =
    let xs = c.args.line.now in
    any_from_yields_List (within 48 57) _ _ _ c.any.ensures.ran (YieldsList-from_slice xs cc) (λ x b q k. search (rules, tests))
