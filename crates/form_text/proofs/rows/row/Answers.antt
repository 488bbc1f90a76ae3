-- `form_text::rows::row` meets its contract: the line's first separator parts what the definition reads as the serial and as the node number.
use Rattle.std.proofs.Common.{rules, tests, sym, ◌∙◌}
use Rattle.std.proofs.lemmas.Iterator.{YieldsList-from_slice}
use Rattle.std.proofs.lemmas.Iterator.Search.{position_from_yields_List}
use Rattle.text.proofs.Found.{found, not_found}
use Rattle.form_text.specs.Cuts.{is_separator}
use Rattle.form_text.proofs.Dropped.{rest}
use Rattle.form_text.proofs.Sides.{no_row, a_row}
use Rattle.form_text.proofs.rows.row.Goals as goal

pub returns-in-Some : goal.returns-in-Some
returns-in-Some c =
    let xs = c.args.line.now in
    let p = position_from_yields_List is_separator _ _ c.position.result c.position.ensures.ran (YieldsList-from_slice xs cc) (λ x b q k. search (rules, tests)) in
    let f = found is_separator xs (sym p ∙ c.in-Some.is) in
    c.paired.ensures ∙ simp (c.said.ensures, c.said-in-Some.ensures, rest) (sym (a_row xs f.0 f.1))

pub returns-in-None : goal.returns-in-None
returns-in-None c =
    let xs = c.args.line.now in
    let p = position_from_yields_List is_separator _ _ c.position.result c.position.ensures.ran (YieldsList-from_slice xs cc) (λ x b q k. search (rules, tests)) in
    no_row xs (not_found is_separator xs (sym p ∙ c.in-None.is))
