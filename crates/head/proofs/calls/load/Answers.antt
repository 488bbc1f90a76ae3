-- The values are those that the sheet gives, the targets turn with them, and all else is as it was.
use Rattle.std.proofs.lemmas.Grind.{common_steps}
use Rattle.std.proofs.Common.{◌≡◌, sym, ◌∙◌, arith}
use Rattle.sheet.proofs.Loads.{loaded_answer}
use Rattle.head.specs.Calls.{told_of}
use Rattle.head.proofs.Sheets.{load_told}
use Rattle.head.proofs.calls.load.Goals as goal

pub returns : goal.returns
returns c =
    let f = sym c.wellformed.ensures ∙ c.if-not-wellformed.false in
    let answer : c.map_err.result ≡ told_of c.load-answer.result.answer = grind (arith, common_steps, c.map_err.ensures) in
    rw (answer, c.turned.ensures, c.load-answer.ensures, loaded_answer) (sym (load_told _ _ f))
