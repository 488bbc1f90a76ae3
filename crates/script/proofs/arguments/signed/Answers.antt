-- `script::arguments::signed` meets its contract: the only word from the place on is the one that the definition takes.
use Rattle.std.proofs.Common.{rules, ◌∙◌}
use mir.Syntax.{w32}
use mir.Facts.{to_z-of_z}
use Rattle.script.proofs.Taken.{value_last}
use Rattle.script.proofs.arguments.signed.Goals as goal

pub returns-in_err-value : goal.returns-in_err-value
returns-in_err-value c = c.from_residual.ensures ∙ value_last _ _ _ c.sole.ensures c.signed.ensures c.in_err-value.was

pub returns : goal.returns
returns c = let back = to_z-of_z {w = w32} {z = c.in_ok-value.value} (record { sfits = search rules }) in
    rw (c.numbers_alone.ensures, back) (value_last _ _ _ c.sole.ensures c.signed.ensures c.in_ok-value.was)
