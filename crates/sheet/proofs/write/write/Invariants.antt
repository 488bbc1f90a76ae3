-- `sheet::write::write` meets its contract. After k turns the space starts with the first k bytes of the sheet, and the rest is as it was.
use mathlib.Core.Path.{◌≡◌}
use mathlib.Core.List.{◌++◌}
use lib.ListN.{take, drop}
use Rattle.sheet.specs.Writing.{sheet_of}
use Rattle.sheet.proofs.write.write.Given as goal

abbrev pub invariant-loop-k : goal.invariant-loop-k
invariant-loop-k l =
    l.space ≡ take l.k (sheet_of l.values) ++ drop l.k l.initial.space
