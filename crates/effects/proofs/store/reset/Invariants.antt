-- `effects::store::reset` meets its contract. The loop's invariant: the values done, and the reset of those left, are the reset of all.
use mathlib.Core.Path.{◌≡◌}
use mathlib.Core.List.{◌++◌}
use lib.ListN.{take, drop}
use Rattle.effects.specs.Stored.{reset_from}
use Rattle.effects.proofs.store.reset.Given as goal

abbrev pub invariant-loop-i : goal.invariant-loop-i
invariant-loop-i l = take l.i l.word-items ++ reset_from l.i l.command (drop l.i l.word-items) ≡ reset_from 0 l.command l.fn.values
