-- `script::arguments::read` meets its contract. The invariant: what the words that are left at first say is what those that are left now say,
-- from number i on.
use mathlib.Core.Path.{◌≡◌}
use lib.ListN.{length, drop}
use Rattle.script.specs.Places.{words_at}
use Rattle.script.specs.Arguments.{arguments_from, arguments_of}
use Rattle.script.proofs.arguments.read.Given as goal

abbrev pub invariant-loop-i : goal.invariant-loop-i
invariant-loop-i l =
    (length l.numbers ≡ 6)
    × (arguments_from l.i l.numbers (drop l.i l.limits) l.last (words_at l.rest.line.now l.rest.from)
    ≡ arguments_of l.limits l.last (words_at l.fn.rest.line.now l.fn.rest.from))
