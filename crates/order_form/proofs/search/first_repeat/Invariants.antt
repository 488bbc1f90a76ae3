-- No row before the loop's place repeats one.
use Rattle.order_form.proofs.Repeats.{Apart}
use Rattle.order_form.proofs.search.first_repeat.Given as goal

abbrev pub invariant-loop-k : goal.invariant-loop-k
invariant-loop-k l = Apart l.rows l.k
