-- `engine::keeps::reset_all` meets its contract. The loop's invariant: the values done, and the reset of those left, are the reset of all.
use Rattle.std.proofs.Common.{◌≡◌, ◌<◌, ◌≤◌, length, set, get_or, arith, length-set}
use Rattle.std.proofs.lemmas.List.{set-get_or}
use Rattle.engine.proofs.Resets.{value_of, reset_turn, reset_end}
use Rattle.engine.proofs.keeps.reset_all.Goals as goal
use Rattle.engine.proofs.keeps.reset_all.Goals.{then-resets, else-resets}

pub loop-i-preserved : goal.loop-i-preserved
loop-i-preserved c =
    let vs = c.loop-i.value-items in
    let i = c.loop-i.i in
    let h : i < length vs = omega arith in
    let e : c.if-resets.value-items ≡ set vs i (value_of c.args.command i (get_or vs i 0)) =
    elim c.if-resets.branch [
      | then-resets w ↦ rw (w.value-items-is, w.row_of.ensures, ← c.resets.ensures, w.if-resets.true)
      | else-resets w ↦ rw (w.value-items-is, ← c.resets.ensures, w.if-resets.false, set-get_or)
    ]
    in
    rw e (record { long = simp length-set c.loop-i.invariant.long; same = reset_turn _ _ _ c.loop-i-test.true h c.loop-i.invariant.same })

pub returns : goal.returns
returns c =
    let h : length c.loop-i.value-items ≤ c.loop-i.i = omega arith in
    reset_end _ _ _ c.loop-i-test.false h c.loop-i.invariant.same
