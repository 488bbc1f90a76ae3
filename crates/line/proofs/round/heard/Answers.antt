use Rattle.std.proofs.Common.{◌≡◌, ℕ, List, Some, is_some, ap, ◌∙◌, arith}
use Rattle.state.specs.declared.parts.Head.{Head}
use Rattle.head.specs.declared.hear.Gathered.{Gathered}
use Rattle.head.specs.Hear.{gathered_of, tell_of, step_of}
use Rattle.head.proofs.Passes.{step_more, step_told}
use Rattle.line.proofs.Laws.{heard_turn, heard_few, heard_all}
use Rattle.line.proofs.round.heard.Goals as goal
use Rattle.line.proofs.round.heard.Goals.{in-Some, in-None}

whole : (h : Head) (b at : ℕ) (g : Gathered) → g ≡ gathered_of h.ear b at → (ten : List ℕ) → g.ten ≡ Some ten → tell_of h ten at ≡ step_of h b at
whole h b at g e ten s = rw s at (step_told h b at g e (ap is_some s))

pub with-replies-requires : goal.with-replies-requires
with-replies-requires c = omega (arith, heard_few c.loop-h.invariant)

-- the telegram was whole and is told, or the byte is kept
pub loop-h-preserved : goal.loop-h-preserved
loop-h-preserved c =
    let turn = heard_turn c.loop-h.invariant c.loop-h-test.true in
    let g = c.gather-g.ensures in
    elim c.match-g.branch [
      | in-Some w ↦ rw w.heads-is (turn _ _ (w.tell-s.ensures ∙ whole _ _ _ _ g _ w.in-Some.is) _ (w.replies-is ∙ w.with-replies.ensures))
      | in-None w ↦ rw w.heads-is (turn _ _ (step_more _ _ _ _ g (ap is_some w.in-None.is)) _ w.replies-is)
    ]

pub returns : goal.returns
returns c = let e = heard_all c.loop-h.invariant c.loop-h-test.false c.loop-h.auto.h-index-end in record { value = e.0; heads_after = e.1 }
