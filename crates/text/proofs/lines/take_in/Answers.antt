-- `text::lines::take_in` meets its contract: what is left of the piece, taken into the line as it is, gives what was asked for.
use Rattle.std.proofs.Common.{arith, ◌≡◌, ◌+◌, ◌∙◌, refl, length, drop, length-set, add-zero}
use Rattle.text.specs.Lines.{taken_of}
use Rattle.text.proofs.Found.{rest_of}
use Rattle.text.proofs.Filled.{stored, dropped}
use Rattle.text.proofs.lines.take_in.Goals as goal
use Rattle.text.proofs.lines.take_in.Goals.{then-k-line, else-k-line}

pub loop-i-init : goal.loop-i-init
unfolding taken_of
loop-i-init c =
    let is : c.unwrap_or-rest.result.now ≡ drop c.args.from c.args.piece.now =
    rw c.unwrap_or-rest.ensures (rest_of c.args.piece.now c.args.from c.get.result c.get.ensures.lookup _ refl) in
    (refl, simp (is, add-zero), rw is)

pub loop-i-preserved : goal.loop-i-preserved
loop-i-preserved c =
    let k = c.loop-i in
    let rest = c.unwrap_or-rest.result.now in
    let at : c.args.from + (k.i + 1) ≡ c.args.from + k.i + 1 = omega arith in
    let room = length c.args.line.now in
    elim c.if-k-line.branch [
      | then-k-line w ↦
          let b = stored room k.line k.k (c.args.from + k.i) rest k.i c.loop-i-test.true c.if-b-eq10.false (omega arith) in
          rw (w.line-is, w.k-is, at) (simp length-set k.invariant.0, b.0 ∙ k.invariant.1, b.1 ∙ k.invariant.2)
      | else-k-line w ↦
          let b = dropped room k.line k.k (c.args.from + k.i) rest k.i c.loop-i-test.true c.if-b-eq10.false (omega arith) (omega arith) in
          rw (w.line-is, w.k-is, at) (k.invariant.0, b.0 ∙ k.invariant.1, b.1 ∙ k.invariant.2)
    ]
