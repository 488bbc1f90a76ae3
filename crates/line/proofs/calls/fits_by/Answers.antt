use Rattle.std.proofs.Common.{◌≡◌, ◌<◌, length, take, sym, ◌∙◌, add-one, arith, rules}
use Rattle.line.proofs.Apart.{among_fold, both_turn, take_set, serials_turn, by_first}
use Rattle.line.proofs.calls.fits_by.Goals as goal

pub loop-i-preserved : goal.loop-i-preserved
loop-i-preserved c =
    let k = c.loop-i in
    let hs = take c.args.l.now.count c.args.l.now.heads in
    let n : c.args.l.now.count ≡ length hs = search rules in
    let q : k.i < length k.serials = omega (arith, c.passes.array_long, c.loop-i-test.true, n, c.if-l-gt32.false) in record {
      ok = rw (c.stands.ensures ∙ among_fold (take k.i k.serials) _, c.passes.ensures, k.invariant.ok, k.invariant.gathered, add-one) (both_turn _ _ k.i hs c.loop-i-test.true);
      gathered = rw add-one (take_set k.i k.serials _ q ∙ rw k.invariant.gathered (sym (serials_turn _ k.i hs c.loop-i-test.true)));
    }

pub returns : goal.returns
returns c =
    let l = c.args.l.now in
    let n : l.count ≡ length (take l.count l.heads) = search rules in
    let e : c.loop-i.i ≡ l.count = omega (arith, c.loop-i-test.false, c.loop-i.auto.i-end, n) in
    (rw e at c.loop-i.invariant.ok) ∙ sym (by_first _ l c.if-l-gt32.false)
