-- A word more is laid after those before it.
use Rattle.std.proofs.Common.{◌≡◌, ◌+◌, ◌*◌, ◌≤◌, length, drop, ap, ◌∙◌, arith, rules}
use Rattle.simulate.specs.Feeding.{word_of}
use Rattle.simulate.specs.Racks.{shown_count}
use Rattle.simulate.proofs.Words.{none_shown, kept_more, shown_more, all_shown}
use Rattle.simulate.proofs.racks.show.Goals as goal

pub loop-i-init : goal.loop-i-init
loop-i-init c = (omega arith, none_shown _ _)

pub loop-i-preserved : goal.loop-i-preserved
loop-i-preserved c =
    let out = c.args.out.now in
    let replies = c.args.replies.now in
    let i = c.loop-i.i in
    let most : c.min-m.result ≡ shown_count out c.args.n = search rules in
    let room : 21 * i + 21 ≤ length out = omega (arith, most, c.loop-i-test.true) in
    let word : c.word.result ≡ word_of (drop (10 * i) replies) = c.word.ensures ∙ ap word_of c.from.ensures in (
      c.lay-kept.ensures.value ∙ kept_more out replies i room c.loop-i.invariant.1 word c.loop-i.invariant.0,
      c.lay-kept.ensures.out_after ∙ shown_more out replies i room c.loop-i.invariant.1 word c.loop-i.invariant.0,
    )

pub returns : goal.returns
returns c =
    let most : c.min-m.result ≡ shown_count c.args.out.now c.args.n = search rules in
    all_shown _ _ _ c.loop-i.i (omega (arith, c.loop-i-test.false, most)) c.loop-i.invariant.1
