use Rattle.std.proofs.Common.{◌≤◌, get_or, sym, ◌∙◌, rules}
use lib.ListN.{drop_of_length-le}
use Rattle.line.specs.Round.{stepped_by}
use Rattle.line.proofs.Laws.{fits_small, each_map, replies_first}
use Rattle.line.proofs.Stretch.{going_next, going_stopped, going_through, until_heard}
use Rattle.line.proofs.calls.until_reply.Goals as goal
use Rattle.line.proofs.calls.until_reply.Goals.{then-loop-next-test+else-replies-eq0, else-loop-next-test}

pub slice_bounds-heads-end : goal.slice_bounds-heads-end
slice_bounds-heads-end c = let p : c.args.l.count ≤ 32 = fits_small c.args.l (sym c.fits_by.ensures ∙ c.if-not-fits_by.false) in search rules

pub slice_bounds-heard-end : goal.slice_bounds-heard-end
slice_bounds-heard-end c = let p : c.args.l.count ≤ 32 = fits_small c.args.l (sym c.fits_by.ensures ∙ c.if-not-fits_by.false) in search rules

pub loop-next-preserved : goal.loop-next-preserved
loop-next-preserved c =
    let v = c.loop-next in
    let e = c.heard-replies.ensures in
    let b = get_or c.args.bytes.now v.next 0 in
    going_next _ v.invariant c.loop-next-test.true c.if-replies-eq0.true
    (rw (e.heads_after, each_map (stepped_by b c.args.at) c.args.l.count v.heads))
    (e.value ∙ rw replies_first)

-- a reply came, or no byte is left
pub returns-after-loop-next : goal.returns-after-loop-next
returns-after-loop-next c =
    let g = c.loop-next.invariant in
    let a = c.args in
    let f = sym c.fits_by.ensures ∙ c.if-not-fits_by.false in
    let out = until_heard a.l _ a.from a.at a.space.now f c.if-space-lt10.false in
    elim c.loop-next-test.branch [
      | then-loop-next-test+else-replies-eq0 w ↦
          let d = going_stopped g w.if-replies-eq0.false in
          let u = out d.0 (d.1 a.space.now) in
          record { value = u.0; space_after = c.lay.ensures ∙ u.1 }
      | else-loop-next-test w ↦
          let d = going_through g (drop_of_length-le _ w.loop-next-test.false) in
          let u = out d.0 (d.1 a.space.now) in
          record { value = u.0; space_after = c.lay.ensures ∙ u.1 }
    ]
