use Rattle.std.proofs.Common.{◌≡◌, ◌++◌, drop, ◌+◌, ◌*◌, ◌≤◌, ◌<◌, ◌/◌, length, ◌∙◌, arith, rules}
use Rattle.line.specs.declared.calls.Line.{Line}
use Rattle.line.specs.Round.{tally, replies_by}
use Rattle.line.proofs.Laws.{fits_small, each_map, replies_first}
use Rattle.rack.specs.Rack.{dropped_of}
use Rattle.rack.proofs.Whole.{told, told_line}
use Rattle.rack.proofs.Rounds.{chunk_at, here, dropped_part, dropped_ready}
use Rattle.rack.proofs.Turns.{going_start, going_one, going_none, going_many, going_end}
use Rattle.rack.proofs.Ways.{rack_told}
use Rattle.rack.proofs.feed.Goals as goal
use Rattle.rack.proofs.feed.Goals.{then-drawn-eq1, else-drawn-eq1+then-drawn-gt1, else-drawn-eq1+else-drawn-gt1}

pub slice_bounds-heads-end : goal.slice_bounds-heads-end
slice_bounds-heads-end c = let p : c.args.line.count ≤ 32 = fits_small c.args.line c.requires.line_value in search rules

pub slice_bounds-drop_bytes-end : goal.slice_bounds-drop_bytes-end
slice_bounds-drop_bytes-end c = let p : c.args.line.count ≤ 32 = fits_small c.args.line c.requires.line_value in search rules

pub slice_bounds-heads-end-in-loop-ten : goal.slice_bounds-heads-end-in-loop-ten
slice_bounds-heads-end-in-loop-ten c = let p : c.args.line.count ≤ 32 = fits_small c.args.line c.requires.line_value in search rules

pub slice_bounds-told-end : goal.slice_bounds-told-end
slice_bounds-told-end c = let p : c.args.line.count ≤ 32 = fits_small c.args.line c.requires.line_value in search rules

pub loop-ten-init : goal.loop-ten-init
loop-ten-init c =
    let a = c.args in
    rw (c.drop_bytes.ensures, dropped_part a.line a.at) (going_start a.bytes.now a.at (dropped_of a.line a.at) a.space.now (dropped_ready a.line a.at c.requires.line_value))

-- every head was told the telegram: just one reply, several, or none
pub loop-ten-preserved : goal.loop-ten-preserved
loop-ten-preserved c =
    let a = c.args in
    let v = c.loop-ten in
    let t = v.ten-index in
    let k : Line = record { heads = v.heads; count = a.line.count } in
    let e = c.told-drawn.ensures in
    let chunks = c.as_chunks.ensures in
    let whole = rack_told _ c.requires.bytes_value in
    let lt : t < length a.bytes.now / 10 = omega (arith, chunks.front_len, c.loop-ten-test.true) in
    let p : 10 * t + 10 ≤ length a.bytes.now = omega (arith, lt) in
    let q : 10 * (length a.bytes.now / 10) ≤ length a.bytes.now = omega arith in
    let heard : record { heads = c.told-drawn.new.heads ++ drop a.line.count v.heads; count = a.line.count } ≡ told_line k (here a.bytes.now a.at t) a.at = rw (e.1, chunks.front, chunk_at, each_map) in
    let drawn : c.told-drawn.result ≡ tally (replies_by (told (here a.bytes.now a.at t) a.at) k.count k.heads) = e.0 ∙ rw (chunks.front, chunk_at, replies_first) in
    elim c.if-drawn-eq1.branch [
      | then-drawn-eq1 w ↦ rw (w.tally-is, w.space-is) (going_one _ _ v.invariant p heard drawn w.if-drawn-eq1.true w.lay.ensures w.lay.auto.space)
      | else-drawn-eq1+then-drawn-gt1 w ↦ rw (w.tally-is, w.space-is) (going_many _ _ v.invariant p heard drawn w.if-drawn-gt1.true)
      | else-drawn-eq1+else-drawn-gt1 w ↦
          let z : c.told-drawn.result.count ≡ 0 = omega (arith, w.if-drawn-eq1.false, w.if-drawn-gt1.false) in
          rw (w.tally-is, w.space-is) (going_none _ _ v.invariant p heard drawn z)
    ]

pub returns : goal.returns
returns c =
    let whole = rack_told _ c.requires.bytes_value in
    let e = going_end _ _ c.loop-ten.invariant (omega (arith, c.as_chunks.ensures.front_len, c.loop-ten-test.false)) in
    record { value = e.0; space_after = e.1 }
