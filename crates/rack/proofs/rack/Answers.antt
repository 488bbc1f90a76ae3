-- The tests that let a rack pass give the room for it, and then the call is a law of `Ways`.
use Rattle.std.proofs.Common.{sym, ◌∙◌}
use Rattle.rack.proofs.Filled.{part_end, put_end}
use Rattle.rack.proofs.Ways.{room_told, laid}
use Rattle.rack.proofs.rack.Goals as goal

pub slice_bounds-feed-count : goal.slice_bounds-feed-count
slice_bounds-feed-count c = (room_told _ _ _ (sym c.room_for.ensures ∙ c.if-not-room_for.false)).0

pub slice_bounds-feed-start : goal.slice_bounds-feed-start
slice_bounds-feed-start c = (room_told _ _ _ (sym c.room_for.ensures ∙ c.if-not-room_for.false)).0

pub returns : goal.returns
returns c =
    let a = c.args in
    let room = sym c.room_for.ensures ∙ c.if-not-room_for.false in
    let p = (room_told _ _ _ room).0 in
    let w = laid a.line a.bytes.now a.at a.space.now a.place (sym c.fits.ensures ∙ c.if-not-fits.false) (sym c.is_rack.ensures ∙ c.if-not-is_rack.false) room in
    record {
      value = c.feed.ensures.value ∙ w.0;
      space_after = put_end a.place a.space.now p c.feed.new.space ∙ rw (c.feed.ensures.space_after, part_end a.place a.space.now p) w.1;
    }
