-- The trailing zeros of the complement of both words as one number.
use Prim.Native.Nat.{◌^◌, ◌<◌}
use mathlib.Core.Path.{◌≡◌, ap}
use native.Mathlib.Nat.{add_comm}
use native.Mathlib.Omega.{arith}
use borrow.Author.Tests.{lt-ltb, le-ltb}
use Rattle.free_number.specs.Used.{whole}
use Rattle.free_number.proofs.Words.{clear}
use Rattle.free_number.proofs.Maps.{lowest_whole}
use Rattle.free_number.proofs.map.lowest_free.Goals as goal

pub returns-then-lowest-le-LAST : goal.returns-then-lowest-le-LAST
returns-then-lowest-le-LAST c =
    let fits : whole c.args.map < 2 ^ 128 = omega arith in
    let same : clear 128 c.whole.result ≡ clear 128 (whole c.args.map) = ap (clear 128) c.whole.ensures in
    rw (lowest_whole c.args.map fits, ← same, lt-ltb (clear 128 c.whole.result) 127 (omega arith), add_comm 1)

pub returns-else-lowest-le-LAST : goal.returns-else-lowest-le-LAST
returns-else-lowest-le-LAST c =
    let fits : whole c.args.map < 2 ^ 128 = omega arith in
    let same : clear 128 c.whole.result ≡ clear 128 (whole c.args.map) = ap (clear 128) c.whole.ensures in
    rw (lowest_whole c.args.map fits, ← same, le-ltb (clear 128 c.whole.result) 127 (omega arith))
