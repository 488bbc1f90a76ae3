-- `sheet::write::write` meets its contract. After k turns the space starts with the first k bytes of the sheet, and the rest is as it was.
use Rattle.std.proofs.Common.{◌≡◌, ◌<◌, ◌≤◌, ◌∙◌, length, rules, arith, add-one, le-ltb}
use lib.Seq.{take_all}
use Rattle.sheet.specs.Writing.{sheet_of, written_on}
use Rattle.sheet.proofs.Bytes.{sheet_length, turn}
use Rattle.sheet.proofs.write.write.Goals as goal

pub loop-k-preserved : goal.loop-k-preserved
loop-k-preserved c =
    let k = c.loop-k in
    let a = c.args in
    let n = sheet_length a.values (search rules) in
    let p : k.k < length (sheet_of a.values) = omega arith in
    let q : k.k < length a.space.now = omega arith in
    rw (k.invariant, c.sheet_byte.ensures, add-one k.k, turn 0 k.k (sheet_of a.values) a.space.now p q)

pub returns-clause-space_after : goal.returns-clause-space_after
unfolding written_on
returns-clause-space_after c =
    let k = c.loop-k in
    let a = c.args in
    let e : k.k ≡ 274 = omega arith in
    let room : 274 ≤ length a.space.now = omega arith in
    let n = sheet_length a.values (search rules) in
    let m : length (sheet_of a.values) ≤ 274 = omega arith in
    k.invariant ∙ simp (le-ltb _ _ room) (rw (e, take_all 274 (sheet_of a.values) m))
