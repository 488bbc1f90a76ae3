-- A telegram of D2h (document 02, request (ii)): its verdict in short, and which telegrams drop the offer. At that address the checks compute, command
-- by command.
-- Assumes nothing.
use mathlib.Core.Path.{◌≡◌, refl, sym, ◌∙◌}
use mathlib.Core.Bool.{Bool, true, false, cond, not, ◌&&◌, ◌||◌, and-false}
use Prim.Native.Nat.{ℕ}
use borrow.Author.Tests.{eqb-true, lt-leb, le-leb, ltb-true, ltb-false}
use lib.Dec.{eqb, leb, ltb}
use Rattle.wire.specs.declared.fault.Fault.TheVariants.{CheckSum, NoAccess, ReadRefused, DeviceState, Locked}
use Rattle.wire.specs.declared.telegram.Telegram.{Telegram}
use Rattle.rows.specs.declared.access.Access.TheVariants.{WriteOnly}
use Rattle.rows.specs.declared.range.Range.{Range}
use Rattle.rows.specs.declared.range.Range.TheVariants.{Right, Low, High, Between}
use Rattle.rows.specs.Table.{rows}
use Rattle.rows.specs.Access.{access_of, broadcast_of}
use Rattle.rows.proofs.Laws.{offer_range_lem}
use Rattle.judge.specs.declared.command.Command.{Command}
use Rattle.judge.specs.declared.command.Command.TheVariants.{Read, Write, Broadcast, Other}
use Rattle.judge.specs.declared.verdict.Verdict.{Verdict}
use Rattle.judge.specs.declared.verdict.Verdict.TheVariants.{Obeyed, Silent, Refused}
use Rattle.judge.specs.declared.verdict.Standing.{Standing}
use Rattle.judge.specs.Commands.{command_of, writes_of, casts_of, changes_of}
use Rattle.judge.specs.Checks.{◌else◌, sum_check, node_check, command_check, parameter_check, access_check, lockable_of, lock_check, state_check, range_check, value_check, number_check, hush_of}
use Rattle.judge.specs.Verdicts.{late_of, mine_of, verdict_of}
use Rattle.judge.specs.Deeds.{out_of_range}
use Rattle.judge.proofs.Laws.{command_is}

-- how the number that is offered lies to 1 and 31
abbrev pub offer_range : ℕ → Range
offer_range v = cond (ltb v 1) Low (cond (ltb 31 v) High Right)

-- checks 3 to 7 at D2h, and in short; delivered is whether the number in force is 31
abbrev late_by : Command → Bool → Bool → Range → Verdict
late_by c locked delivered g =
    hush_of c
    (command_check c
    else parameter_check WriteOnly
    else access_check c WriteOnly false
    else cond (locked && (changes_of c && false)) (Refused Locked) Obeyed
    else cond (changes_of c && not delivered) (Refused DeviceState) Obeyed
    else value_check c g
    else Obeyed)

abbrev pub assignment_of : Command → Bool → Range → Verdict
assignment_of Read delivered g = Refused ReadRefused
assignment_of Write delivered g = cond delivered (range_check g) (Refused DeviceState)
assignment_of Broadcast delivered g = Silent
assignment_of Other delivered g = Refused NoAccess

by_is : (c : Command) (locked delivered : Bool) (g : Range) → late_by c locked delivered g ≡ assignment_of c delivered g
unfolding hush_of ◌else◌ command_check parameter_check access_check value_check range_check
by_is Read locked delivered g = refl
by_is Write locked delivered g = rw (and-false locked) (go delivered g)
  where
    go : (delivered : Bool) (g : Range) → (cond (not delivered) (Refused DeviceState) Obeyed else range_check g else Obeyed) ≡ cond delivered (range_check g) (Refused DeviceState)
    go true Right = refl
    go true Low = refl
    go true High = refl
    go true Between = refl
    go false g = refl
by_is Broadcast locked delivered g = refl
by_is Other locked delivered g = refl

late_is : (t : Telegram) (s : Standing) → t.parameter ≡ 0xD2
    → late_of t s ≡ assignment_of (command_of t.command) (eqb s.number 31) (offer_range t.value)
unfolding late_of lock_check state_check number_check access_of broadcast_of rows lockable_of
late_is t s e = rw (e, offer_range_lem t.value) (by_is (command_of t.command) s.locked (eqb s.number 31) (offer_range t.value))

pub assignment_is : (hit : ℕ) (t : Telegram) (s : Standing) → t.parameter ≡ 0xD2 → let c = command_of t.command in
    verdict_of hit t s ≡ sum_check hit c (mine_of t s) else node_check c (mine_of t s) else assignment_of c (eqb s.number 31) (offer_range t.value)
unfolding verdict_of
assignment_is hit t s e = rw (late_is t s e)

-- ---- a telegram of this verdict drops the offer
abbrev pub drops : Verdict → ℕ → Bool
drops Obeyed a = false
drops Silent a = false
drops (Refused f) a = out_of_range f && eqb a 0xD2

pub drops_elsewhere : (v : Verdict) (a : ℕ) → eqb a 0xD2 ≡ false → drops v a ≡ false
drops_elsewhere Obeyed a e = refl
drops_elsewhere Silent a e = refl
drops_elsewhere (Refused f) a e = rw e (and-false (out_of_range f))

-- ---- it does so just if it is sound, a write of D2h and for this head, whose number in force is 31, and the number lies outside 1..31
at_address : (c : Command) (sound mine delivered low high : Bool)
    → drops (cond sound Obeyed (cond (mine && not (casts_of c)) (Refused CheckSum) Silent) else cond (casts_of c || mine) Obeyed Silent else assignment_of c delivered (cond low Low (cond high High Right))) 0xD2
    ≡ sound && (writes_of c && (mine && (delivered && not (not low && not high))))
unfolding ◌else◌ range_check
at_address Read true true delivered low high = refl
at_address Read true false delivered low high = refl
at_address Read false true delivered low high = refl
at_address Read false false delivered low high = refl
at_address Write true true true true high = refl
at_address Write true true true false true = refl
at_address Write true true true false false = refl
at_address Write true true false low high = refl
at_address Write true false delivered low high = refl
at_address Write false true delivered low high = refl
at_address Write false false delivered low high = refl
at_address Broadcast true mine delivered low high = refl
at_address Broadcast false true delivered low high = refl
at_address Broadcast false false delivered low high = refl
at_address Other true true delivered low high = refl
at_address Other true false delivered low high = refl
at_address Other false true delivered low high = refl
at_address Other false false delivered low high = refl

-- a test and its opposite
pub flip : (a b : ℕ) → leb b a ≡ not (ltb a b)
flip a b = go (ltb a b) refl
  where
    go : (t : Bool) → ltb a b ≡ t → leb b a ≡ not t
    go true e = lt-leb b a (ltb-true a b e)
    go false e = le-leb b a (ltb-false a b e)

pub drops_is : (hit : ℕ) (t : Telegram) (s : Standing)
    → drops (verdict_of hit t s) t.parameter
    ≡ eqb hit 0 && (eqb t.command 1 && (mine_of t s && (eqb t.parameter 0xD2 && (eqb s.number 31 && not (leb 1 t.value && leb t.value 31)))))
unfolding sum_check node_check
drops_is hit t s = go (eqb t.parameter 0xD2) refl
  where
    go : (x : Bool) → eqb t.parameter 0xD2 ≡ x
        → drops (verdict_of hit t s) t.parameter
        ≡ eqb hit 0 && (eqb t.command 1 && (mine_of t s && (eqb t.parameter 0xD2 && (eqb s.number 31 && not (leb 1 t.value && leb t.value 31)))))
    go false e = drops_elsewhere (verdict_of hit t s) t.parameter e ∙ sym (simp (e, and-false))
    go true e =
        let a = eqb-true t.parameter 0xD2 e in
        rw (assignment_is hit t s a, a, flip t.value 1, flip 31 t.value, ← (command_is t.command).1)
        (at_address (command_of t.command) (eqb hit 0) (mine_of t s) (eqb s.number 31) (ltb t.value 1) (ltb 31 t.value))
