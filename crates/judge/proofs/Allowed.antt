-- What a judged telegram may do: a value that it stores lies in its row, and a number that it offers is 1 to 31 and offered to a head whose
-- number in force is 31. By the kind of its address.
-- Assumes nothing.
use Rattle.std.specs.Prelude.{Some, None, Option}
use mathlib.Core.Path.{◌≡◌, refl}
use mathlib.Core.Bool.{true, ◌&&◌}
use Prim.Native.Nat.{ℕ, ◌≤◌, ◌<◌}
use borrow.Author.Tests.{eqb-true}
use lib.Dec.{eqb}
use Rattle.wire.specs.declared.telegram.Telegram.{Telegram}
use Rattle.rows.specs.declared.range.Range.TheVariants.{Right}
use Rattle.rows.specs.declared.kind.Order.{Order}
use Rattle.rows.specs.declared.kind.Order.TheVariants.{System, Calibration, Interlock, Freezing, Assignment}
use Rattle.rows.specs.Table.{row_of, place_of}
use Rattle.rows.specs.Kinds.{other_of, stored_or, kind_of}
use Rattle.rows.specs.Ranges.{range_of, fits_in}
use Rattle.rows.proofs.Groups.{order_at, either, other_has}
use Rattle.rows.proofs.Laws.{place_below, range_fits, offer_limits}
use Rattle.judge.specs.declared.verdict.Verdict.{Verdict}
use Rattle.judge.specs.declared.verdict.Verdict.TheVariants.{Obeyed, Silent, Refused}
use Rattle.judge.specs.declared.verdict.Standing.{Standing}
use Rattle.judge.specs.declared.deed.Deed.{Deed}
use Rattle.judge.specs.declared.deed.Deed.TheVariants.{Nothing, Store, Reset, Restart, Calibrate, Forget, Unlock, Freeze, Aim1, Aim2, ClearStatic, Release, Offer, Withdraw}
use Rattle.judge.specs.Commands.{command_of, changes_of}
use Rattle.judge.specs.Verdicts.{verdict_of}
use Rattle.judge.specs.Deeds.{system_of, ordered_by, done_by, shown_by, out_of_range, refused_by, deed_of}
use Rattle.judge.proofs.Laws.{obeyed_range, obeyed_offer}

-- a deed at a head with this number in force
abbrev pub Allowed : ℕ → Deed → Type 0
Allowed number Nothing = Unit {0}
Allowed number (Store i w) = (i < 39) × (fits_in (row_of i) w ≡ true)
Allowed number (Reset command) = Unit {0}
Allowed number Restart = Unit {0}
Allowed number Calibrate = Unit {0}
Allowed number Forget = Unit {0}
Allowed number (Unlock b) = Unit {0}
Allowed number Freeze = Unit {0}
Allowed number (Aim1 v w) = Unit {0}
Allowed number (Aim2 v w) = Unit {0}
Allowed number ClearStatic = Unit {0}
Allowed number Release = Unit {0}
Allowed number (Offer n) = (number ≡ 31) × (1 ≤ n) × (n ≤ 31)
Allowed number Withdraw = Unit {0}

-- ---- of an obeyed write or broadcast to the address a
module _ (number a v w : ℕ) (r : range_of a v ≡ Right) (f : eqb a 0xD2 ≡ true → number ≡ 31) where
  ordered_allowed : (o : Order) → eqb a (order_at o) ≡ true → Allowed number (ordered_by o v)
  unfolding system_of
  ordered_allowed System is =
      either (Allowed number) (eqb v 7) (λ _. tt) (either (Allowed number) (eqb v 8) (λ _. tt) (either (Allowed number) (eqb v 9) (λ _. tt) tt))
  ordered_allowed Calibration is = tt
  ordered_allowed Interlock is = tt
  ordered_allowed Freezing is = tt
  ordered_allowed Assignment is = let n = offer_limits v (rw (eqb-true a 0xD2 is) at r) in (f is, n.0, n.1)

  done_allowed : Allowed number (done_by (kind_of a) v w)
  unfolding kind_of done_by
  done_allowed = go (place_of a) refl
    where
      go : (p : Option ℕ) → place_of a ≡ p → Allowed number (done_by (stored_or p (other_of a)) v w)
      go (Some i) e = (place_below a e, range_fits a v e r)
      go None e = other_has (λ k. Allowed number (done_by k v w)) a (λ _. tt) (λ _. tt) (λ s. tt) ordered_allowed tt

shown_allowed : (number a : ℕ) → Allowed number (shown_by a)
unfolding shown_by
shown_allowed number a = either (Allowed number) (eqb a 0xFA) (λ _. tt) (either (Allowed number) (eqb a 0xFE) (λ _. tt) tt)

pub deed_allowed : (hit : ℕ) (t : Telegram) (s : Standing)
    → Allowed s.number (deed_of (verdict_of hit t s) (command_of t.command) (kind_of t.parameter) t)
unfolding deed_of refused_by
deed_allowed hit t s = go (verdict_of hit t s) refl
  where
    go : (v : Verdict) → verdict_of hit t s ≡ v → Allowed s.number (deed_of v (command_of t.command) (kind_of t.parameter) t)
    go Obeyed e =
        either (Allowed s.number) (changes_of (command_of t.command))
        (λ c. done_allowed s.number t.parameter t.value t.word (obeyed_range hit t s e c) (obeyed_offer hit t s e c))
        (shown_allowed s.number t.parameter)
    go Silent e = tt
    go (Refused f) e = either (Allowed s.number) (out_of_range f && eqb t.parameter 0xD2) (λ _. tt) tt
