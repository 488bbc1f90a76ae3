-- The sorts of an address that the account tells apart: one of the 39, A0h, A8h, D2h, and any other, a telegram to which stores nothing. What the
-- account asks of an address is found from its sort.
-- Assumes nothing.
use Rattle.std.specs.Prelude.{Some, None, Option}
use Prim.Native.Nat.{ℕ, ◌<◌}
use mathlib.Core.Path.{◌≡◌, refl, sym, ◌∙◌}
use mathlib.Core.Bool.{Bool, true, false, true≢false}
use native.Mathlib.Omega.{arith}
use borrow.Author.Tests.{eqb-true, eqb-false, eq-eqb, ne_eqb}
use lib.Dec.{eqb}
use Rattle.rows.specs.declared.access.Access.TheVariants.{ReadOnly}
use Rattle.rows.specs.declared.kind.Kind.TheVariants.{Stored, SetPoint1, SetPoint2, WriteOnly}
use Rattle.rows.specs.declared.kind.Order.{Order}
use Rattle.rows.specs.declared.kind.Order.TheVariants.{System, Calibration, Interlock, Freezing, Assignment}
use Rattle.rows.specs.Table.{rows, row_of, address, place_of}
use Rattle.rows.specs.Access.{access_of}
use Rattle.rows.specs.Kinds.{other_of, kind_of}
use Rattle.rows.proofs.Groups.{order_at, other_has}
use Rattle.rows.proofs.Laws.{place_address, row_place}
use Rattle.judge.specs.declared.deed.Deed.{Deed}
use Rattle.judge.specs.declared.deed.Deed.TheVariants.{Nothing, Calibrate, Freeze, Aim1, Aim2}
use Rattle.judge.specs.Deeds.{done_by}
use Rattle.state.specs.declared.parts.Stored as parts
use Rattle.effects.specs.Stored.{stored_by}
use Rattle.head.specs.Hear.{restarts_of}
use Rattle.head.proofs.Again.{stored_after}

-- the sorts
pub data Sort (a : ℕ) : Type 0 where
  value : (i : ℕ) → place_of a ≡ Some i → Sort a
  system : a ≡ 0xA0 → Sort a
  interlock : a ≡ 0xA8 → Sort a
  assignment : a ≡ 0xD2 → Sort a
  other : place_of a ≡ None → eqb a 0xA0 ≡ false → eqb a 0xA8 ≡ false → eqb a 0xD2 ≡ false → Sort a

pub sort_of : (a : ℕ) → Sort a
sort_of a = go (place_of a) refl (eqb a 0xA0) refl (eqb a 0xA8) refl (eqb a 0xD2) refl
  where
    go : (p : Option ℕ) → place_of a ≡ p → (x : Bool) → eqb a 0xA0 ≡ x → (y : Bool) → eqb a 0xA8 ≡ y → (z : Bool) → eqb a 0xD2 ≡ z → Sort a
    go (Some i) e x p y q z r = value i e
    go None e true p y q z r = system (eqb-true a 0xA0 p)
    go None e false p true q z r = interlock (eqb-true a 0xA8 q)
    go None e false p false q true r = assignment (eqb-true a 0xD2 r)
    go None e false p false q false r = other e p q r

-- ---- what stands behind an address, by its sort
pub value_kind : (a i : ℕ) → place_of a ≡ Some i → kind_of a ≡ Stored i
unfolding kind_of
value_kind a i e = rw e

pub first_kind : kind_of 0xFB ≡ SetPoint1
unfolding kind_of place_of rows other_of
first_kind = refl

pub second_kind : kind_of 0xFF ≡ SetPoint2
unfolding kind_of place_of rows other_of
second_kind = refl

pub calibration_kind : kind_of 0xA7 ≡ WriteOnly Calibration
unfolding kind_of place_of rows other_of
calibration_kind = refl

pub freezing_kind : kind_of 0xAA ≡ WriteOnly Freezing
unfolding kind_of place_of rows other_of
freezing_kind = refl

pub system_kind : kind_of 0xA0 ≡ WriteOnly System
unfolding kind_of place_of rows other_of
system_kind = refl

pub interlock_kind : kind_of 0xA8 ≡ WriteOnly Interlock
unfolding kind_of place_of rows other_of
interlock_kind = refl

pub assignment_kind : kind_of 0xD2 ≡ WriteOnly Assignment
unfolding kind_of place_of rows other_of
assignment_kind = refl

-- what holds of each deed of any other address holds of its deed
pub other_deed : (P : Deed → Type 0) (v w a : ℕ) → place_of a ≡ None → eqb a 0xA0 ≡ false → eqb a 0xA8 ≡ false → eqb a 0xD2 ≡ false
    → P Nothing → (eqb a 0xA7 ≡ true → P Calibrate) → (eqb a 0xAA ≡ true → P Freeze) → (eqb a 0xFB ≡ true → P (Aim1 v w)) → (eqb a 0xFF ≡ true → P (Aim2 v w)) → P (done_by (kind_of a) v w)
unfolding kind_of done_by
other_deed P v w a e p q r none calibrate freeze aim1 aim2 = rw e (other_has (λ k. P (done_by k v w)) a aim1 aim2 (λ s. none) order none)
  where
    order : (o : Order) → eqb a (order_at o) ≡ true → P (done_by (WriteOnly o) v w)
    order System is = absurd (true≢false (sym is ∙ p))
    order Calibration is = calibrate is
    order Interlock is = absurd (true≢false (sym is ∙ q))
    order Freezing is = freeze is
    order Assignment is = absurd (true≢false (sym is ∙ r))

pub other_still : (v w : ℕ) (st : parts.Stored) (a : ℕ) → place_of a ≡ None → eqb a 0xA0 ≡ false → eqb a 0xA8 ≡ false → eqb a 0xD2 ≡ false
    → stored_after (done_by (kind_of a) v w) st ≡ st
unfolding stored_after stored_by restarts_of
other_still v w st a e p q r = other_deed (λ d. stored_after d st ≡ st) v w a e p q r refl (λ _. refl) (λ _. refl) (λ _. refl) (λ _. refl)

-- the set points, A0h, A7h, A8h, AAh and D2h are none of the 39
pub first_nowhere : place_of 0xFB ≡ None
unfolding place_of rows
first_nowhere = refl

pub second_nowhere : place_of 0xFF ≡ None
unfolding place_of rows
second_nowhere = refl

pub system_nowhere : place_of 0xA0 ≡ None
unfolding place_of rows
system_nowhere = refl

pub calibration_nowhere : place_of 0xA7 ≡ None
unfolding place_of rows
calibration_nowhere = refl

pub freezing_nowhere : place_of 0xAA ≡ None
unfolding place_of rows
freezing_nowhere = refl

pub interlock_nowhere : place_of 0xA8 ≡ None
unfolding place_of rows
interlock_nowhere = refl

pub assignment_nowhere : place_of 0xD2 ≡ None
unfolding place_of rows
assignment_nowhere = refl

-- ---- which address is that of place r
not_at : {p : Option ℕ} {i : ℕ} → p ≡ None → p ≡ Some i → ⊥
not_at e f = let z : ◌≡◌ {A = ℕ} 0 1 = cc in omega arith

pub nowhere_apart : (a r : ℕ) → place_of a ≡ None → r < 39 → eqb a (address (row_of r)) ≡ false
nowhere_apart a r e lt = ne_eqb a _ (λ q. not_at (rw q at e) (row_place r lt))

pub value_same : (a i r : ℕ) → place_of a ≡ Some i → r < 39 → eqb a (address (row_of r)) ≡ eqb r i
value_same a i r e lt = go (eqb r i) refl
  where
    go : (x : Bool) → eqb r i ≡ x → eqb a (address (row_of r)) ≡ x
    go true q = eq-eqb a _ (rw (eqb-true r i q) (sym (place_address a e)))
    go false q =
        ne_eqb a _ (λ s. let f : Some r ≡ Some i = sym (row_place r lt) ∙ rw s at e in let same : r ≡ i = cc in eqb-false r i q same)

pub value_apart : (a i n : ℕ) → place_of a ≡ Some i → place_of n ≡ None → eqb a n ≡ false
value_apart a i n e nowhere = ne_eqb a n (λ q. not_at nowhere (rw q at e))

pub value_system : (a i : ℕ) → place_of a ≡ Some i → eqb a 0xA0 ≡ false
value_system a i e = value_apart a i 0xA0 e system_nowhere

pub value_interlock : (a i : ℕ) → place_of a ≡ Some i → eqb a 0xA8 ≡ false
value_interlock a i e = value_apart a i 0xA8 e interlock_nowhere

pub value_assignment : (a i : ℕ) → place_of a ≡ Some i → eqb a 0xD2 ≡ false
value_assignment a i e = value_apart a i 0xD2 e assignment_nowhere

-- ---- the one address whose reads have a check of their own is read only
pub number_access : (a : ℕ) → eqb a 0x96 ≡ true → access_of a ≡ ReadOnly
unfolding access_of rows
number_access a e = rw (eqb-true a 0x96 e)
