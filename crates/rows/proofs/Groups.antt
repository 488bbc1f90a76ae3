-- The groups of addresses and places: what the arms of the source's matches know, as the definitions say it. Each is one test over
-- all numbers of a span, computed. And the laws: each address is in exactly one group, and the groups agree with the table.
-- Assumes nothing.
use Rattle.std.specs.Prelude.{Some}
use mathlib.Core.Path.{◌≡◌, refl, sym, ◌∙◌, ap}
use mathlib.Core.Bool.{Bool, true, false, cond, not, ◌&&◌, ◌||◌}
use mathlib.Core.List.{List, [], ◌∷◌, map}
use mathlib.Core.Logic.{◌⊎◌, inl, inr, ⊎_elim}
use Prim.Native.Nat.{ℕ, zero, suc, ◌+◌, ◌-◌, ◌<◌, ◌≤◌}
use native.Mathlib.Omega.{arith}
use lib.Dec.{T, eqb, leb, ltb, eqb→eq}
use borrow.Author.Tests.{le-ltb, ltb-true, ltb-false, not-true}
use Rattle.rows.specs.declared.access.Access.{Access}
use Rattle.rows.specs.declared.access.Access.TheVariants.{ReadWrite, ReadOnly, WriteOnly, Unknown}
use Rattle.rows.specs.declared.kind.Kind.{Kind}
use Rattle.rows.specs.declared.kind.Kind.TheVariants as kind
use Rattle.rows.specs.declared.kind.Shown.{Shown}
use Rattle.rows.specs.declared.kind.Shown.TheVariants.{Identification, Version, ErrorCount, ErrorAt, InputErrors, StatusWord, Differential, Pending, Position}
use Rattle.rows.specs.declared.kind.Order.{Order}
use Rattle.rows.specs.declared.kind.Order.TheVariants.{System, Calibration, Interlock, Freezing, Assignment}
use Rattle.rows.specs.declared.table.Row.{Row}
use Rattle.rows.specs.Among.{among}
use Rattle.rows.specs.Table.{address, rows, row_of, place_in, place_of, is_at}
use Rattle.rows.specs.Access.{stored, set_points, read_only, write_only, access_of}
use Rattle.rows.specs.Kinds.{other_of, kind_of, group_of}
use Rattle.rows.specs.Resets.{bus_of}
use Rattle.rows.proofs.Listed.{eqb_turned, among_more}
use Rattle.rows.proofs.Span.{OneOf, NoneOf, span, each, outside, in_span, in_list, in_rest, is_true}

pub less_or_not : (a b : ℕ) → (a < b) ⊎ (b ≤ a)
less_or_not a b = go (ltb a b) refl
  where
    go : (t : Bool) → ltb a b ≡ t → (a < b) ⊎ (b ≤ a)
    go true e = inl (ltb-true a b e)
    go false e = inr (ltb-false a b e)

-- ---- the bus six
abbrev bus_keys : List (List ℕ)
bus_keys = (14 ∷ 38 ∷ []) ∷ []

pub bus_none : (i : ℕ) → NoneOf bus_keys i → 4 ≤ i → bus_of i ≡ false
unfolding bus_of row_of rows
bus_none i out h =
    ⊎_elim (λ l. not-true _ (is_true _ (in_rest (λ k. not (bus_of k)) bus_keys 4 35 tt i out h (omega arith))))
    (λ g. simp (le-ltb i 39 g)) (less_or_not i 39)

-- ---- the access groups, told apart by a number each
abbrev pub code : Access → ℕ
code ReadWrite = 0
code ReadOnly = 1
code WriteOnly = 2
code Unknown = 3

abbrev back : ℕ → Access
back zero = ReadWrite
back (suc zero) = ReadOnly
back (suc (suc zero)) = WriteOnly
back (suc (suc (suc n))) = Unknown

back_code : (x : Access) → back (code x) ≡ x
back_code ReadWrite = refl
back_code ReadOnly = refl
back_code WriteOnly = refl
back_code Unknown = refl

abbrev pub is : Access → ℕ → Bool
is x a = eqb (code x) (code (access_of a))

same : (x : Access) (a : ℕ) → T (is x a) → x ≡ access_of a
same x a t = sym (back_code x) ∙ ap back (eqb→eq (code x) (code (access_of a)) t) ∙ back_code (access_of a)

-- the single numbers of the three arms, as the compiler keeps them, the last arm's first
abbrev pub keys : List (List ℕ)
keys = (160 ∷ 170 ∷ 210 ∷ []) ∷ (101 ∷ 103 ∷ 150 ∷ 250 ∷ []) ∷ (40 ∷ 208 ∷ 251 ∷ 255 ∷ []) ∷ []

pub key : (x : Access) (xs : List ℕ) → T (each (is x) xs) → (a : ℕ) → OneOf xs a → x ≡ access_of a
key x xs t a h = same x a (in_list (is x) xs t a h)

pub way : (x : Access) (lo n : ℕ) → T (span (outside keys (is x)) lo n) → {a : ℕ} → NoneOf keys a → lo ≤ a → a < lo + n → x ≡ access_of a
way x lo n t {a} out h g = same x a (in_rest (is x) keys lo n t a out h g)

-- ---- what stands behind an address that is none of the 39
-- the address of an order
abbrev pub order_at : Order → ℕ
order_at System = 0xA0
order_at Calibration = 0xA7
order_at Interlock = 0xA8
order_at Freezing = 0xAA
order_at Assignment = 0xD2

-- what holds of both answers of a test holds of what the test gives
pub either : {A : Type 0} (P : A → Type 0) (b : Bool) {x y : A} → (b ≡ true → P x) → P y → P (cond b x y)
either P true p q = p refl
either P false p q = q

-- what holds of all kinds but the 39 holds of what stands behind such an address; a set point and an order stand behind their own
pub other_has : (P : Kind → Type 0) (a : ℕ) → (eqb a 0xFB ≡ true → P kind.SetPoint1) → (eqb a 0xFF ≡ true → P kind.SetPoint2) → ((s : Shown) → P (kind.ReadOnly s))
    → ((o : Order) → eqb a (order_at o) ≡ true → P (kind.WriteOnly o)) → P kind.Unknown → P (other_of a)
unfolding other_of
other_has P a one two shown order unknown =
    either P (eqb a 0x65) (λ _. shown Identification)
    (either P (eqb a 0x67) (λ _. shown Version)
    (either P (eqb a 0x80) (λ _. shown ErrorCount)
    (either P (leb 0x81 a && leb a 0x8A) (λ _. shown (ErrorAt (a - 0x81)))
    (either P (eqb a 0x96) (λ _. shown InputErrors)
    (either P (eqb a 0xA0) (order System)
    (either P (eqb a 0xA7) (order Calibration)
    (either P (eqb a 0xA8) (order Interlock)
    (either P (eqb a 0xAA) (order Freezing)
    (either P (eqb a 0xD2) (order Assignment)
    (either P (eqb a 0xFA) (λ _. shown StatusWord)
    (either P (eqb a 0xFB) one
    (either P (eqb a 0xFC) (λ _. shown Differential)
    (either P (eqb a 0xFD) (λ _. shown Pending)
    (either P (eqb a 0xFE) (λ _. shown Position)
    (either P (eqb a 0xFF) two unknown)))))))))))))))

-- ---- each of the 256 addresses falls in exactly one group
abbrev is_unknown : Access → Bool
is_unknown x = eqb (code x) 3

abbrev count : List ℕ → ℕ → ℕ
count [] a = 0
count (x ∷ xs) a = cond (eqb a x) 1 0 + count xs a

-- how often the address stands on the lists of the three groups; one that is on none of them is unknown
abbrev pub listed : ℕ → ℕ
listed a = count stored a + count set_points a + count read_only a + count write_only a

pub one_group : (a : ℕ) → a < 256 → listed a + cond (is_unknown (access_of a)) 1 0 ≡ 1
unfolding access_of rows
one_group a h = eqb→eq _ 1 (in_span (λ k. eqb (listed k + cond (is_unknown (access_of k)) 1 0) 1) 0 256 tt a (omega arith) (omega arith))

-- the match and the table agree: the group of an address is the group of what stands behind it, and the 39 are the table's
pub group_agrees : (a : ℕ) → a < 256 → group_of (kind_of a) ≡ access_of a
unfolding kind_of other_of place_of access_of rows
group_agrees a h = same (group_of (kind_of a)) a (in_span (λ k. is (group_of (kind_of k)) k) 0 256 tt a (omega arith) (omega arith))

-- an address is one of the 39 exactly where it has a place in the table
among_found : (rs : List Row) (i a : ℕ) → among (map address rs) a ≡ is_at (place_in rs i a)
among_found [] i a = refl
among_found (r ∷ rs) i a =
    rw (among_more (address r) (map address rs) a, eqb_turned a (address r)) (go (eqb (address r) a) (among_found rs (suc i) a))
  where
    go : (b : Bool) → among (map address rs) a ≡ is_at (place_in rs (suc i) a)
        → (b || among (map address rs) a) ≡ is_at (cond b (Some i) (place_in rs (suc i) a))
    go true e = refl
    go false e = e

pub stored_at : (a : ℕ) → among stored a ≡ is_at (place_of a)
unfolding place_of
stored_at a = among_found rows 0 a
