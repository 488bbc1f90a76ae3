-- What stands behind an address, in the engine's reading by groups and in the crate rows' table, is the same: each is one test over all addresses, or over all
-- places, computed.
-- Assumes nothing.
use Rattle.std.specs.Prelude.{Some}
use Prim.Native.Nat.{ℕ, zero, suc, ◌<◌, ◌≤◌}
use mathlib.Core.Path.{◌≡◌, refl, sym, ◌∙◌, ap, subst}
use mathlib.Core.Bool.{Bool, true, false, cond, not, ◌&&◌, ◌||◌, true≢false}
use mathlib.Core.List.{[], ◌∷◌}
use mathlib.Core.Logic.{⊎_elim}
use native.Mathlib.Omega.{arith}
use borrow.Author.Tests.{eqb-true, lt-ltb, le-ltb, ltb-false}
use lib.Dec.{T, eqb, ltb, eqb→eq}
use lib.IntN.{ℤ, pos, negsuc}
use lib.ListN.{get_or}
use lib.Signed.{lt_z, mag}
use Rattle.signed.specs.Number.{number_of}
use Rattle.signed.proofs.Laws.{number_small}
use Rattle.rows.specs.declared.access.Access.{Access}
use Rattle.rows.specs.declared.access.Access.TheVariants.{ReadWrite, ReadOnly, WriteOnly, Unknown}
use Rattle.rows.specs.declared.range.Range.{Range}
use Rattle.rows.specs.declared.range.Range.TheVariants.{Right, Low, High, Between}
use Rattle.rows.specs.declared.table.Row.{Row}
use Rattle.rows.specs.Among.{among}
use Rattle.rows.specs.Table.{rows, row_of, place_of, is_at, address, low, high, delivery}
use Rattle.rows.specs.Access.{access_of, broadcast_of}
use Rattle.rows.specs.Ranges.{is_signed_of, reading_of, unlisted_of, between_of, range_in, other_row_of, row_at, range_of}
use Rattle.rows.specs.Resets.{bus_of, resets_of}
use Rattle.rows.proofs.Span.{span, both, one_of_two, in_span}
use Rattle.rows.proofs.Groups.{stored_at}
use Rattle.rows.proofs.Laws.{place_below, place_address}
use Rattle.engine.specs.Addresses.{the39, place, is_stored, is_read_only, is_write_only, is_known, may_broadcast, limits_of, is_listed, number_in, default_of, is_bus}
use Rattle.engine.specs.Does.{resets}

-- ---- two tests that agree
abbrev same : Bool → Bool → Bool
same a b = cond a b (not b)

same_only : (a b : Bool) → T (same a b) → a ≡ b
same_only true true t = refl
same_only false false t = refl
same_only true false t = absurd t
same_only false true t = absurd t

-- at each of n numbers
module _ (f g : ℕ → Bool) (n : ℕ) where
  alike : T (span (λ k. same (f k) (g k)) 0 n) → (a : ℕ) → a < n → f a ≡ g a
  alike t a p = same_only (f a) (g a) (in_span (λ k. same (f k) (g k)) 0 n t a (omega arith) (omega arith))

-- ---- the 39 and their places
pub stored_is : (a : ℕ) → is_at (place_of a) ≡ is_stored a
unfolding the39 rows
stored_is a = sym (stored_at a)

place_at : (i : ℕ) → i < 39 → place (address (row_of i)) ≡ i
unfolding place the39 row_of rows
place_at i p = eqb→eq _ i (in_span (λ k. eqb (place (address (row_of k))) k) 0 39 tt i (omega arith) (omega arith))

pub place_is : (a : ℕ) {i : ℕ} → place_of a ≡ Some i → place a ≡ i
place_is a e = ap place (sym (place_address a e)) ∙ place_at _ (place_below a e)

-- ---- the access groups
abbrev pub known : Access → Bool
known ReadWrite = true
known ReadOnly = true
known WriteOnly = true
known Unknown = false

abbrev pub read_only : Access → Bool
read_only ReadWrite = false
read_only ReadOnly = true
read_only WriteOnly = false
read_only Unknown = false

abbrev pub write_only : Access → Bool
write_only ReadWrite = false
write_only ReadOnly = false
write_only WriteOnly = true
write_only Unknown = false

pub known_is : (a : ℕ) → a < 256 → is_known a ≡ known (access_of a)
unfolding is_known the39 access_of rows
known_is = alike is_known (λ k. known (access_of k)) 256 tt

pub read_only_is : (a : ℕ) → a < 256 → is_read_only a ≡ read_only (access_of a)
unfolding access_of rows
read_only_is = alike is_read_only (λ k. read_only (access_of k)) 256 tt

pub write_only_is : (a : ℕ) → a < 256 → is_write_only a ≡ write_only (access_of a)
unfolding access_of rows
write_only_is = alike is_write_only (λ k. write_only (access_of k)) 256 tt

pub broadcast_is : (a : ℕ) → broadcast_of a ≡ may_broadcast a
unfolding broadcast_of may_broadcast
broadcast_is a = refl

-- ---- resets and delivery values
bus_is : (i : ℕ) → i < 39 → bus_of i ≡ is_bus (get_or the39 i 0)
unfolding bus_of is_bus the39 row_of rows
bus_is = alike bus_of (λ k. is_bus (get_or the39 k 0)) 39 tt

pub resets_at : (command i : ℕ) → i < 39 → resets_of command i ≡ resets command (get_or the39 i 0)
unfolding resets_of resets
resets_at command i p = rw (lt-ltb i 39 p, bus_is i p)

pub default_at : (i : ℕ) → i < 39 → delivery (row_of i) ≡ default_of (get_or the39 i 0)
unfolding default_of the39 row_of rows
default_at i p = eqb→eq _ _ (in_span (λ k. eqb (delivery (row_of k)) (default_of (get_or the39 k 0))) 0 39 tt i (omega arith) (omega arith))

-- ---- ranges
abbrev same_z : ℤ → ℤ → Bool
same_z (pos m) (pos n) = eqb m n
same_z (negsuc m) (negsuc n) = eqb m n
same_z (pos m) (negsuc n) = false
same_z (negsuc m) (pos n) = false

same_z_only : (x y : ℤ) → T (same_z x y) → x ≡ y
same_z_only (pos m) (pos n) t = ap pos (eqb→eq m n t)
same_z_only (negsuc m) (negsuc n) t = ap negsuc (eqb→eq m n t)
same_z_only (pos m) (negsuc n) t = absurd t
same_z_only (negsuc m) (pos n) t = absurd t

-- how a value lies, by the engine, and by the table
abbrev pub lies : ℤ → ℤ → ℤ → Bool → Range
lies lo hi v listed = cond (lt_z v lo) Low (cond (lt_z hi v) High (cond listed Right Between))

lies_so : (lo hi v : ℤ) (skipped listed : Bool) → (lt_z v lo ≡ false → lt_z hi v ≡ false → listed ≡ not skipped) → between_of lo hi v skipped ≡ lies lo hi v listed
unfolding between_of
lies_so lo hi v skipped listed e = go (lt_z v lo) (lt_z hi v) skipped listed e
  where
    go : (b c s l : Bool) → (b ≡ false → c ≡ false → l ≡ not s) → cond b Low (cond c High (cond s Between Right)) ≡ cond b Low (cond c High (cond l Right Between))
    go true c s l e = refl
    go false true s l e = refl
    go false false true l e = rw (e refl refl)
    go false false false l e = rw (e refl refl)

-- between the limits 3Eh and A0h list their values, and every other takes all
listed_3_e : (w : ℕ) → ltb 2 w ≡ false → is_listed 0x3E w ≡ not (unlisted_of 0x3E w)
unfolding is_listed unlisted_of
listed_3_e w e = alike (is_listed 0x3E) (λ k. not (unlisted_of 0x3E k)) 3 tt w (omega (arith, ltb-false 2 w e))

listed_a0 : (w : ℕ) → ltb w 1 ≡ false → ltb 9 w ≡ false → is_listed 0xA0 w ≡ not (unlisted_of 0xA0 w)
unfolding is_listed unlisted_of
listed_a0 zero low high = absurd (true≢false low)
listed_a0 (suc w) low high = alike (λ k. is_listed 0xA0 (suc k)) (λ k. not (unlisted_of 0xA0 (suc k))) 9 tt w (omega (arith, ltb-false 9 (suc w) high))

listed_else : (a w : ℕ) → eqb a 0x3E ≡ false → eqb a 0xA0 ≡ false → is_listed a w ≡ not (unlisted_of a w)
unfolding is_listed unlisted_of
listed_else a w p q = rw (p, q)

reading_is : (a w : ℕ) → reading_of a w ≡ number_in a w
unfolding reading_of is_signed_of number_in
reading_is a w = refl

-- the row of an address, in the table or not: the limits of the row are the engine's
abbrev row : ℕ → Row
row a = row_at (place_of a) a

abbrev own : ℕ → Bool
own a = eqb (address (row a)) a

abbrev limited : ℕ → ℤ → ℤ → Bool
limited a lo hi = same_z (low (row a)) lo && same_z (high (row a)) hi

abbrev plain : ℕ → Bool
plain a = own a && limited a (limits_of a).low (limits_of a).high

-- or both take any 32 bits, without a sign
abbrev unsigned : ℕ → Bool
unsigned a = not (among (0x1E ∷ 0x1F ∷ 0xFF ∷ []) a)

abbrev unlimited : ℕ → Bool
unlimited a = same_z (limits_of a).low (negsuc 2147483647) && same_z (limits_of a).high (pos 4294967295)

abbrev unlisting : ℕ → Bool
unlisting a = not (eqb a 0x3E) && not (eqb a 0xA0)

abbrev free : ℕ → Bool
free a = (own a && limited a (pos 0) (pos 4294967295)) && (unlimited a && (unsigned a && unlisting a))

abbrev sorted : ℕ → Bool
sorted a = plain a || (free a || eqb a 0xFF)

all_sorted : (a : ℕ) → a < 256 → T (sorted a)
unfolding limits_of place_of row_of rows other_row_of
all_sorted a p = in_span sorted 0 256 tt a (omega arith) (omega arith)

abbrev lies_at : ℕ → ℕ → Range
lies_at a w = lies (limits_of a).low (limits_of a).high (number_in a w) (is_listed a w)

Listed : ℕ → ℕ → Type 0
Listed a w = lt_z (number_in a w) (limits_of a).low ≡ false → lt_z (limits_of a).high (number_in a w) ≡ false → is_listed a w ≡ not (unlisted_of a w)

listed_at : (a w : ℕ) → Listed a w
unfolding Listed limits_of number_in
listed_at a w = go (eqb a 0x3E) refl (eqb a 0xA0) refl
  where
    go : (b : Bool) → eqb a 0x3E ≡ b → (c : Bool) → eqb a 0xA0 ≡ c → Listed a w
    go true p c q = subst (λ (k : ℕ). Listed k w) (sym (eqb-true a 0x3E p)) (λ low high. listed_3_e w high)
    go false p true q = subst (λ (k : ℕ). Listed k w) (sym (eqb-true a 0xA0 q)) (λ low high. listed_a0 w low high)
    go false p false q = λ low high. listed_else a w p q

range_at : (a w : ℕ) (lo hi : ℤ) → T (own a) → T (limited a lo hi) → range_of a w ≡ between_of lo hi (number_in a w) (unlisted_of a w)
unfolding range_of range_in
range_at a w lo hi o l =
    let b = both (same_z (low (row a)) lo) (same_z (high (row a)) hi) l in
    rw (same_z_only (low (row a)) lo b.0, same_z_only (high (row a)) hi b.1, eqb→eq (address (row a)) a o, reading_is a w)

plain_is : (a w : ℕ) → T (plain a) → range_of a w ≡ lies_at a w
unfolding Listed
plain_is a w t =
    let b = both (own a) (limited a (limits_of a).low (limits_of a).high) t in
    range_at a w (limits_of a).low (limits_of a).high b.0 b.1
    ∙ lies_so (limits_of a).low (limits_of a).high (number_in a w) (unlisted_of a w) (is_listed a w) (listed_at a w)

-- any 32 bits are right, read with a sign or without
signed_right : (v : ℤ) → mag v < 2147483648 → (h : ℕ) → 2147483647 ≤ h → lies (negsuc 2147483647) (pos h) v true ≡ Right
signed_right (pos n) p h q = simp (le-ltb h n (omega arith))
signed_right (negsuc n) p h q = simp (le-ltb 2147483647 n (omega arith))

unsigned_right : (w : ℕ) → w < 4294967296 → (between_of (pos 0) (pos 4294967295) (pos w) false ≡ Right) × (lies (negsuc 2147483647) (pos 4294967295) (pos w) true ≡ Right)
unfolding between_of
unsigned_right w p = (simp (le-ltb w 0 (omega arith), le-ltb 4294967295 w (omega arith)), simp (le-ltb 4294967295 w (omega arith)))

is_not : (b : Bool) → T (not b) → b ≡ false
is_not true t = absurd t
is_not false t = refl

all_listed : (a w : ℕ) → T (unlisting a) → (unlisted_of a w ≡ false) × (is_listed a w ≡ true)
unfolding unlisted_of is_listed
all_listed a w t =
    let b = both (not (eqb a 0x3E)) (not (eqb a 0xA0)) t in
    let p = is_not (eqb a 0x3E) b.0 in
    let q = is_not (eqb a 0xA0) b.1 in
    (rw (p, q), rw (p, q))

free_is : (a w : ℕ) → w < 4294967296 → T (free a) → range_of a w ≡ lies_at a w
unfolding number_in
free_is a w p t =
    let x = both (own a && limited a (pos 0) (pos 4294967295)) (unlimited a && (unsigned a && unlisting a)) t in
    let r = both (own a) (limited a (pos 0) (pos 4294967295)) x.0 in
    let y = both (unlimited a) (unsigned a && unlisting a) x.1 in
    let l = both (same_z (limits_of a).low (negsuc 2147483647)) (same_z (limits_of a).high (pos 4294967295)) y.0 in
    let z = both (unsigned a) (unlisting a) y.1 in
    let n = is_not (among (0x1E ∷ 0x1F ∷ 0xFF ∷ []) a) z.0 in
    let u = unsigned_right w p in
    let v = all_listed a w z.1 in
    range_at a w (pos 0) (pos 4294967295) r.0 r.1
    ∙ rw (n, v.0, v.1, same_z_only (limits_of a).low (negsuc 2147483647) l.0, same_z_only (limits_of a).high (pos 4294967295) l.1) (u.0 ∙ sym u.1)

-- FFh
signed_is : (w : ℕ) → w < 4294967296 → range_of 0xFF w ≡ lies_at 0xFF w
unfolding range_of range_in place_of rows other_row_of between_of reading_of is_signed_of unlisted_of limits_of number_in is_listed
signed_is w p =
    let m = number_small w p in
    signed_right (number_of w) m 2147483647 (omega arith) ∙ sym (signed_right (number_of w) m 4294967295 (omega arith))

pub range_is : (a w : ℕ) → a < 256 → w < 4294967296 → range_of a w ≡ lies (limits_of a).low (limits_of a).high (number_in a w) (is_listed a w)
range_is a w p q =
    ⊎_elim (plain_is a w)
    (λ t. ⊎_elim (free_is a w q) (λ e. subst (λ (k : ℕ). range_of k w ≡ lies_at k w) (sym (eqb→eq a 0xFF e)) (signed_is w q)) (one_of_two (free a) (eqb a 0xFF) t))
    (one_of_two (plain a) (free a || eqb a 0xFF) (all_sorted a p))
