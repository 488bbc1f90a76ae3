-- The test of a sheet is the sentences about it.
-- Assumes nothing.
use Prim.Native.Nat.{ℕ, zero, suc, ◌-◌, ◌<◌}
use mathlib.Core.Path.{◌≡◌, refl}
use mathlib.Core.Bool.{true, false, and-eq-true_iff}
use mathlib.Core.Logic.{⊎_elim}
use mathlib.Core.List.{List}
use native.Mathlib.Nat.{not-suc-le-zero}
use native.Mathlib.Omega.{arith}
use lib.Dec.{eqb, leb}
use lib.ListN.{length}
use borrow.Author.Tests.{lt-ltb, ltb-true, leb-true, le-leb, eqb-true, eq-eqb, ne_eqb}
use Rattle.sheet.specs.Format.{count_of, address_of, body_of, body_place, size_of, rises, row_right, well_formed_of}
use Rattle.sheet.specs.Sheet.{Sheet}
use Rattle.sheet.proofs.Each.{last, each_at, each_all}

-- ---- the test says that it is a sheet
rise_one : (s : List ℕ) (i : ℕ) → rises s (suc i) ≡ true → address_of s i < address_of s (suc i)
unfolding rises
rise_one s i h =
    let k : suc i - 1 ≡ i = omega arith in
    let z : eqb (suc i) 0 ≡ false = ne_eqb (suc i) 0 (λ e. omega arith) in
    ltb-true _ _ (rw (z, k) at h)

rise : (s : List ℕ) (n : ℕ) → ((i : ℕ) → i < n → rises s i ≡ true) → (i j : ℕ) → i < j → j < n → address_of s i < address_of s j
rise s n h i zero p q = absurd (not-suc-le-zero p)
rise s n h i (suc j) p q =
    let one = rise_one s j (h (suc j) q) in
    ⊎_elim (λ e. rw e one) (λ l. let before = rise s n h i j l (omega arith) in omega arith) (last i j p)

pub sheet_told : (s : List ℕ) → well_formed_of s ≡ true → Sheet s
unfolding well_formed_of row_right
sheet_told s h =
    let a = ((and-eq-true_iff (leb (count_of s) 39) _).0 h).1 in
    let r = each_at (row_right s (count_of s)) (count_of s) ((and-eq-true_iff (eqb (length s) (size_of (count_of s))) _).0 a).1 in
    record {
      few = leb-true _ _ ((and-eq-true_iff (leb (count_of s) 39) _).0 h).0;
      whole = eqb-true _ _ ((and-eq-true_iff (eqb (length s) (size_of (count_of s))) _).0 a).0;
      placed = λ i p. eqb-true _ _ ((and-eq-true_iff (eqb (body_of s i) (body_place (count_of s) i)) _).0 (r i p)).0;
      rising = rise s (count_of s) (λ i p. ((and-eq-true_iff (eqb (body_of s i) (body_place (count_of s) i)) _).0 (r i p)).1);
    }

-- ---- and a sheet passes the test
rises_held : (s : List ℕ) (n i : ℕ) → ((i j : ℕ) → i < j → j < n → address_of s i < address_of s j) → i < n → rises s i ≡ true
unfolding rises
rises_held s n zero r p = refl
rises_held s n (suc i) r p =
    let k : suc i - 1 ≡ i = omega arith in
    let z : eqb (suc i) 0 ≡ false = ne_eqb (suc i) 0 (λ e. omega arith) in
    rw (z, k) (lt-ltb _ _ (r i (suc i) (omega arith) p))

pub sheet_holds : (s : List ℕ) → Sheet s → well_formed_of s ≡ true
unfolding well_formed_of row_right
sheet_holds s h =
    rw (le-leb (count_of s) 39 h.few, eq-eqb (length s) (size_of (count_of s)) h.whole)
    (each_all (row_right s (count_of s)) (count_of s) (λ i p. rw (eq-eqb _ _ (h.placed i p), rises_held s (count_of s) i h.rising p)))
