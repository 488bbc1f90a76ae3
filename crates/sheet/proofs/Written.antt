-- A written sheet is a sheet of all 39 rows, is never refused, and loads as the values that it was written from.
-- Assumes nothing.
use Prim.Native.Nat.{ℕ, zero, suc, ◌+◌, ◌*◌, ◌≤◌, ◌<◌}
use mathlib.Core.Path.{◌≡◌, refl, sym, ◌∙◌}
use mathlib.Core.Bool.{true}
use mathlib.Core.Logic.{⊎_elim}
use mathlib.Core.List.{List, [], ◌++◌, append-nil}
use native.Mathlib.Omega.{arith}
use lib.Dec.{eqb, ltb, eqb→eq}
use lib.ListN.{length, take, drop, get_or, drop_of_length-le}
use lib.Seq.{take_all}
use borrow.Author.Tests.{ltb-true}
use Rattle.rows.specs.Table.{address, rows, row_of}
use Rattle.rows.specs.Ranges.{range_of, is_right, fits_in, all_right_of}
use Rattle.rows.proofs.Span.{in_span, is_true}
use Rattle.rows.proofs.Laws.{row_place, all_right_at}
use Rattle.sheet.specs.Format.{count_of, address_of, body_of, value_of, well_formed_of}
use Rattle.sheet.specs.Sheet.{Sheet}
use Rattle.sheet.specs.Loading.{meant_at, known_of, fitting_of, all_known_of, all_fitting_of, store_of, stored_rows}
use Rattle.sheet.specs.Spelled.{Rising, Words}
use Rattle.sheet.specs.Writing.{all, sheet_of}
use Rattle.sheet.proofs.Each.{last, each_all}
use Rattle.sheet.proofs.Sheets.{sheet_holds}
use Rattle.sheet.proofs.Meant.{right_meant}
use Rattle.sheet.proofs.Spelled.{spelled_count, spelled_address, spelled_value, spelled_sheet}
use Rattle.sheet.proofs.Bytes.{all_length, turn}

-- ---- the 39 addresses, computed: each is that of its row, and they rise
all_address : (i : ℕ) → i < 39 → get_or all i 0 ≡ address (row_of i)
unfolding rows row_of
all_address i h = eqb→eq _ _ (in_span (λ k. eqb (get_or all k 0) (address (row_of k))) 0 39 tt i (omega arith) h)

all_next : (i : ℕ) → i < 38 → get_or all i 0 < get_or all (suc i) 0
unfolding rows
all_next i h = ltb-true _ _ (is_true _ (in_span (λ k. ltb (get_or all k 0) (get_or all (suc k) 0)) 0 38 tt i (omega arith) h))

all_rise : Rising all
all_rise i zero l h = absurd (omega arith)
all_rise i (suc j) l h =
    let one = all_next j (omega (arith, all_length)) in
    ⊎_elim (λ e. rw e one) (λ p. let before = all_rise i j p (omega arith) in omega arith) (last i j l)

module _ (v : List ℕ) (n : length v ≡ 39) where
  same : length all ≡ length v
  same = all_length ∙ sym n

  -- ---- the rows of a written sheet
  pub sheet_is : Sheet (sheet_of v)
  unfolding sheet_of
  sheet_is = spelled_sheet all v same (omega (arith, all_length)) all_rise

  pub sheet_count : count_of (sheet_of v) ≡ 39
  unfolding sheet_of
  sheet_count = spelled_count all v same ∙ all_length

  pub sheet_formed : well_formed_of (sheet_of v) ≡ true
  sheet_formed = sheet_holds (sheet_of v) sheet_is

  pub sheet_address : (i : ℕ) → i < 39 → address_of (sheet_of v) i ≡ address (row_of i)
  unfolding sheet_of
  sheet_address i h = spelled_address all v same i (omega (arith, all_length)) ∙ all_address i h

  pub sheet_place : (i : ℕ) → i < 39 → body_of (sheet_of v) i ≡ 118 + 4 * i
  sheet_place i h = rw sheet_count at (sheet_is.placed i (rw sheet_count h))

  pub sheet_value : (i : ℕ) → i < 39 → get_or v i 0 < 4294967296 → value_of (sheet_of v) i ≡ get_or v i 0
  unfolding sheet_of
  sheet_value i h w = spelled_value all v same i (omega (arith, all_length)) (omega (arith, all_length)) w

  -- ---- it is never refused
  module _ (w : Words v) (r : all_right_of v ≡ true) where
    known : (i : ℕ) → i < 39 → known_of (sheet_of v) i ≡ true
    unfolding known_of
    known i h = rw (sheet_address i h, row_place i h)

    right : (i : ℕ) → i < 39 → is_right (range_of (address (row_of i)) (get_or v i 0)) ≡ true
    unfolding range_of fits_in
    right i h = rw (row_place i h) (all_right_at v i r h)

    -- each row writes the value that stands in it
    meant : (i : ℕ) → i < 39 → meant_at (sheet_of v) i ≡ get_or v i 0
    meant i h = rw (sheet_address i h, sheet_value i h (w i)) (right_meant (address (row_of i)) (get_or v i 0) (right i h))

    fitting : (i : ℕ) → i < 39 → fitting_of (sheet_of v) i ≡ true
    unfolding fitting_of
    fitting i h = rw (meant i h, sheet_address i h) (right i h)

    pub written_known : all_known_of (sheet_of v) ≡ true
    written_known = rw sheet_count (each_all (known_of (sheet_of v)) 39 known)

    pub written_fitting : all_fitting_of (sheet_of v) ≡ true
    written_fitting = rw sheet_count (each_all (fitting_of (sheet_of v)) 39 fitting)

    -- ---- it loads as the values that it was written from, whatever stood there before
    module _ (old : List ℕ) (m : length old ≡ 39) where
      stored : (i : ℕ) → i ≤ 39 → stored_rows old (sheet_of v) i ≡ take i v ++ drop i old
      unfolding store_of
      stored zero h = refl
      stored (suc i) h =
          let p : i < 39 = omega arith in
          rw (meant i p, sheet_address i p, row_place i p, stored i (omega arith)) (turn 0 i v old (omega arith) (omega arith))

      pub written_stored : stored_rows old (sheet_of v) (count_of (sheet_of v)) ≡ v
      written_stored =
          let k : length old ≤ 39 = omega arith in
          let d : drop 39 old ≡ [] = drop_of_length-le old k in
          rw (sheet_count, stored 39 (omega arith), take_all 39 v (omega arith), d, append-nil)
