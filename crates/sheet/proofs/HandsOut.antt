-- A reader hands out the rows of its sheet one after another, then that none is left: call by call, and of a new one however often it is called.
-- Assumes nothing.
use Prim.Native.Nat.{ℕ, zero, suc, ◌+◌, ◌-◌, ◌≤◌, ◌<◌}
use mathlib.Core.Path.{◌≡◌, refl}
use mathlib.Core.Bool.{Bool, true, false, cond}
use mathlib.Core.List.{List}
use native.Mathlib.Numerals.{add-one}
use native.Mathlib.Omega.{arith}
use denote.Ref.{Bor}
use lib.Dec.{leb, ltb}
use borrow.Author.Tests.{lt-ltb, le-ltb, leb-true, leb-false}
use Rattle.sheet.specs.declared.reader.Reading.TheVariants.{Row, End}
use Rattle.sheet.specs.Format.{count_of, address_of, value_of, well_formed_of, read_of}
use Rattle.sheet.specs.Sheet.{Sheet}
use Rattle.sheet.specs.Reader.{new_of, after_calls, handed_out, HandsOut, Steps}
use Rattle.sheet.proofs.Sheets.{sheet_told, sheet_holds}

module _ (s : Bor (List ℕ)) where
  -- a reader keeps its sheet; call k is given row k, as long as a sheet can have one
  sheet_kept : (k : ℕ) → (after_calls (new_of s) k).sheet ≡ s
  sheet_kept zero = refl
  sheet_kept (suc k) = sheet_kept k

  calls_few : (k : ℕ) → k ≤ 39 → (after_calls (new_of s) k).row ≡ k
  calls_few zero h = refl
  calls_few (suc k) h = rw (calls_few k (omega arith), lt-ltb k 39 h, add-one)

  calls_past : (k : ℕ) → (after_calls (new_of s) (39 + k)).row ≡ 39
  calls_past zero = calls_few 39 (omega arith)
  calls_past (suc k) = let e : 39 + suc k ≡ suc (39 + k) = omega arith in rw (e, calls_past k)

  module _ (f : well_formed_of s.now ≡ true) where
    handed_row : (k : ℕ) → k < count_of s.now → handed_out (new_of s) k ≡ Row (address_of s.now k) (value_of s.now k)
    unfolding read_of
    handed_row k h = let few = (sheet_told s.now f).few in rw (sheet_kept k, calls_few k (omega arith), f, lt-ltb k (count_of s.now) h)

    end_at : (i : ℕ) → count_of s.now ≤ i → read_of s.now i ≡ End
    unfolding read_of
    end_at i h = rw (f, le-ltb i (count_of s.now) h)

    handed_end : (k : ℕ) → count_of s.now ≤ k → handed_out (new_of s) k ≡ End
    handed_end k h = rw (sheet_kept k) (go (leb k 39) refl)
      where
        go : (t : Bool) → leb k 39 ≡ t → read_of s.now (after_calls (new_of s) k).row ≡ End
        go true e = rw (calls_few k (leb-true k 39 e)) (end_at k h)
        go false e =
            let past = leb-false k 39 e in
            let q : 39 + (k - 39) ≡ k = omega arith in
            rw (rw q at (calls_past (k - 39))) (end_at 39 (sheet_told s.now f).few)

-- bytes that are no sheet do not pass the test
failed : (s : List ℕ) → (Sheet s → ⊥) → well_formed_of s ≡ false
failed s never = go (well_formed_of s) refl
  where
    go : (t : Bool) → well_formed_of s ≡ t → well_formed_of s ≡ false
    go true e = absurd (never (sheet_told s e))
    go false e = e

pub hands_out : (s : Bor (List ℕ)) → HandsOut s
unfolding read_of
hands_out s =
    record {
      rows = λ is. handed_row s (sheet_holds s.now is);
      none_left = λ is. handed_end s (sheet_holds s.now is);
      malformed = λ never k. rw (sheet_kept s k, failed s.now never);
    }

pub steps : Steps
unfolding read_of
steps =
    record {
      new = λ s. (refl, refl);
      keeps = λ r. refl;
      row = λ r is h. let s = r.sheet.now in let few = is.few in (rw (sheet_holds s is, lt-ltb r.row (count_of s) h), rw (lt-ltb r.row 39 (omega arith)));
      none_left = λ r is h. let s = r.sheet.now in
          (rw (sheet_holds s is, le-ltb r.row (count_of s) h), elim (ltb r.row 39) as (λ t. count_of s ≤ cond t (r.row + 1) r.row) [ true ↦ omega arith | false ↦ h ]);
      malformed = λ r never. rw (failed r.sheet.now never);
    }
