-- Laws of the first row of which a test holds: it holds there, and of no row before, and a search by place finds it.
-- Assumes nothing.
use Rattle.std.specs.Prelude.{Some, None, position}
use Rattle.std.specs.List.{position_or_len}
use Rattle.std.proofs.lemmas.List.Recursion.{is_position_or_len}
use Rattle.std.proofs.lemmas.List.Sums.{passes_at_first, fails_before_first}
use Prim.Native.Nat.{ℕ, ◌≤◌, ◌<◌}
use mathlib.Core.Path.{◌≡◌, refl}
use mathlib.Core.Bool.{Bool, true, false, cond}
use mathlib.Core.List.{List}
use native.Mathlib.Numerals.{one-add}
use native.Mathlib.Omega.{arith}
use borrow.Author.Tests.{ltb-true, ltb-false}
use lib.Dec.{ltb}
use lib.ListN.{length, get_or}
use Rattle.order_form.specs.declared.row.Row.{Row}
use Rattle.order_form.specs.Rows.{first_of}
use Rattle.order_form.specs.Held.{no_row}

module _ (test : Row → Bool) (rows : List Row) where
  is_first : first_of test rows ≡ position_or_len test rows
  unfolding first_of
  is_first = is_position_or_len (first_of test) test refl (λ r rs. rw one-add) rows

  pub first_holds : first_of test rows < length rows → test (get_or rows (first_of test rows) no_row) ≡ true
  first_holds h = rw is_first (passes_at_first test rows no_row (omega (arith, is_first)))

  pub first_before : (i : ℕ) → i < first_of test rows → test (get_or rows i no_row) ≡ false
  first_before i h = fails_before_first test rows i no_row (omega (arith, is_first))

  pub found : (i : ℕ) → position test rows ≡ Some i → (first_of test rows ≡ i) × (i < length rows)
  found i e = go (ltb (position_or_len test rows) (length rows)) refl e
    where
      go : (b : Bool) → ltb (position_or_len test rows) (length rows) ≡ b → cond b (Some (position_or_len test rows)) None ≡ Some i
          → (first_of test rows ≡ i) × (i < length rows)
      go true t e = (cc is_first, let l = ltb-true (position_or_len test rows) (length rows) t in let q : position_or_len test rows ≡ i = cc in omega arith)
      go false t e = absurd (cc)

  pub not_found : position test rows ≡ None → length rows ≤ first_of test rows
  not_found e = go (ltb (position_or_len test rows) (length rows)) refl e
    where
      go : (b : Bool) → ltb (position_or_len test rows) (length rows) ≡ b → cond b (Some (position_or_len test rows)) None ≡ None → length rows ≤ first_of test rows
      go true t e = absurd (cc)
      go false t e = omega (arith, is_first, ltb-false (position_or_len test rows) (length rows) t)
