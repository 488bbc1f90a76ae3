-- A form to which rows were added one by one answers what the list of the rows does: it keeps the rows, as far as there is room, and counts them.
-- Assumes nothing.
use Prim.Native.Nat.{suc, ◌≤◌, ◌<◌, min}
use mathlib.Core.Path.{◌≡◌, refl}
use mathlib.Core.Bool.{Bool, true, false, cond}
use mathlib.Core.List.{List, [], ◌∷◌, ◌++◌, append-nil}
use native.Mathlib.Omega.{arith}
use borrow.Author.Tests.{lt-ltb, le-ltb, ltb-true, ltb-false}
use lib.Dec.{ltb}
use lib.ListN.{length, set}
use lib.Seq.{take_all, append_snoc}
use Rattle.order_form.specs.declared.row.Row.{Row}
use Rattle.order_form.specs.declared.form.Form.{Form}
use Rattle.order_form.specs.Check.{most, answer_of}
use Rattle.order_form.specs.Held.{blank_of, add_of, check_of, add_all}
use Rattle.order_form.proofs.Kept.{Kept, none_kept, one_more, length_snoc}

-- the form holds these rows: one more than there is room for stands for any number
pub record Holds (f : Form) (rows : List Row) : Type 0 where
  pub count : f.count ≡ min (length rows) (suc most)
  pub are : Kept most rows f.rows

-- there is room for one more just if there is for the list
pub room_test : (f : Form) (rows : List Row) → Holds f rows → ltb f.count most ≡ ltb (length rows) most
room_test f rows k = go (ltb (length rows) most) refl
  where
    go : (b : Bool) → ltb (length rows) most ≡ b → ltb f.count most ≡ b
    go true e = let h : length rows < most = ltb-true (length rows) most e in lt-ltb f.count most (omega (arith, k.count))
    go false e = let h : most ≤ length rows = ltb-false (length rows) most e in le-ltb f.count most (omega (arith, k.count))

holds_more : (f : Form) (rows : List Row) (r : Row) → Holds f rows → Holds (add_of f r) (rows ++ (r ∷ []))
unfolding add_of
holds_more f rows r k = go (ltb (length rows) most) refl (one_more most rows f.rows r k.are)
  where
    go : (b : Bool) → ltb (length rows) most ≡ b → Kept most (rows ++ (r ∷ [])) (cond (ltb (length rows) most) (set f.rows (length rows) r) f.rows)
        → Holds (add_of f r) (rows ++ (r ∷ []))
    go true e more =
        let h : length rows < most = ltb-true (length rows) most e in
        let same : f.count ≡ length rows = omega (arith, k.count) in
        rw (room_test f rows k, e) (record { count = rw (same, length_snoc rows r) (omega arith); are = rw same (rw e at more) })
    go false e more =
        let h : most ≤ length rows = ltb-false (length rows) most e in
        rw (room_test f rows k, e) (record { count = rw (length_snoc rows r) (omega arith); are = rw e at more })

holds_on : (rest before : List Row) (f : Form) → Holds f before → Holds (add_all f rest) (before ++ rest)
holds_on [] before f k = rw append-nil k
holds_on (r ∷ rest) before f k = rw append_snoc at (holds_on rest (before ++ (r ∷ [])) (add_of f r) (holds_more f before r k))

pub holds : (rows : List Row) → Holds (add_all blank_of rows) rows
unfolding blank_of
holds rows = holds_on rows [] blank_of (record { count = refl; are = none_kept blank_of.rows })

pub added : (rows : List Row) → check_of (add_all blank_of rows) ≡ answer_of rows
unfolding check_of answer_of
added rows = go (ltb most (length rows)) refl
  where
    f : Form
    f = add_all blank_of rows

    go : (b : Bool) → ltb most (length rows) ≡ b → check_of f ≡ answer_of rows
    go true e =
        let h : most < length rows = ltb-true most (length rows) e in
        let c : f.count ≡ suc most = omega (arith, (holds rows).count) in
        rw (c, e)
    go false e =
        let h : length rows ≤ most = ltb-false most (length rows) e in
        let c : f.count ≡ length rows = omega (arith, (holds rows).count) in
        rw (c, e, (holds rows).are.front, take_all most rows h, e)

-- ---- one row after the others
pub add_snoc : (f : Form) (xs : List Row) (r : Row) → add_all f (xs ++ (r ∷ [])) ≡ add_of (add_all f xs) r
add_snoc f [] r = refl
add_snoc f (x ∷ xs) r = add_snoc (add_of f x) xs r
