-- The tests written out, place by place, are the walk over the rows.
-- Assumes nothing.
use Prim.Native.Nat.{ℕ, zero, suc, ◌+◌, ◌≤◌}
use native.Mathlib.Omega.{arith}
use native.Mathlib.Nat.{add-zero}
use mathlib.Core.Path.{◌≡◌, refl}
use mathlib.Core.Bool.{Bool, true, ◌&&◌, and-true, and_assoc}
use mathlib.Core.List.{List}
use lib.ListN.{length, drop}
use Rattle.rows.specs.Table.{rows, row_of, blank}
use Rattle.rows.specs.Ranges.{all_in, right_from, all_right_of}
use Rattle.rows.proofs.Fits.{turn, done}

rows_39 : length rows ≡ 39
unfolding rows
rows_39 = refl

-- what was found so far, with what is left, is the same after n more places
module _ (ws : List ℕ) (long : length ws ≡ 39) where
  on : {whole : Bool} (i n : ℕ) (found : Bool) → i + n ≤ 39 → (found && all_in (drop i rows) (drop i ws)) ≡ whole
      → (found && right_from i n ws && all_in (drop (i + n) rows) (drop (i + n) ws)) ≡ whole
  unfolding row_of
  on i zero found p h = rw (and-true, add-zero) h
  on i (suc n) found p h =
      let t = turn blank rows ws (i + n) (found && right_from i n ws) (omega (arith, rows_39)) (omega (arith, long)) refl (on i n found (omega arith) h) in
      let e : i + n + 1 ≡ i + suc n = omega arith in
      simp and_assoc (simp (e, and_assoc) at t)

  pub written_out : (right_from 0 13 ws && right_from 13 13 ws && right_from 26 13 ws) ≡ all_right_of ws
  unfolding all_right_of
  written_out =
      let a = right_from 0 13 ws in
      let b = a && right_from 13 13 ws in
      let h = on 26 13 b (omega arith) (on 13 13 a (omega arith) (on 0 13 true (omega arith) refl)) in
      done blank rows ws 39 (b && right_from 26 13 ws) (omega (arith, rows_39)) h
