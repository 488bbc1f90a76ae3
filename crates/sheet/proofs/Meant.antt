-- What a row of a sheet writes: a value that lies in its row is written as it stands.
-- Assumes nothing.
use Prim.Native.Nat.{ℕ}
use mathlib.Core.Path.{◌≡◌, refl, sym, ◌∙◌}
use mathlib.Core.Bool.{Bool, true, false, true≢false, cond, ◌&&◌, and-eq-true_iff}
use lib.Dec.{eqb}
use borrow.Author.Tests.{eqb-true}
use Rattle.rows.specs.Table.{rows, row_of, place_of}
use Rattle.rows.specs.Ranges.{is_signed_of, reading_of, unlisted_of, between_of, range_in, range_of, is_right}
use Rattle.sheet.specs.Loading.{meant_of}

-- 35h at 1 does not lie in its row
one_out : is_right (range_of 0x35 1) ≡ false
unfolding rows row_of place_of is_signed_of reading_of unlisted_of between_of range_in range_of
one_out = refl

pub right_meant : (a w : ℕ) → is_right (range_of a w) ≡ true → meant_of a w ≡ w
unfolding meant_of
right_meant a w h = go (eqb a 0x35 && eqb w 1) refl
  where
    go : (b : Bool) → (eqb a 0x35 && eqb w 1) ≡ b → cond b 0 w ≡ w
    go true e =
        let p = (and-eq-true_iff (eqb a 0x35) _).0 e in
        absurd (true≢false (sym (rw (eqb-true a 0x35 p.0, eqb-true w 1 p.1) at h) ∙ one_out))
    go false e = refl
