-- Values and the rows that they lie in, over any list of rows: the turn of the walk over both, one value out of all, and one stored.
-- Assumes nothing.
use mathlib.Core.Path.{◌≡◌, refl, sym}
use mathlib.Core.Bool.{Bool, true, false, ◌&&◌, and_assoc, and-true, true≢false}
use mathlib.Core.List.{List, [], ◌∷◌}
use Prim.Native.Nat.{ℕ, zero, suc, ◌+◌, ◌≤◌, ◌<◌}
use native.Mathlib.Nat.{le_of_suc-le-suc, not-suc-le-zero}
use native.Mathlib.Numerals.{add-one}
use lib.ListN.{length, drop, get_or, set, drop_of_length-le}
use lib.Seq.{drop-cons}
use Rattle.rows.specs.declared.table.Row.{Row}
use Rattle.rows.specs.Ranges.{fits_in, all_in}

and_left : (a b : Bool) → (a && b) ≡ true → a ≡ true
and_left true b h = refl
and_left false b h = h

and_right : (a b : Bool) → (a && b) ≡ true → b ≡ true
and_right true b h = h
and_right false b h = absurd (true≢false (sym h))

-- what was found so far, with what is left, is the same after one more value
module _ (d : Row) (rs : List Row) (ws : List ℕ) (i : ℕ) (found : Bool) {whole : Bool} where
  pub turn : {here : Bool} → i < length rs → i < length ws → here ≡ fits_in (get_or rs i d) (get_or ws i 0)
      → (found && all_in (drop i rs) (drop i ws)) ≡ whole → (found && here && all_in (drop (i + 1) rs) (drop (i + 1) ws)) ≡ whole
  turn p q e h = rw (e, add-one, and_assoc) (rw (drop-cons rs i d p, drop-cons ws i 0 q) at h)

  pub done : length rs ≤ i → (found && all_in (drop i rs) (drop i ws)) ≡ whole → found ≡ whole
  done p h = rw (drop_of_length-le rs p, and-true) at h

-- where all lie in their rows each does, and they still do after a store of one that does; a store past the list changes nothing
pub each_in : (d : Row) (rs : List Row) (ws : List ℕ) (i : ℕ) → all_in rs ws ≡ true → i < length rs → fits_in (get_or rs i d) (get_or ws i 0) ≡ true
each_in d [] ws i h p = absurd (not-suc-le-zero p)
each_in d (r ∷ rs) [] i h p = absurd (true≢false (sym h))
each_in d (r ∷ rs) (w ∷ ws) zero h p = and_left (fits_in r w) (all_in rs ws) h
each_in d (r ∷ rs) (w ∷ ws) (suc i) h p = each_in d rs ws i (and_right (fits_in r w) (all_in rs ws) h) (le_of_suc-le-suc p)

pub set_in : (d : Row) (rs : List Row) (ws : List ℕ) (i w : ℕ) → all_in rs ws ≡ true → fits_in (get_or rs i d) w ≡ true → all_in rs (set ws i w) ≡ true
set_in d [] ws i w h f = refl
set_in d (r ∷ rs) [] i w h f = absurd (true≢false (sym h))
set_in d (r ∷ rs) (v ∷ ws) zero w h f = rw (f, and_right (fits_in r v) (all_in rs ws) h)
set_in d (r ∷ rs) (v ∷ ws) (suc i) w h f =
    rw (and_left (fits_in r v) (all_in rs ws) h, set_in d rs ws i w (and_right (fits_in r v) (all_in rs ws) h) f)
