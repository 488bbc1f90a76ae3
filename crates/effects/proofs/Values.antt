-- The values after a system command, place by place: the list is as long as before, and each place has the value that the command
-- gives it. By induction over the values, the first standing at any place.
-- Assumes nothing.
use Prim.Native.Nat.{ℕ, zero, suc, ◌+◌, ◌<◌}
use native.Mathlib.Nat.{add-zero, zero-add, add-suc, suc-add, le_of_suc-le-suc, not-suc-le-zero}
use mathlib.Core.Path.{◌≡◌, refl, ap}
use mathlib.Core.List.{List, [], ◌∷◌}
use lib.ListN.{length, get_or}
use Rattle.effects.specs.Stored.{reset_value, reset_from, reset_of}

from_at : (k command : ℕ) (vs : List ℕ) (i : ℕ) → i < length vs → get_or (reset_from k command vs) i 0 ≡ reset_value command (k + i) (get_or vs i 0)
from_at k command [] i h = absurd (not-suc-le-zero h)
from_at k command (v ∷ vs) zero h = rw add-zero
from_at k command (v ∷ vs) (suc i) h = rw (add-suc k i, ← suc-add k i) (from_at (suc k) command vs i (le_of_suc-le-suc h))

pub reset_at : (command : ℕ) (vs : List ℕ) (i : ℕ) → i < length vs → get_or (reset_of command vs) i 0 ≡ reset_value command i (get_or vs i 0)
unfolding reset_of
reset_at command vs i h = rw zero-add at (from_at 0 command vs i h)

from_length : (k command : ℕ) (vs : List ℕ) → length (reset_from k command vs) ≡ length vs
from_length k command [] = refl
from_length k command (v ∷ vs) = ap suc (from_length (suc k) command vs)

pub reset_length : (command : ℕ) (vs : List ℕ) → length (reset_of command vs) ≡ length vs
unfolding reset_of
reset_length command vs = from_length 0 command vs
