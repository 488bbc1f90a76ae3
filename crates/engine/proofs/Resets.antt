-- The factory reset, by a turn of its loop and the loop's end.
-- Assumes nothing.
use Prim.Native.Nat.{ℕ, suc, ◌+◌, ◌≤◌, ◌<◌}
use native.Mathlib.Numerals.{add-one}
use mathlib.Core.Path.{◌≡◌, refl, ◌∙◌}
use mathlib.Core.Bool.{cond}
use mathlib.Core.List.{List, ◌∷◌, ◌++◌, append-nil}
use lib.ListN.{length, take, drop, get_or, set, drop_of_length-le}
use lib.Seq.{drop-cons, take_all}
use Rattle.rows.specs.Table.{row_of, delivery}
use Rattle.rows.specs.Resets.{resets_of}
use Rattle.state.proofs.Lists.{moved}
use Rattle.engine.specs.Addresses.{the39}
use Rattle.engine.specs.Does.{reset_all}
use Rattle.engine.proofs.Addressed.{resets_at, default_at}

-- the value at a place after the reset, by the table's row there
abbrev pub value_of : ℕ → ℕ → ℕ → ℕ
value_of command i v = cond (resets_of command i) (delivery (row_of i)) v

pub length_39 : length the39 ≡ 39
unfolding the39
length_39 = refl

-- what is left, its first element taken off
first_left : (command i : ℕ) (vs : List ℕ) → i < 39 → i < length vs
    → reset_all command (drop i the39) (drop i vs) ≡ value_of command i (get_or vs i 0) ∷ reset_all command (drop (suc i) the39) (drop (suc i) vs)
first_left command i vs p h =
    let q : i < length the39 = rw length_39 p in
    rw (drop-cons the39 i 0 q, drop-cons vs i 0 h, resets_at command i p, default_at i p)

-- a turn of the loop: i values are done, the others are left
pub reset_turn : {t : List ℕ} (command i : ℕ) (vs : List ℕ) → i < 39 → i < length vs
    → take i vs ++ reset_all command (drop i the39) (drop i vs) ≡ t
    → take (i + 1) (set vs i (value_of command i (get_or vs i 0))) ++ reset_all command (drop (i + 1) the39) (drop (i + 1) (set vs i (value_of command i (get_or vs i 0)))) ≡ t
reset_turn command i vs p h e =
    rw add-one
    (moved i (value_of command i (get_or vs i 0)) vs (reset_all command (drop (suc i) the39)) h
    ∙ (rw (first_left command i vs p h) at e))

-- the loop's end: none is left
pub reset_end : {t : List ℕ} (command i : ℕ) (vs : List ℕ) → 39 ≤ i → length vs ≤ i → take i vs ++ reset_all command (drop i the39) (drop i vs) ≡ t → vs ≡ t
reset_end command i vs p h e =
    let q : length the39 ≤ i = rw length_39 p in
    rw (drop_of_length-le vs h, drop_of_length-le the39 q, take_all i vs h, append-nil vs) at e
