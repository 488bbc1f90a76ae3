-- The way out of a call that is not refused: the rack fed, with room for all its replies.
-- Assumes nothing.
use Prim.Native.Nat.{ℕ, ◌-◌, ◌%◌, ◌≤◌}
use mathlib.Core.Path.{◌≡◌}
use mathlib.Core.Bool.{true, and-eq-true_iff}
use mathlib.Core.List.{List, ◌++◌}
use native.Mathlib.Omega.{arith}
use borrow.Author.Tests.{leb-true, eqb-true}
use lib.ListN.{length, take, drop}
use Rattle.line.specs.declared.calls.Line.{Line}
use Rattle.line.specs.Calls.{fits_of}
use Rattle.rack.specs.Rack.{is_rack, room_for, dropped_of, fed_of, laid_from, racked, rack_of, rack_space_of}
use Rattle.rack.proofs.Filled.{side_by_side}
use Rattle.rack.proofs.Rounds.{one_each, tens}

-- what the tests say of the length and the room
pub rack_told : (n : ℕ) → is_rack n ≡ true → (n % 10 ≡ 0) × (n ≤ 640)
unfolding is_rack
rack_told n e = let b = (and-eq-true_iff _ _).0 e in (eqb-true _ _ b.0, leb-true _ _ b.1)

pub room_told : (n room place : ℕ) → room_for n room place ≡ true → (place ≤ room) × (n ≤ room - place)
unfolding room_for
room_told n room place e = let b = (and-eq-true_iff _ _).0 e in (leb-true _ _ b.0, leb-true _ _ b.1)

module _ (l : Line) (bs : List ℕ) (at : ℕ) (space : List ℕ) (place : ℕ) (f : fits_of l ≡ true) (t : is_rack (length bs) ≡ true) where
  pub laid : room_for (length bs) (length space) place ≡ true
      → (racked (fed_of (dropped_of l at) bs at) ≡ rack_of l bs at (length space) place)
      × (take place space ++ laid_from (fed_of (dropped_of l at) bs at).laid 0 (drop place space) ≡ rack_space_of l bs at space place)
  unfolding rack_of rack_space_of
  laid r =
      let b = room_told (length bs) (length space) place r in
      let few = one_each l at bs f (rack_told _ t).0 in
      (rw (f, t, r), rw (f, t, r) (side_by_side _ (tens bs (dropped_of l at) at) place space (omega (arith, b.1, few))))
