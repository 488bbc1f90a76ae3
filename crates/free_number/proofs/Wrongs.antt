-- Each wrong keeper is refuted by two words of which it says something else, or makes something else, since what is asked leaves nothing open (Only).
-- Assumes nothing.
use Rattle.std.specs.Prelude.{Some}
use Prim.Native.Nat.{ℕ, ◌-◌, ◌<◌, ◌^◌}
use mathlib.Core.Path.{◌≡◌, ap}
use mathlib.Core.Bool.{true≢false}
use native.Mathlib.Omega.{arith}
use Rattle.head.proofs.Nodes.{node_same}
use Rattle.free_number.specs.declared.map.Map.{Map}
use Rattle.free_number.specs.Lowest.{span, first_free, how_many, lowest_of, count_of}
use Rattle.free_number.specs.Used.{bit, whole, of_whole, used, flipped, add_of, remove_of}
use Rattle.free_number.specs.Demand.{Keeper, product, Demanded}
use Rattle.free_number.specs.Wrong.{last_counted, last_offered, highest, elsewhere, never_removed, nine_first, refused_turns, last_cleared}
use Rattle.free_number.proofs.Demands.{demanded}
use Rattle.free_number.proofs.Only.{Same, only}

-- two words, and what a keeper that does what is asked answers of them
abbrev words : ℕ → ℕ → Map
words low high = record { low = low; high = high }

meets : (k : Keeper) → Demanded k → (low high : ℕ) → low < 2 ^ 64 → high < 2 ^ 64 → Same k product (words low high)
meets k d low high l h = only k product d demanded (words low high) (record { low_fits = l; high_fits = h })

abbrev lower : Map → ℕ
lower m = m.low

abbrev upper : Map → ℕ
upper m = m.high

-- only the 128th bit is set
pub last_counted_lem : Demanded last_counted → ⊥
unfolding count_of how_many span used whole bit
last_counted_lem d = let e = (meets last_counted d 0 (2 ^ 63) (omega arith) (omega arith)).count in absurd (omega (arith, e))

-- every number from 1 to 127 is used
pub last_offered_lem : Demanded last_offered → ⊥
unfolding lowest_of first_free span used whole bit
last_offered_lem d = let e = (meets last_offered d (2 ^ 64 - 1) (2 ^ 63 - 1) (omega arith) (omega arith)).lowest in true≢false (cc e)

-- no number is used
pub not_highest : Demanded highest → ⊥
unfolding lowest_of first_free span used whole bit
not_highest d = let e = (meets highest d 0 0 (omega arith) (omega arith)).lowest in absurd (omega (arith, number e))
  where
    number : {a b : ℕ} → Some a ≡ Some b → a ≡ b
    number e = cc

-- 64 is used
pub not_elsewhere : Demanded elsewhere → ⊥
unfolding count_of how_many span used whole bit
not_elsewhere d = let e = (meets elsewhere d (2 ^ 63) 0 (omega arith) (omega arith)).count in absurd (omega (arith, e))

-- 1 is used, and is removed
pub never_removed_lem : Demanded never_removed → ⊥
unfolding remove_of used flipped whole of_whole bit
never_removed_lem d = let e = ((meets never_removed d 1 0 (omega arith) (omega arith)).removes 1).0 in absurd (omega (arith, simp node_same at (ap lower e)))

-- 0 is removed: it is no number, and is not used either
pub nine_first_lem : Demanded nine_first → ⊥
unfolding remove_of used whole bit
nine_first_lem d = let e = ((meets nine_first d 0 0 (omega arith) (omega arith)).removes 0).1 in absurd (omega (arith, simp node_same at e))

-- 1 is used, and is added
pub refused_turns_lem : Demanded refused_turns → ⊥
unfolding add_of used flipped whole of_whole bit
refused_turns_lem d = let e = ((meets refused_turns d 1 0 (omega arith) (omega arith)).adds 1).0 in absurd (omega (arith, simp node_same at (ap lower e)))

-- the 128th bit is set, and 0 is added, which is refused
pub last_cleared_lem : Demanded last_cleared → ⊥
unfolding add_of used flipped whole of_whole bit
last_cleared_lem d = let e = ((meets last_cleared d 0 (2 ^ 63) (omega arith) (omega arith)).adds 0).0 in absurd (omega (arith, simp node_same at (ap upper e)))
