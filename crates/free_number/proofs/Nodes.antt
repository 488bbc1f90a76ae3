-- A number from 1 to 127, by its test.
-- Assumes nothing.
use Prim.Native.Nat.{ℕ}
use mathlib.Core.Path.{◌≡◌, sym, ap, ◌∙◌}
use mathlib.Core.Bool.{true, false, and-eq-true_iff, true≢false}
use borrow.Author.Tests.{leb-true, le-leb, ne_eqb}
use lib.Dec.{leb, eqb}
use Rattle.free_number.specs.Rows.{is_node}
use Rattle.free_number.specs.Demand.{IsNode}

pub is_node_lem : (n : ℕ) → is_node n ≡ true → IsNode n
is_node_lem n e = let b = (and-eq-true_iff (leb 1 n) (leb n 127)).0 e in (leb-true 1 n b.0, leb-true n 127 b.1)

pub node_is : (n : ℕ) → IsNode n → is_node n ≡ true
node_is n h = rw (le-leb 1 n h.0, le-leb n 127 h.1)

-- a number that is not 1..127 is not one that is
pub other : (n k : ℕ) → IsNode n → is_node k ≡ false → eqb n k ≡ false
other n k h e = ne_eqb n k (λ z. true≢false (sym (node_is n h) ∙ ap is_node z ∙ e))
