-- A number may be a node number just if it is 1..127.
-- Assumes nothing.
use Rattle.std.proofs.Common.{◌≡◌, ℕ, ◌≤◌, Bool, true, false, ◌&&◌, leb, sym, refl, le-leb, leb-true}
use mathlib.Core.Bool.{and-eq-true_iff}
use Rattle.rows.proofs.Laws.{node_limits, node_fits_lem}
use Rattle.head.specs.Calls.{node_fits}

pub node_within : (node : ℕ) → node_fits node ≡ true → (1 ≤ node) × (node ≤ 127)
unfolding node_fits
node_within node e = node_limits node e

pub node_may : (node : ℕ) → 1 ≤ node → node ≤ 127 → node_fits node ≡ true
unfolding node_fits
node_may node low high = node_fits_lem node low high

both : (a b : Bool) → (a ≡ true → b ≡ true) → (b ≡ true → a ≡ true) → a ≡ b
both true true p q = refl
both true false p q = sym (p refl)
both false true p q = q refl
both false false p q = refl

pub node_same : (node : ℕ) → node_fits node ≡ leb 1 node && leb node 127
node_same node =
    both _ _ (λ e. let n = node_within node e in rw (le-leb 1 node n.0, le-leb node 127 n.1))
    (λ e. let n = (and-eq-true_iff (leb 1 node) _).0 e in node_may node (leb-true 1 node n.0) (leb-true node 127 n.1))
