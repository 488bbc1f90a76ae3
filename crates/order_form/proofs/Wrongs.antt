-- Each wrong check is refuted by a form that it answers otherwise, since what is asked of a check leaves nothing open (Only).
-- Assumes nothing.
use Prim.Native.Nat.{ℕ}
use mathlib.Core.Bool.{true≢false}
use mathlib.Core.Logic.{◌≢◌}
use mathlib.Core.List.{List, [], ◌∷◌}
use lib.ListN.{replicate}
use Rattle.head.proofs.Nodes.{node_same}
use Rattle.order_form.specs.declared.row.Row.{Row}
use Rattle.order_form.specs.declared.answer.Answer.{Answer}
use Rattle.order_form.specs.Rows.{first_of}
use Rattle.order_form.specs.Check.{repeat_from, answer_of}
use Rattle.order_form.specs.Demand.{Demanded}
use Rattle.order_form.specs.Wrong.{number_first, last_repeat, seven_first, neighbours_only, from_one_of, low_serials, first_rows_of}
use Rattle.order_form.proofs.Demands.{demanded}
use Rattle.order_form.proofs.Only.{only}

-- a check that answers one form otherwise does not do what is asked
refuted : (check : List Row → Answer) (form : List Row) → check form ≢ answer_of form → Demanded check → ⊥
refuted check form differs does = differs (only check answer_of does demanded form)

infix 70 ◌to◌
abbrev ◌to◌ : ℕ → ℕ → Row
serial to node = record { serial = serial; node = node }

-- the third row has the serial of the first and the number of the second
pub number_first_lem : Demanded number_first → ⊥
unfolding answer_of repeat_from first_of
number_first_lem = refuted number_first (4711 to 12 ∷ 4712 to 13 ∷ 4711 to 13 ∷ []) (λ e. true≢false (cc (simp node_same at e)))

-- two rows repeat the first
pub last_repeat_lem : Demanded last_repeat → ⊥
unfolding answer_of repeat_from first_of
last_repeat_lem = refuted last_repeat (4711 to 12 ∷ 4711 to 13 ∷ 4711 to 14 ∷ []) (λ e. true≢false (cc (simp node_same at e)))

-- 128 rows with the number 0
pub seven_first_lem : Demanded seven_first → ⊥
unfolding answer_of repeat_from first_of
seven_first_lem = refuted seven_first (replicate 128 (4711 to 0)) (λ e. true≢false (cc (simp node_same at e)))

-- the third row has the number of the first
pub neighbours_only_lem : Demanded neighbours_only → ⊥
unfolding answer_of repeat_from first_of
neighbours_only_lem = refuted neighbours_only (4711 to 12 ∷ 4712 to 13 ∷ 4713 to 12 ∷ []) (λ e. true≢false (cc (simp node_same at e)))

-- the second row has the number of the first
pub from_one : Demanded from_one_of → ⊥
unfolding answer_of repeat_from first_of
from_one = refuted from_one_of (4711 to 12 ∷ 4712 to 12 ∷ []) (λ e. true≢false (cc (simp node_same at e)))

-- the serial of the second row is 65,536 more than that of the first
pub low_serials_lem : Demanded low_serials → ⊥
unfolding answer_of repeat_from first_of
low_serials_lem = refuted low_serials (4711 to 12 ∷ 70247 to 13 ∷ []) (λ e. true≢false (cc (simp node_same at e)))

-- 128 rows
pub first_rows : Demanded first_rows_of → ⊥
unfolding answer_of repeat_from first_of
first_rows = refuted first_rows_of (replicate 128 (4711 to 12)) (λ e. true≢false (cc (simp node_same at e)))
