-- What a deed does to the stored part (document 01, "What each one does"; an offer and the serial number: document 02, requests (ii) and (xi)). Demand 3 speaks of this part alone.
-- Assumes nothing.
use Rattle.std.specs.Prelude.{ℕ, suc, Bool, cond, not, ◌&&◌, List, [], ◌∷◌, eqb, set}
use Rattle.rows.specs.Table.{row_of, delivery}
use Rattle.rows.specs.Resets.{resets_of}
use Rattle.judge.specs.declared.deed.Deed.{Deed}
use Rattle.judge.specs.declared.deed.Deed.TheVariants.{Nothing, Store, Reset, Restart, Calibrate, Forget, Unlock, Freeze, Aim1, Aim2, ClearStatic, Release, Offer, Withdraw}
use Rattle.state.specs.declared.parts.Stored.{Stored}
use Rattle.state.specs.Settings.{value_at, node_place, baud_place, interlock_place}
use Rattle.state.specs.With.{with_values, with_lock, with_offer}

-- check 6: 0Eh is 1 and the interlock closed
unfoldable pub locked_of : Stored → Bool
locked_of s = eqb (value_at s.values interlock_place) 1 && not s.unlocked

-- the value at a place after a system command: what the command touches takes its delivery value
unfoldable pub reset_value : ℕ → ℕ → ℕ → ℕ
reset_value command i word = cond (resets_of command i) (delivery (row_of i)) word

-- all of them, the first of the list standing at place i
abbrev pub reset_from : ℕ → ℕ → List ℕ → List ℕ
reset_from i command [] = []
reset_from i command (v ∷ vs) = reset_value command i v ∷ reset_from (suc i) command vs

unfoldable pub reset_of : ℕ → List ℕ → List ℕ
reset_of command vs = reset_from 0 command vs

-- Auto-ID: the number that is offered goes to 00h
unfoldable pub adopted_stored : Stored → Stored
adopted_stored s = with_values s (set s.values node_place s.offer)

-- a restart keeps the 39, the serial number and the interlock, takes 00h and 01h into force, and drops an offer
unfoldable pub restarted_stored : Stored → Stored
restarted_stored s =
    record { values = s.values; number = value_at s.values node_place; baud = value_at s.values baud_place; offer = 0; serial = s.serial; unlocked = s.unlocked }

-- what a deed does to it; a restart is of the whole head, and comes after (Restart)
unfoldable pub stored_by : Deed → Stored → Stored
stored_by Nothing s = s
stored_by (Store i word) s = with_values s (set s.values i word)
stored_by (Reset command) s = with_values s (reset_of command s.values)
stored_by Restart s = s
stored_by Calibrate s = s
stored_by Forget s = s
stored_by (Unlock b) s = with_lock s b
stored_by Freeze s = s
stored_by (Aim1 v w) s = s
stored_by (Aim2 v w) s = s
stored_by ClearStatic s = s
stored_by Release s = s
stored_by (Offer n) s = with_offer s n
stored_by Withdraw s = with_offer s 0
