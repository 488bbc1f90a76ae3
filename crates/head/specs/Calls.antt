-- The calls on a head and their refusals (document 01, "The line, and calls refused"; sheets, serial numbers and older heads: document 02,
-- requests (vii), (xi) and (xii)): 20 goes before all others.
-- Assumes nothing.
use Rattle.std.specs.Prelude.{ℕ, Bool, cond, not, List, [], ◌∷◌, ◌++◌, length, drop, ℤ, nat_le, nat_lt, is_some, Ok, Err, Result, ⊤}
use Rattle.wire.specs.Telegram.{ten_in}
use Rattle.rows.specs.Table.{row_of}
use Rattle.rows.specs.Ranges.{fits_in}
use Rattle.state.specs.declared.parts.Head.{Head}
use Rattle.state.specs.Settings.{value_at, node_place, mode_place}
use Rattle.state.specs.Wellformed.{in_reach_of, wellformed_of}
use Rattle.state.specs.Older.{older_fits, brought_of}
use Rattle.state.specs.With.{with_stored, with_targets, with_values}
use Rattle.effects.specs.Aimed.{turned_of}
use Rattle.effects.specs.Restart.{restarted_of, fresh_of}
use Rattle.sheet.specs.declared.refusal.Refusal.TheVariants as sheet
use Rattle.sheet.specs.Format.{count_of, well_formed_of}
use Rattle.sheet.specs.Loading.{all_known_of, all_fitting_of, stored_rows}
use Rattle.sheet.specs.Writing.{whole, sheet_of}
use Rattle.head.specs.declared.refusal.Refusal.{Refusal}
use Rattle.head.specs.declared.refusal.Refusal.TheVariants.{Node, OutOfReach, Keys, Space, Sheet, Malformed}
use Rattle.head.specs.declared.calls.Called.{Called}
use Rattle.head.specs.declared.calls.Fed.{Fed}
use Rattle.head.specs.declared.hear.Stepped.{Stepped}
use Rattle.head.specs.Hear.{step_of}
use Rattle.head.specs.Moves.{ticked_of, measured_of, keyed_of}
use Rattle.sheet.specs.declared.refusal.Refusal as sheet-Refusal

-- ---- tests in their order, each with the refusal that is given where it fails: the first that fails decides
abbrev pub Tests : Type 0
Tests = List (Bool × Refusal)

abbrev pub guarded : {C : Type 0} → (Refusal → C) → Tests → C → C
guarded refuse [] done = done
guarded refuse (t ∷ ts) done = cond t.0 (guarded refuse ts done) (refuse t.1)

-- a call that was done, and one that was refused: the head is as it was
abbrev pub done_with : Head → Called
done_with h = record { head = h; answer = Ok tt }

abbrev pub refused_with : Head → Refusal → Called
refused_with h why = record { head = h; answer = Err why }

-- a call on a head that lends no space: 20, by the test of a head that it is told, then its own tests; where all hold, the head is the one that the
-- call makes of it
abbrev pub asked_by : Bool → Head → Tests → Head → Called
asked_by fits h own next = guarded (refused_with h) ((fits, Malformed) ∷ own) (done_with next)

abbrev pub asked_of : Head → Tests → Head → Called
asked_of h own next = asked_by (wellformed_of h) h own next

-- the factory head with a serial number
unfoldable pub factory_of : ℕ → Head
factory_of serial = fresh_of 31 serial

-- refusal 1: a node number not 1..127 is refused, and the head returned is the factory head at 31, with the serial number that was given
unfoldable pub node_fits : ℕ → Bool
node_fits node = fits_in (row_of node_place) node

unfoldable pub made_of : ℕ → ℕ → Called
made_of node serial = cond (node_fits node) (done_with (fresh_of node serial)) (refused_with (factory_of serial) Node)

-- a reply in the first ten bytes, the rest unchanged; a space that is too short stays as it is
unfoldable pub laid_on_of : List ℕ → List ℕ → List ℕ
laid_on_of space x = cond (nat_lt (length space) 10) space (x ++ drop 10 space)

-- what a head did with a byte or a key state: the number of replies, told apart from a refusal
abbrev pub fed_with : Stepped → Fed
fed_with s = record { head = s.head; heard = Ok (cond (is_some s.reply) 1 0) }

abbrev pub unfed : Head → Refusal → Fed
unfed h why = record { head = h; heard = Err why }

-- with one reply it stands in the first ten bytes; with none, or refused, no byte changes
abbrev pub space_with : Stepped → List ℕ → List ℕ
space_with s space = cond (is_some s.reply) (laid_on_of space (ten_in s.reply)) space

-- a call on a head that lends space: 20, then its own tests, then 6 for a space under ten bytes; where all hold, what the head does
abbrev pub lent_tests : Head → Tests → ℕ → Tests
lent_tests h own room = (wellformed_of h, Malformed) ∷ (own ++ ((not (nat_lt room 10), Space) ∷ []))

abbrev pub lent_of : Head → Tests → ℕ → Stepped → Fed
lent_of h own room s = guarded (unfed h) (lent_tests h own room) (fed_with s)

abbrev pub lent_space : Head → Tests → List ℕ → Stepped → List ℕ
lent_space h own space s = guarded (λ why. space) (lent_tests h own (length space)) (space_with s space)

unfoldable pub byte_of : Head → ℕ → ℕ → ℕ → Fed
byte_of h b at room = lent_of h [] room (step_of h b at)

unfoldable pub byte_space_of : Head → ℕ → ℕ → List ℕ → List ℕ
byte_space_of h b at space = lent_space h [] space (step_of h b at)

-- a key state: 5 before 6
abbrev pub keys_tests : ℕ → Tests
keys_tests state = (nat_le state 7, Keys) ∷ []

unfoldable pub keys_of : Head → ℕ → ℕ → Fed
keys_of h state room = lent_of h (keys_tests state) room (keyed_of h state)

unfoldable pub keys_space_of : Head → ℕ → List ℕ → List ℕ
keys_space_of h state space = lent_space h (keys_tests state) space (keyed_of h state)

unfoldable pub tick_of : Head → ℕ → Called
tick_of h at = asked_of h [] (ticked_of h at)

unfoldable pub measure_of : Head → ℤ → Called
measure_of h m = asked_of h ((in_reach_of m, OutOfReach) ∷ []) (measured_of h m)

-- power: a restart
unfoldable pub power_of : Head → Called
power_of h = asked_of h [] (restarted_of h)

-- an older head is brought over (document 02, request (xii)): 20 by the old test
unfoldable pub bring_of : Head → Called
bring_of h = asked_by (older_fits h) h [] (brought_of h)

-- a call that hands back no head: 20 first
abbrev pub tested_of : Head → Result ⊤ Refusal
tested_of h = guarded Err ((wellformed_of h, Malformed) ∷ []) (Ok tt)

-- the last non-zero exclusive-or, 0 where there is none (document 02, request (i)): 20, then what is kept, whatever byte that is
unfoldable pub last_hit_of : Head → Result ℕ Refusal
last_hit_of h = guarded Err ((wellformed_of h, Malformed) ∷ []) (Ok h.faults.hit)

-- the serial number that the head was made with (document 02, request (xi)): 20, then what is kept, whatever number that is
unfoldable pub serial_number_of : Head → Result ℕ Refusal
serial_number_of h = guarded Err ((wellformed_of h, Malformed) ∷ []) (Ok h.stored.serial)

-- ---- a sheet is loaded: 11, then 12, then 13; where all hold, its values are stored at the places of their addresses; and no other part of the head changes, but that
-- alpha-numeric display may be entered or left
abbrev pub sheet_tests : List ℕ → Tests
sheet_tests s = (well_formed_of s, Sheet sheet.Malformed) ∷ (all_known_of s, Sheet sheet.NotStored) ∷ (all_fitting_of s, Sheet sheet.OutOfRow) ∷ []

abbrev pub loaded_values : Head → List ℕ → List ℕ
loaded_values h s = stored_rows h.stored.values s (count_of s)

unfoldable pub loaded_of : Head → List ℕ → Head
loaded_of h s =
    with_targets (with_stored h (with_values h.stored (loaded_values h s)))
    (turned_of (value_at h.stored.values mode_place) (value_at (loaded_values h s) mode_place) h.targets)

unfoldable pub load_of : Head → List ℕ → Called
load_of h s = asked_of h (sheet_tests s) (loaded_of h s)

-- what is answered for a sheet
abbrev pub told_of : Result ⊤ sheet-Refusal.Refusal → Result ⊤ Refusal
told_of (Ok tt) = Ok tt
told_of (Err why) = Err (Sheet why)

-- a sheet is written: 14; it hands back no head. The space after the sheet is unchanged, and refused no byte changes
abbrev pub save_tests : Head → ℕ → Tests
save_tests h room = (wellformed_of h, Malformed) ∷ (not (nat_lt room whole), Sheet sheet.Short) ∷ []

unfoldable pub save_of : Head → ℕ → Result ⊤ Refusal
save_of h room = guarded Err (save_tests h room) (Ok tt)

unfoldable pub save_space_of : Head → List ℕ → List ℕ
save_space_of h space = guarded (λ why. space) (save_tests h (length space)) (sheet_of h.stored.values ++ drop whole space)
