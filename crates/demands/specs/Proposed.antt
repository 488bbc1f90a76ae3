-- What a proposed number is worth to whoever fills in an order form. It is asked of any keeper of a map (the crate free_number, Demand) and of any
-- check (the crate order_form, Demand) that do what is asked of them.
-- Assumes nothing.
use Rattle.std.specs.Prelude.{ℕ, ◌≤◌, ◌<◌, ◌≡◌, ◌≢◌, ◌↔◌, List, [], ◌∷◌, ◌++◌, map, length, set, Ok, Some, None, Option}
use Rattle.order_form.specs.declared.row.Row.{Row}
use Rattle.order_form.specs.declared.row.Column.{Column}
use Rattle.order_form.specs.declared.row.Column.TheVariants.{Serial, Number}
use Rattle.order_form.specs.declared.answer.Answer.{Answer}
use Rattle.order_form.specs.declared.answer.Answer.TheVariants.{AllDiffer, Repeats, Refused}
use Rattle.order_form.specs.declared.answer.Refusal.{Refusal}
use Rattle.order_form.specs.Demand as form
use Rattle.free_number.specs.declared.map.Map.{Map}
use Rattle.free_number.specs.Rows.{start, adding}
use Rattle.free_number.specs.Demand as keeper
use Rattle.demands.specs.Run.{System, machine_of, runs}
use Rattle.demands.specs.Ordered.{grown_by, ◌then◌, Ordered, FormsAreSafe, accident, asking}

-- the map of a form: the number of each row is added, one after another; and the number that is proposed for it
abbrev pub map_of : keeper.Keeper → List Row → Map
map_of k rows = keeper.after k (adding start (map (form.of Number) rows))

abbrev pub proposed : keeper.Keeper → List Row → Option ℕ
proposed k rows = k.lowest (map_of k rows)

-- ---- a further row with that number
abbrev pub further : List Row → ℕ → ℕ → List Row
further rows serial n = rows ++ (record { serial = serial; node = n } ∷ [])

abbrev pub IsNew : ℕ → List Row → Type 0
IsNew serial rows = (i : ℕ) → i < length rows → form.at Serial rows i ≢ serial

-- ---- that number in the place of the one that row i repeats
abbrev pub renumbered : List Row → ℕ → ℕ → List Row
renumbered rows i n = set rows i (record { serial = form.at Serial rows i; node = n })

-- if another row repeats one, it is a later one
abbrev pub LaterThan : ℕ → Answer → Type 0
LaterThan i AllDiffer = Unit {0}
LaterThan i (Repeats c k j) = i < k
LaterThan i (Refused why) = ⊥

pub record Proposed (k : keeper.Keeper) (check : List Row → Answer) : Type 0 where
  -- a further row with the number that is proposed for an accepted form gives an accepted form, as far as numbers go: it is accepted just if the serial is
  -- new, and with the serial of row i it is that serial which is found fault with
  pub one_more : (rows : List Row) (n serial : ℕ) → check rows ≡ AllDiffer → proposed k rows ≡ Some n
      → check (further rows serial n) ≡ AllDiffer ↔ IsNew serial rows
  pub only_serial : (rows : List Row) (n i : ℕ) → check rows ≡ AllDiffer → proposed k rows ≡ Some n → i < length rows
      → check (further rows (form.at Serial rows i) n) ≡ Repeats Serial (length rows) i
  -- of an accepted form the count is that of its rows, and no number is free just if there are 127
  pub heads : (rows : List Row) → check rows ≡ AllDiffer → k.count (map_of k rows) ≡ length rows
  pub full : (rows : List Row) → check rows ≡ AllDiffer → proposed k rows ≡ None ↔ length rows ≡ 127
  -- a form that is sent back for a number has a free one; given to the row that is named, it is sent back for a later row, or is accepted
  pub has_one : (rows : List Row) (i j : ℕ) → check rows ≡ Repeats Number i j → (n : ℕ) × (proposed k rows ≡ Some n)
  pub mends : (rows : List Row) (i j n : ℕ) → check rows ≡ Repeats Number i j → proposed k rows ≡ Some n → LaterThan i (check (renumbered rows i n))
  -- a line that is grown by an accepted form of 31 rows at most may be grown on by the number that is proposed
  pub grows_on : (m : System) → FormsAreSafe m check → (rows : List Row) (n serial : ℕ) → length rows < 32 → check rows ≡ AllDiffer
      → proposed k rows ≡ Some n → IsNew serial rows → Ordered m (further rows serial n)

-- it rests on what is promised of the keeper and of the check, and on nothing else
abbrev pub ProposedRests : Type 0
ProposedRests = (k : keeper.Keeper) (check : List Row → Answer) → keeper.Demanded k → form.Demanded check → Proposed k check

-- ---- the accident (Ordered) again: the number that is proposed for its form, given to the row that is named, and a line grown by the form that this makes. The
-- read that two heads had answered is answered by one
abbrev pub mended : List Row
mended = renumbered accident 1 1

pub record Mended (m : System) (k : keeper.Keeper) (check : List Row → Answer) : Type 0 where
  pub sent_back : check accident ≡ Repeats Number 1 0
  pub proposes : proposed k accident ≡ Some 1
  pub let_pass : check mended ≡ AllDiffer
  pub replies : (machine_of m).heard (runs (machine_of m) (grown_by mended then asking)) 0x3F 0 10 ≡ Ok 1
  -- a third row with the number that is proposed then: its serial is new, and the form that it makes is accepted and grows a line
  pub goes_on : proposed k mended ≡ Some 2
  pub is_new : IsNew 4713 mended
  pub three : further mended 4713 2 ≡ record { serial = 4711; node = 31 } ∷ record { serial = 4712; node = 1 } ∷ record { serial = 4713; node = 2 } ∷ []
  pub let_pass_too : check (further mended 4713 2) ≡ AllDiffer
  pub grows : Ordered m (further mended 4713 2)
  -- both rows twice: mended, the form is sent back for a later row, the third. That neither the mended row nor one before it is named then, and that the form is
  -- not refused, is what a later row means
  pub later : check (renumbered (accident ++ accident) 1 1) ≡ Repeats Serial 2 0
  pub not_again : (c : Column) (i j : ℕ) → i ≤ 1 → LaterThan 1 (Repeats c i j) → ⊥
  pub not_refused : (why : Refusal) → LaterThan 1 (Refused why) → ⊥
