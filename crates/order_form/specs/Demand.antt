-- What is asked of the check of an order form (document 02, request (iv)), of any check and by the rows' places: no search is in it.
-- Assumes nothing.
use Rattle.std.specs.Prelude.{ℕ, ◌<◌, ◌≤◌, ◌≡◌, ◌≢◌, List, length, get_or, take}
use Rattle.order_form.specs.declared.row.Row.{Row}
use Rattle.order_form.specs.declared.row.Column.{Column}
use Rattle.order_form.specs.declared.row.Column.TheVariants.{Serial, Number}
use Rattle.order_form.specs.declared.answer.Answer.{Answer}
use Rattle.order_form.specs.declared.answer.Answer.TheVariants.{AllDiffer, Repeats, Refused}
use Rattle.order_form.specs.declared.answer.Refusal.{Refusal}
use Rattle.order_form.specs.declared.answer.Refusal.TheVariants.{Outside}
use Rattle.order_form.specs.Check.{refusal_of}
use Rattle.order_form.specs.Held.{no_row}

-- what a row has in a column, and what row i has
abbrev pub of : Column → Row → ℕ
of Serial r = r.serial
of Number r = r.node

abbrev pub at : Column → List Row → ℕ → ℕ
at c rows i = of c (get_or rows i no_row)

-- no two rows share a serial or a number
abbrev pub NoRepeat : List Row → Type 0
NoRepeat rows = (c : Column) (i j : ℕ) → i < j → j < length rows → at c rows i ≢ at c rows j

-- a node number, and the rows' numbers
abbrev pub IsNode : ℕ → Type 0
IsNode n = (1 ≤ n) × (n ≤ 127)

abbrev pub AllNodes : List Row → Type 0
AllNodes rows = (i : ℕ) → i < length rows → IsNode (at Number rows i)

-- row k has in the column what row j has, and row j is an earlier one
pub record Same (c : Column) (rows : List Row) (k j : ℕ) : Type 0 where
  pub earlier : j < k
  pub same : at c rows j ≡ at c rows k

-- row k is one of the rows, and no row before it repeats one
pub record First (rows : List Row) (k : ℕ) : Type 0 where
  pub inside : k < length rows
  pub before : NoRepeat (take k rows)

-- the serial goes first: where the number of row k is named, the row repeats no serial
abbrev pub SerialFirst : Column → List Row → ℕ → Type 0
SerialFirst Serial rows k = Unit {0}
SerialFirst Number rows k = (i : ℕ) → Same Serial rows k i → ⊥

-- what an answer other than a refusal claims: all rows differ, or the row named is the first that repeats an earlier one, in that column
abbrev pub Claims : List Row → Answer → Type 0
Claims rows AllDiffer = NoRepeat rows
Claims rows (Repeats c k j) = First rows k × Same c rows k j × SerialFirst c rows k
Claims rows (Refused why) = ⊥

-- the answer is the refusal of that number
abbrev pub Refuses : ℕ → Answer → Type 0
Refuses n a = (why : Refusal) × (a ≡ Refused why) × (refusal_of why ≡ n)

pub record Demanded (check : List Row → Answer) : Type 0 where
  -- 8 for more than 127 rows, before all else
  pub eight : (rows : List Row) → 127 < length rows → Refuses 8 (check rows)
  -- 7 for a node number outside 1..127 in any row, before any search, and the first such row is named
  pub seven : (rows : List Row) (i : ℕ) → length rows ≤ 127 → i < length rows → (IsNode (at Number rows i) → ⊥)
      → (j : ℕ) × (j ≤ i) × AllNodes (take j rows) × (IsNode (at Number rows j) → ⊥) × (check rows ≡ Refused (Outside j)) × Refuses 7 (check rows)
  -- what is answered of any other form is so
  pub answered : (rows : List Row) → length rows ≤ 127 → AllNodes rows → Claims rows (check rows)
  -- it accepts exactly the forms with no repeat
  pub accepts : (rows : List Row) → length rows ≤ 127 → AllNodes rows → NoRepeat rows → check rows ≡ AllDiffer
  pub accepted : (rows : List Row) → check rows ≡ AllDiffer → (length rows ≤ 127) × AllNodes rows × NoRepeat rows
