-- What the search for the first repeat knows before each row, and what it then answers: the whole search answers what the search from that row
-- on answers, with the rows before it as the earlier ones.
-- Assumes nothing.
use Rattle.std.specs.Prelude.{Some, None, position}
use Prim.Native.Nat.{ℕ, ◌+◌, ◌≤◌, ◌<◌}
use mathlib.Core.Path.{◌≡◌, sym, ◌∙◌, ap}
use mathlib.Core.List.{List, []}
use native.Mathlib.Numerals.{add-one}
use native.Mathlib.Omega.{arith}
use borrow.Author.Tests.{lt-ltb, le-ltb}
use lib.ListN.{length, get_or, take, drop, drop_of_length-le}
use lib.Seq.{drop-cons, take-suc, length-take-le}
use Rattle.order_form.specs.declared.row.Row.{Row}
use Rattle.order_form.specs.declared.row.Column.{Column}
use Rattle.order_form.specs.declared.row.Column.TheVariants.{Serial, Number}
use Rattle.order_form.specs.declared.answer.Answer.{Answer}
use Rattle.order_form.specs.declared.answer.Answer.TheVariants.{AllDiffer, Repeats}
use Rattle.order_form.specs.Rows.{value_of, has}
use Rattle.order_form.specs.Check.{repeat_or, repeat_from}
use Rattle.order_form.specs.Held.{no_row}
use Rattle.order_form.proofs.Places as places

-- none of the rows before row k repeats one
abbrev pub Apart : List Row → ℕ → Type 0
Apart rows k = repeat_from [] rows ≡ repeat_from (take k rows) (drop k rows)

-- the search in a column
module _ (c : Column) (before : List Row) (r : Row) (other : Answer) where
  pub found : (place : ℕ) → position (has c (value_of c r)) before ≡ Some place → repeat_or c before r other ≡ Repeats c (length before) place
  found place e = let f = places.found (has c (value_of c r)) before place e in rw (f.0, lt-ltb place (length before) f.1)

  pub not_found : position (has c (value_of c r)) before ≡ None → repeat_or c before r other ≡ other
  not_found e = rw (le-ltb _ (length before) (places.not_found (has c (value_of c r)) before e))

module _ (rows : List Row) (k : ℕ) (inside : k < length rows) (apart : Apart rows k) where
  abbrev row : Row
  row = get_or rows k no_row

  long : length (take k rows) ≡ k
  long = length-take-le k rows (omega arith)

  -- one row taken apart
  at_row : repeat_from [] rows
      ≡ repeat_or Serial (take k rows) row (repeat_or Number (take k rows) row (repeat_from (take (k + 1) rows) (drop (k + 1) rows)))
  unfolding repeat_from
  at_row = rw apart (rw (add-one, take-suc rows k no_row inside, drop-cons rows k no_row))

  pub serial_here : (i : ℕ) → position (has Serial row.serial) (take k rows) ≡ Some i → Repeats Serial k i ≡ repeat_from [] rows
  serial_here i e = sym (at_row ∙ found Serial (take k rows) row _ i e ∙ ap (λ (m : ℕ). Repeats Serial m i) long)

  module _ (new : position (has Serial row.serial) (take k rows) ≡ None) where
    pub number_here : (i : ℕ) → position (has Number row.node) (take k rows) ≡ Some i → Repeats Number k i ≡ repeat_from [] rows
    number_here i e =
        sym (at_row ∙ not_found Serial (take k rows) row _ new ∙ found Number (take k rows) row _ i e ∙ ap (λ (m : ℕ). Repeats Number m i) long)

    pub next : position (has Number row.node) (take k rows) ≡ None → Apart rows (k + 1)
    next e = at_row ∙ not_found Serial (take k rows) row _ new ∙ not_found Number (take k rows) row _ e

pub ends : (rows : List Row) (k : ℕ) → length rows ≤ k → Apart rows k → AllDiffer ≡ repeat_from [] rows
unfolding repeat_from
ends rows k h apart = sym (apart ∙ ap (repeat_from (take k rows)) (drop_of_length-le rows h))
