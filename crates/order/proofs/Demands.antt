-- What the clerk is told of a form is what is asked (Demand).
-- Assumes nothing.
use Rattle.std.proofs.Common.{◌≡◌, ℕ, true, List, map, length, get_or, refl}
use lib.ListN.{get_or-map}
use Rattle.rows.specs.Among.{among}
use Rattle.order_form.specs.declared.row.Column.TheVariants.{Serial, Number}
use Rattle.order_form.specs.declared.answer.Answer.{Answer}
use Rattle.order_form.specs.declared.answer.Answer.TheVariants.{AllDiffer, Repeats, Refused}
use Rattle.order_form.specs.declared.answer.Refusal.TheVariants.{Outside, TooMany}
use Rattle.order_form.specs.Check.{answer_of}
use Rattle.order_form.specs.Held.{no_row}
use Rattle.free_number.proofs.Lowest.{lowest_is}
use Rattle.order.specs.Written.{Placed, lines_from, rows_in, line_of, row_of, node_of, free_in, told_by, written_of}
use Rattle.order.specs.Demand.{at, IsFree, Says, Demanded}

module _ (rows : List Placed) where
  line_at : (i : ℕ) → get_or (map line_of rows) i 0 ≡ (at rows i).line
  line_at i = get_or-map line_of rows i (record { line = 0; row = no_row })

  row_at : (i : ℕ) → get_or (map row_of rows) i no_row ≡ (at rows i).row
  row_at i = get_or-map row_of rows i (record { line = 0; row = no_row })

  free : IsFree rows (free_in rows)
  free = lowest_is (among (map node_of rows))

  says : (a : Answer) → Says rows a (told_by (λ i. get_or (map line_of rows) i 0) (λ i. get_or (map row_of rows) i no_row) (length rows) (free_in rows) a)
  says AllDiffer = refl
  says (Repeats Serial i j) = (free_in rows, rw (line_at i, row_at i, line_at j), free)
  says (Repeats Number i j) = (free_in rows, rw (line_at i, row_at i, line_at j), free)
  says (Refused (Outside i)) = rw (line_at i, row_at i)
  says (Refused TooMany) = refl

pub form_says : Demanded written_of
unfolding written_of
form_says =
    record {
      malformed = λ ls line e. rw e;
      says = λ ls e. let rows = rows_in (lines_from 1 true ls) in rw e (says rows (answer_of (map row_of rows)));
    }
