-- What the program keeps of a form, line by line, and what it tells of that.
-- Assumes nothing.
use Rattle.std.specs.Prelude.{ℕ, ◌+◌, ◌%◌, ◌^◌, true, false, cond, List, replicate, ◌==◌, nat_lt, slice_index, slice_index_or, slice_set, None, Some}
use Rattle.std.specs.Option.{option_or}
use Rattle.form_text.specs.declared.rows.Entry.{Entry}
use Rattle.form_text.specs.declared.rows.Entry.TheVariants as entry
use Rattle.form_text.specs.Form.{entry_of}
use Rattle.order_form.specs.declared.row.Row.{Row}
use Rattle.order_form.specs.Check.{most}
use Rattle.order_form.specs.Held.{no_row, blank_of, add_of, check_of}
use Rattle.free_number.specs.Lowest.{lowest_of}
use Rattle.free_number.specs.Used as map
use Rattle.order.specs.declared.desk.Desk.{Desk}
use Rattle.order.specs.declared.desk.Notice.{Notice}
use Rattle.order.specs.Written.{told_by, malformed_or}

unfoldable pub desk_of : Desk
desk_of = record { form = blank_of; places = replicate most 0; numbers = map.empty_of; lines = 0; first = true; malformed = None }

-- the line of a row that comes after so many others, where there is room
abbrev pub put_of : List ℕ → ℕ → ℕ → List ℕ
put_of places rows line = cond (nat_lt rows most) (slice_set places rows line) places

-- lines are counted in 64 bits
abbrev pub next_of : Desk → ℕ
next_of d = (d.lines + 1) % 2 ^ 64

-- one row more, in the last line
abbrev pub with_row_of : Desk → Row → Desk
with_row_of d row =
    record {
      form = add_of d.form row;
      places = put_of d.places d.form.count d.lines;
      numbers = (map.add_of d.numbers row.node).map;
      lines = d.lines;
      first = d.first;
      malformed = d.malformed;
    }

-- one line more, which is this
abbrev pub entered_of : Desk → Entry → Desk
entered_of d entry.Blank = record { form = d.form; places = d.places; numbers = d.numbers; lines = next_of d; first = d.first; malformed = d.malformed }
entered_of d entry.Heading = record { form = d.form; places = d.places; numbers = d.numbers; lines = next_of d; first = false; malformed = d.malformed }
entered_of d (entry.Row serial node) =
    with_row_of (record { form = d.form; places = d.places; numbers = d.numbers; lines = next_of d; first = false; malformed = d.malformed })
    (record { serial = serial; node = node })
entered_of d entry.Malformed =
    record {
      form = d.form;
      places = d.places;
      numbers = d.numbers;
      lines = next_of d;
      first = false;
      malformed = option_or d.malformed (Some (next_of d));
    }

unfoldable pub noted_of : Desk → List ℕ → Desk
noted_of d text = entered_of d (entry_of text (d.lines == 0) d.first)

-- the line of a row, and the row
abbrev pub line_at : Desk → ℕ → ℕ
line_at d i = slice_index d.places i

abbrev pub row_at : Desk → ℕ → Row
row_at d i = slice_index_or d.form.rows i no_row

unfoldable pub said_of : Desk → Notice
said_of d = malformed_or d.malformed (told_by (line_at d) (row_at d) d.form.count (lowest_of (map.used d.numbers)) (check_of d.form))
