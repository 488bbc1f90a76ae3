-- Forms, and what the clerk is told of each, computed by the definition.
-- Assumes nothing.
use Rattle.std.proofs.Common.{◌≡◌, ℕ, ◌+◌, ◌/◌, ◌%◌, true, List, [], ◌∷◌, ◌++◌, map, replicate, refl, Some, None}
use Prim.Native.String.{String}
use Rattle.head.proofs.Nodes.{node_same}
use Rattle.text.specs.Text.{text}
use Rattle.text.specs.Lines.{bare_of}
use Rattle.text.specs.Numbers.{number_of}
use Rattle.text.specs.Reading.{lines_of}
use Rattle.form_text.specs.Cuts.{unmarked_of, trimmed_start_of, trimmed_end_of, trimmed_of, front_of}
use Rattle.form_text.specs.Form.{any_digit, read_of, entry_of}
use Rattle.order_form.specs.Rows.{first_of}
use Rattle.order_form.specs.Check.{repeat_from, answer_of}
use Rattle.free_number.specs.Lowest.{span, first_free, lowest_of}
use Rattle.order.specs.declared.desk.Notice.{Notice}
use Rattle.order.specs.declared.desk.Notice.TheVariants.{Accepted, SameSerial, SameNumber, Outside, TooMany, Malformed}
use Rattle.order.specs.Written.{lines_from, Placed, rows_in, free_in, written_of}

record Case : Type 0 where
  form : List ℕ
  tells : Notice

infix 70 ◌tells◌
abbrev ◌tells◌ : String → Notice → Case
f tells n = record { form = text f; tells = n }

abbrev Hold : List Case → Type 0
Hold [] = Unit {0}
Hold (c ∷ cs) = (written_of (lines_of c.form) ≡ c.tells) × Hold cs

abbrev mark : List ℕ
mark = 239 ∷ 187 ∷ 191 ∷ []

-- the form has no row, or a malformed line goes before all else
abbrev early : List Case
early =
    "" tells Accepted 0
    ∷ "4711,12\n4712\n4713,200\n4714\n" tells Malformed 2
    ∷ "serial,node\nserial,node\n4711,12\n" tells Malformed 2
    ∷ "4711,12\nserial,node\n" tells Malformed 2
    ∷ "\n# 1\nserial 1,node\n" tells Malformed 3
    ∷ "4711,12\r4712,13\n" tells Malformed 1
    ∷ "\n# 1\nserial,node\n\n" tells Accepted 0
    ∷ record { form = text "\n" ++ (mark ++ text "4711,12\n"); tells = Malformed 2 }
    ∷ record { form = text "4711,12\n" ++ replicate 4097 32; tells = Malformed 2 }
    ∷ []

abbrev searched : List Case
searched =
    "4711,12" tells Accepted 1
    ∷ "serial,node\n4711,12\n4712,13\n" tells Accepted 2
    ∷ "4711,12\n4712,13\n4713,12\n" tells SameNumber 3 12 1 (Some 1)
    ∷ "4711,12\n4712,13\n4711,14\n" tells SameSerial 3 4711 1 (Some 1)
    ∷ "4711,12\n4712,13\n4711,13\n" tells SameSerial 3 4711 1 (Some 1)
    ∷ "# order 118\n\nserial;node\n4711;12\n\n4712;12" tells SameNumber 6 12 4 (Some 1)
    ∷ "4711,12\n4712,12\n4711,12\n" tells SameNumber 2 12 1 (Some 1)
    ∷ "4711,12\n4711,200\n" tells Outside 2 200
    ∷ "4711,0\n4711,200\n" tells Outside 1 0
    ∷ "\n4711,12\n\n4712,4294967295\n4713,128\n" tells Outside 4 4294967295
    ∷ "0,1\n4711,127\n" tells Accepted 2
    ∷ "0,1\n\n0,2\n" tells SameSerial 3 0 1 (Some 3)
    ∷ record { form = mark ++ text "4711,12\r\n"; tells = Accepted 1 }
    ∷ []

-- the lowest number that no row has: rows after the one that repeats are looked at too, and a number that comes twice is used
abbrev freed : List Case
freed =
    "4711,1\n4712,1\n" tells SameNumber 2 1 1 (Some 2)
    ∷ "4711,2\n4712,2\n" tells SameNumber 2 2 1 (Some 1)
    ∷ "4711,1\n4712,1\n4713,2\n4714,4\n" tells SameNumber 2 1 1 (Some 3)
    ∷ "4711,3\n4711,1\n4713,3\n4714,2\n" tells SameSerial 2 4711 1 (Some 4)
    ∷ "1,127\n2,127\n" tells SameNumber 2 127 1 (Some 1)
    ∷ []

early_told : Hold early
unfolding written_of entry_of unmarked_of bare_of trimmed_of trimmed_start_of trimmed_end_of front_of read_of any_digit number_of first_of repeat_from answer_of
early_told = (refl, (refl, (refl, (refl, (refl, (refl, (refl, (refl, (refl, tt)))))))))

searched_told : Hold searched
unfolding written_of entry_of unmarked_of bare_of trimmed_of trimmed_start_of trimmed_end_of front_of read_of any_digit number_of first_of repeat_from answer_of lowest_of first_free span
searched_told =
    (simp node_same, (simp node_same, (simp node_same, (simp node_same, (simp node_same, (simp node_same, (simp node_same, (simp node_same, (simp node_same, (simp node_same, (simp node_same, (simp node_same, (simp node_same, tt)))))))))))))

freed_told : Hold freed
unfolding written_of entry_of unmarked_of bare_of trimmed_of trimmed_start_of trimmed_end_of front_of read_of any_digit number_of first_of repeat_from answer_of lowest_of first_free span
freed_told = (simp node_same, (simp node_same, (simp node_same, (simp node_same, (simp node_same, tt)))))

-- one serial with every number up to some: the next one is free, and none where all are taken
abbrev up_to : ℕ → List Placed
up_to k = rows_in (lines_from 1 true (map (λ n. text "4711," ++ ((48 + n / 100) ∷ (48 + n / 10 % 10) ∷ (48 + n % 10) ∷ [])) (span 1 k)))

next_free : (free_in (up_to 63) ≡ Some 64) × (free_in (up_to 64) ≡ Some 65) × (free_in (up_to 126) ≡ Some 127) × (free_in (up_to 127) ≡ None)
unfolding entry_of unmarked_of bare_of trimmed_of trimmed_start_of trimmed_end_of front_of read_of any_digit number_of lowest_of first_free span
next_free = (refl, refl, refl, refl)

-- 127 rows are not too many; 128 are, whatever stands in them, and a malformed line goes before that too
full : written_of (replicate 127 (text "4711,200")) ≡ Outside 1 200
unfolding written_of entry_of unmarked_of bare_of trimmed_of trimmed_start_of trimmed_end_of front_of read_of any_digit number_of first_of repeat_from answer_of
full = simp node_same

many : written_of (replicate 128 (text "4711,200")) ≡ TooMany
unfolding written_of entry_of unmarked_of bare_of trimmed_of trimmed_start_of trimmed_end_of front_of read_of any_digit number_of first_of repeat_from answer_of
many = refl

many_malformed : written_of (replicate 128 (text "4711,200") ++ (text "4711" ∷ [])) ≡ Malformed 129
unfolding written_of entry_of unmarked_of bare_of trimmed_of trimmed_start_of trimmed_end_of front_of read_of any_digit number_of first_of repeat_from answer_of
many_malformed = refl
