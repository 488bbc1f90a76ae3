-- `text::numbers::hex_bytes` meets its contract: two characters for each byte, and all of them hex digits.
use Rattle.std.proofs.Common.{rules, tests, sym, ◌∙◌, ◌%◌, length, eq-eqb, ne_eqb}
use mathlib.Core.Bool.{and-false}
use Rattle.std.proofs.lemmas.Iterator.{YieldsList-from_slice}
use Rattle.std.proofs.lemmas.Iterator.Search.{all_from_yields_List}
use Rattle.text.specs.Numbers.{is_hex, count_of}
use Rattle.text.proofs.Spelled.{in_pairs_is, half}
use Rattle.text.proofs.numbers.hex_bytes.Goals as goal
use Rattle.text.proofs.numbers.hex_bytes.Goals.{else-word-eq0-via-then-word-eq0+else-all, else-word-eq0-via-else-word-eq0}

pub returns-then-all : goal.returns-then-all
unfolding count_of
returns-then-all c =
    let xs = c.args.word.now in
    let e = all_from_yields_List is_hex _ _ c.all.result c.all.ensures.ran (YieldsList-from_slice xs cc) (λ x b q k. search (rules, tests)) in
    simp (in_pairs_is xs, eq-eqb (length xs % 2) 0 c.if-word-eq0.true, sym e ∙ c.if-all.true, half xs)

pub returns-else-word-eq0 : goal.returns-else-word-eq0
unfolding count_of
returns-else-word-eq0 c =
    let xs = c.args.word.now in
    elim c.else-word-eq0.branch [
      | else-word-eq0-via-then-word-eq0+else-all w ↦
          let e = all_from_yields_List is_hex _ _ w.all.result w.all.ensures.ran (YieldsList-from_slice xs cc) (λ x b q k. search (rules, tests)) in
          simp (in_pairs_is xs, sym e ∙ w.if-all.false, and-false)
      | else-word-eq0-via-else-word-eq0 w ↦ simp (in_pairs_is xs, ne_eqb (length xs % 2) 0 w.if-word-eq0.false)
    ]
