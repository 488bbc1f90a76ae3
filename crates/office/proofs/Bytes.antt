-- A line that is a telegram puts just the ten bytes of its only word to the head, and is answered with what these come to.
-- Assumes nothing.
use Rattle.std.proofs.Common.{◌≡◌, ℕ, List, ap, ◌∙◌}
use Rattle.state.specs.declared.parts.Head.{Head}
use Rattle.text.specs.Numbers.{bytes_of}
use Rattle.script.specs.declared.telegrams.Entry.{Entry}
use Rattle.script.specs.declared.telegrams.Entry.TheVariants.{Telegram}
use Rattle.script.specs.Telegrams.{entry_of}
use Rattle.script.proofs.Listed.{single, ten_read}
use Rattle.office.specs.Answer.{outcome_line}
use Rattle.office.specs.Desk.{told_of, did_of, said_of, obeyed_of, answer_to}

module _ (h : Head) (line : List ℕ) {from : ℕ} (e : entry_of line ≡ Telegram from) where
  -- the bytes of the word
  abbrev pub bytes : List ℕ
  bytes = bytes_of (single line e).digits.chars

  pub puts : obeyed_of h line ≡ (told_of h bytes).head
  unfolding obeyed_of
  puts = ap (λ (k : Entry). did_of k line h) e ∙ ap (λ (ten : List ℕ). (told_of h ten).head) (ten_read line e)

  pub answers : (number : ℕ) → answer_to h line number ≡ outcome_line (told_of h bytes).outcome (told_of h bytes).reply
  unfolding answer_to
  answers number =
      ap (λ (k : Entry). said_of k line h number) e
      ∙ ap (λ (ten : List ℕ). outcome_line (told_of h ten).outcome (told_of h ten).reply) (ten_read line e)
