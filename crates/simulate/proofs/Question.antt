-- What a script asks for fits the fields of a telegram, so that its question has just those numbers.
-- Assumes nothing.
use Rattle.std.proofs.Common.{◌≡◌, ℕ, List, ap, arith}
use Rattle.wire.specs.declared.telegram.Telegram.{Telegram}
use Rattle.wire.specs.Word.{half_of, byte2, byte3}
use Rattle.script.specs.declared.Command.TheVariants as command
use Rattle.script.specs.Meaning.{meaning_of}
use Rattle.script.proofs.Told.{Asking, asking}
use Rattle.simulate.specs.declared.desk.Desk.{Desk}
use Rattle.simulate.specs.Ask.{question_of}
use Rattle.simulate.specs.Desk.{asked_of, obeyed_of}

abbrev fields : ℕ → ℕ → ℕ → ℕ → ℕ → Telegram
fields c n p w v = record { command = c; node = n; parameter = p; word = w; value = v }

-- numbers that fit lose nothing
pub question_kept : (c n p w v : ℕ) → Asking c n p w → question_of c n p w v ≡ fields c n p w v
question_kept c n p w v fit =
    let command : byte3 c ≡ c = omega (arith, fit.command) in
    let node : byte3 n ≡ n = omega (arith, fit.node) in
    let parameter : byte3 p ≡ p = omega (arith, fit.parameter) in
    let word : half_of (byte2 w) (byte3 w) ≡ w = omega (arith, fit.word) in
    simp (command, node, parameter, word)

-- a line that means an `Ask` asks for just what stands in it
pub asks : (d : Desk) (line : List ℕ) {t c n p w v : ℕ} → meaning_of line ≡ command.Ask t c n p w v → obeyed_of d line ≡ asked_of d t (fields c n p w v)
unfolding obeyed_of
asks d line {t} {c} {n} {p} {w} {v} e = rw e (ap (asked_of d t) (question_kept c n p w v (asking line e)))
