-- Bytes fed to a line one after another, those of a send and those of an ask, and how a reply to them is written.
-- Assumes nothing.
use Rattle.std.specs.Prelude.{ℕ, zero, suc, cond, List, ◌∷◌, length, take, replicate, nat_lt, slice_index, Ok, Err, Result}
use Prim.Native.Char.{code}
use Rattle.hex_digits.specs.Digits.{digits_of}
use Rattle.line.specs.declared.calls.Line.{Line}
use Rattle.line.specs.Calls.{byte_of}
use Rattle.head.specs.declared.refusal.Refusal.{Refusal}

-- byte i of those that are fed
abbrev pub nth_of : List ℕ → ℕ → ℕ
nth_of bytes i = slice_index bytes i

-- the line after the first n bytes, of which byte i is `nth i`, each at the same time and with the same room for a reply
unfoldable pub fed_of : (ℕ → ℕ) → ℕ → ℕ → Line → ℕ → Line
fed_of nth time room l zero = l
fed_of nth time room l (suc n) = (byte_of (fed_of nth time room l n) (nth n) time room).line

-- where bytes go on after a stretch: at the next one, and past the last where they are refused
abbrev pub after_of : Result ℕ Refusal → ℕ → ℕ → ℕ
after_of (Ok n) next end = next
after_of (Err why) next end = end

-- the reply at the start of the space, after a blank; only blanks where there is no room for a reply
unfoldable pub word_of : List ℕ → List ℕ
word_of space = cond (nat_lt (length space) 10) (replicate 21 (code " ")) (code " " ∷ digits_of (take 10 space))
