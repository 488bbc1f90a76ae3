-- The numbers of the refusals (document 02, request (vii)).
-- Assumes nothing.
use Rattle.std.specs.Prelude.{ℕ}
use Rattle.sheet.specs.declared.refusal.Refusal.{Refusal}
use Rattle.sheet.specs.declared.refusal.Refusal.TheVariants.{Malformed, NotStored, OutOfRow, Short}

abbrev pub refusal_of : Refusal → ℕ
refusal_of Malformed = 11
refusal_of NotStored = 12
refusal_of OutOfRow = 13
refusal_of Short = 14
