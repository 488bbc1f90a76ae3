-- The sheets that are tried are answered as it stands there, and the sheet of a new head is the one that stands there: each is computed over the definitions.
-- Assumes nothing.
use mathlib.Core.Path.{refl}
use Rattle.demands.specs.SheetCases.{cases, Hold, NewSheet, sentences, All}
use Rattle.demands.proofs.Computing.{computing}

pub all_hold : Hold cases
unfolding cases computing
all_hold = (refl, (refl, (refl, (refl, (refl, (refl, (refl, (refl, (refl, (refl, (refl, (refl, (refl, (refl, (refl, (refl, (refl, (refl, (refl, (refl, (refl, (refl, (refl, (refl, (refl, (refl, (refl, (refl, (refl, (refl, (refl, (refl, (refl, (refl, (refl, (refl, (refl, tt)))))))))))))))))))))))))))))))))))))

pub new_sheet : NewSheet
unfolding computing
new_sheet = record { written = refl }

pub all_told : All sentences
unfolding sentences computing
all_told = (refl, (refl, (refl, (refl, tt))))
