-- Every sentence that is tried holds: each is computed over the definitions.
-- Assumes nothing.
use mathlib.Core.Path.{refl}
use Rattle.demands.specs.Sentences.{sentences, All}
use Rattle.demands.proofs.Computing.{computing}

pub all_told : All sentences
unfolding sentences computing
all_told = (refl, (refl, (refl, (refl, (refl, (refl, (refl, (refl, (refl, (refl, (refl, (refl, (refl, (refl, (refl, (refl, (refl, (refl, (refl, (refl, (refl, (refl, (refl, (refl, (refl, (refl, (refl, (refl, (refl, (refl, (refl, (refl, (refl, (refl, (refl, (refl, (refl, (refl, (refl, (refl, (refl, (refl, (refl, tt)))))))))))))))))))))))))))))))))))))))))))
