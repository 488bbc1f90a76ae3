-- What the engine answers to the marked cases and to the sentences: computed, each.
-- Assumes nothing.
use mathlib.Core.Path.{refl}
use Rattle.demands.specs.Cases.{cases}
use Rattle.demands.specs.Sentences.{sentences}
use Rattle.engine.specs.Answer.{answer_of}
use Rattle.agreement.specs.Tried.{Tried}
use Rattle.agreement.proofs.Computing.{engine_computing}

pub tried : Tried answer_of
unfolding engine_computing cases sentences
tried =
    record {
      marked =
          (refl, (refl, (refl, (refl, (refl, (refl, (refl, (refl, (refl, (refl, (refl, (refl, (tt, (tt, (tt, (tt, (tt, (refl, tt))))))))))))))))));
      told =
          (refl, (refl, (refl, (refl, (refl, (refl, (refl, (refl, (refl, (refl, (refl, (refl, (refl, (refl, (refl, (refl, (refl, (refl, (refl, (refl, (refl, (refl, (refl, (refl, (refl, (refl, (refl, (refl, (refl, (refl, (refl, (refl, (refl, (refl, (refl, (refl, (refl, (refl, (refl, (refl, (refl, (refl, (refl, tt)))))))))))))))))))))))))))))))))))))))))));
    }
