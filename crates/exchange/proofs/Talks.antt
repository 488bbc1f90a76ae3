-- Every talk that is tried goes as it is written: each is computed over the definitions of both ends.
-- Assumes nothing.
use mathlib.Core.Path.{refl}
use Rattle.master.specs.Master.{built_of, meaning_of, reading_of}
use Rattle.demands.proofs.Computing.{computing}
use Rattle.exchange.specs.Talks.{Tried}

pub tried : Tried
unfolding computing built_of meaning_of reading_of
tried =
    record {
      built_read = refl;
      built_write = refl;
      built_aim = refl;
      checks = refl;
      locks = refl;
      errors = refl;
      pending = refl;
      silences = refl;
      offers = refl;
      refused_offers = refl;
      aims_answered = refl;
      numbers = refl;
    }
