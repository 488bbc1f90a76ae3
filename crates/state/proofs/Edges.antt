-- The edges of refusal 20 are where document 01 has them: computed over the definitions.
-- Assumes nothing.
use mathlib.Core.Path.{◌≡◌, refl}
use mathlib.Core.Bool.{true}
use Rattle.signed.specs.Number.{number_of, word_of}
use Rattle.rows.specs.Table.{rows, row_of}
use Rattle.rows.specs.Ranges.{is_signed_of, reading_of, unlisted_of, between_of, range_in, fits_in, all_right_of}
use Rattle.state.specs.Wellformed.{in_reach_of, offer_fits, stored_fits, faults_fit, kept_fits, measurement_fits, ear_fits, wellformed_of}
use Rattle.state.specs.Edges.{edges, sharp}

pub edges_sharp : sharp edges ≡ true
unfolding edges number_of word_of rows row_of is_signed_of reading_of unlisted_of between_of range_in fits_in all_right_of in_reach_of offer_fits stored_fits faults_fit kept_fits measurement_fits ear_fits wellformed_of
edges_sharp = refl
