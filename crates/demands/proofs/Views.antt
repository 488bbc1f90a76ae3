-- What a head goes by and shows: the definitions of the crate state, opened.
-- Assumes nothing.
use mathlib.Core.Path.{refl}
use Rattle.signed.specs.Position.{absolute_of}
use Rattle.signed.specs.Difference.{differential_of}
use Rattle.state.specs.declared.parts.Head.{Head}
use Rattle.state.specs.Position.{position_of, actual_of, shown_of, view_of}
use Rattle.state.specs.Status.{difference_of}
use Rattle.demands.specs.Views.{Views}

pub views : (h : Head) → Views h
unfolding absolute_of differential_of position_of actual_of shown_of view_of difference_of
views h = record { actual = refl; shown = refl; differential = λ s. refl }
