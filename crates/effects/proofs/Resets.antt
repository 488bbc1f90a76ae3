-- What the factory reset gives a head that is made.
-- Assumes nothing.
use mathlib.Core.Path.{◌≡◌, refl}
use mathlib.Core.List.{map}
use lib.ListN.{replicate}
use Rattle.rows.specs.Table.{rows, row_of, delivery}
use Rattle.rows.specs.Resets.{bus_of, resets_of}
use Rattle.effects.specs.Stored.{reset_value, reset_of}

-- reset 1 gives every place its delivery value
pub all_delivered : reset_of 1 (replicate 39 0) ≡ map delivery rows
unfolding reset_of reset_value resets_of bus_of row_of rows
all_delivered = refl
