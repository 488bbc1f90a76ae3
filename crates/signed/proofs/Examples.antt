-- The document's sums, computed.
-- Assumes nothing.
use mathlib.Core.Path.{◌≡◌, refl}
use mathlib.Core.Bool.{false}
use lib.IntN.{pos}
use Rattle.signed.specs.Number.{minus, number_of}
use Rattle.signed.specs.Rounding.{divisor_of, rounded_of}
use Rattle.signed.specs.Difference.{held_of, differential_of}

rounds_up : rounded_of (pos 12348) 1 ≡ pos 1235
unfolding rounded_of divisor_of
rounds_up = refl

rounds_half_away : rounded_of (minus 12345) 1 ≡ minus 1235
unfolding rounded_of divisor_of
rounds_half_away = refl

holds : differential_of (pos 0) (pos 2147483647) false ≡ minus 5242880
unfolding differential_of held_of
holds = refl

reads_negative : number_of 0xFFFFB1E1 ≡ minus 19999
unfolding number_of
reads_negative = refl
