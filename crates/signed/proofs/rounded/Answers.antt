-- `signed::rounded` meets its contract: the size is divided to the nearest, which makes no size larger, and gets the sign.
use mathlib.Core.Path.{◌≡◌, ◌∙◌, ap}
use native.Mathlib.Omega.{arith}
use lib.IntN.{nat_abs}
use mir.Syntax.{w64}
use mir.Facts.{to_z-of_z, to_z_pos}
use Rattle.signed.specs.Rounding.{nearest_of, rounded_of, divisor_of}
use Rattle.signed.proofs.Rounds.{nearest_small}
use Rattle.signed.proofs.Signed.{pos_is}
use Rattle.signed.proofs.rounded.Goals as goal

-- what was divided is the size of `p`, so the quotient is at most that, and fits i64 where `p` is not negative
pub returns-else-p-lt0 : goal.returns-else-p-lt0
unfolding rounded_of
returns-else-p-lt0 c =
    let is : c.nearest-n.result ≡ nearest_of (nat_abs c.args.p) (divisor_of c.args.k) =
    c.nearest-n.ensures ∙ simp (c.size.ensures, to_z-of_z c.ranges.p) in
    to_z_pos w64
    (omega (arith, is, nearest_small (nat_abs c.args.p) c.args.k, ap nat_abs (pos_is c.ranges.p c.if-p-lt0.false)))
    ∙ simp (is, simp (to_z-of_z c.ranges.p) at c.if-p-lt0.false)
