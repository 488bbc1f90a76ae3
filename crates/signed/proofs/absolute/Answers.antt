-- `signed::absolute` meets its contract: no sum on the way leaves i64.
use Prim.Native.Nat.{ℕ, ◌<◌}
use mathlib.Core.Path.{◌≡◌}
use native.Mathlib.Omega.{arith}
use lib.IntN.{ℤ, ◌+ℤ◌, ◌-ℤ◌}
use mir.Syntax.{w32, w64}
use mir.Val.{SFits}
use Rattle.signed.specs.Number.{number_of}
use Rattle.signed.specs.Position.{absolute_of}
use Rattle.signed.proofs.Sizes.{abs_sub, abs_add}
use Rattle.signed.proofs.Laws.{number_small}
use Rattle.signed.proofs.Signed.{wider, abs_word, abs_fits, diff_fits}
use borrow.Author.Rules.{rules}
use Rattle.signed.proofs.absolute.Goals as goal

-- sums of numbers of 32 bits fit 64
module _ {m z a : ℤ} (f : SFits w32 m) (g : SFits w32 z) (h : SFits w32 a) where
  sum_fits : SFits w64 (m -ℤ z +ℤ a)
  sum_fits = abs_fits _ (omega (arith, abs_sub m z, abs_add (m -ℤ z) a, abs_word f, abs_word g, abs_word h))

  all_fits : {o : ℤ} → SFits w32 o → SFits w64 (m -ℤ z +ℤ a +ℤ o)
  all_fits {o} i =
      abs_fits _
      (omega (arith, abs_sub m z, abs_add (m -ℤ z) a, abs_add (m -ℤ z +ℤ a) o, abs_word f, abs_word g, abs_word h, abs_word i))

-- the number of a word is a number of 32 bits
number_fits : {w : ℕ} {z : ℤ} → w < 4294967296 → z ≡ number_of w → SFits w32 z
number_fits {w} h e = rw e (record { sfits = number_small w h })

pub overflow_add-result : goal.overflow_add-result
overflow_add-result c =
    let h = number_fits c.ranges.adopted.fits c.number.ensures in search (rules, wider, diff_fits, sum_fits)

pub overflow_add-result-2 : goal.overflow_add-result-2
overflow_add-result-2 c =
    let h = number_fits c.ranges.adopted.fits c.number.ensures in
    let i = number_fits c.ranges.offset.fits c.number-2.ensures in
    search (rules, wider, diff_fits, sum_fits, all_fits)

pub returns : goal.returns
unfolding absolute_of
returns c =
    let h = number_fits c.ranges.adopted.fits c.number.ensures in
    let i = number_fits c.ranges.offset.fits c.number-2.ensures in
    rw (← c.number-2.ensures, ← c.number.ensures) (search (rules, wider, diff_fits, sum_fits, all_fits))
