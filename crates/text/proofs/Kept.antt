-- What is kept of a line does what the line does, where every line that is as long as what is kept, or longer, comes to the same: no reader needs more
-- of a line to know.
-- Assumes nothing.
use Prim.Native.Nat.{ℕ, ◌≤◌}
use mathlib.Core.Bool.{Bool, true, false}
use mathlib.Core.List.{List}
use mathlib.Core.Path.{◌≡◌, refl, ap, sym, ◌∙◌}
use native.Mathlib.Omega.{arith}
use borrow.Author.Tests.{ltb-true, ltb-false}
use lib.Dec.{ltb}
use lib.ListN.{length, take}
use lib.Seq.{take_all, length-take-le}

pub start_does : {A : Type 0} (f : List ℕ → A) (most : ℕ) (long : A) → ((line : List ℕ) → most ≤ length line → f line ≡ long)
    → (line : List ℕ) → f (take most line) ≡ f line
start_does f most long too_long line = go (ltb most (length line)) refl
  where
    go : (t : Bool) → ltb most (length line) ≡ t → f (take most line) ≡ f line
    go true e =
        let more = ltb-true most (length line) e in
        let cut = length-take-le most line (omega arith) in
        too_long (take most line) (omega arith) ∙ sym (too_long line (omega arith))
    go false e = ap f (take_all most line (ltb-false most (length line) e))
