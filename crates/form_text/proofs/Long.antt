-- A line too long is malformed whatever stands in it, so that its start does for it: no reader needs more of a line to know what it means.
-- Assumes nothing.
use Prim.Native.Nat.{ℕ, ◌+◌, ◌<◌, ◌≤◌}
use native.Mathlib.Omega.{arith}
use mathlib.Core.Path.{◌≡◌}
use mathlib.Core.Bool.{Bool, true, false, ◌&&◌, cond}
use mathlib.Core.List.{List}
use borrow.Author.Tests.{lt-ltb}
use lib.ListN.{length, take, drop, length-drop}
use Rattle.form_text.specs.declared.rows.Entry.TheVariants.{Malformed}
use Rattle.text.specs.Lines.{bare_of}
use Rattle.text.proofs.Bare.{bare_long}
use Rattle.text.proofs.Kept as kept
use Rattle.form_text.specs.Cuts.{is_marked, unmarked_of}
use Rattle.form_text.specs.Form.{longest, entry_of}

-- three bytes at most are cut off a line as its mark
unmarked_long : (line : List ℕ) (top : Bool) → length line ≤ length (unmarked_of line top) + 3
unfolding unmarked_of
unmarked_long line top = go (top && is_marked line)
  where
    go : (b : Bool) → length line ≤ length (cond b (drop 3 line) line) + 3
    go true = simp length-drop (omega arith)
    go false = omega arith

pub too_long : (line : List ℕ) (top first : Bool) → 4100 < length line → entry_of line top first ≡ Malformed
unfolding entry_of
too_long line top first h =
    let unmarked = unmarked_of line top in
    let k = unmarked_long line top in
    let q = bare_long unmarked in
    simp (lt-ltb longest (length (bare_of unmarked)) (omega arith))

-- a reader need keep no more than 4,101 bytes of a line: a mark, 4,096, a carriage return, and one more
pub start_does : (line : List ℕ) (top first : Bool) → entry_of (take 4101 line) top first ≡ entry_of line top first
start_does line top first = kept.start_does (λ l. entry_of l top first) 4101 Malformed (λ l h. too_long l top first (omega arith)) line
