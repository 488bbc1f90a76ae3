-- `script::byte_at` meets its contract: past the end of the line there is no hex digit.
use Rattle.std.specs.Prelude.{Option, Some, None}
use Prim.Native.Nat.{ℕ, ◌+◌, ◌*◌, ◌≤◌}
use mathlib.Core.Path.{◌≡◌, refl, sym}
use mathlib.Core.List.{List}
use native.Mathlib.Omega.{arith}
use lib.ListN.{length, get_or, get_or-eq_default}
use Rattle.text.specs.Numbers.{hex_of, byte_of, pair_of}
use Rattle.script.specs.Meaning.{byte_at_of}
use Rattle.script.proofs.byte_at.Goals as goal

-- a digit alone is no byte
no_byte : (high : Option ℕ) → byte_of high None ≡ 0
no_byte (Some a) = refl
no_byte None = refl

past : (l : List ℕ) (from i : ℕ) → length l ≤ from + 2 * i + 1 → 0 ≡ byte_at_of l from i
unfolding byte_at_of pair_of hex_of
past l from i h = rw (get_or-eq_default l 0 {n = from + 2 * i + 1} h) (sym (no_byte (hex_of (get_or l (from + 2 * i) 0))))

pub returns-then-line-from : goal.returns-then-line-from
unfolding byte_at_of
returns-then-line-from c = let a = c.args in past a.line.now a.from a.i (omega arith)

pub returns-then-left-i : goal.returns-then-left-i
unfolding byte_at_of
returns-then-left-i c = let a = c.args in past a.line.now a.from a.i (omega arith)

pub returns : goal.returns
unfolding byte_at_of
returns c = c.pair.ensures
