-- A stretch of bytes: by the two tests that a byte call makes too, and by the replies to its first byte.
-- Assumes nothing.
use Prim.Native.Nat.{ℕ, ◌≤◌}
use native.Mathlib.Omega.{arith}
use mathlib.Core.Path.{◌≡◌, refl, sym, ◌∙◌}
use mathlib.Core.Bool.{Bool, true, false}
use mathlib.Core.List.{List, []}
use mathlib.Core.Option.{none, some}
use borrow.Author.Tests.{le-ltb}
use lib.Dec.{ltb}
use lib.ListN.{length}
use Rattle.line.specs.declared.calls.Line.{Line}
use Rattle.line.specs.Calls.{fits_of}
use Rattle.line.specs.Stretch.{stopped_at, heard_until, laid_until, until_of, until_space_of}
use Rattle.line.proofs.Stretch.{heard_counts, until_silent, until_last}
use Rattle.demands.specs.Calls.{byte}
use Rattle.demands.specs.Run.{product}
use Rattle.demands.specs.Demand1.{first, rows_for, of_heard}
use Rattle.demands.specs.Lines.{Fits}
use Rattle.demands.specs.Stretches.{Stretches}

module _ (l : Line) (bs : List ℕ) (from at : ℕ) (space : List ℕ) where
  heard_none : of_heard (heard_until l bs from at).heard ≡ none
  heard_none = let k = heard_counts at l bs from in rw k.1

  number : (b : ℕ) (f r : Bool) → fits_of l ≡ f → ltb (length space) 10 ≡ r
      → of_heard (until_of l bs from at (length space)).heard ≡ first (rows_for (byte b at (length space)) l)
  unfolding until_of
  number b false r p q = simp p
  number b true true p q = simp (p, q)
  number b true false p q = simp (p, q) heard_none

  same : (f r : Bool) → fits_of l ≡ f → ltb (length space) 10 ≡ r → (n : ℕ) → of_heard (until_of l bs from at (length space)).heard ≡ some n
      → ((until_of l bs from at (length space)).line ≡ l) × ((until_of l bs from at (length space)).next ≡ from) × (until_space_of l bs at space ≡ space)
  unfolding until_of until_space_of
  same false r p q n e = (rw p, rw p, rw p)
  same true true p q n e = (rw (p, q), rw (p, q), rw (p, q))
  same true false p q n e =
      let k : none ≡ some n = sym heard_none ∙ (rw (p, q) at e) in absurd (let z : ◌≡◌ {A = ℕ} 0 1 = cc in omega arith)

none_left : (l : Line) (from at : ℕ) (space : List ℕ) → Fits l → 10 ≤ length space
    → (until_of l [] from at (length space) ≡ stopped_at l 0 from) × (until_space_of l [] at space ≡ space)
unfolding until_of until_space_of heard_until laid_until
none_left l from at space f r = (rw (f.fits, le-ltb _ _ r), rw (f.fits, le-ltb _ _ r))

pub stretches : Stretches product until_of until_space_of
stretches =
    record {
      number = λ l bs b from at space. number l bs from at space b (fits_of l) (ltb (length space) 10) refl refl;
      same = λ l bs from at space. same l bs from at space (fits_of l) (ltb (length space) 10) refl refl;
      none = none_left;
      silent = λ l b bs from at space. until_silent l b at space bs from;
      last = λ l b bs from at space n. until_last l b at space bs from;
    }
