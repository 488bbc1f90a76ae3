-- What a rack does to a line, as others cite it: which refusal, exactly when; a rack of no telegram; and that a line that fits stays one.
-- Assumes nothing.
use Prim.Native.Nat.{ℕ, zero, suc, ◌-◌, ◌%◌, ◌<◌, ◌≤◌}
use mathlib.Core.Path.{◌≡◌, refl, ap, ◌∙◌}
use mathlib.Core.Bool.{Bool, true, false, cond, ◌&&◌, true≢false}
use mathlib.Core.List.{List, [], ◌∷◌}
use native.Mathlib.Nat.{le_of_suc-le-suc, not-suc-le-zero}
use native.Mathlib.Omega.{arith}
use borrow.Author.Tests.{eq-eqb, le-leb}
use lib.ListN.{length, get_or, replicate}
use Rattle.state.specs.declared.parts.Head.{Head}
use Rattle.state.specs.declared.parts.Ear.{Ear}
use Rattle.state.specs.With.{with_ear}
use Rattle.effects.specs.Restart.{empty_ear}
use Rattle.head.specs.declared.refusal.Refusal.{Refusal}
use Rattle.head.specs.declared.refusal.Refusal.TheVariants.{Malformed, RackLength, RackSpace}
use Rattle.head.specs.Calls.{factory_of}
use Rattle.head.proofs.Tests.{either}
use Rattle.line.specs.declared.calls.Line.{Line}
use Rattle.line.specs.Calls.{fits_of, head_at, byte_of, byte_space_of}
use Rattle.line.proofs.Laws.{fits_small, each_here, each_past}
use Rattle.line.proofs.Theorems.{Kept, unmoved, byte_keeps, byte_past}
use Rattle.rack.specs.declared.Racked.{Racked}
use Rattle.rack.specs.Rack.{is_rack, room_for, dropped_of, fed_of, filled, refused_with, racked, rack_tests, rack_of, rack_space_of}
use Rattle.rack.proofs.Whole.{Empty, AllEmpty}
use Rattle.rack.proofs.Rounds.{Ready, drawing_line, dropped_keeps, fed_keeps, kept_on}

-- ---- a rack of no telegram
pub none_line : (l : Line) (at : ℕ) → (rack_of l [] at 0 0).line ≡ cond (fits_of l) (dropped_of l at) l
unfolding rack_of is_rack room_for fed_of
none_line l at = elim (fits_of l) as (λ x. (cond x (racked (fed_of (dropped_of l at) [] at)) (refused_with l Malformed)).line ≡ cond x (dropped_of l at) l) [ true ↦ refl | false ↦ refl ]

-- each head has none gathered, and nothing else of it changed
pub dropped_at : (l : Line) (at : ℕ) → fits_of l ≡ true → length l.heads ≡ 32 → (k : ℕ) → k < l.count → head_at (dropped_of l at) k ≡ with_ear (head_at l k) (empty_ear at)
unfolding dropped_of
dropped_at l at f e k p =
    each_here (λ (h : Head). with_ear h (empty_ear at)) (factory_of 0) k l.count l.heads p (omega (arith, fits_small l f, e, p))

-- ---- after any rack the line fits where it did, with its places, its heads and their serial numbers
pub rack_keeps : (l : Line) (bs : List ℕ) (at room place : ℕ) → Kept l (rack_of l bs at room place).line
unfolding rack_of
rack_keeps l bs at room place =
    either (λ (r : Racked). Kept l r.line) (refused_with l) (racked (fed_of (dropped_of l at) bs at)) (rack_tests l (length bs) room place)
    (λ why. unmoved l) (λ _. kept_on (dropped_keeps l at) (fed_keeps bs (dropped_of l at) at))

-- ---- and what stands past the count is as it was
fed_past : (bs : List ℕ) (l : Line) (at k : ℕ) → l.count ≤ k → head_at (fed_of l bs at).line k ≡ head_at l k
unfolding fed_of
fed_past [] l at k p = refl
fed_past (b ∷ bs) l at k p =
    let n = (byte_of l b at 10).line in
    rw (drawing_line (byte_of l b at 10).heard (byte_space_of l b at (replicate 10 0)) (fed_of n bs at))
    (fed_past bs n at k (rw (byte_keeps l b at 10).count p) ∙ byte_past l b at 10 k p)

dropped_past : (l : Line) (at k : ℕ) → l.count ≤ k → head_at (dropped_of l at) k ≡ head_at l k
unfolding dropped_of
dropped_past l at k p = each_past (λ (h : Head). with_ear h (empty_ear at)) (factory_of 0) k l.count l.heads p

pub rack_past : (l : Line) (bs : List ℕ) (at room place k : ℕ) → l.count ≤ k → head_at (rack_of l bs at room place).line k ≡ head_at l k
unfolding rack_of
rack_past l bs at room place k p =
    either (λ (r : Racked). head_at r.line k ≡ head_at l k) (refused_with l) (racked (fed_of (dropped_of l at) bs at)) (rack_tests l (length bs) room place)
    (λ why. refl) (λ _. fed_past bs (dropped_of l at) at k (rw (dropped_keeps l at).count p) ∙ dropped_past l at k p)

-- ---- a rack that is taken, and one that is not
module _ (l : Line) (bs : List ℕ) (at : ℕ) where
  module _ (f : fits_of l ≡ true) (tens : length bs % 10 ≡ 0) (most : length bs ≤ 640) where
    pub rack_done : (room place : ℕ) → place ≤ room → length bs ≤ room - place → rack_of l bs at room place ≡ racked (fed_of (dropped_of l at) bs at)
    unfolding rack_of is_rack room_for
    rack_done room place p q = rw (f, eq-eqb _ _ tens, le-leb _ _ most, le-leb _ _ p, le-leb _ _ q)

    pub space_done : (space : List ℕ) (place : ℕ) → place ≤ length space → length bs ≤ length space - place
        → rack_space_of l bs at space place ≡ filled (fed_of (dropped_of l at) bs at).laid place space
    unfolding rack_space_of is_rack room_for
    space_done space place p q = rw (f, eq-eqb _ _ tens, le-leb _ _ most, le-leb _ _ p, le-leb _ _ q)

  pub rack_not : (room place : ℕ) → fits_of l ≡ true → (is_rack (length bs) && room_for (length bs) room place) ≡ false
      → (why : Refusal) × (rack_of l bs at room place ≡ refused_with l why)
  unfolding rack_of
  rack_not room place f = go (is_rack (length bs)) (room_for (length bs) room place) refl refl
    where
      go : (x y : Bool) → is_rack (length bs) ≡ x → room_for (length bs) room place ≡ y → (x && y) ≡ false → (why : Refusal) × (rack_of l bs at room place ≡ refused_with l why)
      go true true p q e = absurd (true≢false e)
      go true false p q e = (RackSpace, rw (f, p, q))
      go false y p q e = (RackLength, rw (f, p))

-- ---- no byte is gathered at any head afterwards
empty_at : (d : Head) (n : ℕ) (hs : List Head) → AllEmpty n hs → (k : ℕ) → k < n → k < length hs → Empty (get_or hs k d)
empty_at d zero hs e k p q = absurd (not-suc-le-zero p)
empty_at d (suc n) [] e k p q = absurd (not-suc-le-zero q)
empty_at d (suc n) (h ∷ hs) e zero p q = e.0
empty_at d (suc n) (h ∷ hs) e (suc k) p q = empty_at d n hs e.1 k (le_of_suc-le-suc p) (le_of_suc-le-suc q)

pub ready_none : (l : Line) → Ready l → length l.heads ≡ 32 → (k : ℕ) → k < l.count → (head_at l k).ear.count ≡ 0
unfolding empty_ear
ready_none l r e k p =
    let w = empty_at (factory_of 0) l.count l.heads r.empty k p (omega (arith, fits_small l r.fits, e, p)) in ap (λ (x : Ear). x.count) w.1
