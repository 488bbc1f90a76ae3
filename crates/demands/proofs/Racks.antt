-- A rack is its dropping and its byte calls: the definition of the crate rack is that of Racks, said again, and its laws are what is asked.
-- Assumes nothing.
use Rattle.std.specs.Prelude.{Ok, Err, Result}
use Prim.Native.Nat.{ℕ, zero, suc, ◌+◌, ◌*◌, ◌%◌, ◌<◌, ◌≤◌}
use mathlib.Core.Path.{◌≡◌, refl, sym, ap, subst, ◌∙◌}
use mathlib.Core.Bool.{true}
use mathlib.Core.List.{List, [], ◌∷◌, ◌++◌}
use native.Mathlib.Omega.{arith}
use lib.ListN.{length, replicate}
use Rattle.effects.specs.Restart.{empty_ear}
use Rattle.line.specs.declared.calls.Line.{Line}
use Rattle.line.specs.Calls.{fits_of, replies_at, head_at, byte_of, byte_space_of}
use Rattle.line.proofs.Theorems.{byte_counts, byte_keeps}
use Rattle.rack.specs.declared.Racked.{Racked}
use Rattle.rack.specs.Rack.{dropped_of, Fed, drawing, fed_of, racked, rack_of, rack_space_of}
use Rattle.rack.specs.Rack as definition
use Rattle.rack.proofs.Filled as filling
use Rattle.rack.proofs.Rounds as rounds
use Rattle.rack.proofs.Theorems.{none_line, dropped_at, rack_keeps, rack_past, rack_done, space_done, ready_none}
use Rattle.demands.specs.Run.{product}
use Rattle.demands.specs.Lines.{Fits}
use Rattle.demands.specs.Racks.{Taken, fed, drawn, lone, replies, collided, collisions, AllHeard, Tens, joined, laid_at, Emptied, emptied, Racks}
use Rattle.head.specs.declared.refusal.Refusal.{Refusal}

-- ---- what is fed, said both ways
record Same (f : Fed) (l : Line) (bs : List ℕ) (t : ℕ) : Type 0 where
  line : f.line ≡ fed product.on_line_of l bs t
  laid : f.laid ≡ replies (drawn product.on_line_of l bs t)
  collisions : f.collisions ≡ collisions (drawn product.on_line_of l bs t)

record Parts (h : Result ℕ Refusal) (ten : List ℕ) (f : Fed) : Type 0 where
  line : (drawing h ten f).line ≡ f.line
  laid : (drawing h ten f).laid ≡ lone h ten ++ f.laid
  collisions : (drawing h ten f).collisions ≡ collided h + f.collisions

parts : (h : Result ℕ Refusal) (ten : List ℕ) (f : Fed) → Parts h ten f
parts (Ok zero) ten f = record { line = refl; laid = refl; collisions = omega arith }
parts (Ok (suc zero)) ten f = record { line = refl; laid = refl; collisions = omega arith }
parts (Ok (suc (suc n))) ten f = record { line = refl; laid = refl; collisions = omega arith }
parts (Err why) ten f = record { line = refl; laid = refl; collisions = omega arith }

same : (bs : List ℕ) (l : Line) (t : ℕ) → Same (fed_of l bs t) l bs t
unfolding fed_of
same [] l t = record { line = refl; laid = refl; collisions = refl }
same (b ∷ bs) l t =
    let c = byte_of l b t 10 in
    let ten = byte_space_of l b t (replicate 10 0) in
    let p = parts c.heard ten (fed_of c.line bs t) in
    let z = same bs c.line t in
    record {
      line = p.line ∙ z.line;
      laid = p.laid ∙ ap (λ (rs : List (List ℕ)). lone c.heard ten ++ rs) z.laid;
      collisions = p.collisions ∙ ap (λ (n : ℕ). collided c.heard + n) z.collisions;
    }

all_heard : (bs : List ℕ) (l : Line) (t : ℕ) → fits_of l ≡ true → AllHeard (drawn product.on_line_of l bs t)
all_heard [] l t f = tt
all_heard (b ∷ bs) l t f =
    ((length (replies_at l b t), byte_counts l f b t (replicate 10 0) (omega arith)), all_heard bs (byte_of l b t 10).line t ((byte_keeps l b t 10).fits f))

tens : (rs : List (List ℕ)) → filling.Tens rs → Tens rs
tens [] t = tt
tens (r ∷ rs) t = (t.0, tens rs t.1)

joined_same : (rs : List (List ℕ)) → definition.joined rs ≡ joined rs
joined_same [] = refl
joined_same (r ∷ rs) = rw (joined_same rs)

laid_same : (rs : List (List ℕ)) (p : ℕ) (space : List ℕ) → definition.filled rs p space ≡ laid_at p rs space
laid_same rs p space = rw (joined_same rs)

-- ---- on a line that fits
module _ (l : Line) (t : ℕ) (f : Fits l) where
  begins : emptied product.on_line_of l t ≡ dropped_of l t
  begins = rw (none_line l t, f.fits)

  drops : ((emptied product.on_line_of l t).count ≡ l.count) × ((k : ℕ) → k < l.count → Emptied (head_at l k) (head_at (emptied product.on_line_of l t) k))
  unfolding empty_ear
  drops = rw begins ((rounds.dropped_keeps l t).count, λ k p. rw (dropped_at l t f.fits f.places k p) (record { none = refl; rest = refl }))

module _ (l : Line) (bs : List ℕ) (t n p : ℕ) (k : Taken l bs n p) where
  done : rack_of l bs t n p ≡ racked (fed_of (dropped_of l t) bs t)
  done = rack_done l bs t k.line.fits k.tens k.most n p k.within k.room_left

  feeds : (rack_of l bs t n p).line ≡ fed product.on_line_of (emptied product.on_line_of l t) bs t
  feeds = ap (λ (r : Racked). r.line) done ∙ (same bs (dropped_of l t) t).line ∙ rw (begins l t k.line)

  answers : let ds = drawn product.on_line_of (emptied product.on_line_of l t) bs t in
      (rack_of l bs t n p).answer ≡ Ok (record { replies = length (replies ds); collisions = collisions ds })
  answers =
      ap (λ (r : Racked). r.answer) done
      ∙ rw (begins l t k.line, (same bs (dropped_of l t) t).laid, (same bs (dropped_of l t) t).collisions)

  all_taken : AllHeard (drawn product.on_line_of (emptied product.on_line_of l t) bs t)
  all_taken = rw (begins l t k.line) (all_heard bs (dropped_of l t) t ((rounds.dropped_keeps l t).fits k.line.fits))

  few : let ds = drawn product.on_line_of (emptied product.on_line_of l t) bs t in Tens (replies ds) × (10 * (length (replies ds) + collisions ds) ≤ length bs)
  few =
      let s = same bs (dropped_of l t) t in
      rw (begins l t k.line, ← s.laid, ← s.collisions) (tens (fed_of (dropped_of l t) bs t).laid (rounds.tens bs (dropped_of l t) t), rounds.one_each l t bs k.line.fits k.tens)

  fits : Fits (rack_of l bs t n p).line
  fits = let w = rack_keeps l bs t n p in record { fits = w.fits k.line.fits; places = w.places ∙ k.line.places }

  none_left : (j : ℕ) → j < l.count → (head_at (rack_of l bs t n p).line j).ear.count ≡ 0
  none_left j q =
      let r = subst rounds.Ready (sym (ap (λ (x : Racked). x.line) done)) (rounds.fed_ready l t bs k.line.fits k.tens) in
      ready_none (rack_of l bs t n p).line r fits.places j (rw (rack_keeps l bs t n p).count q)

telegram : (l : Line) (before ten : List ℕ) (t : ℕ) → Fits l → length before % 10 ≡ 0 → length ten ≡ 10
    → let ds = drawn product.on_line_of (fed product.on_line_of (emptied product.on_line_of l t) before t) ten t in length (replies ds) + collisions ds ≤ 1
telegram l before ten t f e q =
    let k = (fed_of (dropped_of l t) before t).line in
    let z = same ten k t in
    rw (begins l t f, ← (same before (dropped_of l t) t).line, ← z.laid, ← z.collisions)
    (rounds.few ten t 1 0 k (rounds.fed_ready l t before f.fits e) (omega arith))

lays : (l : Line) (bs : List ℕ) (t : ℕ) (space : List ℕ) (p : ℕ) → Taken l bs (length space) p
    → rack_space_of l bs t space p ≡ laid_at p (replies (drawn product.on_line_of (emptied product.on_line_of l t) bs t)) space
lays l bs t space p k =
    space_done l bs t k.line.fits k.tens k.most space p k.within k.room_left
    ∙ rw (begins l t k.line, ← (same bs (dropped_of l t) t).laid) (laid_same (fed_of (dropped_of l t) bs t).laid p space)

pub racks : Racks product
racks =
    record {
      drops = drops;
      feeds = feeds;
      answers = answers;
      lays = lays;
      heard = all_taken;
      few = few;
      telegram = telegram;
      fits = fits;
      none_left = none_left;
      spares = λ l bs t n p k taken past. rack_past l bs t n p k past;
    }
