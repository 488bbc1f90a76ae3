-- When refusal 20 is given: each clause is one of the tests.
-- Assumes nothing.
use Prim.Native.Nat.{ℕ, zero, suc, ◌<◌, ◌≤◌}
use mathlib.Core.Path.{◌≡◌, refl, sym, ◌∙◌}
use mathlib.Core.Logic.{◌≢◌}
use mathlib.Core.Bool.{Bool, true, false, and-eq-true_iff}
use mathlib.Core.List.{List, [], ◌∷◌}
use native.Mathlib.Omega.{arith}
use lib.Dec.{leb}
use lib.ListN.{length, get_or}
use borrow.Author.Tests.{leb-true, le-leb}
use Rattle.rows.specs.Ranges.{all_right_of}
use Rattle.rows.proofs.Laws.{node_limits, node_fits_lem}
use Rattle.state.specs.declared.parts.Head.{Head}
use Rattle.state.specs.Wellformed.{wellformed_of}
use Rattle.state.specs.Older.{incremental_of, retired_of, older_fits, passes_of}
use Rattle.state.proofs.Brought.{zero_35, off}
use Rattle.state.proofs.Laws.{reach_small, small_reach, stored_told, stored_holds, offer_told, offer_holds, faults_told, faults_holds, measurement_told, measurement_holds, ear_told, ear_holds, told, holds}
use Rattle.head.specs.Calls.{factory_of}
use Rattle.line.specs.Round.{all_pass_of}
use Rattle.line.specs.declared.calls.Line.{Line}
use Rattle.line.specs.Serials.{all_differ}
use Rattle.line.specs.Calls.{serials_at, fits_by, head_at}
use Rattle.line.proofs.Laws.{by_small, by_serials, by_few, get_d_either}
use Rattle.line.proofs.Apart.{serial_at, serials_length, differ_at, at_differ}
use Rattle.line.proofs.Theorems.{pass_at}
use Rattle.demands.specs.Twenty.{Common, OldFormed, LineFormed, Twenty}

-- what both tests ask of a head but its values
common : (h : Head) → wellformed_of h ≡ true → Common h
common h e =
    let w = told h e in
    let s = stored_told h.stored w.stored in
    let o = offer_told h.stored.number h.stored.offer s.offer in
    let f = faults_told h.faults w.faults in
    let g = measurement_told h.measurement w.measurement in
    record {
      number = node_limits h.stored.number s.number;
      offer = o.0;
      offer_at_lem = o.1;
      adopted = g.adopted;
      memory = f.memory;
      inputs = f.inputs;
      damaged = f.damaged;
      gathered = ear_told h.ear w.ear;
      keys = w.keys;
      m = reach_small _ g.m;
      zero = reach_small _ g.zero;
      start = reach_small _ g.start;
      kept = g.kept;
    }

held : (h : Head) → all_right_of h.stored.values ≡ true → h.measurement.incremental ≡ false → Common h → wellformed_of h ≡ true
held h v o f =
    holds h
    (record {
      stored = stored_holds h.stored
          (record { values = v; number = node_fits_lem h.stored.number f.number.0 f.number.1; offer = offer_holds _ _ f.offer f.offer_at_lem });
      faults = faults_holds h.faults (record { memory = f.memory; inputs = f.inputs; damaged = f.damaged });
      measurement = measurement_holds h.measurement
          (record { off = o; m = small_reach _ f.m; zero = small_reach _ f.zero; start = small_reach _ f.start; adopted = f.adopted; kept = f.kept });
      ear = ear_holds h.ear f.gathered;
      keys = f.keys;
    })

right : (h : Head) → wellformed_of h ≡ true → all_right_of h.stored.values ≡ true
right h e = (stored_told h.stored (told h e).stored).values

-- the old test is that of the head with 35h 0 and incremental off, and 35h 0 or 1
abbrev aside : Head → Head
aside h = retired_of h.measurement.start h

-- in what is common the two are the same
module _ (h k : Head) where
  same_common : h.stored.number ≡ k.stored.number → h.stored.offer ≡ k.stored.offer → h.measurement.adopted ≡ k.measurement.adopted
      → h.measurement.m ≡ k.measurement.m → h.measurement.zero ≡ k.measurement.zero → h.measurement.start ≡ k.measurement.start
      → h.measurement.kept ≡ k.measurement.kept → h.faults ≡ k.faults → h.ear ≡ k.ear → h.keys ≡ k.keys → Common h → Common k
  same_common n o a m z s v f e y c =
      record {
        number = rw (← n) c.number;
        offer = rw (← o) c.offer;
        offer_at_lem = rw (← o, ← n) c.offer_at_lem;
        adopted = rw (← a) c.adopted;
        memory = rw (← f) c.memory;
        inputs = rw (← f) c.inputs;
        damaged = rw (← f) c.damaged;
        gathered = rw (← e) c.gathered;
        keys = rw (← y) c.keys;
        m = rw (← m) c.m;
        zero = rw (← z) c.zero;
        start = rw (← s) c.start;
        kept = rw (← v) c.kept;
      }

older_passed : (h : Head) → older_fits h ≡ true → OldFormed h
unfolding older_fits retired_of
older_passed h e =
    let b = (and-eq-true_iff (leb (incremental_of h) 1) _).0 e in
    record {
      values = right (aside h) b.1;
      old_row = leb-true _ _ b.0;
      common = same_common (aside h) h refl refl refl refl refl refl refl refl refl refl (common (aside h) b.1);
    }

older_passes : (h : Head) → OldFormed h → older_fits h ≡ true
unfolding older_fits retired_of
older_passes h f =
    rw (le-leb _ _ f.old_row)
    (held (aside h) f.values refl (same_common h (aside h) refl refl refl refl refl refl refl refl refl refl f.common))

all_pass : (b : Bool) (n : ℕ) (hs : List Head) → ((k : ℕ) → k < n → passes_of b (get_or hs k (factory_of 0)) ≡ true) → all_pass_of b n hs ≡ true
all_pass b zero hs p = refl
all_pass b (suc n) [] p = refl
all_pass b (suc n) (h ∷ hs) p = (and-eq-true_iff _ _).1 (p 0 (omega arith), all_pass b n hs (λ k lt. p (suc k) (omega arith)))

-- the serial numbers of the heads, by their places
module _ (l : Line) (places : length l.heads ≡ 32) where
  module _ (few : l.count ≤ 32) where
    pub long : length (serials_at l) ≡ l.count
    long = serials_length l.count l.heads (omega (arith, places, few))

    pub stands : (k : ℕ) → k < l.count → get_or (serials_at l) k 0 ≡ (head_at l k).stored.serial
    stands k p = serial_at (factory_of 0) k l.count l.heads p (omega (arith, places, few))

    differing : ((i j : ℕ) → i < l.count → j < l.count → i ≢ j → (head_at l i).stored.serial ≢ (head_at l j).stored.serial) → all_differ (serials_at l) ≡ true
    differing d = at_differ (serials_at l) (λ i j p q n e.
        let p' = rw long at p in
        let q' = rw long at q in
        d i j p' q' n (sym (stands i p') ∙ e ∙ stands j q'))

  apart : (b : Bool) → fits_by b l ≡ true → (i j : ℕ) → i < l.count → j < l.count → i ≢ j → (head_at l i).stored.serial ≢ (head_at l j).stored.serial
  apart b f i j p q n e =
      let few = by_small b l f in
      differ_at (serials_at l) (by_serials b l f) i j (rw (long few) p) (rw (long few) q) n (stands few i p ∙ e ∙ sym (stands few j q))

  line_passed : (b : Bool) → fits_by b l ≡ true → LineFormed (passes_of b) l
  line_passed b e = record { few = by_small b l e; heads = pass_at b l e; serials = apart b e }

  line_passes : (b : Bool) → LineFormed (passes_of b) l → fits_by b l ≡ true
  line_passes b f = by_few b l f.few ∙ rw (all_pass b l.count l.heads f.heads) (differing f.few f.serials)

pub twenty : Twenty
twenty =
    record {
      head_passed = λ h e. record { values = right h e; retired = zero_35 h e; off = off h e; common = common h e };
      head_passes = λ h f. held h f.values f.off f.common;
      older_passed = older_passed;
      older_passes = older_passes;
      line_passed = λ l p e. line_passed l p false e;
      line_passes = λ l p f. line_passes l p false f;
      older_line_passed = λ l p e. line_passed l p true e;
      older_line_passes = λ l p f. line_passes l p true f;
      place = λ l k h p. get_d_either (factory_of 0) h k l.heads p;
    }
