-- Serial numbers, by the laws of the crates head and line: what each call does to the serial numbers of a line, and that the account keeps them.
-- Assumes nothing.
use Rattle.std.specs.Prelude.{Ok, Result}
use Prim.Native.Nat.{ℕ, ◌<◌, ◌≤◌}
use mathlib.Core.Path.{◌≡◌, refl, sym, ap, ◌∙◌}
use mathlib.Core.Bool.{Bool, true, false, cond, not, ◌&&◌, true≢false}
use mathlib.Core.Logic.{◌≢◌}
use mathlib.Core.List.{List, [], ◌∷◌, ◌++◌}
use mathlib.Core.Option.{none, some}
use borrow.Author.Tests.{le-leb, lt-leb}
use lib.Dec.{leb, ltb}
use lib.ListN.{length, get_or}
use Rattle.rows.specs.Among.{among}
use Rattle.judge.proofs.Offers.{flip}
use Rattle.state.specs.declared.parts.Head.{Head}
use Rattle.state.specs.Wellformed.{wellformed_of}
use Rattle.head.specs.Outcome as alone
use Rattle.head.specs.declared.refusal.Refusal.{Refusal}
use Rattle.head.proofs.Serials.{call_serial}
use Rattle.line.specs.declared.calls.Line.{Line}
use Rattle.line.specs.Calls.{serials_at, head_at}
use Rattle.line.proofs.Laws.{fits_small, fits_serials}
use Rattle.rows.proofs.Listed.{among_at}
use Rattle.line.proofs.Apart.{differ_at, append_at, append_last}
use Rattle.line.proofs.Theorems.{well_at}
use Rattle.demands.specs.Calls.{Call, new_head, byte, tick, named, keys, dropped, Calls, ◌▸◌}
use Rattle.demands.specs.Past.{may_add_of, marked, account, count, serials}
use Rattle.demands.specs.Run.{product, run, head_in, after}
use Rattle.demands.specs.Lines as lines
use Rattle.demands.specs.Demand1.{row, first, refused_as, head_after}
use Rattle.demands.specs.Serials.{serial_of, made_with, grow_rows, Serials}
use Rattle.demands.proofs.Twenty.{long, stands}
use Rattle.demands.proofs.Heads.{after_serials, after_fits, after_count}
use Rattle.demands.proofs.Sim.{fits}
use Rattle.demands.proofs.Displays.{more}
use Rattle.demands.proofs.Lines.{tells, line_tells}
use Rattle.demands.proofs.Refusals.{demand1}
use Rattle.demands.proofs.Proved.{marks_long, marked_as}

marked_old : (c : Call) (n : ℕ) (ss : List ℕ) (k : ℕ) → k < length ss → get_or (marked c n ss) k 0 ≡ get_or ss k 0
unfolding marked
marked_old (new_head node serial) n ss k p =
    elim (may_add_of n ss node serial) as (λ b. get_or (cond b (ss ++ (serial ∷ [])) ss) k 0 ≡ get_or ss k 0) [ true ↦ append_at ss serial k p | false ↦ refl ]
marked_old (byte b t s) n ss k p = refl
marked_old (tick t) n ss k p = refl
marked_old (named j a) n ss k p = refl
marked_old (keys j s r) n ss k p = refl
marked_old (dropped t) n ss k p = refl

-- ---- on a line that fits
kept_on_line : (c : Call) (l : Line) (k : ℕ) → lines.Fits l → k < l.count → serial_of (head_at (after product.on_line_of c l) k) ≡ serial_of (head_at l k)
kept_on_line c l k f p =
    let x = after product.on_line_of c l in
    let a = after_fits c l f.fits f.places in
    let q : k < x.count = rw (after_count c l f.fits) (more c l.count (serials_at l) k p) in
    let few = fits_small l f.fits in
    sym (stands x a.1 (fits_small x a.0) k q)
    ∙ ap (λ ss. get_or ss k 0) (after_serials c l f.fits f.places)
    ∙ marked_old c l.count (serials_at l) k (rw (long l f.places few) p)
    ∙ stands l f.places few k p

taken : (l : Line) (node k : ℕ) → lines.Fits l → l.count < 32 → 1 ≤ node → node ≤ 127 → k < l.count
    → refused_as product.on_line_of (new_head node (serial_of (head_at l k))) l ≡ some 17
taken l node k f c p q lt =
    let few = fits_small l f.fits in
    let on : among (serials_at l) (serial_of (head_at l k)) ≡ true = rw (← stands l f.places few k lt) (among_at (serials_at l) k (rw (long l f.places few) lt)) in
    demand1.line_number (new_head node (serial_of (head_at l k))) l ∙ rw (f.fits, lt-leb 32 l.count c, le-leb 1 node p, le-leb node 127 q, on)

-- ---- after any calls
module _ (cs : Calls) where
  line_fits : lines.Fits (run cs)
  line_fits = record { fits = (fits cs).fits; places = (fits cs).places }

  there : (k : ℕ) → k < count cs → k < (run cs).count
  there k p = rw (fits cs).counts p

  told_alone : (k : ℕ) → k < count cs → ◌≡◌ {A = Result ℕ Refusal} (Ok (serial_of (head_in cs k))) (Ok (made_with cs k))
  told_alone k p = ap (λ x. Ok x) (marked_as cs k p)

  well : (k : ℕ) → k < count cs → wellformed_of (head_in cs k) ≡ true
  well k p = well_at (run cs) (fits cs).fits k (there k p)

  stays : (c : Call) (k : ℕ) → k < count cs → made_with (cs ▸ c) k ≡ made_with cs k
  unfolding account
  stays c k p = marked_old c (count cs) (serials cs) k (rw (marks_long cs) p)

  differ : (i j : ℕ) → i < count cs → j < count cs → i ≢ j → made_with cs i ≢ made_with cs j
  differ i j p q n e =
      differ_at (serials cs) (rw (← (fits cs).marks) (fits_serials (run cs) (fits cs).fits)) i j (rw (marks_long cs) p) (rw (marks_long cs) q) n e

  refused : (node serial : ℕ) → refused_as product.on_line_of (new_head node serial) (run cs) ≡ first (grow_rows cs node serial)
  refused node serial = demand1.line_number (new_head node serial) (run cs) ∙ rw ((fits cs).marks, (fits cs).fits, (fits cs).counts)

  new : (node serial : ℕ) → refused_as product.on_line_of (new_head node serial) (run cs) ≡ none → made_with (cs ▸ new_head node serial) (count cs) ≡ serial
  unfolding account marked may_add_of
  new node serial e =
      go (ltb (count cs) 32) (leb 1 node && leb node 127) (among (serials cs) serial) (rw (flip (count cs) 32) at (sym (refused node serial) ∙ e))
    where
      go : (x y z : Bool) → first (row 2 (not x) ∷ row 1 (not y) ∷ row 17 z ∷ []) ≡ none
          → get_or (cond (x && (y && not z)) (serials cs ++ (serial ∷ [])) (serials cs)) (count cs) 0 ≡ serial
      go true true false e = rw (← marks_long cs) (append_last (serials cs) serial)
      go true true true e = absurd (true≢false (cc e))
      go true false z e = absurd (true≢false (cc e))
      go false y z e = absurd (true≢false (cc e))

pub serial_numbers : Serials product
serial_numbers =
    record {
      made = demand1.made_serial;
      kept = λ c h. kept c h;
      kept_on_line = kept_on_line;
      new = new;
      stays = stays;
      told = λ cs k p. line_tells (run cs) (line_fits cs) k (there cs k p) ∙ tells (head_in cs k) (well cs k p) ∙ told_alone cs k p;
      told_alone = λ cs k p. tells (head_in cs k) (well cs k p) ∙ told_alone cs k p;
      differ = differ;
      refused = refused;
      taken = taken;
    }
  where
    kept : (c : alone.Call) (h : Head) → serial_of (head_after product.on_head c h) ≡ serial_of h
    kept (alone.byte b t space) h = call_serial (alone.byte b t space) h
    kept (alone.keys s space) h = call_serial (alone.keys s space) h
    kept (alone.asked a) h = call_serial (alone.asked a) h
