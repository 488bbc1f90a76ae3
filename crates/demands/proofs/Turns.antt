-- Demand 3 of calls and racks in turn: the line after them is the one after the calls that they are, so its sentences are those of Demand3; and where no
-- byte call of a rack draws two replies, the rack has no collision.
-- Assumes nothing.
use Rattle.std.specs.Prelude.{Ok, Err, Result}
use Prim.Native.Nat.{ℕ, zero, suc, ◌*◌, ◌<◌, ◌≤◌}
use mathlib.Core.Path.{◌≡◌, refl, sym, ap, ◌∙◌}
use mathlib.Core.Bool.{Bool, true, false, cond, and-eq-true_iff}
use mathlib.Core.List.{List, [], ◌∷◌, ◌++◌}
use native.Mathlib.Omega.{arith}
use borrow.Author.Tests.{eqb-true, leb-true}
use lib.ListN.{length}
use Rattle.line.specs.declared.calls.Line.{Line}
use Rattle.line.specs.Calls.{byte_of}
use Rattle.rack.specs.declared.Racked.{Racked}
use Rattle.rack.specs.declared.Tally.{Tally}
use Rattle.rack.specs.Rack.{is_rack, room_for, rack_of}
use Rattle.rack.proofs.Theorems.{rack_not}
use Rattle.demands.specs.Calls.{byte, dropped, Calls, ◌▸◌, Bytes, hearing_at}
use Rattle.demands.specs.Past.{count}
use Rattle.demands.specs.Run.{product, after, runs, run}
use Rattle.demands.specs.Lines.{Fits}
use Rattle.demands.specs.Demand3.{Differ}
use Rattle.demands.specs.Racks.{Taken, fed, drawn, replies, collided, collisions, emptied}
use Rattle.demands.specs.Turns.{call, rack, Turns, none, ◌▹◌, line_after, taken, rack_calls, spread, HoldsAfter, InTurns}
use Rattle.demands.proofs.Sim as sim
use Rattle.demands.proofs.Proved.{proved}
use Rattle.demands.proofs.Racks.{racks}
use Rattle.head.specs.declared.refusal.Refusal.{Refusal}

line_fits : (cs : Calls) → Fits (run cs)
line_fits cs = record { fits = (sim.fits cs).fits; places = (sim.fits cs).places }

-- ---- bytes after some calls are byte calls more
fed_runs : (bs : List ℕ) (cs : Calls) (t : ℕ) → run (hearing_at t cs bs) ≡ fed product.on_line_of (run cs) bs t
unfolding runs after
fed_runs [] cs t = refl
fed_runs (b ∷ bs) cs t = fed_runs bs (cs ▸ byte b t 10) t

rack_runs : (bs : List ℕ) (cs : Calls) (t : ℕ) → run (rack_calls cs bs t) ≡ fed product.on_line_of (emptied product.on_line_of (run cs) t) bs t
unfolding runs after
rack_runs bs cs t = fed_runs bs (cs ▸ dropped t) t

-- ---- whether a rack is taken
pub is_taken : (l : Line) (bs : List ℕ) (n p : ℕ) → Fits l → taken (length bs) n p ≡ true → Taken l bs n p
unfolding taken
is_taken l bs n p f e =
    let w = (and-eq-true_iff _ _).0 e in
    let a = (and-eq-true_iff _ _).0 w.0 in
    let b = (and-eq-true_iff _ _).0 w.1 in
    record { line = f; tens = eqb-true _ _ a.0; most = leb-true _ _ a.1; within = leb-true _ _ b.0; room_left = leb-true _ _ b.1 }

-- one that is not is refused, for whatever reason
not_taken : (l : Line) (bs : List ℕ) (t n p : ℕ) → Fits l → taken (length bs) n p ≡ false
    → ((rack_of l bs t n p).line ≡ l) × ((counts : Tally) → (rack_of l bs t n p).answer ≡ Ok counts → ⊥)
unfolding taken is_rack room_for
not_taken l bs t n p f e =
    let w = rack_not l bs t n p f.fits e in
    (ap (λ (r : Racked). r.line) w.1, λ counts q. absurd (let a : Err w.0 ≡ Ok counts = sym (ap (λ (x : Racked). x.answer) w.1) ∙ q in let z : ◌≡◌ {A = ℕ} 0 1 = cc in omega arith))

rack_after : (cs : Calls) (bs : List ℕ) (t n p : ℕ) → (rack_of (run cs) bs t n p).line ≡ run (cond (taken (length bs) n p) (rack_calls cs bs t) cs)
rack_after cs bs t n p = go (taken (length bs) n p) refl
  where
    go : (x : Bool) → taken (length bs) n p ≡ x → (rack_of (run cs) bs t n p).line ≡ run (cond x (rack_calls cs bs t) cs)
    go true e = racks.feeds (run cs) bs t n p (is_taken (run cs) bs n p (line_fits cs) e) ∙ sym (rack_runs bs cs t)
    go false e = (not_taken (run cs) bs t n p (line_fits cs) e).0

same : (ts : Turns) → line_after product ts ≡ run (spread ts)
unfolding runs
same none = refl
same (ts ▹ call c) = ap (after product.on_line_of c) (same ts)
same (ts ▹ rack bs t n p) = ap (λ (l : Line). (rack_of l bs t n p).line) (same ts) ∙ rack_after (spread ts) bs t n p

-- ---- no byte call draws two replies
collided_none : (h : Result ℕ Refusal) → ((n : ℕ) → h ≡ Ok n → n ≤ 1) → collided h ≡ 0
collided_none (Ok zero) k = refl
collided_none (Ok (suc zero)) k = refl
collided_none (Ok (suc (suc n))) k = absurd (omega (arith, k (suc (suc n)) refl))
collided_none (Err why) k = refl

no_collision : (bs : List ℕ) (cs : Calls) (t : ℕ) → ((heard : List ℕ) (b : ℕ) (left : List ℕ) → bs ≡ heard ++ (b ∷ left) → Differ (hearing_at t cs heard))
    → collisions (drawn product.on_line_of (run cs) bs t) ≡ 0
unfolding runs after
no_collision [] cs t d = refl
no_collision (b ∷ bs) cs t d =
    let here = collided_none (byte_of (run cs) b t 10).heard (λ n e. proved.one_reply cs b t 10 n (d [] b bs refl) e) in
    let rest = no_collision bs (cs ▸ byte b t 10) t (λ h c l e. d (b ∷ h) c l (ap (λ (xs : List ℕ). b ∷ xs) e)) in
    rw (here, rest)

one_reply : (cs : Calls) (bs : List ℕ) (t n p : ℕ) (counts : Tally) → ((heard : List ℕ) (b : ℕ) (left : List ℕ) → bs ≡ heard ++ (b ∷ left) → Differ (rack_calls cs heard t))
    → (rack_of (run cs) bs t n p).answer ≡ Ok counts → (counts.collisions ≡ 0) × (10 * counts.replies ≤ length bs)
unfolding runs after
one_reply cs bs t n p counts d e = go (taken (length bs) n p) refl
  where
    go : (x : Bool) → taken (length bs) n p ≡ x → (counts.collisions ≡ 0) × (10 * counts.replies ≤ length bs)
    go true k =
        let w = is_taken (run cs) bs n p (line_fits cs) k in
        let ds = drawn product.on_line_of (emptied product.on_line_of (run cs) t) bs t in
        let found : Tally = record { replies = length (replies ds); collisions = collisions ds } in
        let q : Ok found ≡ Ok counts = sym (racks.answers (run cs) bs t n p w) ∙ e in
        let same-counts : found ≡ counts = cc in
        let a = ap (λ (x : Tally). x.replies) same-counts in
        let b = ap (λ (x : Tally). x.collisions) same-counts in
        let none : collisions ds ≡ 0 = no_collision bs (cs ▸ dropped t) t d in
        (sym b ∙ none, omega (arith, (racks.few (run cs) bs t n p w).1, a))
    go false k = absurd ((not_taken (run cs) bs t n p (line_fits cs) k).1 counts e)

holds : (ts : Turns) (k r : ℕ) → Bytes (spread ts) → k < count (spread ts) → r < 39 → HoldsAfter product ts k r
unfolding runs after
holds ts k r bytes kl rl =
    let h = proved.holds (spread ts) k r bytes kl rl in record { is_last = h.is_last; now = rw (same ts) h.now; after_cut = rw (same ts) h.after_cut }

pub in_turns : InTurns product
in_turns = record { same = same; holds = holds; one_reply = λ ts bs t n p counts d e. one_reply (spread ts) bs t n p counts d (rw (same ts) at e) }
