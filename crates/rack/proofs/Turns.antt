-- The loop over the telegrams of a rack: what is left of them leads from where the loop stands to the same end.
-- Assumes nothing.
use Rattle.std.specs.Prelude.{Ok}
use Prim.Native.Nat.{ℕ, suc, ◌+◌, ◌*◌, ◌<◌, ◌≤◌}
use mathlib.Core.Path.{◌≡◌, refl, sym, ◌∙◌, ap}
use mathlib.Core.List.{List}
use native.Mathlib.Nat.{zero-add}
use native.Mathlib.Omega.{arith}
use lib.ListN.{length}
use Rattle.line.specs.declared.calls.Line.{Line}
use Rattle.line.specs.declared.round.Replies.{Replies}
use Rattle.line.specs.Round.{replies_by, tally}
use Rattle.line.proofs.Laws.{each_length}
use Rattle.rack.specs.declared.Racked.{Racked}
use Rattle.rack.specs.Rack.{Fed, fed_of, laid_at, laid_from, racked}
use Rattle.rack.proofs.Whole.{drew, told, told_line}
use Rattle.rack.proofs.Rounds.{drew_none, drew_one, drew_many, Ready, left, here, round, round_last}

-- the end of the call, from so many replies laid and collisions and from what the telegrams left come to
abbrev pub onward : ℕ → ℕ → Fed → Racked
onward replies collisions f = record { line = f.line; answer = Ok (record { replies = replies + length f.laid; collisions = collisions + f.collisions }) }

module _ (bytes : List ℕ) (at : ℕ) where
  -- from the line l and the space s₀, t telegrams later
  pub record Going (l : Line) (s₀ : List ℕ) (k : Line) (t replies collisions : ℕ) (s : List ℕ) : Type 0 where
    pub ready : Ready k
    pub count : k.count ≡ l.count
    pub places : length k.heads ≡ length l.heads
    pub few : (replies ≤ t) × (collisions ≤ t)
    pub said : onward replies collisions (left bytes at k t) ≡ racked (fed_of l bytes at)
    pub laid : laid_from (left bytes at k t).laid (10 * replies) s ≡ laid_from (fed_of l bytes at).laid 0 s₀
    pub room : length s ≡ length s₀

  pub going_start : (l : Line) (s₀ : List ℕ) → Ready l → Going l s₀ l 0 0 0 s₀
  going_start l s₀ r =
      record { ready = r; count = refl; places = refl; few = (omega arith, omega arith); said = simp zero-add; laid = refl; room = refl }

  -- every head was told telegram t
  module _ {l : Line} {s₀ : List ℕ} {k : Line} {t replies collisions : ℕ} {s : List ℕ} (g : Going l s₀ k t replies collisions s)
      (p : 10 * t + 10 ≤ length bytes) {n : Line} (heard : n ≡ told_line k (here bytes at t) at)
      {r : Replies} (drawn : r ≡ tally (replies_by (told (here bytes at t) at) k.count k.heads)) where
    abbrev pub rs : List (List ℕ)
    rs = replies_by (told (here bytes at t) at) k.count k.heads

    -- what is left comes to what the replies and the telegrams after it come to
    on : (left bytes at k t ≡ drew rs (left bytes at n (t + 1))) × Ready n
    on = rw heard (round bytes at k t g.ready p)

    counted : r.count ≡ length rs
    counted = ap (λ (x : Replies). x.count) drawn

    -- so many then, with the space after it
    going : (replies' collisions' : ℕ) (s' : List ℕ) → (replies' ≤ t + 1) × (collisions' ≤ t + 1)
        → onward replies' collisions' (left bytes at n (t + 1)) ≡ onward replies collisions (left bytes at k t)
        → laid_from (left bytes at n (t + 1)).laid (10 * replies') s' ≡ laid_from (left bytes at k t).laid (10 * replies) s
        → length s' ≡ length s
        → Going l s₀ n (t + 1) replies' collisions' s'
    going replies' collisions' s' few said laid room = record {
      ready = on.1;
      count = ap (λ (x : Line). x.count) heard ∙ g.count;
      places = ap (λ (x : Line). length x.heads) heard ∙ each_length _ k.count k.heads ∙ g.places;
      few = few;
      said = said ∙ g.said;
      laid = laid ∙ g.laid;
      room = room ∙ g.room;
    }

    -- just one reply: it is laid after those before it
    pub going_one : r.count ≡ 1 → {s' : List ℕ} → s' ≡ laid_at s (10 * replies) r.last → length s' ≡ length s → Going l s₀ n (t + 1) (replies + 1) collisions s'
    unfolding laid_from
    going_one e {s'} laid room =
        let f = left bytes at n (t + 1) in
        let d = on.0 ∙ drew_one f rs (sym counted ∙ e) in
        let a : replies + 1 + length f.laid ≡ replies + suc (length f.laid) = omega arith in
        let b : 10 * (replies + 1) ≡ 10 * replies + 10 = omega arith in
        going (replies + 1) collisions s' (omega (arith, g.few.0), omega (arith, g.few.1)) (rw (d, a)) (rw (d, b, laid, drawn)) room

    -- none
    pub going_none : r.count ≡ 0 → Going l s₀ n (t + 1) replies collisions s
    going_none e =
        let d = on.0 ∙ drew_none (left bytes at n (t + 1)) rs (sym counted ∙ e) in
        going replies collisions s (omega (arith, g.few.0), omega (arith, g.few.1)) (rw d) (rw d) refl

    -- a collision
    pub going_many : 1 < r.count → Going l s₀ n (t + 1) replies (collisions + 1) s
    going_many many =
        let f = left bytes at n (t + 1) in
        let q : 1 < length rs = omega (arith, many, counted) in
        let d = on.0 ∙ drew_many f rs q in
        let a : collisions + 1 + f.collisions ≡ collisions + suc f.collisions = omega arith in
        going replies (collisions + 1) s (omega (arith, g.few.0), omega (arith, g.few.1)) (rw (d, a)) (rw d) refl

  -- after the last
  pub going_end : {l : Line} {s₀ : List ℕ} {k : Line} {t replies collisions : ℕ} {s : List ℕ} → Going l s₀ k t replies collisions s → length bytes ≤ 10 * t
      → (record { line = k; answer = Ok (record { replies = replies; collisions = collisions }) } ≡ racked (fed_of l bytes at)) × (s ≡ laid_from (fed_of l bytes at).laid 0 s₀)
  unfolding laid_from
  going_end {l} {s₀} {k} {t} {replies} {collisions} {s} g p =
      let a : replies + 0 ≡ replies = omega arith in
      let b : collisions + 0 ≡ collisions = omega arith in
      (rw (round_last bytes at k t p, a, b) at g.said, rw (round_last bytes at k t p) at g.laid)
