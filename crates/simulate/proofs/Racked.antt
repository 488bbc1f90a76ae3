-- What a rack shows: where it is not refused, the digits of just the replies that it laid, each after a blank and in their order; there is room for all
-- of them.
-- Assumes nothing.
use Rattle.std.proofs.Common.{◌≡◌, ℕ, ◌+◌, ◌*◌, ◌/◌, ◌≤◌, min, List, [], ◌∷◌, ◌++◌, length, take, drop, refl, ap, append_assoc, arith, length-append, length-take-le, take_at, drop_at, le-ltb, Ok}
use Prim.Native.Char.{code}
use native.Mathlib.Nat.{min-eq_left}
use Rattle.hex_digits.specs.Digits.{digits_of}
use Rattle.head.specs.declared.refusal.Refusal.{Refusal}
use Rattle.head.proofs.Tests.{Hold, passed}
use Rattle.line.specs.declared.calls.Line.{Line}
use Rattle.rack.specs.declared.Racked.{Racked}
use Rattle.rack.specs.declared.Tally.{Tally}
use Rattle.rack.specs.Rack.{dropped_of, fed_of, joined, filled, refused_with, racked, rack_tests, rack_of, rack_space_of}
use Rattle.rack.proofs.Filled.{Tens}
use Rattle.rack.proofs.Rounds.{one_each, tens}
use Rattle.rack.proofs.Ways.{rack_told, room_told}
use Rattle.simulate.specs.Feeding.{word_of}
use Rattle.simulate.specs.Racks.{reply_words_of, shown_on, shown_of}
use Rattle.simulate.proofs.Words.{words_size}

-- replies as they are written
abbrev pub spelled : List (List ℕ) → List ℕ
spelled [] = []
spelled (r ∷ rs) = (code " " ∷ digits_of r) ++ spelled rs

-- ten bytes at the start of the space
ten_first : (r rest : List ℕ) → length r ≡ 10 → word_of (r ++ rest) ≡ code " " ∷ digits_of r
unfolding word_of
ten_first r rest e =
    let wide : 10 ≤ length (r ++ rest) = simp length-append (omega arith) in
    rw (le-ltb (length (r ++ rest)) 10 wide, take_at r rest 10 e)

-- the words of replies of ten bytes that stand side by side
spelled_out : (rs : List (List ℕ)) → Tens rs → (rest : List ℕ) → reply_words_of (joined rs ++ rest) (length rs) ≡ spelled rs
unfolding reply_words_of
spelled_out [] t rest = refl
spelled_out (r ∷ rs) t rest =
    rw (append_assoc r (joined rs) rest, ten_first r (joined rs ++ rest) t.0, drop_at r (joined rs ++ rest) 10 t.0)
    (ap (λ (ws : List ℕ). (code " " ∷ digits_of r) ++ ws) (spelled_out rs t.1 rest))

-- what counts replies is not refused
abbrev Counts : Tally → Racked → Type 0
Counts counts r = r.answer ≡ Ok counts

counts_only : {counts : Tally} (l : Line) (why : Refusal) → Counts counts (refused_with l why) → ⊥
counts_only l why e = let z : ◌≡◌ {A = ℕ} 0 1 = cc in omega arith

-- a rack that is not refused
module _ (l : Line) (bs : List ℕ) (at : ℕ) (space : List ℕ) (place : ℕ) {counts : Tally}
    (done : Counts counts (rack_of l bs at (length space) place)) where
  abbrev n : ℕ
  n = counts.replies

  abbrev pub replies : List (List ℕ)
  replies = (fed_of (dropped_of l at) bs at).laid

  ways : (length replies ≡ n) × (rack_space_of l bs at space place ≡ filled replies place space) × Hold (rack_tests l (length bs) (length space) place)
  unfolding rack_of rack_space_of
  ways =
      let fed = racked (fed_of (dropped_of l at) bs at) in
      let tests = rack_tests l (length bs) (length space) place in
      let z = passed (Counts counts) (refused_with l) fed (λ why. space) (filled replies place space) tests (counts_only l) done in
      let laid : record { replies = length replies; collisions = (fed_of (dropped_of l at) bs at).collisions } ≡ counts = let e = z.0 in cc in
      (ap (λ (x : Tally). x.replies) laid, z.1, z.2)

  -- no more than there are telegrams, of which there are 64 at most
  few : n ≤ 64
  few =
      let w = ways in
      let t = rack_told (length bs) w.2.1.0 in
      omega (arith, w.0, t.1, one_each l at bs w.2.0 t.0)

  -- a text with room for the words of 64 replies
  pub shows : (out : List ℕ) → 1344 ≤ length out → take (21 * n) (shown_of l bs at space place out) ≡ spelled replies
  unfolding shown_on
  shows out room =
      let w = ways in
      let rest = drop (place + length (joined replies)) space in
      let within = (room_told (length bs) (length space) place w.2.1.1.0).0 in
      let all : min n (length out / 21) ≡ n = min-eq_left (omega (arith, few)) in
      let there : drop place (rack_space_of l bs at space place) ≡ joined replies ++ rest =
      rw w.1 (drop_at (take place space) (joined replies ++ rest) place (length-take-le place space within)) in
      rw (done, all, there, take_at (reply_words_of (joined replies ++ rest) n) (drop (21 * n) out) (21 * n) (words_size (joined replies ++ rest) n))
      (rw (← w.0) (spelled_out replies (tens bs (dropped_of l at) at) rest))
