-- Racks that are wrong in one thing, each as a system of its own whose other calls are the product's, and that it does not meet what is asked: laid from 0; a
-- collision laid; gathered bytes kept; the byte after the last reply changed; 16 before 15; 641 bytes taken; and others.
-- Assumes nothing.
use Rattle.std.specs.Prelude.{ℕ, zero, suc, ◌+◌, ◌-◌, ◌%◌, ◌&&◌, List, [], ◌∷◌, ◌++◌, map, leb, eqb, length, take, drop, replicate, Ok, Err, Result}
use Rattle.state.specs.declared.parts.Head.{Head}
use Rattle.effects.specs.Restart.{empty_ear}
use Rattle.head.specs.declared.refusal.Refusal.TheVariants.{Malformed, RackLength, RackSpace}
use Rattle.head.specs.Calls.{Tests, guarded}
use Rattle.line.specs.declared.calls.Line.{Line}
use Rattle.line.specs.Calls as line
use Rattle.rack.specs.declared.Racked.{Racked}
use Rattle.rack.specs.Rack as rack
use Rattle.demands.specs.Run.{System, product, ask_of, with_ear}
use Rattle.demands.specs.Demand1.{Demand1}
use Rattle.demands.specs.Racks.{joined, Racks}
use Rattle.head.specs.declared.refusal.Refusal.{Refusal}
use Rattle.rack.specs.declared.Tally.{Tally}

-- the product with another rack
abbrev pub racking : (Line → List ℕ → ℕ → ℕ → ℕ → Racked) → (Line → List ℕ → ℕ → List ℕ → ℕ → List ℕ) → System
racking call space =
    record {
      on_head = product.on_head;
      on_line_of = record {
        grow = line.grow_of;
        byte = line.byte_of;
        space = line.byte_space_of;
        tick = line.tick_of;
        ask = ask_of;
        hit = line.last_hit_of;
        keys = line.keys_of;
        key_space = line.keys_space_of;
        save = line.save_of;
        sheet = line.save_space_of;
        serial = line.serial_number_of;
        rack = call;
        rack_space = space;
      };
    }

-- another feeding; and other tests
abbrev pub feeding : (Line → List ℕ → ℕ → rack.Fed) → System
feeding f =
    racking (λ l bs t n p. guarded (rack.refused_with l) (rack.rack_tests l (length bs) n p) (rack.racked (f l bs t)))
    (λ l bs t s p. guarded (λ why. s) (rack.rack_tests l (length bs) (length s) p) (rack.filled (f l bs t).laid p s))

abbrev pub testing : (Line → ℕ → ℕ → ℕ → Tests) → System
testing tests =
    racking (λ l bs t n p. guarded (rack.refused_with l) (tests l (length bs) n p) (rack.racked (rack.fed_of (rack.dropped_of l t) bs t)))
    (λ l bs t s p. guarded (λ why. s) (tests l (length bs) (length s) p) (rack.filled (rack.fed_of (rack.dropped_of l t) bs t).laid p s))

-- the replies found as they should be, and laid otherwise, by the place
abbrev pub laying : (List (List ℕ) → ℕ → List ℕ → List ℕ) → System
laying lay =
    racking rack.rack_of
    (λ l bs t s p. guarded (λ why. s) (rack.rack_tests l (length bs) (length s) p) (lay (rack.fed_of (rack.dropped_of l t) bs t).laid p s))

-- ---- what is fed where a byte draws something else than it should
abbrev pub fed_by : (Result ℕ Refusal → List ℕ → rack.Fed → rack.Fed) → Line → List ℕ → ℕ → rack.Fed
fed_by draw l [] t = record { line = l; laid = []; collisions = 0 }
fed_by draw l (b ∷ bs) t =
    let c = line.byte_of l b t 10 in draw c.heard (line.byte_space_of l b t (replicate 10 0)) (fed_by draw c.line bs t)

abbrev pub drawing : (Result ℕ Refusal → List ℕ → rack.Fed → rack.Fed) → System
drawing draw = feeding (λ l bs t. fed_by draw (rack.dropped_of l t) bs t)

-- a collision lays ten bytes that nobody sent, and is not counted
abbrev pub laying_all : Result ℕ Refusal → List ℕ → rack.Fed → rack.Fed
laying_all (Ok zero) ten f = f
laying_all (Ok (suc n)) ten f = record { line = f.line; laid = ten ∷ f.laid; collisions = f.collisions }
laying_all (Err why) ten f = f

-- a collision counts for each head that took part
abbrev pub counting_heads : Result ℕ Refusal → List ℕ → rack.Fed → rack.Fed
counting_heads (Ok zero) ten f = f
counting_heads (Ok (suc zero)) ten f = record { line = f.line; laid = ten ∷ f.laid; collisions = f.collisions }
counting_heads (Ok (suc (suc n))) ten f = record { line = f.line; laid = f.laid; collisions = suc (suc n) + f.collisions }
counting_heads (Err why) ten f = f

-- ---- the gathered bytes are kept; a rack that is refused drops them all the same
abbrev pub keeping : System
keeping = feeding (λ l bs t. rack.fed_of l bs t)

abbrev pub dropping_first : System
dropping_first =
    racking (λ l bs t n p. guarded (rack.refused_with (rack.dropped_of l t)) (rack.rack_tests l (length bs) n p) (rack.racked (rack.fed_of (rack.dropped_of l t) bs t)))
    rack.rack_space_of

-- the bytes are dropped only where there is a telegram; the keys are let go with them; heads past the count drop theirs too
abbrev pub lazy : Line → List ℕ → ℕ → rack.Fed
lazy l [] t = rack.fed_of l [] t
lazy l (b ∷ bs) t = rack.fed_of (rack.dropped_of l t) (b ∷ bs) t

abbrev pub with_keys : Head → ℕ → Head
with_keys h keys =
    record { stored = h.stored; faults = h.faults; measurement = h.measurement; targets = h.targets; monitor = h.monitor; ear = h.ear; keys = keys }

abbrev pub releasing : Line → List ℕ → ℕ → rack.Fed
releasing l bs t =
    let d = rack.dropped_of l t in rack.fed_of (record { heads = map (λ (h : Head). with_keys h 0) d.heads; count = d.count }) bs t

abbrev pub past : Line → List ℕ → ℕ → rack.Fed
past l bs t = rack.fed_of (record { heads = map (λ (h : Head). with_ear h (empty_ear t)) l.heads; count = l.count }) bs t

-- the telegrams after the first come a millisecond later
abbrev pub later : Line → List ℕ → ℕ → rack.Fed
later l bs t =
    let f = rack.fed_of (rack.dropped_of l t) (take 10 bs) t in
    let g = rack.fed_of f.line (drop 10 bs) (t + 1) in
    record { line = g.line; laid = f.laid ++ g.laid; collisions = f.collisions + g.collisions }

-- the last reply is laid first; collisions are not counted
abbrev pub backwards : List (List ℕ) → List (List ℕ)
backwards [] = []
backwards (r ∷ rs) = backwards rs ++ (r ∷ [])

abbrev pub reversed : Line → List ℕ → ℕ → rack.Fed
reversed l bs t = let f = rack.fed_of (rack.dropped_of l t) bs t in record { line = f.line; laid = backwards f.laid; collisions = f.collisions }

abbrev pub uncounted : Line → List ℕ → ℕ → rack.Fed
uncounted l bs t = let f = rack.fed_of (rack.dropped_of l t) bs t in record { line = f.line; laid = f.laid; collisions = 0 }

-- replies and collisions stand for each other in the answer
abbrev pub swap : Racked → Racked
swap r = record { line = r.line; answer = swapped r.answer }
  where
    swapped : Result Tally Refusal → Result Tally Refusal
    swapped (Ok counts) = Ok (record { replies = counts.collisions; collisions = counts.replies })
    swapped (Err why) = Err why

abbrev pub swapping : System
swapping = racking (λ l bs t n p. swap (rack.rack_of l bs t n p)) rack.rack_space_of

-- ---- the replies are laid from the start of the space; the byte after the last is set to 0; each is laid over the one before it
abbrev pub from_start : System
from_start = laying (λ rs p s. rack.filled rs 0 s)

abbrev pub ended : List (List ℕ) → ℕ → List ℕ → List ℕ
ended rs p s = take p s ++ (joined rs ++ (0 ∷ drop (suc (p + length (joined rs))) s))

abbrev pub ending : System
ending = laying ended

abbrev pub last_of : List (List ℕ) → List (List ℕ)
last_of [] = []
last_of (r ∷ []) = r ∷ []
last_of (r ∷ (q ∷ rs)) = last_of (q ∷ rs)

abbrev pub overlaying : System
overlaying = laying (λ rs p s. rack.filled (last_of rs) p s)

-- ---- 16 before 15
abbrev pub space_first : Line → ℕ → ℕ → ℕ → Tests
space_first l n room p = (line.fits_of l, Malformed) ∷ (rack.room_for n room p, RackSpace) ∷ (rack.is_rack n, RackLength) ∷ []

-- 641 bytes; 65 telegrams
abbrev pub one_byte_more : Line → ℕ → ℕ → ℕ → Tests
one_byte_more l n room p = (line.fits_of l, Malformed) ∷ (leb n 641, RackLength) ∷ (rack.room_for n room p, RackSpace) ∷ []

abbrev pub one_more_of : Line → ℕ → ℕ → ℕ → Tests
one_more_of l n room p = (line.fits_of l, Malformed) ∷ (eqb (n % 10) 0 && leb n 650, RackLength) ∷ (rack.room_for n room p, RackSpace) ∷ []

-- the room counts from the start of the space; a place beyond the end is taken where there is no telegram
abbrev pub whole_space : Line → ℕ → ℕ → ℕ → Tests
whole_space l n room p = (line.fits_of l, Malformed) ∷ (rack.is_rack n, RackLength) ∷ (leb p room && leb n room, RackSpace) ∷ []

abbrev pub beyond : Line → ℕ → ℕ → ℕ → Tests
beyond l n room p = (line.fits_of l, Malformed) ∷ (rack.is_rack n, RackLength) ∷ (leb n (room - p), RackSpace) ∷ []

pub record WrongRacks : Type 0 where
  pub from_start_fails : Racks from_start → ⊥
  pub laying_all_fails : Racks (drawing laying_all) → ⊥
  pub counting_heads_fails : Racks (drawing counting_heads) → ⊥
  pub keeping_fails : Racks keeping → ⊥
  pub lazy_fails : Racks (feeding lazy) → ⊥
  pub releasing_fails : Racks (feeding releasing) → ⊥
  pub past_fails : Racks (feeding past) → ⊥
  pub later_fails : Racks (feeding later) → ⊥
  pub reversed_fails : Racks (feeding reversed) → ⊥
  pub uncounted_fails : Racks (feeding uncounted) → ⊥
  pub swapped_fails : Racks swapping → ⊥
  pub ending_fails : Racks ending → ⊥
  pub overlaying_fails : Racks overlaying → ⊥
  pub dropping_first_fails : Demand1 dropping_first → ⊥
  pub space_first_fails : Demand1 (testing space_first) → ⊥
  pub one_byte_more_fails : Demand1 (testing one_byte_more) → ⊥
  pub one_more_fails : Demand1 (testing one_more_of) → ⊥
  pub whole_space_fails : Demand1 (testing whole_space) → ⊥
  pub beyond_fails : Demand1 (testing beyond) → ⊥
