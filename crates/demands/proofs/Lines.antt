-- What a line's calls are to its heads: a byte and a tick reach each, the other calls the one that they name.
-- Assumes nothing.
use Rattle.std.specs.Prelude.{Ok, Result, is_some}
use Prim.Native.Nat.{ℕ, zero, suc, ◌+◌, ◌<◌, ◌≤◌}
use native.Mathlib.Omega.{arith}
use native.Mathlib.Nat.{le_of_suc-le-suc, not-suc-le-zero}
use mathlib.Core.Path.{◌≡◌, refl, sym, ◌∙◌}
use mathlib.Core.Bool.{Bool, true, false, cond, and-eq-true_iff}
use mathlib.Core.Logic.{◌≢◌}
use mathlib.Core.List.{List, [], ◌∷◌}
use borrow.Author.Tests.{le-ltb, lt-ltb}
use lib.ListN.{length, get_or, length-append}
use lib.Seq.{get_or-set_same, get_or-set_other}
use Rattle.wire.specs.Telegram.{ten_in}
use Rattle.state.specs.declared.parts.Head.{Head}
use Rattle.state.specs.Wellformed.{wellformed_of}
use Rattle.effects.specs.Restart.{fresh_of}
use Rattle.head.specs.declared.refusal.Refusal.{Refusal}
use Rattle.head.specs.Hear.{step_of}
use Rattle.head.specs.Calls as head
use Rattle.head.specs.Calls.{factory_of, node_fits, made_of}
use Rattle.head.specs.Outcome.{tick, called}
use Rattle.line.specs.declared.calls.Line.{Line}
use Rattle.line.specs.Round.{all_fit, said_by, replies_of}
use Rattle.line.specs.Calls.{head_at, replies_at, grow_of, byte_of, byte_space_of, tick_of, keys_of, keys_space_of, last_hit_of, save_of, save_space_of, serial_number_of}
use Rattle.line.proofs.Laws.{one_replies, not_one, fits_small, fits_heads}
use Rattle.line.proofs.Apart.{unused}
use Rattle.line.proofs.Theorems.{byte_alone, byte_counts, byte_lays, tick_alone, named_there, named_one, keys_there, keys_lays, keys_one, well_at}
use Rattle.demands.specs.Calls.{Ask}
use Rattle.demands.specs.Run.{product, ask_of, alone_of}
use Rattle.demands.specs.Lines.{Fits, FitsFor, heard_alone, number_in, sum, all_replies, Only, ToOne, Unused, Grown}
use Rattle.demands.proofs.Named.{brings, ask_is, takes_line_lem}

-- ---- a byte to a head that is well-formed, with room
module _ (b t room : ℕ) (wide : 10 ≤ room) where
  abbrev says : Head → ℕ
  says h = number_in (head.byte_of h b t room).heard

  heard_is : (h : Head) → wellformed_of h ≡ true → (head.byte_of h b t room).heard ≡ Ok (cond (is_some (step_of h b t).reply) 1 0)
  unfolding head.byte_of
  heard_is h w = rw (w, le-ltb room 10 wide)

  replied : (h : Head) → wellformed_of h ≡ true → (head.byte_of h b t room).heard ≡ Ok 1 → is_some (step_of h b t).reply ≡ true
  replied h w e = go (is_some (step_of h b t).reply) (sym (heard_is h w) ∙ e)
    where
      go : (r : Bool) → ◌≡◌ {A = Result ℕ Refusal} (Ok (cond r 1 0)) (Ok 1) → r ≡ true
      go true e = refl
      go false e = let z : ◌≡◌ {A = ℕ} 0 1 = cc in absurd (omega arith)

  quiet : (h : Head) → wellformed_of h ≡ true → (head.byte_of h b t room).heard ≡ Ok 0 → is_some (step_of h b t).reply ≡ false
  quiet h w e = go (is_some (step_of h b t).reply) (sym (heard_is h w) ∙ e)
    where
      go : (r : Bool) → ◌≡◌ {A = Result ℕ Refusal} (Ok (cond r 1 0)) (Ok 0) → r ≡ false
      go false e = refl
      go true e = let z : ◌≡◌ {A = ℕ} 1 0 = cc in absurd (omega arith)

  -- as many replies on the line as the heads give alone
  all_counted : (n : ℕ) (hs : List Head) → n ≤ length hs → all_fit n hs ≡ true
      → length (replies_of n hs b t) ≡ sum n (λ k. says (get_or hs k (factory_of 0)))
  all_counted zero hs q e = refl
  all_counted (suc n) [] q e = absurd (not-suc-le-zero q)
  all_counted (suc n) (h ∷ hs) q e =
      let w = (and-eq-true_iff (wellformed_of h) _).0 e in
      let i = all_counted n hs (le_of_suc-le-suc q) w.1 in
      length-append (said_by (step_of h b t)) (replies_of n hs b t) ∙ rw (i, heard_is h w.0) (go (is_some (step_of h b t).reply))
    where
      go : (r : Bool) → length (cond r (ten_in (step_of h b t).reply ∷ []) []) + sum n (λ k. says (get_or hs k (factory_of 0))) ≡ cond r 1 0 + sum n (λ k. says (get_or hs k (factory_of 0)))
      go true = refl
      go false = refl

sum_none : (n : ℕ) (f : ℕ → ℕ) → ((k : ℕ) → k < n → f k ≡ 0) → sum n f ≡ 0
sum_none zero f q = refl
sum_none (suc n) f q = rw (q 0 (omega arith), sum_none n (λ i. f (suc i)) (λ k p. q (suc k) (omega arith)))

module _ (l : Line) (b t : ℕ) (space : List ℕ) (f : Fits l) (room : 10 ≤ length space) where
  few : l.count ≤ length l.heads
  few = let e = f.places in let q = fits_small l f.fits in omega arith

  pub line_count : (byte_of l b t (length space)).line.count ≡ l.count
  unfolding byte_of
  line_count = rw (f.fits, le-ltb (length space) 10 room)

  pub line_heads : (k : ℕ) → k < l.count → head_at (byte_of l b t (length space)).line k ≡ (heard_alone product.on_head l b t space k).head
  unfolding head.byte_of
  line_heads k p = rw (well_at l f.fits k p, le-ltb (length space) 10 room) (byte_alone l f.fits f.places k p b t (length space) room)

  pub line_counts : (byte_of l b t (length space)).heard ≡ Ok (all_replies product.on_head l b t space)
  line_counts =
      byte_counts l f.fits b t space room ∙ rw (all_counted b t (length space) room l.count l.heads few (fits_heads l f.fits))

  pub line_lays_not : all_replies product.on_head l b t space ≢ 1 → byte_space_of l b t space ≡ space
  line_lays_not n =
      byte_lays l f.fits b t space room
      ∙ sym (not_one (replies_at l b t) space (rw (all_counted b t (length space) room l.count l.heads few (fits_heads l f.fits)) n))

  pub line_silent : ((k : ℕ) → k < l.count → (heard_alone product.on_head l b t space k).heard ≡ Ok 0)
      → ((byte_of l b t (length space)).heard ≡ Ok 0) × (byte_space_of l b t space ≡ space)
  line_silent q =
      let z = sum_none l.count (λ k. number_in (heard_alone product.on_head l b t space k).heard) (λ k p. rw (q k p)) in
      (line_counts ∙ rw z, line_lays_not (λ e. omega arith))

  module _ (k : ℕ) (o : Only product.on_head l b t space k) where
    only_said : replies_at l b t ≡ ten_in (step_of (head_at l k) b t).reply ∷ []
    only_said =
        let p = o.there in
        one_replies b t (factory_of 0) k l.count l.heads p (omega (arith, few))
        (replied b t (length space) room (head_at l k) (well_at l f.fits k p) o.speaks)
        (λ j q n. quiet b t (length space) room (head_at l j) (well_at l f.fits j q) (o.others j q n))

    pub line_one : ((byte_of l b t (length space)).heard ≡ Ok 1) × (byte_space_of l b t space ≡ head.byte_space_of (head_at l k) b t space)
    unfolding head.byte_space_of
    line_one =
        let w = well_at l f.fits k o.there in
        let r = replied b t (length space) room (head_at l k) w o.speaks in (
          byte_counts l f.fits b t space room ∙ rw only_said,
          byte_lays l f.fits b t space room ∙ rw (only_said, w, le-ltb (length space) 10 room, r),
        )

-- ---- the other calls
pub tells : (h : Head) → wellformed_of h ≡ true → head.serial_number_of h ≡ Ok h.stored.serial
unfolding head.serial_number_of
tells h w = rw w

pub shows : (h : Head) → wellformed_of h ≡ true → head.last_hit_of h ≡ Ok h.faults.hit
unfolding head.last_hit_of
shows h w = rw w

-- a call that names a head
pub line_asks : (l : Line) (i : ℕ) (a : Ask) → FitsFor a l → i < l.count → let alone = called (alone_of a) (head_at l i) in
    ToOne l i (ask_of a l i).line alone.head × ((ask_of a l i).answer ≡ alone.answer)
line_asks l i a f p =
    let b = brings a in
    let c = called (alone_of a) (head_at l i) in
    let t = named_there b l (sym (takes_line_lem a l) ∙ f.takes) f.places i p c in
    let o = named_one l b i c in
    rw (ask_is a l i) (record { there = t.1; others = o.1; count = o.0 }, t.0)

module _ (l : Line) (f : Fits l) where
  pub line_ticks : (t k : ℕ) → k < l.count → head_at (tick_of l t).line k ≡ (called (tick t) (head_at l k)).head
  unfolding called head.tick_of
  line_ticks t k p = rw (well_at l f.fits k p) (tick_alone l f.fits f.places k p t)

  pub line_ticked : (t : ℕ) → ((tick_of l t).answer ≡ (Ok tt)) × ((tick_of l t).line.count ≡ l.count)
  unfolding tick_of
  line_ticked t = (rw f.fits, rw f.fits)

  pub line_presses : (i s : ℕ) (space : List ℕ) → i < l.count → let alone = head.keys_of (head_at l i) s (length space) in
      ToOne l i (keys_of l i s (length space)).line alone.head
      × ((keys_of l i s (length space)).heard ≡ alone.heard)
      × (keys_space_of l i s space ≡ head.keys_space_of (head_at l i) s space)
  line_presses i s space p =
      let t = keys_there l f.fits f.places i p s (length space) in
      let o = keys_one l i s (length space) in
      (record { there = t.1; others = o.1; count = o.0 }, t.0, keys_lays l f.fits f.places i p s space)

  pub line_shows : (i : ℕ) → i < l.count → last_hit_of l i ≡ head.last_hit_of (head_at l i)
  unfolding last_hit_of
  line_shows i p = rw (f.fits, lt-ltb i l.count p)

  pub line_saves : (i : ℕ) (space : List ℕ) → i < l.count
      → (save_of l i (length space) ≡ head.save_of (head_at l i) (length space)) × (save_space_of l i space ≡ head.save_space_of (head_at l i) space)
  unfolding save_of save_space_of
  line_saves i space p = (rw (f.fits, lt-ltb i l.count p), rw (f.fits, lt-ltb i l.count p))

  pub line_tells : (i : ℕ) → i < l.count → serial_number_of l i ≡ head.serial_number_of (head_at l i)
  unfolding serial_number_of
  line_tells i p = rw (f.fits, lt-ltb i l.count p)

  pub line_grows : (node serial : ℕ) → l.count < 32 → Unused l serial → Grown l (grow_of l node serial) (made_of node serial)
  unfolding grow_of made_of
  line_grows node serial p u = go (node_fits node) refl
    where
      here : l.count < length l.heads
      here = let e = f.places in omega arith

      go : (b : Bool) → node_fits node ≡ b → Grown l (grow_of l node serial) (made_of node serial)
      go true e =
          rw (f.fits, lt-ltb l.count 32 p, e, unused (factory_of 0) serial l.count l.heads u)
          record {
            answer = refl;
            there = λ _. get_or-set_same l.heads l.count (fresh_of node serial) (factory_of 0) here;
            count = λ _. refl;
            others = λ j n. get_or-set_other l.heads l.count j (fresh_of node serial) (factory_of 0) n;
          }
      go false e =
          rw (f.fits, lt-ltb l.count 32 p, e)
          record {
            answer = refl;
            there = λ d. let z : ◌≡◌ {A = ℕ} 0 1 = cc in absurd (omega arith);
            count = λ d. let z : ◌≡◌ {A = ℕ} 0 1 = cc in absurd (omega arith);
            others = λ j n. refl;
          }
