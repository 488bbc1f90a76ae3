-- A line after a call: it still fits, it has the heads that the account counts with the serial numbers that it keeps, and at each place stands what the call makes of the head
-- there alone. By cases on the tests of the call.
-- Assumes nothing.
use Prim.Native.Nat.{ℕ, suc, ◌<◌, ◌≤◌}
use mathlib.Core.Path.{◌≡◌, refl, ◌∙◌}
use mathlib.Core.Bool.{Bool, true, false, cond, not, ◌&&◌}
use mathlib.Core.List.{List, [], ◌∷◌, ◌++◌}
use native.Mathlib.Numerals.{add-one}
use native.Mathlib.Omega.{arith}
use borrow.Author.Tests.{ltb-true, leb-true, eqb-true, eqb-false, leb-false, lt-ltb}
use lib.Dec.{leb, ltb, eqb}
use lib.ListN.{length, set, get_or}
use lib.Seq.{get_or-set_same, get_or-set_other}
use Rattle.rows.specs.Among.{among}
use Rattle.state.specs.declared.parts.Head.{Head}
use Rattle.state.specs.Wellformed.{wellformed_of}
use Rattle.state.specs.With.{with_ear}
use Rattle.effects.specs.Restart.{empty_ear, fresh_of}
use Rattle.head.specs.declared.refusal.Refusal.TheVariants.{Node, Full, SerialTaken}
use Rattle.head.specs.Hear.{step_of}
use Rattle.head.specs.Moves.{ticked_of, keyed_of}
use Rattle.head.specs.Calls as head
use Rattle.head.specs.Calls.{guarded, factory_of}
use Rattle.head.specs.Outcome.{called, own, next}
use Rattle.head.proofs.Nodes.{node_same}
use Rattle.head.proofs.Asked.{called_head, called_fits, lent_keys_head}
use Rattle.head.proofs.Serials.{asked_serial}
use Rattle.line.specs.declared.calls.Line.{Line}
use Rattle.line.specs.declared.calls.Called.{Called}
use Rattle.line.specs.declared.calls.Fed.{Fed}
use Rattle.line.specs.Calls.{serials_at, fits_of, head_at, done_with, refused_with, placed_of, grown_by, grow_of, byte_of, keys_of}
use Rattle.line.proofs.Laws.{fits_small, fits_either}
use Rattle.line.proofs.Theorems.{Kept, grown_serials, grow_keeps, byte_keeps, tick_keeps, named_keeps, keys_keeps, named_line, named_line_lem, keys_line, tick_alone, byte_alone, well_at}
use Rattle.rack.proofs.Theorems.{none_line, dropped_at, rack_keeps}
use Rattle.demands.specs.Calls.{Ask, Call, new_head, byte, tick, named, keys, dropped}
use Rattle.demands.specs.Past.{may_add_of, grown, marked, room, makes, names}
use Rattle.demands.specs.Run.{product, ask_of, alone_of, after}
use Rattle.demands.proofs.Named.{brings, ask_is}

ask_keeps : (a : Ask) (l : Line) (j : ℕ) → Kept l (ask_of a l j).line
ask_keeps a l j =
    rw (ask_is a l j)
    (named_keeps l (brings a) j (called (alone_of a) (head_at l j)) (called_fits (alone_of a) (head_at l j)) (asked_serial (alone_of a) (head_at l j)))

-- ---- a new head, by the three tests
abbrev grow_by : Bool → Bool → Bool → Line → ℕ → ℕ → Called
grow_by x y z l node serial =
    cond x (cond y (cond (not z) (done_with (grown_by l node serial)) (refused_with l SerialTaken)) (refused_with l Node)) (refused_with l Full)

grow_is : (l : Line) (node serial : ℕ) → fits_of l ≡ true
    → grow_of l node serial ≡ grow_by (ltb l.count 32) (leb 1 node && leb node 127) (among (serials_at l) serial) l node serial
unfolding grow_of
grow_is l node serial f = rw (f, node_same node)

-- what holds where it is made, and where it is not
by_tests : (P : Line → Bool → Type 0) (l : Line) (node serial : ℕ) → fits_of l ≡ true
    → (l.count < 32 → P (grown_by l node serial) true) → P l false → P (grow_of l node serial).line (may_add_of l.count (serials_at l) node serial)
unfolding may_add_of
by_tests P l node serial f p q =
    rw (grow_is l node serial f) (go (ltb l.count 32) refl (leb 1 node && leb node 127) (among (serials_at l) serial))
  where
    go : (x : Bool) → ltb l.count 32 ≡ x → (y z : Bool) → P (grow_by x y z l node serial).line (x && (y && not z))
    go true e true true = q
    go true e true false = p (ltb-true _ _ e)
    go true e false z = q
    go false e y z = q

grow_count : (l : Line) (node serial : ℕ) → fits_of l ≡ true → (grow_of l node serial).line.count ≡ grown (new_head node serial) l.count (serials_at l)
unfolding grown
grow_count l node serial f = by_tests (λ k b. k.count ≡ cond b (suc l.count) l.count) l node serial f (λ p. add-one l.count) refl

grow_serials : (l : Line) (node serial : ℕ) → fits_of l ≡ true → length l.heads ≡ 32
    → serials_at (grow_of l node serial).line ≡ marked (new_head node serial) l.count (serials_at l)
unfolding marked
grow_serials l node serial f e =
    by_tests (λ k b. serials_at k ≡ cond b (serials_at l ++ (serial ∷ [])) (serials_at l)) l node serial f (λ p. grown_serials l node serial (omega arith)) refl

-- ---- after any call: it fits, has its 32 places, and the serial numbers that the account keeps
pub after_fits : (c : Call) (l : Line) → fits_of l ≡ true → length l.heads ≡ 32
    → (fits_of (after product.on_line_of c l) ≡ true) × (length (after product.on_line_of c l).heads ≡ 32)
unfolding after
after_fits (new_head node serial) l f e = let k = grow_keeps l node serial e in (k.0 f, k.1 ∙ e)
after_fits (byte b t s) l f e = let k = byte_keeps l b t s in (k.fits f, k.places ∙ e)
after_fits (tick t) l f e = let k = tick_keeps l t in (k.fits f, k.places ∙ e)
after_fits (named j a) l f e = let k = ask_keeps a l j in (k.fits f, k.places ∙ e)
after_fits (keys j s n) l f e = let k = keys_keeps l j s n in (k.fits f, k.places ∙ e)
after_fits (dropped t) l f e = let k = rack_keeps l [] t 0 0 in (k.fits f, k.places ∙ e)

pub after_serials : (c : Call) (l : Line) → fits_of l ≡ true → length l.heads ≡ 32
    → serials_at (after product.on_line_of c l) ≡ marked c l.count (serials_at l)
unfolding after marked
after_serials (new_head node serial) l f e = grow_serials l node serial f e
after_serials (byte b t s) l f e = (byte_keeps l b t s).serials
after_serials (tick t) l f e = (tick_keeps l t).serials
after_serials (named j a) l f e = (ask_keeps a l j).serials
after_serials (keys j s n) l f e = (keys_keeps l j s n).serials
after_serials (dropped t) l f e = (rack_keeps l [] t 0 0).serials

-- ---- how many heads
pub after_count : (c : Call) (l : Line) → fits_of l ≡ true → (after product.on_line_of c l).count ≡ grown c l.count (serials_at l)
unfolding after grown
after_count (new_head node serial) l f = grow_count l node serial f
after_count (byte b t s) l f = (byte_keeps l b t s).count
after_count (tick t) l f = (tick_keeps l t).count
after_count (named j a) l f = (ask_keeps a l j).count
after_count (keys j s n) l f = (keys_keeps l j s n).count
after_count (dropped t) l f = (rack_keeps l [] t 0 0).count

-- ---- which head
-- what a call that names a head makes of it: nothing where one of its own tests fails
unfoldable pub asked_of : Ask → Head → Head
asked_of a h = guarded (λ why. h) (own (alone_of a)) (next (alone_of a) h)

-- what a key state makes of it: nothing where it is above 7, or under ten bytes are lent
unfoldable pub keyed_by : ℕ → ℕ → Head → Head
keyed_by s n h = cond (leb s 7 && room n) (keyed_of h s).head h

-- what a call makes of the head h at place k of n, whose serial numbers are ss
unfoldable pub head_by : Call → ℕ → List ℕ → ℕ → Head → Head
head_by (new_head node serial) n ss k h = cond (makes n ss node serial k) (fresh_of node serial) h
head_by (byte b t s) n ss k h = cond (room s) (step_of h b t).head h
head_by (tick t) n ss k h = ticked_of h t
head_by (named j a) n ss k h = cond (names n j k) (asked_of a h) h
head_by (keys j s r) n ss k h = cond (names n j k) (keyed_by s r h) h
head_by (dropped t) n ss k h = with_ear h (empty_ear t)

-- a head changed in its place, seen at each place
set_seen : (l : Line) (j k : ℕ) (g : Head → Head) → j < length l.heads
    → get_or (set l.heads j (g (head_at l j))) k (factory_of 0) ≡ cond (eqb k j) (g (head_at l k)) (head_at l k)
set_seen l j k g lt = go (eqb k j) refl
  where
    go : (c : Bool) → eqb k j ≡ c → get_or (set l.heads j (g (head_at l j))) k (factory_of 0) ≡ cond c (g (head_at l k)) (head_at l k)
    go true e = rw (eqb-true k j e) (get_or-set_same l.heads j (g (head_at l j)) (factory_of 0) lt)
    go false e = get_or-set_other l.heads j k (g (head_at l j)) (factory_of 0) (eqb-false k j e)

-- what holds of both ways of a test holds of it
either : {A B : Type 0} (f : A → B) (b : Bool) (x y : A) (z : B) → f x ≡ z → f y ≡ z → f (cond b x y) ≡ z
either f true x y z p q = p
either f false x y z p q = q

byte_short : (l : Line) (b t s k : ℕ) → s < 10 → head_at (byte_of l b t s).line k ≡ head_at l k
unfolding byte_of
byte_short l b t s k p = rw (lt-ltb s 10 p) (either (λ (c : Fed). head_at c.line k) (fits_of l) _ _ (head_at l k) refl refl)

module _ (l : Line) (f : fits_of l ≡ true) (e : length l.heads ≡ 32) where
  there : (j : ℕ) → j < l.count → j < length l.heads
  there j p = let q : l.count ≤ 32 = fits_small l f in omega arith

  grow_at : (node serial k : ℕ) → head_at (grow_of l node serial).line k ≡ head_by (new_head node serial) l.count (serials_at l) k (head_at l k)
  unfolding head_by
  grow_at node serial k =
      by_tests (λ m b. head_at m k ≡ cond (b && eqb k l.count) (fresh_of node serial) (head_at l k)) l node serial f
      (λ p. set_seen l l.count k (λ _. fresh_of node serial) (omega arith)) refl

  byte_at : (b t s k : ℕ) → k < l.count → head_at (byte_of l b t s).line k ≡ head_by (byte b t s) l.count (serials_at l) k (head_at l k)
  unfolding head_by
  byte_at b t s k lt = go (room s) refl
    where
      go : (x : Bool) → room s ≡ x → head_at (byte_of l b t s).line k ≡ cond x (step_of (head_at l k) b t).head (head_at l k)
      go true p = byte_alone l f e k lt b t s (leb-true 10 s p)
      go false p = byte_short l b t s k (leb-false 10 s p)

  -- a call that names head j, and makes g of it alone; of a head that is well-formed g makes what m does
  named_at : (b : Bool) (j k : ℕ) (g m : Head → Head) → ((h : Head) → wellformed_of h ≡ true → g h ≡ m h)
      → head_at (named_line l b j (g (head_at l j))) k ≡ cond (names l.count j k) (m (head_at l k)) (head_at l k)
  unfolding placed_of
  named_at b j k g m same = rw (fits_either b l f) (go (ltb j l.count) refl)
    where
      go : (b : Bool) → ltb j l.count ≡ b
          → head_at (cond b (placed_of l j (g (head_at l j))) l) k ≡ cond (b && eqb k j) (m (head_at l k)) (head_at l k)
      go false p = refl
      go true p = set_seen l j k g (there j (ltb-true _ _ p)) ∙ at_k (eqb k j) refl
        where
          at_k : (c : Bool) → eqb k j ≡ c → cond c (g (head_at l k)) (head_at l k) ≡ cond c (m (head_at l k)) (head_at l k)
          at_k true e = let q : k < l.count = rw (eqb-true k j e) (ltb-true _ _ p) in same (head_at l k) (well_at l f k q)
          at_k false e = refl

  ask_at : (a : Ask) (j k : ℕ) → head_at (ask_of a l j).line k ≡ cond (names l.count j k) (asked_of a (head_at l k)) (head_at l k)
  unfolding asked_of
  ask_at a j k =
      rw (ask_is a l j, named_line_lem l (brings a) j (called (alone_of a) (head_at l j)))
      (named_at (brings a) j k (λ h. (called (alone_of a) h).head) (λ h. guarded (λ why. h) (own (alone_of a)) (next (alone_of a) h)) (called_head (alone_of a)))

  keys_at : (j k s n : ℕ) → head_at (keys_of l j s n).line k ≡ cond (names l.count j k) (keyed_by s n (head_at l k)) (head_at l k)
  unfolding keyed_by
  keys_at j k s n =
      rw (keys_line l j s n)
      (named_at false j k (λ h. (head.keys_of h s n).head) (λ h. cond (leb s 7 && room n) (keyed_of h s).head h) (λ h. lent_keys_head h s n))

  -- a byte, a tick and a rack reach the heads that there are
  pub after_at : (c : Call) (k : ℕ) → k < grown c l.count (serials_at l)
      → head_at (after product.on_line_of c l) k ≡ head_by c l.count (serials_at l) k (head_at l k)
  unfolding after grown head_by
  after_at (new_head node serial) k lt = grow_at node serial k
  after_at (byte b t s) k lt = byte_at b t s k lt
  after_at (tick t) k lt = tick_alone l f e k lt t
  after_at (named j a) k lt = ask_at a j k
  after_at (keys j s n) k lt = keys_at j k s n
  after_at (dropped t) k lt = rw (none_line l t, f) (dropped_at l t f e k lt)
