-- Demand 1, proved: the refusals are those of the table, in its order, and a refused call changes nothing.
-- Assumes nothing.
use Rattle.std.specs.Prelude.{Ok, Err, Result, ⊤}
use Prim.Native.Nat.{ℕ, ◌-◌, ◌%◌}
use native.Mathlib.Omega.{arith}
use mathlib.Core.Path.{◌≡◌, refl, ◌∙◌, ap}
use mathlib.Core.Bool.{Bool, true, false, cond, not, ◌&&◌, ◌||◌}
use mathlib.Core.List.{List, [], ◌∷◌, map}
use mathlib.Core.Option.{Option, none, some}
use borrow.Author.Tests.{ltb-true, leb-true, leb-false, lt-ltb, le-ltb}
use lib.Dec.{leb, ltb, eqb}
use lib.ListN.{length}
use Rattle.rows.specs.Table.{rows}
use Rattle.rows.specs.Among.{among}
use Rattle.judge.proofs.Offers.{flip}
use Rattle.state.specs.declared.parts.Head.{Head}
use Rattle.state.specs.Wellformed.{in_reach_of, wellformed_of}
use Rattle.state.specs.Older.{passes_of}
use Rattle.effects.specs.Stored.{restarted_stored}
use Rattle.effects.specs.Restart.{delivered_of, restarted_of, fresh_of}
use Rattle.head.specs.declared.refusal.Refusal.{Refusal}
use Rattle.head.specs.declared.refusal.Refusal.TheVariants.{Node, Malformed}
use Rattle.head.specs.declared.calls.Called as head-Called
use Rattle.head.specs.declared.hear.Stepped.{Stepped}
use Rattle.head.specs.Hear.{step_of}
use Rattle.head.specs.Moves.{keyed_of}
use Rattle.head.specs.Refusals.{refusal_of}
use Rattle.head.specs.Calls as head
use Rattle.head.specs.Calls.{Tests, node_fits, factory_of, made_of}
use Rattle.head.specs.Outcome as alone
use Rattle.head.proofs.Nodes.{node_same}
use Rattle.head.proofs.Tests.{failed, says}
use Rattle.head.proofs.Asked.{called_same, called_refusal, lent_refusal}
use Rattle.head.proofs.Refused.{refused_nothing}
use Rattle.line.specs.declared.calls.Line.{Line}
use Rattle.line.specs.declared.calls.Called.{Called}
use Rattle.line.specs.Calls.{serials_at, fits_by, fits_of, head_at, grow_of, byte_of, byte_space_of, tick_of, named_tests, named_of, keys_of, keys_space_of, last_hit_of, save_of, save_space_of, serial_number_of}
use Rattle.line.proofs.Theorems.{grow_refused, tick_refused, named_refused, keys_refused, keys_spared, byte_refused, pass_at, well_at}
use Rattle.rack.specs.Rack.{is_rack, room_for, dropped_of, Fed, fed_of, filled, refused_with, racked, rack_tests, rack_of, rack_space_of}
use Rattle.demands.specs.Calls.{Ask, Call, new_head, byte, tick, named, keys, dropped}
use Rattle.demands.specs.Run.{product, alone_of, after}
use Rattle.demands.specs.Demand1.{Row, row, first, own_rows, keys_rows, save_rows, node_row, named_rows, head_rows, rack_rows, rows_for, rows_alone, of_answer, of_heard, of_hit, of_serial, of_rack, refused_as, refused_alone, head_after, lent_by, space_after, Numbered, Demand1}
use Rattle.demands.proofs.Named.{brings, ask_is, takes_head_lem, takes_line_lem}
use Rattle.demands.proofs.Loading.{all_known_is, all_fitting_is}
use Rattle.demands.proofs.Twenty.{twenty}

-- ---- a test and its opposite
twice : (b : Bool) → not (not b) ≡ b
twice true = refl
twice false = refl

over : (a b : ℕ) → ltb b a ≡ not (leb a b)
over a b = go (leb a b) refl
  where
    go : (t : Bool) → leb a b ≡ t → ltb b a ≡ not t
    go true e = le-ltb b a (leb-true a b e)
    go false e = lt-ltb b a (leb-false a b e)

neither : (a b : Bool) → not (a && b) ≡ (not a || not b)
neither true b = refl
neither false b = refl

-- ---- tests in their order are rows of the table, in theirs
abbrev as_row : Bool × Refusal → Row
as_row t = row (refusal_of t.1) (not t.0)

abbrev numbered : Option Refusal → Option ℕ
numbered none = none
numbered (some why) = some (refusal_of why)

answer_number : (a : Result ⊤ Refusal) → of_answer a ≡ numbered (alone.of_answer a)
answer_number (Ok tt) = refl
answer_number (Err why) = refl

heard_number : (x : Result ℕ Refusal) → of_heard x ≡ numbered (alone.of_heard x)
heard_number (Ok n) = refl
heard_number (Err why) = refl

failed_first : (ts : Tests) → numbered (failed ts) ≡ first (map as_row ts)
failed_first [] = refl
failed_first ((true, why) ∷ ts) = failed_first ts
failed_first ((false, why) ∷ ts) = refl

own_rows_lem : (a : alone.Ask) → map as_row (alone.own a) ≡ own_rows a
unfolding alone.own in_reach_of
own_rows_lem (alone.tick t) = refl
own_rows_lem (alone.measure m) = refl
own_rows_lem alone.power = refl
own_rows_lem (alone.load s) = rw (all_known_is s, all_fitting_is s)
own_rows_lem alone.bring = refl

-- ---- the number of each refusal
module _ (h : Head) where
  -- a call that lends space: its tests are rows, and 6 is the last of them
  lent_rows : (s : Stepped) (own : Tests) (n : ℕ) → of_heard (head.lent_of h own n s).heard ≡ first (map as_row (head.lent_tests h own n))
  lent_rows s own n = heard_number (head.lent_of h own n s).heard ∙ ap numbered (lent_refusal h s (head.lent_tests h own n)) ∙ failed_first (head.lent_tests h own n)

  head_keys : (s n : ℕ) → of_heard (head.keys_of h s n).heard ≡ first (head_rows h (keys_rows s n))
  unfolding head.keys_of
  head_keys s n = lent_rows (keyed_of h s) (head.keys_tests s) n ∙ rw (over s 7, twice (ltb n 10))

  head_number : (c : alone.Call) → refused_alone product.on_head c h ≡ first (rows_alone c h)
  unfolding head.byte_of
  head_number (alone.byte b t space) = lent_rows (step_of h b t) [] (length space) ∙ rw (twice (ltb (length space) 10))
  head_number (alone.keys s space) = head_keys s (length space)
  head_number (alone.asked a) =
      answer_number (alone.called a h).answer ∙ ap numbered (called_refusal a h) ∙ failed_first ((passes_of (alone.brings a) h, Malformed) ∷ alone.own a) ∙ rw (own_rows_lem a, takes_head_lem a h)

  head_hit : (w : Bool) → wellformed_of h ≡ w → of_hit (head.last_hit_of h) ≡ first (head_rows h [])
  unfolding head.last_hit_of
  head_hit true p = simp p
  head_hit false p = simp p

  head_serial : (w : Bool) → wellformed_of h ≡ w → of_serial (head.serial_number_of h) ≡ first (head_rows h [])
  unfolding head.serial_number_of
  head_serial true p = simp p
  head_serial false p = simp p

  head_save : (n : ℕ) → of_answer (head.save_of h n) ≡ first (head_rows h (save_rows n))
  unfolding head.save_of
  head_save n =
      answer_number (head.save_of h n) ∙ ap numbered (says alone.of_answer Err (Ok tt) (head.save_tests h n) (λ why. refl) refl)
      ∙ failed_first (head.save_tests h n) ∙ rw (twice (ltb n 274))

module _ (l : Line) where
  grow_number : (node serial : ℕ) (f c n s : Bool) → fits_of l ≡ f → ltb l.count 32 ≡ c → (leb 1 node && leb node 127) ≡ n → among (serials_at l) serial ≡ s
      → refused_as product.on_line_of (new_head node serial) l ≡ first (rows_for (new_head node serial) l)
  unfolding grow_of
  grow_number node serial false c n s p q r t = simp p
  grow_number node serial true false n s p q r t = simp (p, flip l.count 32, q)
  grow_number node serial true true false s p q r t = simp (p, flip l.count 32, q, node_same node, r)
  grow_number node serial true true true false p q r t = simp (p, flip l.count 32, q, node_same node, r, t)
  grow_number node serial true true true true p q r t = simp (p, flip l.count 32, q, node_same node, r, t)

  byte_number : (b t s : ℕ) (f r : Bool) → fits_of l ≡ f → ltb s 10 ≡ r
      → refused_as product.on_line_of (byte b t s) l ≡ first (rows_for (byte b t s) l)
  unfolding byte_of
  byte_number b t s false r p q = simp p
  byte_number b t s true false p q = simp (p, q)
  byte_number b t s true true p q = simp (p, q)

  tick_number : (t : ℕ) (f : Bool) → fits_of l ≡ f → refused_as product.on_line_of (tick t) l ≡ first (rows_for (tick t) l)
  unfolding tick_of
  tick_number t false p = simp p
  tick_number t true p = simp p

  -- a call that names a head: 20, 3, then what the head alone says, which is no 20 where the line fits
  named_number : (j : ℕ) (a : Ask) (f i : Bool) → fits_by (brings a) l ≡ f → ltb j l.count ≡ i
      → of_answer (named_of (brings a) l j (alone.called (alone_of a) (head_at l j))).answer ≡ first (rows_for (named j a) l)
  unfolding named_of
  named_number j a false i p q = simp (takes_line_lem a l, p)
  named_number j a true false p q = simp (takes_line_lem a l, p, flip j l.count, q)
  named_number j a true true p q =
      let w = takes_head_lem (alone_of a) (head_at l j) ∙ pass_at (brings a) l p j (ltb-true _ _ q) in
      simp (takes_line_lem a l, p, flip j l.count, q) (simp w at (head_number (head_at l j) (alone.asked (alone_of a))))

  keys_number : (j s n : ℕ) (f i : Bool) → fits_of l ≡ f → ltb j l.count ≡ i → of_heard (keys_of l j s n).heard ≡ first (rows_for (keys j s n) l)
  unfolding keys_of
  keys_number j s n false i p q = simp p
  keys_number j s n true false p q = simp (p, flip j l.count, q)
  keys_number j s n true true p q =
      let w = well_at l p j (ltb-true _ _ q) in simp (p, flip j l.count, q) (simp w at (head_keys (head_at l j) s n))

  line_hit : (j : ℕ) (f i : Bool) → fits_of l ≡ f → ltb j l.count ≡ i → of_hit (last_hit_of l j) ≡ first (named_rows l j [])
  unfolding last_hit_of
  line_hit j false i p q = simp p
  line_hit j true false p q = simp (p, flip j l.count, q)
  line_hit j true true p q =
      let w = well_at l p j (ltb-true _ _ q) in simp (p, flip j l.count, q) (simp w at (head_hit (head_at l j) true w))

  line_serial : (j : ℕ) (f i : Bool) → fits_of l ≡ f → ltb j l.count ≡ i → of_serial (serial_number_of l j) ≡ first (named_rows l j [])
  unfolding serial_number_of
  line_serial j false i p q = simp p
  line_serial j true false p q = simp (p, flip j l.count, q)
  line_serial j true true p q =
      let w = well_at l p j (ltb-true _ _ q) in simp (p, flip j l.count, q) (simp w at (head_serial (head_at l j) true w))

  line_save : (j n : ℕ) (f i : Bool) → fits_of l ≡ f → ltb j l.count ≡ i → of_answer (save_of l j n) ≡ first (named_rows l j (save_rows n))
  unfolding save_of
  line_save j n false i p q = simp p
  line_save j n true false p q = simp (p, flip j l.count, q)
  line_save j n true true p q =
      let w = well_at l p j (ltb-true _ _ q) in simp (p, flip j l.count, q) (simp w at (head_save (head_at l j) n))

  -- a rack: 20, 15, 16
  rack_first : (f : Fed) (ts : Tests) → of_rack (head.guarded (refused_with l) ts (racked f)).answer ≡ first (map as_row ts)
  rack_first f [] = refl
  rack_first f ((true, why) ∷ ts) = rack_first f ts
  rack_first f ((false, why) ∷ ts) = refl

  rack_number : (bs : List ℕ) (t n p : ℕ) → of_rack (rack_of l bs t n p).answer ≡ first (rack_rows l (length bs) n p)
  unfolding rack_of is_rack room_for
  rack_number bs t n p =
      rack_first (fed_of (dropped_of l t) bs t) (rack_tests l (length bs) n p)
      ∙ rw (neither (eqb (length bs % 10) 0) (leb (length bs) 640), neither (leb p n) (leb (length bs) (n - p)), over (length bs) 640, over p n, over (length bs) (n - p))

  line_number : (c : Call) → refused_as product.on_line_of c l ≡ first (rows_for c l)
  line_number (new_head node serial) = grow_number node serial (fits_of l) (ltb l.count 32) (leb 1 node && leb node 127) (among (serials_at l) serial) refl refl refl refl
  line_number (byte b t s) = byte_number b t s (fits_of l) (ltb s 10) refl refl
  line_number (tick t) = tick_number t (fits_of l) refl
  line_number (named j a) = rw (ask_is a l j) (named_number j a (fits_by (brings a) l) (ltb j l.count) refl refl)
  line_number (keys j s n) = keys_number j s n (fits_of l) (ltb j l.count) refl refl
  line_number (dropped t) = rack_number [] t 0 0

made_number : (node serial : ℕ) (t : Bool) → (leb 1 node && leb node 127) ≡ t
    → of_answer (made_of node serial).answer ≡ first (node_row node ∷ [])
unfolding made_of
made_number node serial true e = simp (node_same node, e)
made_number node serial false e = simp (node_same node, e)

-- ---- the head that making hands back
fresh_numbered : (node serial : ℕ) → Numbered (fresh_of node serial) node
unfolding fresh_of restarted_of restarted_stored delivered_of rows
fresh_numbered node serial = (refl, refl)

made_serial : (node serial : ℕ) → (made_of node serial).head.stored.serial ≡ serial
unfolding made_of factory_of fresh_of restarted_of restarted_stored
made_serial node serial =
    elim (node_fits node) as (λ b. (cond {A = head-Called.Called} b (head.done_with (fresh_of node serial)) (head.refused_with (fresh_of 31 serial) Node)).head.stored.serial ≡ serial)
    [ true ↦ refl | false ↦ refl ]

made_head : (node serial : ℕ) (t : Bool) → node_fits node ≡ t → of_answer (made_of node serial).answer ≡ none → Numbered (made_of node serial).head node
unfolding made_of
made_head node serial true e d = rw e (fresh_numbered node serial)
made_head node serial false e d = absurd (let k : some 1 ≡ none = rw e at d in let z : ◌≡◌ {A = ℕ} 0 1 = cc in omega arith)

made_factory : (node serial n : ℕ) (t : Bool) → node_fits node ≡ t → of_answer (made_of node serial).answer ≡ some n
    → ((made_of node serial).head ≡ factory_of serial) × (factory_of serial ≡ (made_of 31 serial).head) × Numbered (factory_of serial) 31
unfolding made_of factory_of
made_factory node serial n true e d = absurd (let k : none ≡ some n = rw e at d in let z : ◌≡◌ {A = ℕ} 0 1 = cc in omega arith)
made_factory node serial n false e d = (rw e, rw (node_same 31), fresh_numbered 31 serial)

-- ---- a refused call changes nothing
answered : (a : Result ⊤ Refusal) {n : ℕ} → of_answer a ≡ some n → (why : Refusal) × (a ≡ Err why)
answered (Ok tt) e = absurd (let z : ◌≡◌ {A = ℕ} 0 1 = cc in omega arith)
answered (Err why) e = (why, refl)

heard_as : (x : Result ℕ Refusal) {n : ℕ} → of_heard x ≡ some n → (why : Refusal) × (x ≡ Err why)
heard_as (Ok k) e = absurd (let z : ◌≡◌ {A = ℕ} 0 1 = cc in omega arith)
heard_as (Err why) e = (why, refl)

byte_same : (l : Line) (b t s : ℕ) (f r : Bool) (n : ℕ) → fits_of l ≡ f → ltb s 10 ≡ r
    → refused_as product.on_line_of (byte b t s) l ≡ some n → (byte_of l b t s).line ≡ l
unfolding byte_of
byte_same l b t s false r n p q e = simp p
byte_same l b t s true true n p q e = simp (p, q)
byte_same l b t s true false n p q e = let k : none ≡ some n = simp (p, q) at e in absurd (let z : ◌≡◌ {A = ℕ} 0 1 = cc in omega arith)

keys_same : (l : Line) (j s : ℕ) (space : List ℕ) (n : ℕ) → refused_as product.on_line_of (keys j s (length space)) l ≡ some n → keys_space_of l j s space ≡ space
keys_same l j s space n e = let w = heard_as (keys_of l j s (length space)).heard e in keys_spared l j s space w.0 w.1

rack_same : (l : Line) (bs : List ℕ) (t : ℕ) (space : List ℕ) (p n : ℕ) → of_rack (rack_of l bs t (length space) p).answer ≡ some n
    → ((rack_of l bs t (length space) p).line ≡ l) × (rack_space_of l bs t space p ≡ space)
unfolding rack_of rack_space_of
rack_same l bs t space p n = go (rack_tests l (length bs) (length space) p)
  where
    f : Fed
    f = fed_of (dropped_of l t) bs t

    go : (ts : Tests) → of_rack (head.guarded (refused_with l) ts (racked f)).answer ≡ some n
        → ((head.guarded (refused_with l) ts (racked f)).line ≡ l) × (head.guarded (λ why. space) ts (filled f.laid p space) ≡ space)
    go [] e = absurd (let z : ◌≡◌ {A = ℕ} 0 1 = cc in omega arith)
    go ((true, why) ∷ ts) e = go ts e
    go ((false, why) ∷ ts) e = (refl, refl)

line_same : (c : Call) (l : Line) (n : ℕ) → refused_as product.on_line_of c l ≡ some n → after product.on_line_of c l ≡ l
unfolding after
line_same (new_head node serial) l n e = let w = answered (grow_of l node serial).answer e in grow_refused l node serial w.0 w.1
line_same (byte b t s) l n e = byte_same l b t s (fits_of l) (ltb s 10) n refl refl e
line_same (tick t) l n e = let w = answered (tick_of l t).answer e in tick_refused l t w.0 w.1
line_same (named j a) l n e =
    let c = alone.called (alone_of a) (head_at l j) in
    let b = brings a in
    let w = answered (named_of b l j c).answer (rw (ask_is a l j) at e) in
    ap (λ (x : Called). x.line) (ask_is a l j) ∙ (named_refused l b j c (called_same (alone_of a) (head_at l j)) w.0 w.1)
line_same (keys j s n) l m e = let w = heard_as (keys_of l j s n).heard e in keys_refused l j s n w.0 w.1
line_same (dropped t) l m e = (rack_same l [] t [] 0 m e).0

space_same : (l : Line) (b t : ℕ) (space : List ℕ) (n : ℕ) → refused_as product.on_line_of (byte b t (length space)) l ≡ some n → byte_space_of l b t space ≡ space
space_same l b t space n e =
    let w = heard_as (byte_of l b t (length space)).heard e in (byte_refused l b t space w.0 w.1).1

head_same : (c : alone.Call) (h : Head) (n : ℕ) → refused_alone product.on_head c h ≡ some n
    → (head_after product.on_head c h ≡ h) × (space_after product.on_head c h ≡ lent_by c)
head_same (alone.byte b t space) h n e =
    let w = heard_as (head.byte_of h b t (length space)).heard e in
    let u = refused_nothing (alone.byte b t space) h (ap alone.of_heard w.1) in (u.head, u.space)
head_same (alone.keys s space) h n e =
    let w = heard_as (head.keys_of h s (length space)).heard e in
    let u = refused_nothing (alone.keys s space) h (ap alone.of_heard w.1) in (u.head, u.space)
head_same (alone.asked a) h n e = let w = answered (alone.called a h).answer e in (called_same a h w.0 w.1, refl)

-- a sheet that is not written changes no byte of the space
spared : (ts : Tests) (a : Result ⊤ Refusal) (x y : List ℕ) {n : ℕ} → (of_answer a ≡ some n → x ≡ y)
    → of_answer (head.guarded Err ts a) ≡ some n → head.guarded (λ why. y) ts x ≡ y
spared [] a x y s e = s e
spared ((true, why) ∷ ts) a x y s e = spared ts a x y s e
spared ((false, why) ∷ ts) a x y s e = refl

saved_same : (h : Head) (space : List ℕ) (n : ℕ) → of_answer (head.save_of h (length space)) ≡ some n → head.save_space_of h space ≡ space
unfolding head.save_of head.save_space_of
saved_same h space n e =
    spared (head.save_tests h (length space)) (Ok tt) _ space (λ q. absurd (let z : ◌≡◌ {A = ℕ} 0 1 = cc in omega arith)) e

save_same : (l : Line) (j : ℕ) (space : List ℕ) (n : ℕ) → of_answer (save_of l j (length space)) ≡ some n → save_space_of l j space ≡ space
unfolding save_of save_space_of
save_same l j space n e =
    spared (named_tests l j) (head.save_of (head_at l j) (length space)) (head.save_space_of (head_at l j) space) space (saved_same (head_at l j) space n) e

pub demand1 : Demand1 product
demand1 =
    record {
      line_number = λ c l. line_number l c;
      head_number = λ c h. head_number h c;
      twenty = twenty;
      line_hit = λ l j. line_hit l j (fits_of l) (ltb j l.count) refl refl;
      head_hit = λ h. head_hit h (wellformed_of h) refl;
      line_save = λ l j n. line_save l j n (fits_of l) (ltb j l.count) refl refl;
      head_save = head_save;
      line_rack = λ l bs t n p. rack_number l bs t n p;
      line_serial = λ l j. line_serial l j (fits_of l) (ltb j l.count) refl refl;
      head_serial = λ h. head_serial h (wellformed_of h) refl;
      made_number = λ node serial. made_number node serial (leb 1 node && leb node 127) refl;
      made_head = λ node serial. made_head node serial (node_fits node) refl;
      made_factory = λ node serial n. made_factory node serial n (node_fits node) refl;
      made_serial = made_serial;
      line_same = line_same;
      space_same = space_same;
      keys_same = keys_same;
      save_same = save_same;
      saved_same = saved_same;
      rack_same = rack_same;
      head_same = head_same;
    }
