-- A line that is grown by the rows of an accepted form: the account has a head for each row, with the row's number in force and in 00h and the row's
-- serial, and no call that leaves 00h alone changes either; a restart takes into force what was in force before. The rest is demands 1 and 3.
-- Assumes nothing.
use Prim.Native.Nat.{ℕ, zero, suc, ◌+◌, ◌<◌, ◌≤◌}
use mathlib.Core.Path.{◌≡◌, refl, sym, ◌∙◌, ap, subst}
use mathlib.Core.Bool.{Bool, true, false, cond, ◌&&◌, true≢false}
use mathlib.Core.Logic.{◌≢◌}
use mathlib.Core.List.{List, [], ◌∷◌, ◌++◌, map, append-nil, append_assoc}
use mathlib.Core.Option.{Option, none, some}
use native.Mathlib.Omega.{arith}
use borrow.Author.Tests.{lt-ltb, le-leb, lt-leb, eq-eqb, ne_eqb}
use lib.Dec.{eqb}
use lib.ListN.{length, get_or, take, length-map, get_or-map}
use lib.Seq.{length-take-le, get_or-take}
use Rattle.rows.specs.Among.{among}
use Rattle.head.specs.Calls.{factory_of}
use Rattle.line.specs.Calls.{serials_at}
use Rattle.rows.proofs.Listed.{among_at, among_none}
use Rattle.line.proofs.Apart.{among_last, unused}
use Rattle.order_form.specs.declared.row.Row.{Row}
use Rattle.order_form.specs.declared.row.Column.{Column}
use Rattle.order_form.specs.declared.row.Column.TheVariants.{Serial, Number}
use Rattle.order_form.specs.Demand.{of, at, NoRepeat, IsNode, AllNodes}
use Rattle.order_form.specs.Held.{no_row}
use Rattle.order_form.specs.Check.{answer_of}
use Rattle.order_form.proofs.Demands.{demanded}
use Rattle.order_form.proofs.Only.{neither}
use Rattle.demands.specs.Calls.{Call, new_head, byte, tick, named, keys, dropped, Calls, start, ◌▸◌}
use Rattle.demands.specs.Past.{Ear, Entry, Change, nothing, making, delivered, may_add_of, grown, marked, change, look, next, account, count, serials, entry, value, in_force}
use Rattle.demands.specs.Run.{System, product, machine_of, runs}
use Rattle.demands.specs.Demand1.{refused_as, Demand1}
use Rattle.demands.specs.Demand3.{touch, Differ, Demand3}
use Rattle.demands.specs.Ordered.{growing, grown_by, ◌then◌, Unnumbered, FormsAreSafe, Rests}
use Rattle.demands.proofs.Refusals.{demand1}
use Rattle.demands.proofs.Proved.{proved}

-- head k has the number n in force and in 00h
abbrev Has : Calls → ℕ → ℕ → Type 0
Has cs k n = (in_force cs k ≡ n) × (value cs k 0 ≡ n)

-- ---- what leaves 00h alone leaves both
look_none : {A : Type 0} (o : Option A) (v : A) → o ≡ none → look o v ≡ v
unfolding look
look_none none v e = refl
look_none (some w) v e = cc

keeps : (g : Change) (ear : Ear) (e : Entry) (n : ℕ) → g.gives 0 ≡ none → (e.number ≡ n) × (e.value 0 ≡ n)
    → ((next g ear e).number ≡ n) × ((next g ear e).value 0 ≡ n)
unfolding next
keeps g ear e n q h =
    let v : look (g.gives 0) (e.value 0) ≡ n = look_none (g.gives 0) (e.value 0) q ∙ h.1 in
    (elim g.restarts as (λ x. cond x (look (g.gives 0) (e.value 0)) e.number ≡ n) [ true ↦ v | false ↦ h.0 ], v)

kept : (cs : Calls) (c : Call) (k n : ℕ) → touch cs c k 0 ≡ none → Has cs k n → Has (cs ▸ c) k n
unfolding account
kept cs c k n q h = keeps (change c (count cs) (serials cs) k (entry cs k)) _ (entry cs k) n q h

-- ---- no head is added by a call that gives none its number
some_none : {A : Type 0} {v : A} → some v ≡ none → ⊥
some_none e = true≢false (cc e)

no_more : (cs : Calls) (c : Call) → ((k : ℕ) → k < count (cs ▸ c) → touch cs c k 0 ≡ none) → count (cs ▸ c) ≡ count cs
unfolding account grown change
no_more cs (new_head node serial) q = go (may_add_of (count cs) (serials cs) node serial) (eqb (count cs) (count cs)) (eq-eqb (count cs) (count cs) refl) (q (count cs))
  where
    go : (b d : Bool) → d ≡ true → (count cs < cond b (suc (count cs)) (count cs) → (cond (b && d) (making node) nothing).gives 0 ≡ none)
        → cond b (suc (count cs)) (count cs) ≡ count cs
    go true true p e = absurd (some_none (e (omega arith)))
    go true false p e = absurd (true≢false (sym p))
    go false d p e = refl
no_more cs (byte b t s) q = refl
no_more cs (tick t) q = refl
no_more cs (named j a) q = refl
no_more cs (keys j s n) q = refl
no_more cs (dropped t) q = refl

-- the calls after those that numbered the heads
record Stays (cs ds : Calls) : Type 0 where
  as_many : count (cs then ds) ≡ count cs
  numbers : (k n : ℕ) → k < count cs → Has cs k n → Has (cs then ds) k n

stays : (cs ds : Calls) → Unnumbered cs ds → Stays cs ds
stays cs start q = record { as_many = refl; numbers = λ k n l h. h }
stays cs (ds ▸ d) q =
    let s = stays cs ds q.0 in
    let m = no_more (cs then ds) d q.1 ∙ s.as_many in
    record { as_many = m; numbers = λ k n l h. kept (cs then ds) d k n (q.1 k (rw m l)) (s.numbers k n l h) }

-- ---- a line is grown by a row, and by all of them
module _ (cs : Calls) (node serial : ℕ) (may : may_add_of (count cs) (serials cs) node serial ≡ true) where
  one_more : count (cs ▸ new_head node serial) ≡ suc (count cs)
  unfolding account grown
  one_more = rw may

  mark : serials (cs ▸ new_head node serial) ≡ serials cs ++ (serial ∷ [])
  unfolding account marked
  mark = rw may

  made : Has (cs ▸ new_head node serial) (count cs) node
  unfolding account change next look delivered
  made = rw (may, eq-eqb (count cs) (count cs) refl) (refl, refl)

  others : (k n : ℕ) → k < count cs → Has cs k n → Has (cs ▸ new_head node serial) k n
  unfolding change
  others k n l h = kept cs (new_head node serial) k n (go (may_add_of (count cs) (serials cs) node serial) (eqb k (count cs)) (ne_eqb k (count cs) (λ e. omega arith))) h
    where
      go : (b d : Bool) → d ≡ false → (cond (b && d) (making node) nothing).gives 0 ≡ none
      go true true p = absurd (true≢false p)
      go true false p = refl
      go false d p = refl

record Grown (cs : Calls) (rows : List Row) : Type 0 where
  many : count (growing cs rows) ≡ count cs + length rows
  new : (i : ℕ) → i < length rows → Has (growing cs rows) (count cs + i) (at Number rows i)
  old : (k n : ℕ) → k < count cs → Has cs k n → Has (growing cs rows) k n
  marks : serials (growing cs rows) ≡ serials cs ++ map (of Serial) rows

may_add : (n : ℕ) (ss : List ℕ) (node serial : ℕ) → n < 32 → IsNode node → among ss serial ≡ false → may_add_of n ss node serial ≡ true
unfolding may_add_of
may_add n ss node serial h k a = rw (lt-ltb n 32 h, le-leb 1 node k.0, le-leb node 127 k.1, a)

-- no row has one of these serials, and no two rows share one
record Fresh (ss : List ℕ) (rows : List Row) : Type 0 where
  free : (i : ℕ) → i < length rows → among ss (at Serial rows i) ≡ false
  apart : (i j : ℕ) → i < j → j < length rows → at Serial rows i ≢ at Serial rows j

fresh_on : (ss : List ℕ) (r : Row) (rows : List Row) → Fresh ss (r ∷ rows) → Fresh (ss ++ (r.serial ∷ [])) rows
fresh_on ss r rows f =
    record {
      free = λ i h. among_last ss r.serial (at Serial rows i)
          ∙ rw (f.free (suc i) (omega arith), ne_eqb (at Serial rows i) r.serial (λ e. f.apart 0 (suc i) (omega arith) (omega arith) (sym e)));
      apart = λ i j l h. f.apart (suc i) (suc j) (omega arith) (omega arith);
    }

all_grown : (cs : Calls) (rows : List Row) → count cs + length rows ≤ 32 → AllNodes rows → Fresh (serials cs) rows → Grown cs rows
all_grown cs [] room all f =
    record { many = omega arith; new = λ i h. absurd (omega arith); old = λ k n l h. h; marks = sym (append-nil (serials cs)) }
all_grown cs (r ∷ rows) room all f =
    let may = may_add (count cs) (serials cs) r.node r.serial (omega arith) (all 0 (omega arith)) (f.free 0 (omega arith)) in
    let m = one_more cs r.node r.serial may in
    let k = mark cs r.node r.serial may in
    let g = all_grown (cs ▸ new_head r.node r.serial) rows (omega (arith, m)) (λ i h. all (suc i) (omega arith)) (rw k (fresh_on (serials cs) r rows f)) in
    record {
      many = g.many ∙ omega (arith, m);
      new = λ i h. go g m may i h;
      old = λ k n l h. g.old k n (omega (arith, m)) (others cs r.node r.serial may k n l h);
      marks = g.marks ∙ rw k (append_assoc (serials cs) (r.serial ∷ []) (map (of Serial) rows));
    }
  where
    go : Grown (cs ▸ new_head r.node r.serial) rows → count (cs ▸ new_head r.node r.serial) ≡ suc (count cs)
        → may_add_of (count cs) (serials cs) r.node r.serial ≡ true
        → (i : ℕ) → i < suc (length rows) → Has (growing (cs ▸ new_head r.node r.serial) rows) (count cs + i) (at Number (r ∷ rows) i)
    go g m may zero h =
        let e : count cs + 0 ≡ count cs = omega arith in
        rw e (g.old (count cs) r.node (omega (arith, m)) (made cs r.node r.serial may))
    go g m may (suc i) h =
        let e : count cs + suc i ≡ count (cs ▸ new_head r.node r.serial) + i = omega (arith, m) in
        rw e (g.new i (omega arith))

-- what stands in a column of the rows
column : (c : Column) (rows : List Row) (i : ℕ) → get_or (map (of c) rows) i 0 ≡ at c rows i
column Serial rows i = get_or-map (of Serial) rows i no_row
column Number rows i = get_or-map (of Number) rows i no_row

-- ---- the form
module _ (rows : List Row) (few : length rows ≤ 32) (all : AllNodes rows) (apart : NoRepeat rows) where
  grown_all : Grown start rows
  unfolding account
  grown_all = all_grown start rows (omega arith) all (record { free = λ i h. refl; apart = apart Serial })

  heads : count (grown_by rows) ≡ length rows
  unfolding account
  heads = grown_all.many ∙ omega arith

  marks : (i : ℕ) → get_or (serials (grown_by rows)) i 0 ≡ at Serial rows i
  unfolding account
  marks i = ap (λ xs. get_or xs i 0) grown_all.marks ∙ column Serial rows i

  numbered : (i : ℕ) → i < length rows → Has (grown_by rows) i (at Number rows i)
  unfolding account
  numbered i h = let e : i ≡ 0 + i = omega arith in subst (λ (k : ℕ). Has (grown_by rows) k (at Number rows i)) (sym e) (grown_all.new i h)

  -- the first rows of the form are such rows too, and none of them has the serial of the next
  module _ (i : ℕ) (h : i < length rows) where
    size : length (take i rows) ≡ i
    size = length-take-le i rows (omega arith)

    among_first : (k : ℕ) → k < i → get_or (take i rows) k no_row ≡ get_or rows k no_row
    among_first k l = get_or-take i rows k no_row l

    part : Grown start (take i rows)
    unfolding account
    part =
        all_grown start (take i rows) (omega (arith, size)) (λ k l. rw (among_first k (omega (arith, size, l))) (all k (omega (arith, size, l))))
        (record {
          free = λ k l. refl;
          apart = λ j k l m. rw (among_first j (omega (arith, size, l, m)), among_first k (omega (arith, size, m))) (apart Serial j k l (omega (arith, size, m)));
        })

    part_count : count (grown_by (take i rows)) ≡ i
    unfolding account
    part_count = part.many ∙ omega (arith, size)

    part_free : among (serials (grown_by (take i rows))) (at Serial rows i) ≡ false
    unfolding account
    part_free =
        rw part.marks
        (among_none (map (of Serial) (take i rows)) (at Serial rows i)
        (λ k l e. let b : k < i = omega (arith, size, length-map (take i rows) (of Serial), l) in
        apart Serial k i b h (sym (column Serial (take i rows) k ∙ ap (of Serial) (among_first k b)) ∙ e)))

  differ : (cs : Calls) → Unnumbered (grown_by rows) cs → Differ (grown_by rows then cs)
  differ cs q = record { differ = λ i j hi hj ne e. go i j (lt i hi) (lt j hj) ne (rw (force i (lt i hi), force j (lt j hj)) at e) }
    where
      s : Stays (grown_by rows) cs
      s = stays (grown_by rows) cs q

      lt : (i : ℕ) → i < count (grown_by rows then cs) → i < length rows
      lt i h = rw (s.as_many, heads) at h

      force : (i : ℕ) → i < length rows → in_force (grown_by rows then cs) i ≡ at Number rows i
      force i h = (s.numbers i (at Number rows i) (rw heads h) (numbered i h)).0

      go : (i j : ℕ) → i < length rows → j < length rows → i ≢ j → at Number rows i ≡ at Number rows j → ⊥
      go i j hi hj ne e = ne (neither i j (λ l. apart Number i j l hj e) (λ l. apart Number j i l hi (sym e)))

-- ---- by what is promised
module _ (m : System) (one : Demand1 m) (three : Demand3 (machine_of m)) where
  -- a serial number that is not in the account is on no head of the line
  off_line : (cs : Calls) (serial : ℕ) → among (serials cs) serial ≡ false → among (serials_at (runs (machine_of m) cs)) serial ≡ false
  off_line cs serial a =
      let l = runs (machine_of m) cs in
      let t = three.serial cs in
      unused (factory_of 0) serial l.count l.heads
      (λ k p e. let q : k < count cs = rw (three.thirty_two cs).0 at p in
      true≢false (sym (among_at (serials cs) k (rw t.0 q)) ∙ rw (sym (t.1 k q) ∙ e) a))

  -- with fewer than 32 heads a head with a node number and a new serial number is not refused
  not_refused : (cs : Calls) (node serial : ℕ) → count cs < 32 → IsNode node → among (serials cs) serial ≡ false
      → refused_as m.on_line_of (new_head node serial) (runs (machine_of m) cs) ≡ none
  not_refused cs node serial h n a =
      let t = three.thirty_two cs in
      one.line_number (new_head node serial) (runs (machine_of m) cs)
      ∙ rw (off_line cs serial a, t.2, t.0, lt-leb 32 (count cs) h, le-leb 1 node n.0, le-leb node 127 n.1)

pub rests : Rests
rests m check asked one three rows said few =
    let all = (asked.accepted rows said).1 in
    let apart = (asked.accepted rows said).2 in
    let d = differ rows few all apart in
    let many = heads rows few all apart in
    record {
      grows = λ i h. not_refused m one three (grown_by (take i rows)) (at Number rows i) (at Serial rows i)
          (omega (arith, part_count rows few all apart i h)) (all i h) (part_free rows few all apart i h);
      heads = many;
      in_force_lem = λ i h. three.in_force_lem (grown_by rows) i (rw many h) ∙ (numbered rows few all apart i h).0;
      serial = λ i h. (three.serial (grown_by rows)).1 i (rw many h) ∙ marks rows few all apart i;
      differ = d;
      one_reply = λ cs b t s n q e. three.one_reply (grown_by rows then cs) b t s n (d cs q) e;
      one_change = λ cs b t s q nb i j hi hj ne.
          let l = (stays (grown_by rows) cs q).as_many ∙ many in
          three.one_change (grown_by rows then cs) b t s (d cs q) nb i j (rw l hi) (rw l hj) ne;
    }

-- the check and the calls that there are
pub safe : FormsAreSafe product answer_of
safe = rests product answer_of demanded demand1 proved
