-- Settings travel on a sheet: what loading does to a head and what is written from one, each by the tests that the call names; and a head is swapped by looking
-- back over the calls.
-- Assumes nothing.
use Rattle.std.specs.Prelude.{Some, None, Option, Ok, Err, Result, ⊤}
use Prim.Native.Nat.{ℕ, zero, suc, ◌+◌, ◌*◌, ◌-◌, ◌/◌, ◌%◌, ◌<◌, ◌≤◌}
use mathlib.Core.Path.{◌≡◌, refl, sym, ◌∙◌, ap}
use mathlib.Core.Bool.{Bool, true, false, cond, ◌&&◌, and-eq-true_iff, false≢true}
use mathlib.Core.Logic.{◌≢◌, ◌↔◌}
use mathlib.Core.List.{List, [], ◌∷◌, ◌++◌}
use native.Mathlib.Omega.{arith}
use borrow.Author.Tests.{le-ltb, lt-ltb, ltb-true, ltb-false, leb-true, le-leb, lt-leb, eqb-true, eqb-false, ne_eqb}
use lib.Dec.{leb, ltb, eqb}
use lib.ListN.{length, take, drop, get_or, get_or-append, get_or-eq_default}
use lib.Seq.{take_at, drop_at, length_front, length-take-le}
use Rattle.rows.specs.declared.table.Row.{Row}
use Rattle.rows.specs.Among.{among}
use Rattle.rows.specs.Table.{rows, row_of, address, place_of, is_at}
use Rattle.rows.specs.Access.{stored}
use Rattle.rows.specs.Ranges.{range_of, is_right, fits_in, all_in, all_right_of}
use Rattle.rows.proofs.Laws.{row_place, place_below, place_address, retired_row}
use Rattle.rows.proofs.Groups.{stored_at}
use Rattle.state.specs.declared.parts.Head.{Head}
use Rattle.state.specs.Mode.{is_display}
use Rattle.effects.specs.Aimed.{stays_of, turned_of}
use Rattle.state.specs.Wellformed.{wellformed_of}
use Rattle.state.proofs.Laws.{told, stored_told}
use Rattle.sheet.specs.declared.refusal.Refusal as sheet
use Rattle.sheet.specs.declared.refusal.Refusal.TheVariants.{Malformed, NotStored, OutOfRow, Short}
use Rattle.sheet.specs.Refusals.{refusal_of}
use Rattle.sheet.specs.Format.{count_of, address_of, value_of, well_formed_of}
use Rattle.sheet.specs.Sheet.{Sheet, four}
use Rattle.sheet.specs.Loading.{meant_of, all_known_of, all_fitting_of, check_of, stored_rows, load_of}
use Rattle.sheet.specs.Spelled.{bodies_of}
use Rattle.sheet.specs.Writing.{whole, sheet_of, write_of, written_on}
use Rattle.sheet.proofs.Each.{each_at, each_all}
use Rattle.sheet.proofs.Sheets.{sheet_told, sheet_holds}
use Rattle.sheet.proofs.Spelled.{spelled_sheet, spelled_addresses, spelled_values, spelled_only}
use Rattle.sheet.proofs.Bytes.{sheet_length, sheet_at}
use Rattle.sheet.proofs.Loads.{stored_row, stored_other, stored_length, loaded_answer}
use Rattle.sheet.proofs.Written.{sheet_formed, sheet_count, sheet_address, sheet_place, written_known, written_fitting, written_stored}
use Rattle.head.specs.declared.refusal.Refusal.TheVariants.{Malformed as NoHead}
use Rattle.head.specs.declared.calls.Called.{Called}
use Rattle.head.specs.Calls as head
use Rattle.head.specs.Outcome as alone
use Rattle.head.proofs.Tests.{either}
use Rattle.head.proofs.Asked.{called_same}
use Rattle.line.specs.Calls.{save_of, save_space_of}
use Rattle.line.proofs.Theorems.{well_at}
use Rattle.demands.specs.Calls as calls
use Rattle.demands.specs.Calls.{Calls, named, load, ◌▸◌}
use Rattle.demands.specs.Past.{meant, all_stored, all_right, loadable, grown, account, count, value, in_force}
use Rattle.demands.specs.Run.{product, ask_of, after, runs, run, head_in}
use Rattle.demands.specs.Lines.{Fits, FitsFor}
use Rattle.demands.specs.Demand1.{first, own_rows, save_rows}
use Rattle.demands.specs.Sheets.{Known, Right, Formed, Loadable, Stored, Loaded, Saved, Typed, Sheets, number_of, of_sheet, Functions}
use Rattle.demands.proofs.Loading.{all_known_is, all_fitting_is}
use Rattle.demands.proofs.Lines.{line_asks, line_saves}
use Rattle.demands.proofs.Sim as sim
use Rattle.demands.proofs.Range.{value_small}
use Rattle.head.specs.declared.refusal.Refusal.{Refusal}

-- ---- what may be loaded: the tests, and the sentences
-- an address that is one of the 39 is that of its row
abbrev Among39 : ℕ → Type 0
Among39 a = (r : ℕ) × (r < 39) × (a ≡ address (row_of r))

among_told : (a : ℕ) → among stored a ≡ true → Among39 a
among_told a h = go (place_of a) refl (sym (stored_at a) ∙ h)
  where
    go : (p : Option ℕ) → place_of a ≡ p → is_at (place_of a) ≡ true → Among39 a
    go (Some r) q k = (r, place_below a q, sym (place_address a q))
    go None q k = absurd (false≢true (rw q at k))

among_holds : (a : ℕ) → Among39 a → among stored a ≡ true
among_holds a k = stored_at a ∙ rw (k.2, row_place k.0 k.1)

-- and a value is right there just where it lies in that row
right_is : (a r v : ℕ) → r < 39 → a ≡ address (row_of r) → is_right (range_of a v) ≡ fits_in (row_of r) v
unfolding range_of fits_in
right_is a r v lt q = rw (q, row_place r lt)

-- of 35h, 0 and 1; any other row writes the value that stands in it
abbrev meant_by : ℕ → ℕ → ℕ
meant_by a v = cond (eqb a 0x35 && eqb v 1) 0 v

right_35 : (v : ℕ) → is_right (range_of 0x35 (meant_by 0x35 v)) ≡ leb v 1
unfolding rows row_of
right_35 v = right_is 0x35 29 (meant_by 0x35 v) (omega arith) refl ∙ retired_row (meant_by 0x35 v) ∙ go v
  where
    go : (v : ℕ) → eqb (meant_by 0x35 v) 0 ≡ leb v 1
    go zero = refl
    go (suc zero) = refl
    go (suc (suc v)) = rw (ne_eqb (suc (suc v)) 1 (λ e. omega arith), ne_eqb (suc (suc v)) 0 (λ e. omega arith), lt-leb (suc (suc v)) 1 (omega arith))

meant_other : (a v : ℕ) → a ≢ 0x35 → meant_by a v ≡ v
meant_other a v n = rw (ne_eqb a 0x35 n)

meant_35 : (v : ℕ) → v ≤ 1 → meant_by 0x35 v ≡ 0
meant_35 zero l = refl
meant_35 (suc zero) l = refl
meant_35 (suc (suc v)) l = absurd (omega arith)

module _ (s : List ℕ) where
  known_told : all_stored s ≡ true → Known s
  known_told e i h = among_told (address_of s i) (each_at (λ i. among stored (address_of s i)) (count_of s) e i h)

  known_holds : Known s → all_stored s ≡ true
  known_holds k = each_all (λ i. among stored (address_of s i)) (count_of s) (λ i h. among_holds (address_of s i) (k i h))

  -- the write of row i is right there
  abbrev fits_there : ℕ → Bool
  fits_there i = is_right (range_of (address_of s i) (meant s i))

  right_told : all_right s ≡ true → Right s
  right_told e = (
    λ i r h lt q n. sym (right_is (address_of s i) r (value_of s i) lt q) ∙ rw (meant_other (address_of s i) (value_of s i) n) at (each_at fits_there (count_of s) e i h),
    λ i h q. leb-true _ _ (sym (right_35 (value_of s i)) ∙ rw q at (each_at fits_there (count_of s) e i h)),
  )

  right_holds : Known s → Right s → all_right s ≡ true
  right_holds k right = each_all fits_there (count_of s) (λ i h. go i h (eqb (address_of s i) 0x35) refl)
    where
      go : (i : ℕ) → i < count_of s → (b : Bool) → eqb (address_of s i) 0x35 ≡ b → fits_there i ≡ true
      go i h true e = let q = eqb-true (address_of s i) 0x35 e in rw q (right_35 (value_of s i) ∙ le-leb _ _ (right.1 i h q))
      go i h false e =
          let n = eqb-false (address_of s i) 0x35 e in
          let r = k i h in
          rw (meant_other (address_of s i) (value_of s i) n) (right_is (address_of s i) r.0 (value_of s i) r.1 r.2 ∙ right.0 i r.0 h r.1 r.2 n)

  loadable_told : loadable s ≡ true → Loadable s
  unfolding loadable
  loadable_told e =
      let f = (and-eq-true_iff (well_formed_of s) _).0 e in
      let g = (and-eq-true_iff (all_stored s) _).0 f.1 in
      record { sheet = sheet_told s f.0; known = known_told g.0; right = right_told g.1 }

  loadable_holds : Loadable s → loadable s ≡ true
  unfolding loadable
  loadable_holds l = rw (sheet_holds s l.sheet, known_holds l.known, right_holds l.known l.right)

  -- the tests of the call
  tests_told : (well_formed_of s ≡ true) → (all_known_of s ≡ true) → (all_fitting_of s ≡ true) → loadable s ≡ true
  unfolding loadable
  tests_told f k r = rw (f, ← all_known_is s, ← all_fitting_is s, k, r)

  tests_hold : loadable s ≡ true → (well_formed_of s ≡ true) × (all_known_of s ≡ true) × (all_fitting_of s ≡ true)
  unfolding loadable
  tests_hold e =
      let f = (and-eq-true_iff (well_formed_of s) _).0 e in
      let g = (and-eq-true_iff (all_stored s) _).0 f.1 in
      (f.0, all_known_is s ∙ g.0, all_fitting_is s ∙ g.1)

-- ---- what a sheet is
pub formed : Formed
unfolding value_of
formed =
    record {
      rows = λ s. refl;
      address = λ s i. refl;
      value = λ s i is h. ap (four s) (is.placed i h);
      tested = λ s. (sheet_told s, sheet_holds s);
      known = λ s. (known_told s, known_holds s);
      right = λ s k. (right_told s, right_holds s k);
      only = spelled_only;
      spelled = λ xs ws same few rise words. (spelled_sheet xs ws same few rise, spelled_addresses xs ws same, spelled_values xs ws same few words);
    }

-- ---- loading
-- values that lie in their rows are 39 at least
right_long : (rs : List Row) (ws : List ℕ) → all_in rs ws ≡ true → length rs ≤ length ws
right_long [] ws h = omega arith
right_long (r ∷ rs) [] h = absurd (let z : ◌≡◌ {A = ℕ} 0 1 = cc in omega arith)
right_long (r ∷ rs) (w ∷ ws) h = let t = right_long rs ws ((and-eq-true_iff (fits_in r w) _).0 h).1 in omega arith

rows_count : length rows ≡ 39
unfolding rows
rows_count = refl

well_long : (h : Head) → wellformed_of h ≡ true → 39 ≤ length h.stored.values
unfolding all_right_of
well_long h w =
    let t = right_long rows h.stored.values (stored_told h.stored (told h w).stored).values in omega (arith, rows_count)

place_35 : place_of 0x35 ≡ Some 29
unfolding place_of rows
place_35 = refl

values_stored : (v s : List ℕ) → 39 ≤ length v → Sheet s → Right s → Stored v (stored_rows v s (count_of s)) s
unfolding meant_of
values_stored v s long is right =
    let row = stored_row v s long is.rising (count_of s) (omega arith) in
    record {
      rows = λ i r p lt e n. row i r p (rw e (row_place r lt)) ∙ meant_other (address_of s i) (value_of s i) n;
      retired = λ i p e. row i 29 p (rw e place_35) ∙ rw e (meant_35 (value_of s i) (right.1 i p e));
      others = λ r lt n. stored_other v s (count_of s) (address (row_of r)) r (row_place r lt) n;
      long = stored_length v s (count_of s);
    }

loaded_is : (h : Head) (s : List ℕ) → wellformed_of h ≡ true → Loadable s → Loaded h (head.loaded_of h s) s
unfolding head.loaded_of turned_of stays_of is_display
loaded_is h s w f =
    record {
      values = values_stored h.stored.values s (well_long h w) f.sheet f.right;
      number = refl;
      baud = refl;
      unlocked = refl;
      offer = refl;
      faults = refl;
      measurement = refl;
      targets = record { first = refl; valid1 = refl; second = refl; valid2 = refl; word = refl; reached = refl; acknowledged1 = refl; acknowledged2 = refl };
      monitor = refl;
      ear = refl;
      keys = refl;
    }

module _ (h : Head) (s : List ℕ) where
  -- where the call is done, all its tests hold
  done_told : (alone.called (alone.load s) h).answer ≡ (Ok tt) → (wellformed_of h ≡ true) × (loadable s ≡ true)
  unfolding alone.called head.load_of
  done_told =
      either (λ (c : Called). c.answer ≡ (Ok tt) → (wellformed_of h ≡ true) × (loadable s ≡ true)) (head.refused_with h) (head.done_with (head.loaded_of h s))
      ((wellformed_of h, NoHead) ∷ head.sheet_tests s)
      (λ why e. absurd (let z : ◌≡◌ {A = ℕ} 0 1 = cc in omega arith))
      (λ t e. (t.0, tests_told s t.1.0 t.1.1.0 t.1.1.1.0))

  load_is : wellformed_of h ≡ true → loadable s ≡ true → alone.called (alone.load s) h ≡ head.done_with (head.loaded_of h s)
  unfolding alone.called head.load_of
  load_is w e = let t = tests_hold s e in rw (w, t.0, t.1, t.2)

  takes : wellformed_of h ≡ true → (alone.called (alone.load s) h).answer ≡ (Ok tt) ↔ Loadable s
  takes w = (λ e. loadable_told s (done_told e).1, λ l. ap (λ (c : Called). c.answer) (load_is w (loadable_holds s l)))

  loads : (alone.called (alone.load s) h).answer ≡ (Ok tt) → Loaded h (alone.called (alone.load s) h).head s
  loads e = let d = done_told e in rw (load_is d.0 d.1) (loaded_is h s d.0 (loadable_told s d.1))

-- bytes that may not be loaded change nothing
unloaded : (h : Head) (s : List ℕ) → (Loadable s → ⊥) → (alone.called (alone.load s) h).head ≡ h
unloaded h s never = go (alone.called (alone.load s) h).answer refl
  where
    go : (a : Result ⊤ Refusal) → (alone.called (alone.load s) h).answer ≡ a → (alone.called (alone.load s) h).head ≡ h
    go (Ok tt) e = absurd (never (loadable_told s (done_told h s e).1))
    go (Err why) e = called_same (alone.load s) h why e

-- ---- writing
-- the sheet of 39 values on a space with room for it
module _ (v space : List ℕ) (full : length v ≡ 39) (long : 274 ≤ length space) where
  -- its bytes are those of the sheet
  byte_kept : (i : ℕ) → i < 274 → get_or (sheet_of v ++ drop 274 space) i 0 ≡ get_or (sheet_of v) i 0
  byte_kept i p = get_or-append (sheet_of v) (drop 274 space) 0 i (rw (sheet_length v full) p)

  body_kept : (r m i : ℕ) → r < 39 → m < 4 → i ≡ 118 + (4 * r + m) → get_or (sheet_of v ++ drop 274 space) i 0 ≡ get_or (bodies_of (get_or v r 0 ∷ [])) m 0
  body_kept r m i lt few e =
      let d : (118 + (4 * r + m) - 118) / 4 ≡ r = omega arith in
      let q : (118 + (4 * r + m) - 118) % 4 ≡ m = omega arith in
      rw e (byte_kept (118 + (4 * r + m)) (omega arith) ∙ sheet_at v (118 + (4 * r + m)) full (omega arith) (omega arith) ∙ rw (d, q))

  saved : Saved v space (sheet_of v ++ drop 274 space)
  saved =
      record {
        rows = byte_kept 0 (omega arith) ∙ sheet_count v full;
        addresses = λ r lt. byte_kept (1 + 3 * r) (omega arith) ∙ sheet_address v full r lt;
        places = λ r lt. rw (byte_kept (2 + 3 * r) (omega arith), byte_kept (3 + 3 * r) (omega arith)) (sheet_place v full r lt);
        bodies = λ r lt. (
          body_kept r 0 (118 + 4 * r) lt (omega arith) (omega arith),
          body_kept r 1 (119 + 4 * r) lt (omega arith) (omega arith),
          body_kept r 2 (120 + 4 * r) lt (omega arith) (omega arith),
          body_kept r 3 (121 + 4 * r) lt (omega arith) (omega arith),
        );
        long = length_front space (sheet_of v) 274 (sheet_length v full ∙ sym (length-take-le 274 space long));
        rest = drop_at (sheet_of v) (drop 274 space) 274 (sheet_length v full);
      }

-- a sheet that is written: the head is well-formed, and there is room
pub record Room (h : Head) (space : List ℕ) : Type 0 where
  pub well : wellformed_of h ≡ true
  pub long : 274 ≤ length space

pub save_room : (h : Head) (space : List ℕ) → head.save_of h (length space) ≡ (Ok tt) → Room h space
unfolding head.save_of
save_room h space = go (wellformed_of h) refl (ltb (length space) whole) refl
  where
    go : (a : Bool) → wellformed_of h ≡ a → (b : Bool) → ltb (length space) whole ≡ b → head.save_of h (length space) ≡ (Ok tt) → Room h space
    go true p false q e = record { well = p; long = ltb-false _ _ q }
    go true p true q e = absurd (let d : Err _ ≡ (Ok tt) = rw (p, q) at e in let z : ◌≡◌ {A = ℕ} 0 1 = cc in omega arith)
    go false p b q e = absurd (let d : Err _ ≡ (Ok tt) = rw p at e in let z : ◌≡◌ {A = ℕ} 0 1 = cc in omega arith)

module _ (h : Head) (space : List ℕ) (k : Room h space) where
  save_done : head.save_of h (length space) ≡ (Ok tt)
  unfolding head.save_of
  save_done = rw (k.well, le-ltb (length space) 274 k.long)

  saved_is : head.save_space_of h space ≡ sheet_of h.stored.values ++ drop 274 space
  unfolding head.save_space_of
  saved_is = rw (k.well, le-ltb (length space) 274 k.long)

-- ---- from one head to another
swapped : (g h : Head) → Typed g → Typed h → wellformed_of g ≡ true → wellformed_of h ≡ true
    → let k = alone.called (alone.load (sheet_of g.stored.values)) h in (k.answer ≡ (Ok tt)) × (k.head.stored.values ≡ g.stored.values)
unfolding alone.called head.load_of head.loaded_of
swapped g h t u w x =
    let v = g.stored.values in
    let r = (stored_told g.stored (told g w).stored).values in
    rw (x, sheet_formed v t.places, written_known v t.places t.words r, written_fitting v t.places t.words r)
    (refl, written_stored v t.places t.words r h.stored.values u.places)

travels : (g h : Head) (space : List ℕ) → Typed g → Typed h → wellformed_of h ≡ true → head.save_of g (length space) ≡ (Ok tt)
    → let k = alone.called (alone.load (take 274 (head.save_space_of g space))) h in (k.answer ≡ (Ok tt)) × (k.head.stored.values ≡ g.stored.values)
travels g h space t u x e =
    let k = save_room g space e in
    rw (saved_is g space k, take_at (sheet_of g.stored.values) (drop 274 space) 274 (sheet_length g.stored.values t.places)) (swapped g h t u k.well x)

-- ---- on a line, after any calls
typed : (cs : Calls) (k : ℕ) → calls.Bytes cs → k < count cs → Typed (head_in cs k)
typed cs k bs lt =
    let A = sim.sim cs k lt in
    record { places = A.size; words = λ r. go r (ltb r 39) refl }
  where
    go : (r : ℕ) (b : Bool) → ltb r 39 ≡ b → get_or (head_in cs k).stored.values r 0 < 4294967296
    go r true e = let A = sim.sim cs k lt in let p = ltb-true r 39 e in rw (A.vals_are r p) (value_small cs bs k r p)
    go r false e =
        let A = sim.sim cs k lt in
        let d : get_or (head_in cs k).stored.values r 0 ≡ 0 = get_or-eq_default (head_in cs k).stored.values 0 (omega (arith, ltb-false r 39 e, A.size)) in omega (arith, d)

-- a line grown from none, and a sheet loaded into head j of it
module _ (cs : Calls) (j : ℕ) (jl : j < count cs) where
  line_fits : Fits (run cs)
  line_fits = let b = sim.fits cs in record { fits = b.fits; places = b.places }

  there : j < (run cs).count
  there = omega (arith, (sim.fits cs).counts)

  well : wellformed_of (head_in cs j) ≡ true
  well = well_at (run cs) line_fits.fits j there

  module _ (s : List ℕ) where
    -- what it makes of head j alone
    abbrev alone_loaded : Head
    alone_loaded = (alone.called (alone.load s) (head_in cs j)).head

    takes_load : FitsFor (load s) (run cs)
    takes_load = record { takes = line_fits.fits; places = line_fits.places }

    loaded_there : head_in (cs ▸ named j (load s)) j ≡ alone_loaded
    unfolding runs after
    loaded_there = (line_asks (run cs) j (load s) takes_load there).0.there

    still_there : j < count (cs ▸ named j (load s))
    unfolding account grown
    still_there = jl

    value_there : (r : ℕ) → r < 39 → value (cs ▸ named j (load s)) j r ≡ get_or alone_loaded.stored.values r 0
    value_there r lt =
        sym ((sim.sim (cs ▸ named j (load s)) j still_there).vals_are r lt) ∙ ap (λ (h : Head). get_or h.stored.values r 0) loaded_there

    force_there : in_force (cs ▸ named j (load s)) j ≡ alone_loaded.stored.number
    force_there = sym (sim.sim (cs ▸ named j (load s)) j still_there).force_is ∙ ap (λ (h : Head). h.stored.number) loaded_there

    done_there : Loadable s → (alone.called (alone.load s) (head_in cs j)).answer ≡ (Ok tt)
    done_there l = (takes (head_in cs j) s well).1 l

    counts : Loadable s
        → ((i r : ℕ) → i < count_of s → r < 39 → address_of s i ≡ address (row_of r) → address_of s i ≢ 0x35 → value (cs ▸ named j (load s)) j r ≡ value_of s i)
        × ((i : ℕ) → i < count_of s → address_of s i ≡ 0x35 → value (cs ▸ named j (load s)) j 29 ≡ 0)
        × ((r : ℕ) → r < 39 → ((i : ℕ) → i < count_of s → address_of s i ≢ address (row_of r)) → value (cs ▸ named j (load s)) j r ≡ value cs j r)
    counts l =
        let k = (loads (head_in cs j) s (done_there l)).values in
        (λ i r h lt e n. value_there r lt ∙ k.rows i r h lt e n, λ i h e. value_there 29 (omega arith) ∙ k.retired i h e, λ r lt n. value_there r lt ∙ k.others r lt n ∙ (sim.sim cs j jl).vals_are r lt)

    counts_not : (Loadable s → ⊥) → (r : ℕ) → r < 39 → value (cs ▸ named j (load s)) j r ≡ value cs j r
    counts_not never r lt =
        value_there r lt ∙ ap (λ (h : Head). get_or h.stored.values r 0) (unloaded (head_in cs j) s never) ∙ (sim.sim cs j jl).vals_are r lt

-- ---- the sheet of head i, loaded into head j
module _ (cs : Calls) (i j : ℕ) (space : List ℕ) (bs : calls.Bytes cs) (il : i < count cs) (jl : j < count cs) (long : 274 ≤ length space) where
  abbrev s : List ℕ
  s = take 274 (save_space_of (run cs) i space)

  alone_saves : head.save_of (head_in cs i) (length space) ≡ (Ok tt)
  alone_saves = save_done (head_in cs i) space (record { well = well cs i il; long = long })

  alone_loads : let k = alone.called (alone.load s) (head_in cs j) in (k.answer ≡ (Ok tt)) × (k.head.stored.values ≡ (head_in cs i).stored.values)
  alone_loads =
      rw (line_saves (run cs) (line_fits cs i il) i space (there cs i il)).1
      (travels (head_in cs i) (head_in cs j) space (typed cs i bs il) (typed cs j bs jl) (well cs j jl) alone_saves)

  swaps : (save_of (run cs) i (length space) ≡ (Ok tt))
      × ((ask_of (load s) (run cs) j).answer ≡ (Ok tt))
      × ((r : ℕ) → r < 39 → value (cs ▸ named j (load s)) j r ≡ value cs i r)
      × (in_force (cs ▸ named j (load s)) j ≡ in_force cs j)
  swaps = (
    (line_saves (run cs) (line_fits cs i il) i space (there cs i il)).0 ∙ alone_saves,
    (line_asks (run cs) j (load s) (takes_load cs j jl s) (there cs j jl)).1 ∙ alone_loads.0,
    λ r lt. value_there cs j jl s r lt ∙ ap (λ (w : List ℕ). get_or w r 0) alone_loads.1 ∙ (sim.sim cs i il).vals_are r lt,
    force_there cs j jl s ∙ (loads (head_in cs j) s alone_loads.0).number ∙ (sim.sim cs j jl).force_is,
  )

pub sheets : Sheets product
sheets =
    record {
      takes = takes;
      account = λ s. (loadable_told s, loadable_holds s);
      loads = loads;
      saves = λ h space full e. let k = save_room h space e in rw (saved_is h space k) (saved h.stored.values space full k.long);
      line_loads = λ l i s f p. let t = line_asks l i (load s) (record { takes = f.fits; places = f.places }) p in (t.1, t.0.there, t.0.others, t.0.count);
      line_saves = λ l i space f p. line_saves l f i space p;
      counts = λ cs j s jl. counts cs j jl s;
      counts_not = λ cs j s jl. counts_not cs j jl s;
      travels = travels;
      swaps = swaps;
    }

-- ---- the functions of the crate sheet
number_is : (why : sheet.Refusal) → refusal_of why ≡ number_of why
number_is Malformed = refl
number_is NotStored = refl
number_is OutOfRow = refl
number_is Short = refl

module _ (s : List ℕ) where
  checked : (a b c : Bool) → well_formed_of s ≡ a → all_known_of s ≡ b → all_fitting_of s ≡ c → of_sheet (check_of s) ≡ first (own_rows (alone.load s))
  unfolding check_of
  checked true true true p q r = rw (p, ← all_known_is s, ← all_fitting_is s, q, r)
  checked true true false p q r = rw (p, ← all_known_is s, ← all_fitting_is s, q, r)
  checked true false c p q r = rw (p, ← all_known_is s, q)
  checked false b c p q r = rw p

  check_done : loadable s ≡ true → check_of s ≡ (Ok tt)
  unfolding check_of
  check_done e = let t = tests_hold s e in rw (t.0, t.1, t.2)

  check_refused : (loadable s ≡ true → ⊥) → (values : List ℕ) → (load_of values s).values ≡ values
  unfolding check_of load_of
  check_refused never values = go (well_formed_of s) refl (all_known_of s) refl (all_fitting_of s) refl
    where
      go : (a : Bool) → well_formed_of s ≡ a → (b : Bool) → all_known_of s ≡ b → (c : Bool) → all_fitting_of s ≡ c → (load_of values s).values ≡ values
      go true p true q true r = absurd (never (tests_told s p q r))
      go true p true q false r = rw (p, q, r)
      go true p false q c r = rw (p, q)
      go false p b q c r = rw p

values_loaded : (values s : List ℕ) → length values ≡ 39 → Loadable s → Stored values (load_of values s).values s
unfolding load_of
values_loaded values s full l = rw (check_done s (loadable_holds s l)) (values_stored values s (omega arith) l.sheet l.right)

wrote : (n : ℕ) (b : Bool) → ltb n 274 ≡ b → of_sheet (write_of n) ≡ first (save_rows n)
unfolding write_of
wrote n true e = rw e
wrote n false e = rw e

pub functions : Functions
unfolding written_on
functions =
    record {
      number = number_is;
      checks = λ s. checked s (well_formed_of s) (all_known_of s) (all_fitting_of s) refl refl refl;
      answers = loaded_answer;
      loads = values_loaded;
      refuses = λ values s never. check_refused s (λ e. never (loadable_told s e)) values;
      writes = λ n. wrote n (ltb n 274) refl;
      written = λ values space full long. rw (le-ltb (length space) 274 long) (saved values space full long);
      spares = λ values space short. rw (lt-ltb (length space) 274 short);
    }
