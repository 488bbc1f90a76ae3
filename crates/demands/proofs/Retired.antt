-- Incremental measurement is retired: by the tests of the calls, by what bringing over leaves of a head, and by the account.
-- Assumes nothing.
use Rattle.std.specs.Prelude.{Ok}
use Prim.Native.Nat.{ℕ, zero, suc, ◌+◌, ◌*◌, ◌<◌, ◌≤◌}
use mathlib.Core.Path.{◌≡◌, refl, sym, ap, ◌∙◌}
use mathlib.Core.Bool.{Bool, true, false, true≢false, cond, and-false}
use mathlib.Core.List.{List, [], ◌∷◌}
use mathlib.Core.Option.{Option, none, some}
use native.Mathlib.Omega.{arith}
use native.Mathlib.Nat.{not-suc-le-zero}
use lib.Dec.{ltb, eqb}
use lib.ListN.{length, get_or}
use borrow.Author.Tests.{lt-ltb, le-ltb, eq-eqb, ne_eqb, eqb-true, eqb-false}
use Rattle.wire.specs.Word.{byte0, byte1, byte2, byte3}
use Rattle.state.specs.declared.parts.Head.{Head}
use Rattle.state.specs.Wellformed.{wellformed_of}
use Rattle.state.specs.Older.{is_older, older_fits, passes_of, brought_of}
use Rattle.state.proofs.Brought as over
use Rattle.head.specs.declared.refusal.Refusal.TheVariants.{Malformed}
use Rattle.head.specs.declared.calls.Called.{Called}
use Rattle.head.specs.declared.calls.Fed.{Fed}
use Rattle.head.specs.Hear.{step_of}
use Rattle.head.specs.Moves.{keyed_of}
use Rattle.head.specs.Calls as head
use Rattle.head.specs.Outcome as alone
use Rattle.head.proofs.Tests.{either}
use Rattle.head.proofs.Asked.{called_is, next_fits}
use Rattle.head.proofs.Keeps.{step_fits, keys_fits}
use Rattle.line.specs.declared.calls.Line.{Line}
use Rattle.line.specs.Calls.{fits_of, head_at}
use Rattle.line.proofs.Theorems.{named_keeps, well_at}
use Rattle.head.proofs.Serials.{asked_serial}
use Rattle.head.proofs.Asked.{called_fits}
use Rattle.demands.specs.Calls.{measure, power, load, bring, Call, new_head, byte, tick, named, keys, dropped, Calls, ◌▸◌}
use Rattle.demands.specs.Past.{nothing, gives, names, asked, change, next, account, count, entry, value, in_force}
use Rattle.demands.specs.Run.{product, ask_of, run, head_in}
use Rattle.demands.specs.Alone.{setting, older}
use Rattle.demands.specs.Lines.{ToOne}
use Rattle.demands.specs.Twenty.{LineFormed}
use Rattle.demands.specs.Demand1.{refused_as, refused_alone, head_after}
use Rattle.demands.specs.Demand3.{touch}
use Rattle.demands.specs.Retired.{brings_alone, brings_on_line, brought_all, HasOlder, OneOver, Retired}
use Rattle.demands.proofs.Named as named
use Rattle.demands.proofs.Twenty.{twenty}
use Rattle.demands.proofs.Refusals.{demand1}
use Rattle.demands.proofs.Telegram.{gives_35}
use Rattle.demands.proofs.Lines.{line_asks}
use Rattle.demands.proofs.Sheets.{save_room, sheets}
use Rattle.demands.proofs.Sim as sim

-- ---- a head that the old rules allow
abbrev bringing : Head → Called
bringing h = alone.called alone.bring h

bring_is : (h : Head) → older_fits h ≡ true → bringing h ≡ head.done_with (brought_of h)
unfolding alone.called head.bring_of
bring_is h f = rw f

well : (h : Head) → older_fits h ≡ true → wellformed_of (bringing h).head ≡ true
well h f = rw (bring_is h f) (over.brought_well h f)

-- ---- a line that they allow
module _ (l : Line) (places : length l.heads ≡ 32) (a : LineFormed older_fits l) where
  module _ (i : ℕ) (p : i < l.count) where
    abbrev after : Line
    after = (ask_of bring l i).line

    allowed_at : older_fits (head_at l i) ≡ true
    allowed_at = a.heads i p

    to_one : ToOne l i after (bringing (head_at l i)).head × ((ask_of bring l i).answer ≡ (bringing (head_at l i)).answer)
    to_one = line_asks l i bring (record { takes = twenty.older_line_passes l places a; places = places }) p

    done : (ask_of bring l i).answer ≡ (Ok tt)
    done = to_one.1 ∙ rw (bring_is (head_at l i) allowed_at)

    over_at : wellformed_of (head_at after i) ≡ true
    over_at = rw to_one.0.there (well (head_at l i) allowed_at)

    -- whichever head: it passes the old test, and has the serial number that it had
    each_passes : (j : ℕ) → j < l.count → older_fits (head_at after j) ≡ true
    each_passes j q = go (eqb j i) refl
      where
        go : (b : Bool) → eqb j i ≡ b → older_fits (head_at after j) ≡ true
        go true e = rw (eqb-true j i e) (over.new_passes (head_at after i) over_at)
        go false e = rw (to_one.0.others j (eqb-false j i e)) (a.heads j q)

    each_serial : (j : ℕ) → (head_at after j).stored.serial ≡ (head_at l j).stored.serial
    each_serial j = go (eqb j i) refl
      where
        go : (b : Bool) → eqb j i ≡ b → (head_at after j).stored.serial ≡ (head_at l j).stored.serial
        go true e = rw (eqb-true j i e, to_one.0.there) (asked_serial alone.bring (head_at l i))
        go false e = rw (to_one.0.others j (eqb-false j i e))

    still : LineFormed older_fits after
    still =
        let c = to_one.0.count in
        record {
          few = rw c a.few;
          heads = λ j q. each_passes j (rw c at q);
          serials = λ j k q r n. rw (each_serial j, each_serial k) (a.serials j k (rw c at q) (rw c at r) n);
        }

    one_over : OneOver l i after
    one_over = record { over = twenty.head_passed _ over_at; others = to_one.0.others; count = to_one.0.count; allowed = still }

    still_places : length after.heads ≡ 32
    still_places =
        ap (λ (c : _). length c.line.heads) (named.ask_is bring l i)
        ∙ (named_keeps l true i (bringing (head_at l i)) (called_fits alone.bring (head_at l i)) (asked_serial alone.bring (head_at l i))).places
        ∙ places

-- the line when n of its heads were brought over
record Over (l : Line) (n : ℕ) (k : Line) : Type 0 where
  places : length k.heads ≡ 32
  allowed : LineFormed older_fits k
  count : k.count ≡ l.count
  formed : (j : ℕ) → j < n → wellformed_of (head_at k j) ≡ true

overs : (l : Line) → length l.heads ≡ 32 → LineFormed older_fits l → (n : ℕ) → n ≤ l.count → Over l n (brought_all product.on_line_of n l)
overs l places a zero p = record { places = places; allowed = a; count = refl; formed = λ j q. absurd (not-suc-le-zero q) }
overs l places a (suc n) p =
    let k = brought_all product.on_line_of n l in
    let o = overs l places a n (omega arith) in
    let q : n < k.count = omega (arith, o.count) in
    let one = one_over k o.places o.allowed n q in
    record {
      places = still_places k o.places o.allowed n q;
      allowed = one.allowed;
      count = one.count ∙ o.count;
      formed = λ j r. go k n o.formed one (over_at k o.places o.allowed n q) j r (eqb j n) refl;
    }
  where
    go : (k : Line) (n : ℕ) → ((j : ℕ) → j < n → wellformed_of (head_at k j) ≡ true) → OneOver k n (ask_of bring k n).line
        → wellformed_of (head_at (ask_of bring k n).line n) ≡ true
        → (j : ℕ) → j < suc n → (b : Bool) → eqb j n ≡ b → wellformed_of (head_at (ask_of bring k n).line j) ≡ true
    go k n before one w j r true e = rw (eqb-true j n e) w
    go k n before one w j r false e = let d = eqb-false j n e in rw (one.others j d) (before j (omega arith))

all_over : (l : Line) → length l.heads ≡ 32 → LineFormed older_fits l → fits_of (brought_all product.on_line_of l.count l) ≡ true
all_over l places a =
    let o = overs l places a l.count (omega arith) in
    twenty.line_passes _ o.places
    (record { few = o.allowed.few; heads = λ j q. o.formed j (rw o.count at q); serials = o.allowed.serials })

-- ---- an older head is not well-formed, and a line with one does not fit
unfit : (h : Head) → older h ≡ true → wellformed_of h ≡ false
unfolding is_older
unfit h o = go (wellformed_of h) refl
  where
    go : (b : Bool) → wellformed_of h ≡ b → wellformed_of h ≡ false
    go true w = absurd (true≢false (sym o ∙ over.no_older h w))
    go false w = w

line_unfit : (l : Line) (k : ℕ) → HasOlder l k → fits_of l ≡ false
line_unfit l k o = go (fits_of l) refl
  where
    go : (b : Bool) → fits_of l ≡ b → fits_of l ≡ false
    go true f = absurd (true≢false (sym (well_at l f k o.there) ∙ unfit (head_at l k) o.is_older_lem))
    go false f = f

alone_refused : (c : alone.Call) (h : Head) → older h ≡ true → brings_alone c ≡ false → refused_alone product.on_head c h ≡ some 20
alone_refused (alone.byte b t space) h o n = demand1.head_number (alone.byte b t space) h ∙ rw (unfit h o)
alone_refused (alone.keys s space) h o n = demand1.head_number (alone.keys s space) h ∙ rw (unfit h o)
alone_refused (alone.asked (alone.tick t)) h o n = demand1.head_number (alone.asked (alone.tick t)) h ∙ rw (unfit h o)
alone_refused (alone.asked (alone.measure m)) h o n = demand1.head_number (alone.asked (alone.measure m)) h ∙ rw (unfit h o)
alone_refused (alone.asked alone.power) h o n = demand1.head_number (alone.asked alone.power) h ∙ rw (unfit h o)
alone_refused (alone.asked (alone.load s)) h o n = demand1.head_number (alone.asked (alone.load s)) h ∙ rw (unfit h o)
alone_refused (alone.asked alone.bring) h o n = absurd (true≢false n)

line_refused : (c : Call) (l : Line) (k : ℕ) → HasOlder l k → brings_on_line c ≡ false → refused_as product.on_line_of c l ≡ some 20
line_refused (new_head node serial) l k o n = demand1.line_number (new_head node serial) l ∙ rw (line_unfit l k o)
line_refused (byte b t s) l k o n = demand1.line_number (byte b t s) l ∙ rw (line_unfit l k o)
line_refused (tick t) l k o n = demand1.line_number (tick t) l ∙ rw (line_unfit l k o)
line_refused (named j (measure m)) l k o n = demand1.line_number (named j (measure m)) l ∙ rw (line_unfit l k o)
line_refused (named j power) l k o n = demand1.line_number (named j power) l ∙ rw (line_unfit l k o)
line_refused (named j (load s)) l k o n = demand1.line_number (named j (load s)) l ∙ rw (line_unfit l k o)
line_refused (named j bring) l k o n = absurd (true≢false n)
line_refused (keys j s r) l k o n = demand1.line_number (keys j s r) l ∙ rw (line_unfit l k o)
line_refused (dropped t) l k o n = demand1.line_number (dropped t) l ∙ rw (line_unfit l k o)

-- ---- no call turns incremental on: refused it changes nothing, and done it leaves a head that is well-formed
stays_off : (c : alone.Call) (h : Head) → h.measurement.incremental ≡ false → (head_after product.on_head c h).measurement.incremental ≡ false
unfolding head.byte_of head.keys_of
stays_off (alone.byte b t space) h o =
    either (λ (f : Fed). f.head.measurement.incremental ≡ false) (head.unfed h) (head.fed_with (step_of h b t)) (head.lent_tests h [] (length space)) (λ why. o)
    (λ w. over.off _ (step_fits h b t w.0))
stays_off (alone.keys s space) h o =
    either (λ (f : Fed). f.head.measurement.incremental ≡ false) (head.unfed h) (head.fed_with (keyed_of h s)) (head.lent_tests h (head.keys_tests s) (length space)) (λ why. o)
    (λ w. over.off _ (keys_fits h s w.1.0 w.0))
stays_off (alone.asked a) h o =
    rw (head_after, called_is a h)
    (either (λ (c : Called). c.head.measurement.incremental ≡ false) (head.refused_with h) (head.done_with (alone.next a h)) ((passes_of (alone.brings a) h, Malformed) ∷ alone.own a)
    (λ why. o) (λ w. over.off _ (next_fits a h w.0 w.1)))

-- ---- on a line grown from none
module _ (cs : Calls) (k : ℕ) (lt : k < count cs) where
  grown_well : wellformed_of (head_in cs k) ≡ true
  grown_well = let f = sim.fits cs in well_at (run cs) f.fits k (rw f.counts lt)

  zero_35 : value cs k 29 ≡ 0
  zero_35 = sym ((sim.sim cs k lt).vals_are 29 (omega arith)) ∙ over.zero_35 (head_in cs k) grown_well

-- ---- a written sheet: the four bytes at 35h
saves : (h : Head) (space : List ℕ) (i : ℕ) → length h.stored.values ≡ 39 → head.save_of h (length space) ≡ (Ok tt) → i < 4
    → get_or (head.save_space_of h space) (118 + 4 * 29 + i) 0 ≡ 0
saves h space i full e lt = go i lt
  where
    z : setting h 29 ≡ 0
    z = over.zero_35 h (save_room h space e).well

    b : (get_or (head.save_space_of h space) 234 0 ≡ byte0 (setting h 29))
        × (get_or (head.save_space_of h space) 235 0 ≡ byte1 (setting h 29))
        × (get_or (head.save_space_of h space) 236 0 ≡ byte2 (setting h 29))
        × (get_or (head.save_space_of h space) 237 0 ≡ byte3 (setting h 29))
    b = (sheets.saves h space full e).bodies 29 (omega arith)

    go : (i : ℕ) → i < 4 → get_or (head.save_space_of h space) (118 + 4 * 29 + i) 0 ≡ 0
    go zero lt = b.0 ∙ rw z
    go (suc zero) lt = b.1 ∙ rw z
    go (suc (suc zero)) lt = b.2 ∙ rw z
    go (suc (suc (suc zero))) lt = b.3 ∙ rw z
    go (suc (suc (suc (suc i)))) lt = absurd (omega arith)

-- ---- by looking back
touched : (cs : Calls) (j k r : ℕ) → touch cs (named j bring) k r ≡ cond (names (count cs) j k) (gives 0x35 0 r) none
unfolding change asked
touched cs j k r = go (names (count cs) j k)
  where
    go : (b : Bool) → (cond b (asked bring (entry cs k)) nothing).gives r ≡ cond b (gives 0x35 0 r) none
    go true = refl
    go false = refl

-- no number comes into force
still_in_force : (cs : Calls) (j k : ℕ) → in_force (cs ▸ named j bring) k ≡ in_force cs k
unfolding account change asked next
still_in_force cs j k = go (names (count cs) j k)
  where
    go : (b : Bool) → (next (cond b (asked bring (entry cs k)) nothing) (entry cs k).ear (entry cs k)).number ≡ in_force cs k
    go true = refl
    go false = refl

none_either : (b : Bool) → cond {A = Option ℕ} b none none ≡ none
none_either true = refl
none_either false = refl

pub retired : Retired product
retired =
    record {
      takes = λ h f. rw (bring_is h (twenty.older_passes h f));
      formed = λ h f. twenty.head_passed _ (well h (twenty.older_passes h f));
      line_takes = λ l i places a p. (done l places a i p, one_over l places a i p);
      all_over = all_over;
      alone_refused = alone_refused;
      alone_unread = λ h n o. (demand1.head_hit h ∙ rw (unfit h o), demand1.head_serial h ∙ rw (unfit h o), demand1.head_save h n ∙ rw (unfit h o));
      line_refused = line_refused;
      line_unread = λ l k j n o. (demand1.line_hit l j ∙ rw (line_unfit l k o), demand1.line_serial l j ∙ rw (line_unfit l k o), demand1.line_save l j n ∙ rw (line_unfit l k o));
      line_unracked = λ l k bs t n p o. demand1.line_rack l bs t n p ∙ rw (line_unfit l k o);
      stays_off = stays_off;
      grown_off = λ cs k lt. let w = grown_well cs k lt in (over.off (head_in cs k) w, over.zero_35 (head_in cs k) w);
      saves = saves;
      counts = λ cs j lt. touched cs j j 29 ∙ rw (lt-ltb j (count cs) lt, eq-eqb j j refl) (gives_35 29 (omega arith));
      counts_else = λ cs j k r lt n. touched cs j k r ∙ rw (gives_35 r lt, ne_eqb r 29 n) (none_either (names (count cs) j k));
      counts_other = λ cs j k r n. touched cs j k r ∙ rw (ne_eqb k j n, and-false (ltb j (count cs)));
      counts_past = λ cs j k r p. touched cs j k r ∙ rw (le-ltb j (count cs) p);
      in_force_lem = still_in_force;
      zero_35 = zero_35;
    }
