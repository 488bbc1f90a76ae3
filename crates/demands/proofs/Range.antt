-- The value found by looking back lies in its row, as the head that holds it is well-formed; and it is a word of four bytes where the bytes
-- of the calls are bytes, by induction over the calls.
-- Assumes nothing.
use Prim.Native.Nat.{ℕ, zero, suc, ◌+◌, ◌<◌, ◌≤◌}
use mathlib.Core.Path.{◌≡◌, refl, subst}
use mathlib.Core.Bool.{Bool, true, false, cond, not, ◌&&◌, and-eq-true_iff}
use mathlib.Core.Logic.{◌≢◌}
use mathlib.Core.List.{List, [], ◌∷◌, ◌++◌}
use mathlib.Core.Option.{Option, none, some}
use native.Mathlib.Nat.{not-suc-le-zero, le_of_suc-le-suc}
use native.Mathlib.Omega.{arith}
use borrow.Author.Tests.{ltb-true, leb-true, eqb-true}
use lib.Dec.{leb, ltb, eqb}
use lib.ListN.{length, get_or}
use Rattle.wire.specs.Telegram.{fields_of}
use Rattle.rows.specs.Among.{among}
use Rattle.rows.specs.Table.{rows, row_of, address, delivery}
use Rattle.rows.specs.Ranges.{fits_in}
use Rattle.rows.proofs.Laws.{all_right_at}
use Rattle.rows.proofs.Span.{in_span, is_true}
use Rattle.state.specs.declared.parts.Head.{Head}
use Rattle.state.specs.Wellformed.{wellformed_of}
use Rattle.state.proofs.Laws.{told, stored_told, offer_told}
use Rattle.line.specs.Round.{all_fit}
use Rattle.line.proofs.Laws.{fits_small, fits_heads}
use Rattle.sheet.specs.Format.{count_of, address_of, body_of, value_of}
use Rattle.demands.specs.Calls.{Ask, measure, power, load, bring, IsSheet, Call, new_head, byte, tick, named, keys, dropped, Calls, start, ◌▸◌, Bytes}
use Rattle.demands.specs.Past.{Ear, Entry, Change, nothing, making, may_add_of, room, since, gather, kept, ear_by, accepted, resets, gives, locked, obeying, withdrawn, dropping, hearing, or_else, meant, written, storing, loadable, loaded, asked, adopts, adopting, pressing, pressed, delivered, makes, names, change, look, next, account, count, serials, entry, value, in_force}
use Rattle.demands.specs.Run.{run, head_in}
use Rattle.demands.proofs.Ear.{ear_all}
use Rattle.demands.proofs.Sim.{fits, sim}

-- ---- in its row
fit_here : (d : Head) (k n : ℕ) (hs : List Head) → all_fit n hs ≡ true → k < n → k < length hs → wellformed_of (get_or hs k d) ≡ true
fit_here d k zero hs e p q = absurd (not-suc-le-zero p)
fit_here d k (suc n) [] e p q = absurd (not-suc-le-zero q)
fit_here d zero (suc n) (h ∷ hs) e p q = ((and-eq-true_iff (wellformed_of h) _).0 e).0
fit_here d (suc k) (suc n) (h ∷ hs) e p q =
    fit_here d k n hs ((and-eq-true_iff (wellformed_of h) _).0 e).1 (le_of_suc-le-suc p) (le_of_suc-le-suc q)

-- every head of a line grown from none is well-formed
pub well_at : (cs : Calls) (k : ℕ) → k < count cs → wellformed_of (head_in cs k) ≡ true
well_at cs k lt =
    let b = fits cs in
    let p : k < (run cs).count = omega (arith, b.counts) in
    let q : k < length (run cs).heads = omega (arith, b.counts, b.places, fits_small (run cs) b.fits) in
    fit_here _ k (run cs).count (run cs).heads (fits_heads (run cs) b.fits) p q

pub value_fits : (cs : Calls) (k r : ℕ) → k < count cs → r < 39 → fits_in (row_of r) (value cs k r) ≡ true
value_fits cs k r lt p =
    let w = stored_told (head_in cs k).stored (told (head_in cs k) (well_at cs k lt)).stored in
    subst (λ (x : ℕ). fits_in (row_of r) x ≡ true) ((sim cs k lt).vals_are r p) (all_right_at (head_in cs k).stored.values r w.values p)

-- a number that is offered is at most 31, and is offered at 31
pub offer_small : (cs : Calls) (k : ℕ) → k < count cs → ((entry cs k).offer ≤ 31) × ((entry cs k).offer ≢ 0 → in_force cs k ≡ 31)
offer_small cs k lt =
    let w = stored_told (head_in cs k).stored (told (head_in cs k) (well_at cs k lt)).stored in
    let A = sim cs k lt in
    rw (← A.offer_is, ← A.force_is) (offer_told (head_in cs k).stored.number (head_in cs k).stored.offer w.offer)

-- ---- a word of four bytes
-- each element of a list is a byte
abbrev Small : List ℕ → Type 0
Small l = (i : ℕ) → get_or l i 0 < 256

none_small : Small []
none_small i = omega arith

one_more : (l : List ℕ) (b : ℕ) → Small l → b < 256 → Small (l ++ (b ∷ []))
one_more [] b s p zero = p
one_more [] b s p (suc i) = omega arith
one_more (x ∷ l) b s p zero = s 0
one_more (x ∷ l) b s p (suc i) = one_more l b (λ j. s (suc j)) p i

either_small : (x : Bool) (l m : List ℕ) → Small l → Small m → Small (cond x l m)
either_small true l m p q = p
either_small false l m p q = q

gather_small : (g : Ear) (b t : ℕ) → Small g.bytes → b < 256 → Small (gather g b t)
unfolding gather
gather_small g b t s p = either_small (leb (since t g.last) 10) (g.bytes ++ (b ∷ [])) (b ∷ []) (one_more g.bytes b s p) (one_more [] b none_small p)

ear_small : (c : Call) (g : Ear) → Bytes (start ▸ c) → Small g.bytes → Small (ear_by c g).bytes
unfolding ear_by kept
ear_small (new_head node serial) g bs s = s
ear_small (byte b t x) g bs s =
    elim (room x) as (λ y. Small (cond y (record { bytes = kept (gather g b t); last = t }) g).bytes)
    [ true ↦ either_small (ltb (length (gather g b t)) 10) (gather g b t) [] (gather_small g b t s bs.1) none_small | false ↦ s ]
ear_small (tick t) g bs s = s
ear_small (named j a) g bs s = s
ear_small (keys j x n) g bs s = s
ear_small (dropped t) g bs s = none_small

gathered_small : (cs : Calls) (k : ℕ) → Bytes cs → Small (entry cs k).ear.bytes
gathered_small =
    ear_all (λ cs l. Bytes cs → Small l) (λ cs bs. none_small) (λ cs c g ih bs. ear_small c g (tt, bs.1) (ih bs.0))

-- what an event gives is a word, where it gives anything
abbrev Word : Option ℕ → Type 0
Word none = Unit
Word (some v) = v < 4294967296

either_word : (b : Bool) (x y : Option ℕ) → Word x → Word y → Word (cond b x y)
either_word true x y p q = p
either_word false x y p q = q

delivery_word : (r : ℕ) → r < 39 → delivery (row_of r) < 4294967296
unfolding row_of rows
delivery_word r p = ltb-true _ _ (is_true _ (in_span (λ (k : ℕ). ltb (delivery (row_of k)) 4294967296) 0 39 tt r (omega arith) p))

value_word : (ten : List ℕ) → Small ten → (fields_of ten).value < 4294967296
unfolding fields_of
value_word ten s = omega (arith, s 5, s 6, s 7, s 8)

gives_word : (a v r : ℕ) → v < 4294967296 → r < 39 → Word (gives a v r)
unfolding gives
gives_word a v r p q =
    either_word (eqb a (address (row_of r))) (some v) _ p
    (either_word (eqb a 0xA0 && resets v (address (row_of r))) (some (delivery (row_of r))) none (delivery_word r q) tt)

-- what a change gives are words
Words : Change → Type 0
Words g = (r : ℕ) → r < 39 → Word (g.gives r)

either_words : (x : Bool) (g h : Change) → Words g → Words h → Words (cond x g h)
either_words true g h p q = p
either_words false g h p q = q

none_words : Words nothing
unfolding Words
none_words r p = tt

made_words : (n : ℕ) (ss : List ℕ) (node serial k : ℕ) → Words (cond (makes n ss node serial k) (making node) nothing)
unfolding Words delivered may_add_of
made_words n ss node serial k r p = go (ltb n 32) (leb 1 node) (leb node 127) refl (not (among ss serial)) (eqb k n)
  where
    go : (x y z : Bool) → leb node 127 ≡ z → (s w : Bool) → Word ((cond ((x && ((y && z) && s)) && w) (making node) nothing).gives r)
    go true true true e true true = let top = leb-true node 127 e in elim (eqb r 0) as (λ b. cond b node (delivery (row_of r)) < 4294967296) [ true ↦ omega arith | false ↦ delivery_word r p ]
    go true true true e true false = tt
    go true true true e false w = tt
    go true true false e s w = tt
    go true false z e s w = tt
    go false y z e s w = tt

hearing_words : (e : Entry) (l : List ℕ) → Small l → Words (hearing e l)
unfolding hearing Words
hearing_words e l s =
    either_words (ltb (length l) 10) nothing _ none_words
    (either_words (accepted e.number (locked e) l) (obeying (fields_of l).parameter (fields_of l).value) _
    (λ r p. gives_word (fields_of l).parameter (fields_of l).value r (value_word l s) p)
    (either_words (withdrawn e.number l) dropping nothing (λ r p. tt) none_words))

-- a value of a sheet is four bytes
else_word : (o p : Option ℕ) → Word o → Word p → Word (or_else o p)
else_word none p x y = y
else_word (some v) p x y = x

or_zero : (b : Bool) {v : ℕ} → v < 4294967296 → cond b 0 v < 4294967296
or_zero true l = omega arith
or_zero false l = l

written_word : (s : List ℕ) → ((k : ℕ) → get_or s k 0 < 256) → (n r : ℕ) → r < 39 → Word (written s n r)
unfolding value_of
written_word s bs zero r p = tt
written_word s bs (suc n) r p =
    let at = body_of s n in
    let v : value_of s n < 4294967296 = omega (arith, bs at, bs (at + 1), bs (at + 2), bs (at + 3)) in
    let w : meant s n < 4294967296 = or_zero (eqb (address_of s n) 0x35 && eqb (value_of s n) 1) v in
    else_word (gives (address_of s n) (meant s n) r) (written s n r) (gives_word (address_of s n) (meant s n) r w p) (written_word s bs n r p)

asked_words : (a : Ask) (e : Entry) → IsSheet a → Words (asked a e)
unfolding asked Words loaded
asked_words (measure m) e bs r p = tt
asked_words power e bs r p = tt
asked_words bring e bs r p = gives_word 0x35 0 r (omega arith) p
asked_words (load s) e bs r p = either_words (loadable s) (storing s) nothing (λ r p. written_word s bs (count_of s) r p) none_words r p

-- a number that is adopted is one that is offered
pressed_words : (s m : ℕ) (e : Entry) → e.offer < 4294967296 → Words (pressed s m e)
unfolding pressed Words
pressed_words s m e o =
    either_words (leb s 7 && room m) _ nothing
    (either_words (adopts s e) (adopting e.offer) (pressing s) (λ r p. either_word (eqb r 0) (some e.offer) none o tt) (λ r p. tt)) none_words

change_words : (c : Call) (n : ℕ) (ss : List ℕ) (k : ℕ) (e : Entry) → Bytes (start ▸ c) → Small e.ear.bytes → (k < n → e.offer < 4294967296) → Words (change c n ss k e)
unfolding change
change_words (new_head node serial) n ss k e bs s o = made_words n ss node serial k
change_words (byte b t x) n ss k e bs s o =
    either_words (room x) (hearing e (gather e.ear b t)) nothing (hearing_words e (gather e.ear b t) (gather_small e.ear b t s bs.1)) none_words
change_words (tick t) n ss k e bs s o = none_words
change_words (named j a) n ss k e bs s o = either_words (names n j k) (asked a e) nothing (asked_words a e bs.1) none_words
change_words (keys j x m) n ss k e bs s o = go (ltb j n) refl (eqb k j) refl
  where
    go : (p : Bool) → ltb j n ≡ p → (q : Bool) → eqb k j ≡ q → Words (cond (p && q) (pressed x m e) nothing)
    go true p true q = pressed_words x m e (o (rw (eqb-true k j q) (ltb-true j n p)))
    go true p false q = none_words
    go false p y q = none_words
change_words (dropped t) n ss k e bs s o = none_words

look_word : (o : Option ℕ) (v : ℕ) → Word o → v < 4294967296 → look o v < 4294967296
unfolding look
look_word none v p q = q
look_word (some w) v p q = p

-- without a premise on the bytes this is false: a byte of 256 carries past the word
pub value_small : (cs : Calls) → Bytes cs → (k r : ℕ) → r < 39 → value cs k r < 4294967296
unfolding account next Words delivered
value_small start bs k r p = elim (eqb r 0) as (λ b. cond b 31 (delivery (row_of r)) < 4294967296) [ true ↦ omega arith | false ↦ delivery_word r p ]
value_small (cs ▸ c) bs k r p =
    look_word ((change c (count cs) (serials cs) k (entry cs k)).gives r) (value cs k r)
    (change_words c (count cs) (serials cs) k (entry cs k) (tt, bs.1) (gathered_small cs k bs.0) (λ lt. omega (arith, (offer_small cs k lt).0)) r p) (value_small cs bs.0 k r p)
