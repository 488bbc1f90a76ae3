-- What each question means, by its address: the checks compute there, and the lists of addresses are tested over all 256.
-- Assumes nothing.
use Rattle.std.specs.Prelude.{Some}
use Prim.Native.Nat.{ℕ, zero, suc, ◌-◌, ◌≤◌, ◌<◌}
use mathlib.Core.Path.{◌≡◌, refl, sym, ◌∙◌, ap}
use mathlib.Core.Bool.{Bool, true, false, cond, not, ◌&&◌, ◌||◌, and-eq-true_iff, and-false, and-true, true≢false}
use mathlib.Core.List.{List, [], ◌∷◌, map}
use native.Mathlib.Omega.{arith}
use borrow.Author.Tests.{eqb-true, eq-eqb, ltb-true, ltb-false, le-ltb}
use lib.Dec.{eqb, ltb}
use lib.IntN.{ℤ, pos, negsuc}
use lib.Signed.{lt_z, mag}
use lib.ListN.{get_or, take}
use lib.Seq.{get_or-take}
use Rattle.wire.specs.declared.telegram.Telegram.{Telegram}
use Rattle.wire.specs.declared.fault.Fault.TheVariants.{Locked}
use Rattle.wire.specs.Word.{byte0}
use Rattle.wire.specs.Telegram.{bytes_of, Fits}
use Rattle.wire.proofs.Laws.{built_sound, built_fields}
use Rattle.signed.specs.Number.{number_of, minus}
use Rattle.signed.proofs.Laws.{number_small}
use Rattle.rows.specs.declared.access.Access.{Access}
use Rattle.rows.specs.declared.access.Access.TheVariants.{ReadWrite, ReadOnly, WriteOnly, Unknown}
use Rattle.rows.specs.declared.range.Range.{Range}
use Rattle.rows.specs.declared.range.Range.TheVariants.{Right, Low, High, Between}
use Rattle.rows.specs.Table.{rows, row_of, address, place_of}
use Rattle.rows.specs.Among.{among}
use Rattle.rows.specs.Access.{access_of}
use Rattle.rows.specs.Kinds.{other_of, kind_of}
use Rattle.rows.proofs.Laws.{row_place}
use Rattle.rows.proofs.Groups.{is, key}
use Rattle.rows.proofs.Span.{each, in_span, is_true}
use Rattle.rows.specs.Ranges.{is_signed_of, reading_of, unlisted_of, between_of, range_in, other_row_of, range_of}
use Rattle.judge.specs.declared.verdict.Verdict.{Verdict}
use Rattle.judge.specs.declared.verdict.Verdict.TheVariants.{Obeyed, Refused}
use Rattle.judge.specs.declared.command.Command.TheVariants.{Write}
use Rattle.judge.specs.Commands.{command_of}
use Rattle.judge.proofs.Offers.{offer_range, assignment_of, assignment_is}
use Rattle.judge.specs.Checks.{◌else◌, sum_check, node_check, command_check, parameter_check, access_check, lockable_of, lock_check, state_check, range_check, value_check, number_check, hush_of}
use Rattle.judge.specs.Verdicts.{late_of, verdict_of}
use Rattle.judge.specs.Deeds.{deed_of}
use Rattle.judge.specs.Judged.{judged_as, judged_of}
use Rattle.state.specs.declared.parts.Head.{Head}
use Rattle.state.specs.declared.parts.ErrorList.{ErrorList}
use Rattle.state.specs.Settings.{value_at}
use Rattle.state.specs.Errors.{entry_of}
use Rattle.effects.specs.Stored.{locked_of}
use Rattle.reply.specs.Reply.{input_of, position_word, read_of, answer_of}
use Rattle.head.specs.Hear.{standing_of}
use Rattle.demands.specs.Past.{writable}
use Rattle.demands.specs.Alone.{entries}
use Rattle.demands.specs.Every.{readable}
use Rattle.demands.proofs.Telling.{read_obeyed}
use Rattle.master.specs.declared.Reading.{Reading}
use Rattle.master.specs.declared.Reading.TheVariants.{Value, Error}
use Rattle.master.proofs.Demands.{negated}
use Rattle.exchange.specs.Meant.{meant_by, meant_of}
use Rattle.exchange.specs.Addresses.{reads_at, writes_at, Row, shown, AllShow, Writes, within, within_signed, unlocked, Limit, limits, AllTake, the39, group_at, ByAddress}
use Rattle.exchange.proofs.Asked.{done_offers}

-- ---- how a value lies to its row decides check 7
abbrev lying : Range → ℕ → List Reading
lying Right v = Value v ∷ []
lying Low v = Error 0x0182 ∷ []
lying High v = Error 0x0282 ∷ []
lying Between v = Error 0x0082 ∷ []

-- ---- at the number in force checks 3 to 7 decide
module _ (p : ℕ) (h : Head) (word v : ℕ) where
  abbrev r : Telegram
  r = reads_at p h word v

  abbrev w : Telegram
  w = writes_at p h word v

  abbrev by : Telegram → Verdict → List Reading
  by q d = meant_by d (judged_as q (bytes_of q) d) h

  read_means : Fits r → meant_of r h ≡ by r (late_of r (standing_of h))
  unfolding meant_of judged_of verdict_of sum_check node_check ◌else◌ standing_of command_of
  read_means fits = rw (built_sound r, built_fields r fits, eq-eqb h.stored.number h.stored.number refl)

  write_means : Fits w → meant_of w h ≡ by w (late_of w (standing_of h))
  unfolding meant_of judged_of verdict_of sum_check node_check ◌else◌ standing_of command_of
  write_means fits = rw (built_sound w, built_fields w fits, eq-eqb h.stored.number h.stored.number refl)

  unknown_read : access_of p ≡ Unknown → Fits r → meant_of r h ≡ Error 0x0083 ∷ []
  unfolding late_of hush_of command_check parameter_check ◌else◌ command_of
  unknown_read a fits = read_means fits ∙ rw a

  unknown_write : access_of p ≡ Unknown → Fits w → meant_of w h ≡ Error 0x0083 ∷ []
  unfolding late_of hush_of command_check parameter_check ◌else◌ command_of
  unknown_write a fits = write_means fits ∙ rw a

  refused_write : access_of p ≡ ReadOnly → Fits w → meant_of w h ≡ Error 0x0184 ∷ []
  unfolding late_of hush_of command_check parameter_check access_check ◌else◌ command_of
  refused_write a fits = write_means fits ∙ rw a

  refused_read : access_of p ≡ WriteOnly → Fits r → meant_of r h ≡ Error 0x0284 ∷ []
  unfolding late_of hush_of command_check parameter_check access_check ◌else◌ command_of
  refused_read a fits = read_means fits ∙ rw a

  -- a read of what may be read: 96h looks at its number
  shown_read : readable (access_of p) ≡ true → (eqb p 0x96 && ltb h.faults.inputs.count (byte0 v)) ≡ false → Fits r
      → meant_of r h ≡ Value (read_of (kind_of p) h v) ∷ []
  unfolding meant_of judged_of command_of standing_of
  shown_read a n fits =
      rw (built_sound r, built_fields r fits, read_obeyed r (standing_of h) refl (eq-eqb h.stored.number h.stored.number refl) (access_of p) refl a n)

  -- a write of what may be written, but for D2h
  late_write : eqb p 0xD2 ≡ false → (x : Bool) (g : Range)
      → by w (cond x (Refused Locked) Obeyed else Obeyed else range_check g else Obeyed) ≡ cond x (Error 0x0385 ∷ []) (lying g (answer_of p h v))
  unfolding ◌else◌ range_check command_of deed_of
  late_write d true g = refl
  late_write d false Right = rw (done_offers p v word, d)
  late_write d false Low = refl
  late_write d false High = refl
  late_write d false Between = refl

  ordered : (x : Access) → access_of p ≡ x → writable x ≡ true → eqb p 0xD2 ≡ false → eqb p 0x96 ≡ false → Fits w
      → meant_of w h ≡ cond (locked_of h.stored && lockable_of p) (Error 0x0385 ∷ []) (lying (range_of p v) (answer_of p h v))
  unfolding late_of hush_of command_check parameter_check access_check lock_check state_check range_check value_check number_check ◌else◌ command_of standing_of deed_of
  ordered WriteOnly a m d n fits = write_means fits ∙ rw (a, d, n) (late_write d (locked_of h.stored && lockable_of p) (range_of p v))
  ordered ReadWrite a m d n fits = write_means fits ∙ rw (a, d, n) (late_write d (locked_of h.stored && lockable_of p) (range_of p v))
  ordered ReadOnly a m d n fits = absurd (true≢false (sym m))
  ordered Unknown a m d n fits = absurd (true≢false (sym m))

first_same : {A : Type 0} {x y : A} {xs ys : List A} → (x ∷ xs) ≡ (y ∷ ys) → x ≡ y
first_same e = cc

rest_same : {A : Type 0} {x y : A} {xs ys : List A} → (x ∷ xs) ≡ (y ∷ ys) → xs ≡ ys
rest_same e = cc

-- how a value lies to a low and a high limit
lies : (v low high : ℕ) (skipped : Bool)
    → lying (cond (ltb v low) Low (cond (ltb high v) High (cond skipped Between Right))) v ≡ within low high v (cond skipped (Error 0x0082) (Value v))
lies v low high skipped = go (ltb v low) (ltb high v) skipped
  where
    go : (a b c : Bool) → lying (cond a Low (cond b High (cond c Between Right))) v
        ≡ cond a (Error 0x0182 ∷ []) (cond b (Error 0x0282 ∷ []) (cond c (Error 0x0082) (Value v) ∷ []))
    go true b c = refl
    go false true c = refl
    go false false true = refl
    go false false false = refl

-- ---- what is shown: each address may be read, is not 96h, and has its row's data behind it
abbrev plain : List Row → Bool
plain [] = true
plain (r ∷ rs) = (readable (access_of r.address) && not (eqb r.address 0x96)) && plain rs

abbrev behind : List Row → Head → ℕ → List ℕ
behind rs h v = map (λ r. read_of (kind_of r.address) h v) rs

all_show : (rs : List Row) → plain rs ≡ true → ((h : Head) (v : ℕ) → behind rs h v ≡ map (λ r. r.shows h) rs) → AllShow rs
all_show [] e same = tt
all_show (r ∷ rs) e same =
    let both = (and-eq-true_iff (readable (access_of r.address) && not (eqb r.address 0x96)) _).0 e in
    let may = (and-eq-true_iff (readable (access_of r.address)) _).0 both.0 in (
      λ h word v fits.
          shown_read r.address h word v may.0 (rw (negated (eqb r.address 0x96) may.1)) fits ∙ ap (λ (x : ℕ). Value x ∷ []) (first_same (same h v)),
      all_show rs both.1 (λ h v. rest_same (same h v)),
    )

shown_plain : plain shown ≡ true
unfolding access_of rows
shown_plain = refl

-- an entry of a list of errors; past the count there is none
past_count : (n : ℕ) (xs : List ℕ) (i : ℕ) → n ≤ i → get_or (take n xs) i 0 ≡ 0
past_count zero xs i p = refl
past_count (suc n) [] i p = refl
past_count (suc n) (x ∷ xs) zero p = absurd (omega arith)
past_count (suc n) (x ∷ xs) (suc i) p = past_count n xs i (omega arith)

entry_is : (l : ErrorList) (i : ℕ) → entry_of l i ≡ get_or (entries l) i 0
unfolding entry_of
entry_is l i = go (ltb i l.count) refl
  where
    go : (b : Bool) → ltb i l.count ≡ b → cond b (get_or l.codes i 0) 0 ≡ get_or (take l.count l.codes) i 0
    go true e = sym (get_or-take l.count l.codes i 0 (ltb-true i l.count e))
    go false e = sym (past_count l.count l.codes i (ltb-false i l.count e))

shown_behind : (h : Head) (v : ℕ) → behind shown h v ≡ map (λ r. r.shows h) shown
unfolding rows place_of other_of kind_of read_of position_word
shown_behind h v = simp entry_is

inputs : (h : Head) (word v : ℕ) → Fits (reads_at 0x96 h word v)
    → meant_of (reads_at 0x96 h word v) h ≡ cond (ltb h.faults.inputs.count (byte0 v)) (Error 0x0282 ∷ []) (Value (input_of h.faults.inputs (byte0 v)) ∷ [])
unfolding access_of rows place_of other_of kind_of read_of late_of hush_of command_check parameter_check access_check lock_check state_check value_check number_check ◌else◌ command_of standing_of
inputs h word v fits = go (ltb h.faults.inputs.count (byte0 v)) refl
  where
    go : (n : Bool) → ltb h.faults.inputs.count (byte0 v) ≡ n
        → meant_of (reads_at 0x96 h word v) h ≡ cond n (Error 0x0282 ∷ []) (Value (input_of h.faults.inputs (byte0 v)) ∷ [])
    go true n = read_means 0x96 h word v fits ∙ rw (n, and-false (locked_of h.stored))
    go false n = shown_read 0x96 h word v refl n fits

-- ---- the groups are those of the lists
grouped : (p : ℕ) → p < 256 → group_at p ≡ access_of p
unfolding access_of rows
grouped p small = key (group_at p) (p ∷ []) (in_span (λ k. each (is (group_at k)) (k ∷ [])) 0 256 tt p (omega arith) (omega arith)) p refl

-- one of the 39 may be written, is lockable, and is none of D2h, 96h and FFh
record Stored (p : ℕ) : Type 0 where
  may : access_of p ≡ ReadWrite
  lockable : lockable_of p ≡ true
  not_d2 : eqb p 0xD2 ≡ false
  not_96 : eqb p 0x96 ≡ false
  not_ff : eqb p 0xFF ≡ false

follows : (a b : Bool) → (not a || b) ≡ true → a ≡ true → b ≡ true
follows true b h e = h
follows false b h e = absurd (true≢false (sym e))

abbrev apart : ℕ → Bool
apart k = lockable_of k && (not (eqb k 0xD2) && (not (eqb k 0x96) && not (eqb k 0xFF)))

one_stored : (p : ℕ) → p < 256 → among the39 p ≡ true → Stored p
unfolding lockable_of rows
one_stored p small e =
    let t = is_true (not (among the39 p) || apart p) (in_span (λ k. not (among the39 k) || apart k) 0 256 tt p (omega arith) (omega arith)) in
    let a = follows (among the39 p) (apart p) t e in
    let b = (and-eq-true_iff (lockable_of p) _).0 a in
    let c = (and-eq-true_iff (not (eqb p 0xD2)) _).0 b.1 in
    let d = (and-eq-true_iff (not (eqb p 0x96)) _).0 c.1 in
    record {
      may = sym (grouped p small) ∙ rw e;
      lockable = b.0;
      not_d2 = negated (eqb p 0xD2) c.0;
      not_96 = negated (eqb p 0x96) d.0;
      not_ff = negated (eqb p 0xFF) d.1;
    }

listed : (r : ℕ) → r < 39 → among the39 (get_or the39 r 0) ≡ true
listed r lt = is_true (among the39 (get_or the39 r 0)) (in_span (λ k. among the39 (get_or the39 k 0)) 0 39 tt r (omega arith) lt)

-- by how its value lies
sets : (p : ℕ) → among the39 p ≡ true → (means : ℕ → List Reading) → ((v : ℕ) → lying (range_of p v) v ≡ means v) → Writes p (unlocked means)
unfolding answer_of locked_of
sets p e means is h word v fits =
    let s = one_stored p fits.parameter e in
    ordered p h word v ReadWrite s.may refl s.not_d2 s.not_96 fits ∙ rw (s.lockable, and-true (locked_of h.stored), s.not_ff, is v)

-- the limits are those of the rows: for each the range computes
abbrev ranges : List Limit → ℕ → List Range
ranges ls v = map (λ l. range_of l.address v) ls

abbrev lain : Limit → ℕ → Range
lain l v = cond (ltb v l.low) Low (cond (ltb l.high v) High Right)

abbrev all_stored : List Limit → Bool
all_stored [] = true
all_stored (l ∷ ls) = among the39 l.address && all_stored ls

all_take : (ls : List Limit) → all_stored ls ≡ true → ((v : ℕ) → ranges ls v ≡ map (λ l. lain l v) ls) → AllTake ls
all_take [] e same = tt
all_take (l ∷ ls) e same =
    let both = (and-eq-true_iff (among the39 l.address) _).0 e in (
      sets l.address both.0 (λ v. within l.low l.high v (Value v)) (λ v. ap (λ (g : Range). lying g v) (first_same (same v)) ∙ lies v l.low l.high false),
      all_take ls both.1 (λ v. rest_same (same v)),
    )

limits_stored : all_stored limits ≡ true
limits_stored = refl

limits_are : (v : ℕ) → ranges limits v ≡ map (λ l. lain l v) limits
unfolding range_of range_in between_of reading_of is_signed_of unlisted_of rows place_of row_of
limits_are v = refl

-- of a number with a sign
lies_signed : (v : ℕ) (low high : ℤ)
    → lying (cond (lt_z (number_of v) low) Low (cond (lt_z high (number_of v)) High (cond false Between Right))) v ≡ within_signed low high v
lies_signed v low high = go (lt_z (number_of v) low) (lt_z high (number_of v))
  where
    go : (a b : Bool) → lying (cond a Low (cond b High Right)) v ≡ cond a (Error 0x0182 ∷ []) (cond b (Error 0x0282 ∷ []) (Value v ∷ []))
    go true b = refl
    go false true = refl
    go false false = refl

-- the address at each place, what stands behind it, and that it may be read
place_is : (r : ℕ) → r < 39 → get_or the39 r 0 ≡ address (row_of r)
unfolding rows row_of
place_is r lt = eqb-true _ _ (is_true (eqb (get_or the39 r 0) (address (row_of r))) (in_span (λ k. eqb (get_or the39 k 0) (address (row_of k))) 0 39 tt r (omega arith) lt))

keeps : (r : ℕ) → r < 39 → (h : Head) (word v : ℕ) → Fits (reads_at (get_or the39 r 0) h word v)
    → meant_of (reads_at (get_or the39 r 0) h word v) h ≡ Value (value_at h.stored.values r) ∷ []
unfolding kind_of read_of
keeps r lt h word v fits =
    let p = get_or the39 r 0 in
    let at : place_of p ≡ Some r = ap place_of (place_is r lt) ∙ row_place r lt in
    let s = one_stored p fits.parameter (listed r lt) in
    shown_read p h word v (rw s.may) (rw s.not_96) fits ∙ rw at

-- ---- a write of D2h
late_assigns : (h : Head) (word v : ℕ) → late_of (writes_at 0xD2 h word v) (standing_of h) ≡ assignment_of Write (eqb h.stored.number 31) (offer_range v)
unfolding verdict_of sum_check node_check ◌else◌ standing_of command_of
late_assigns h word v =
    rw (eq-eqb h.stored.number h.stored.number refl) at (assignment_is 0 (writes_at 0xD2 h word v) (standing_of h) refl)

assigns : (h : Head) (word v : ℕ) → Fits (writes_at 0xD2 h word v)
    → meant_of (writes_at 0xD2 h word v) h
    ≡ cond (eqb h.stored.number 31) (cond (ltb v 1) (Error 0x0182 ∷ []) (cond (ltb 31 v) (Error 0x0282 ∷ []) [])) (Error 0x0085 ∷ [])
unfolding range_check command_of deed_of
assigns h word v fits =
    write_means 0xD2 h word v fits
    ∙ ap (by 0xD2 h word v (writes_at 0xD2 h word v)) (late_assigns h word v)
    ∙ go (eqb h.stored.number 31) (ltb v 1) (ltb 31 v)
  where
    go : (delivered low high : Bool)
        → by 0xD2 h word v (writes_at 0xD2 h word v) (assignment_of Write delivered (cond low Low (cond high High Right)))
        ≡ cond delivered (cond low (Error 0x0182 ∷ []) (cond high (Error 0x0282 ∷ []) [])) (Error 0x0085 ∷ [])
    go false low high = refl
    go true true high = refl
    go true false true = refl
    go true false false = rw (done_offers 0xD2 v word)

-- ---- any 32 bits: as a number without a sign, and with one
first_right_lem : (v : ℕ) → v < 4294967296 → range_of 0xFB v ≡ Right
unfolding range_of range_in other_row_of between_of reading_of is_signed_of unlisted_of rows place_of
first_right_lem v small = rw (le-ltb v 0 (omega arith), le-ltb 4294967295 v (omega arith))

second_right : (v : ℕ) → v < 4294967296 → range_of 0xFF v ≡ Right
unfolding range_of range_in other_row_of between_of reading_of is_signed_of unlisted_of rows place_of
second_right v small = go (number_of v) (number_small v small)
  where
    go : (z : ℤ) → mag z < 2147483648 → cond (lt_z z (minus 2147483648)) Low (cond (lt_z (pos 2147483647) z) High Right) ≡ Right
    go (pos n) m = rw (le-ltb 2147483647 n (omega arith))
    go (negsuc n) m = rw (le-ltb 2147483647 n (omega arith))

pub by_address : ByAddress
unfolding access_of rows place_of lockable_of range_of range_in other_row_of between_of reading_of is_signed_of unlisted_of input_of locked_of answer_of row_of
by_address =
    record {
      keeps = keeps;
      reads = all_show shown shown_plain shown_behind;
      inputs = λ h word v fits. inputs h word v fits ∙ rw (entry_is h.faults.inputs (byte0 v - 1));
      calibrates = λ h word v fits. ordered 0xA7 h word v WriteOnly refl refl refl refl fits ∙ rw (and-false (locked_of h.stored)) (lies v 1 1 false);
      unlocks = λ h word v fits. ordered 0xA8 h word v WriteOnly refl refl refl refl fits ∙ rw (and-false (locked_of h.stored)) (lies v 0 1 false);
      freezes = λ h word v fits. ordered 0xAA h word v WriteOnly refl refl refl refl fits ∙ rw (and-false (locked_of h.stored)) (lies v 1 1 false);
      orders = λ h word v fits. ordered 0xA0 h word v WriteOnly refl refl refl refl fits ∙ rw (and-true (locked_of h.stored), lies v 1 9 (among (3 ∷ 4 ∷ 6 ∷ []) v));
      unknown = λ p a h word v. (
        λ fits. unknown_read p h word v (sym (grouped p fits.parameter) ∙ a) fits,
        λ fits. unknown_write p h word v (sym (grouped p fits.parameter) ∙ a) fits,
      );
      unwritable = λ p a h word v fits. refused_write p h word v (sym (grouped p fits.parameter) ∙ a) fits;
      unreadable = λ p a h word v fits. refused_read p h word v (sym (grouped p fits.parameter) ∙ a) fits;
      sets = all_take limits limits_stored limits_are;
      sets_1_e = sets 0x1E refl (within_signed (minus 19999) (pos 19999)) (λ v. lies_signed v (minus 19999) (pos 19999));
      sets_1_f = sets 0x1F refl (within_signed (minus 19999) (pos 99999)) (λ v. lies_signed v (minus 19999) (pos 99999));
      sets_3_e = sets 0x3E refl (λ v. within 0 2 v (cond (eqb v 1) (Error 0x0082) (Value v))) (λ v. lies v 0 2 (eqb v 1));
      aims1 = λ h word v fits. ordered 0xFB h word v ReadWrite refl refl refl refl fits ∙ rw (and-false (locked_of h.stored), first_right_lem v fits.value);
      assigns = assigns;
      aims2 = λ h word v fits. ordered 0xFF h word v ReadWrite refl refl refl refl fits ∙ rw (and-false (locked_of h.stored), second_right v fits.value);
    }
