-- Which status word a reply carries: what an obeyed telegram does keeps the word of before just where its fields say so. And what request (iii) says of
-- single replies.
-- Assumes nothing.
use Rattle.std.specs.Prelude.{Ok, is_some}
use Prim.Native.Nat.{ℕ, ◌<◌}
use native.Mathlib.Omega.{arith}
use mathlib.Core.Path.{◌≡◌, refl, sym, ◌∙◌}
use mathlib.Core.Bool.{Bool, true, false, cond, not, ◌&&◌, ◌||◌, and-false, or-false, true≢false}
use mathlib.Core.Logic.{◌≢◌}
use mathlib.Core.List.{List}
use borrow.Author.Tests.{eqb-true, eq-eqb}
use lib.Dec.{eqb}
use lib.ListN.{length, take}
use Rattle.wire.specs.declared.fault.Fault.{Fault}
use Rattle.wire.specs.declared.telegram.Telegram.{Telegram}
use Rattle.wire.specs.Check.{hit_of}
use Rattle.wire.specs.Telegram.{fields_of, ten_in}
use Rattle.signed.specs.Number.{word_of}
use Rattle.signed.proofs.Laws.{word_fits}
use Rattle.rows.specs.Table.{rows, place_of}
use Rattle.rows.specs.Kinds.{other_of, kind_of}
use Rattle.judge.specs.declared.command.Command.TheVariants.{Broadcast, Other}
use Rattle.judge.specs.declared.deed.Deed.{Deed}
use Rattle.judge.specs.declared.deed.Deed.TheVariants.{Nothing, ClearStatic, Release}
use Rattle.judge.specs.declared.judged.Judged.{Judged}
use Rattle.judge.specs.declared.verdict.Verdict.TheVariants.{Obeyed}
use Rattle.judge.specs.Commands.{command_of}
use Rattle.judge.specs.Deeds.{shown_by, done_by, out_of_range, refused_by, deed_of}
use Rattle.judge.specs.Judged.{judged_of}
use Rattle.judge.proofs.Laws.{obeyed_sound}
use Rattle.state.specs.declared.parts.Head.{Head}
use Rattle.state.specs.Bits.{bit_set}
use Rattle.state.specs.Status.{status_of}
use Rattle.state.proofs.Laws.{status_fits}
use Rattle.effects.specs.Measured.{measurement_by, released_of}
use Rattle.state.specs.Settings.{mode_place}
use Rattle.effects.specs.Stored.{stored_by}
use Rattle.effects.specs.Aimed.{targets_by, cleared_of}
use Rattle.effects.proofs.Turns.{turned_same}
use Rattle.reply.specs.Word.{keeps_old, carried_of}
use Rattle.reply.specs.Reply.{position_word, read_of, silence, value_reply, reply_of}
use Rattle.head.specs.Hear.{gathered_of, standing_of, restarts_of, told_of}
use Rattle.demands.specs.Run.{product}
use Rattle.demands.specs.Alone.{Taken, setting}
use Rattle.demands.specs.Every.{Copies, keeps_word, word_told, third}
use Rattle.demands.specs.Words.{Words}
use Rattle.demands.proofs.Bits.{bits}
use Rattle.demands.proofs.Answers.{obeys}
use Rattle.demands.proofs.Sorts.{Sort, value, system, interlock, assignment, other, sort_of, value_kind, first_kind, second_kind, system_kind, interlock_kind, assignment_kind, other_deed, first_nowhere, second_nowhere, value_apart, value_system}
use Rattle.demands.proofs.Telegram.{system_way}
use Rattle.demands.proofs.Telling.{either, judging, told, answered, said_told, heeded, read_says, reply_copies, told_counts, refused_told}

-- ---- what an obeyed read does, and what an obeyed write does
shown_keeps : (a : ℕ) → keeps_old (shown_by a) ≡ eqb a 0xFA
unfolding keeps_old shown_by
shown_keeps a = go (eqb a 0xFA) (eqb a 0xFE)
  where
    go : (x y : Bool) → keeps_old (cond x ClearStatic (cond y Release Nothing)) ≡ x
    go true y = refl
    go false true = refl
    go false false = refl

abbrev aims : ℕ → ℕ → Bool
aims a v = eqb a 0xFB || (eqb a 0xFF || (eqb a 0xA0 && eqb v 9))

done_keeps : (a v w : ℕ) → keeps_old (done_by (kind_of a) v w) ≡ aims a v
unfolding keeps_old done_by
done_keeps a v w = go (sort_of a)
  where
    go : Sort a → keeps_old (done_by (kind_of a) v w) ≡ aims a v
    go (value i e) = rw (value_kind a i e, value_apart a i 0xFB e first_nowhere, value_apart a i 0xFF e second_nowhere, value_system a i e)
    go (system e) = rw (e, system_kind) (system_way (λ d. keeps_old d ≡ eqb v 9) v (λ n. rw n) (λ n. rw n) (λ n. rw n) (λ n. sym n))
    go (interlock e) = rw (e, interlock_kind)
    go (assignment e) = rw (e, assignment_kind)
    go (other e p q r) = set (eqb a 0xFB) refl (eqb a 0xFF) refl
      where
        set : (x : Bool) → eqb a 0xFB ≡ x → (y : Bool) → eqb a 0xFF ≡ y → keeps_old (done_by (kind_of a) v w) ≡ aims a v
        set true x y z = rw (eqb-true a 0xFB x, first_kind)
        set false x true z = rw (eqb-true a 0xFF z, second_kind)
        set false x false z =
            rw (x, z, p)
            (other_deed (λ d. keeps_old d ≡ false) v w a e p q r refl (λ _. refl) (λ _. refl) (λ t. absurd (true≢false (sym t ∙ x))) (λ t. absurd (true≢false (sym t ∙ z))))

-- what is refused keeps nothing, nor do the fields of an error reply say so
refused_keeps : (f : Fault) (a : ℕ) → keeps_old (refused_by f a) ≡ false
unfolding keeps_old refused_by
refused_keeps f a = either (λ d. keeps_old d ≡ false) (out_of_range f && eqb a 0xD2) refl refl

error_new : (t : Telegram) → (eqb 0xFD t.parameter && keeps_word t) ≡ false
error_new t = go (eqb 0xFD t.parameter) refl
  where
    go : (x : Bool) → eqb 0xFD t.parameter ≡ x → (x && keeps_word t) ≡ false
    go true e = rw (← eqb-true 0xFD t.parameter e, and-false (eqb t.command 1), and-false (eqb t.command 0))
    go false e = refl

-- ---- an obeyed telegram that is answered is a read or a write
obeyed_keeps : (t : Telegram) (j : Judged) (h : Head) (word : ℕ) → j.command ≡ command_of t.command → is_some (value_reply j h word) ≡ true
    → keeps_old (deed_of Obeyed (command_of t.command) (kind_of t.parameter) t) ≡ keeps_word t
unfolding command_of deed_of value_reply silence
obeyed_keeps t j h word c r = go (eqb t.command 0) refl (eqb t.command 1) refl
  where
    quiet : (x : Bool) → j.command ≡ cond x Broadcast Other → is_some (value_reply j h word) ≡ false
    quiet true e = rw e
    quiet false e = rw e

    go : (x : Bool) → eqb t.command 0 ≡ x → (y : Bool) → eqb t.command 1 ≡ y
        → keeps_old (deed_of Obeyed (command_of t.command) (kind_of t.parameter) t) ≡ keeps_word t
    go true p y q = rw (eqb-true t.command 0 p) (shown_keeps t.parameter)
    go false p true q = rw (eqb-true t.command 1 q) (done_keeps t.parameter t.value t.word ∙ sym (or-false (aims t.parameter t.value)))
    go false p false q = absurd (true≢false (sym r ∙ quiet (eqb t.command 2) (rw (p, q) at c)))

shows_word : (h : Head) (v : ℕ) → read_of (kind_of 0xFA) h v ≡ status_of h
unfolding read_of kind_of place_of rows other_of
shows_word h v = refl

shows_kept : (h : Head) (v : ℕ) → h.measurement.frozen ≡ true → read_of (kind_of 0xFE) h v ≡ word_of h.measurement.kept
unfolding read_of kind_of place_of rows other_of position_word
shows_kept h v f = rw f

-- ---- over the byte call
module _ (h : Head) (b t : ℕ) (space : List ℕ) (k : Taken h space) (e : is_some (gathered_of h.ear b t).ten ≡ true)
    (one : (product.on_head.byte h b t (length space)).heard ≡ Ok 1) where
  abbrev asked : Telegram
  asked = fields_of (ten_in (gathered_of h.ear b t).ten)

  abbrev x : Telegram
  x = fields_of (take 10 (product.on_head.space h b t space))

  abbrev word : ℕ
  word = carried_of (judging h b t).deed h (told h b t)

  keeps_is : keeps_old (judging h b t).deed ≡ (eqb x.parameter asked.parameter && keeps_word asked)
  unfolding judged_of reply_of deed_of
  keeps_is =
      heeded h b t space k e one (keeps_old (judging h b t).deed ≡ (eqb x.parameter asked.parameter && keeps_word asked))
      (λ v own loud. rw (v, eq-eqb x.parameter asked.parameter own) (obeyed_keeps asked (judging h b t) h word refl loud))
      (λ f v. rw (v, (refused_told h b t space k e f v).1, error_new asked) (refused_keeps f asked.parameter))

  pub copies : Copies asked x (word_told asked x h (product.on_head.byte h b t (length space)).head)
  unfolding judged_of reply_of carried_of
  copies =
      let a = answered h b t space k e one in
      rw (obeys h b t space k e, ← keeps_is, a.1)
      (reply_copies (judging h b t).verdict (judging h b t) h word (carried_fits (judging h b t).deed) a.0)
    where
      carried_fits : (d : Deed) → carried_of d h (told h b t) < 65536
      carried_fits d = either (λ w. w < 65536) (keeps_old d) (status_fits h) (status_fits (told h b t))

  -- ---- what is said of single replies
  obeyed_is : x.parameter ≢ 0xFD → (judging h b t).verdict ≡ Obeyed
  obeyed_is n = heeded h b t space k e one ((judging h b t).verdict ≡ Obeyed) (λ v own loud. v) (λ f v. absurd (n (refused_told h b t space k e f v).1))

  -- an obeyed read shows the data of before
  reads : asked.command ≡ 0 → (judging h b t).verdict ≡ Obeyed
      → let data' = read_of (kind_of asked.parameter) h asked.value in data' < 4294967296 → x.value ≡ data'
  unfolding judged_of command_of
  reads c v small = (said_told h b t space k e _ v (read_says (judging h b t) h word (rw c))).2 small

  -- FAh clears the static bit, FEh releases
  cleared : asked.command ≡ 0 → asked.parameter ≡ 0xFA → (judging h b t).verdict ≡ Obeyed → (told h b t).targets.reached ≡ false
  unfolding judged_of deed_of command_of shown_by told_of restarts_of stored_by targets_by cleared_of
  cleared c p v = let is : (judging h b t).deed ≡ ClearStatic = rw (v, c, p) in rw (is, turned_same (setting h mode_place) (cleared_of h.targets))

  released : asked.command ≡ 0 → asked.parameter ≡ 0xFE → (judging h b t).verdict ≡ Obeyed → (told h b t).measurement.frozen ≡ false
  unfolding judged_of deed_of command_of shown_by told_of restarts_of measurement_by released_of
  released c p v = let is : (judging h b t).deed ≡ Release = rw (v, c, p) in rw is

  shows : asked.command ≡ 0 → asked.parameter ≡ 0xFA → x.parameter ≡ 0xFA
      → (x.value ≡ status_of h) × (x.word ≡ status_of h) × ((product.on_head.byte h b t (length space)).head.targets.reached ≡ false)
  shows c p q =
      let v = obeyed_is (λ n. omega (arith, sym q ∙ n)) in
      let is : read_of (kind_of asked.parameter) h asked.value ≡ status_of h = rw p (shows_word h asked.value) in
      (reads c v (rw is (omega (arith, status_fits h))) ∙ is, copies.word ∙ rw (c, p, q), rw (obeys h b t space k e) (cleared c p v))

  releases : asked.command ≡ 0 → asked.parameter ≡ 0xFE → x.parameter ≡ 0xFE
      → (h.measurement.frozen ≡ true → x.value ≡ word_of h.measurement.kept)
      × ((product.on_head.byte h b t (length space)).head.measurement.frozen ≡ false)
      × (bit_set x.word 8 ≡ false)
  releases c p q =
      let v = obeyed_is (λ n. omega (arith, sym q ∙ n)) in
      let after : x.word ≡ status_of (told h b t) = copies.word ∙ rw (c, p, q, obeys h b t space k e) in (
        λ f.
            let is : read_of (kind_of asked.parameter) h asked.value ≡ word_of h.measurement.kept = rw p (shows_kept h asked.value f) in
            reads c v (rw is (word_fits h.measurement.kept)) ∙ is,
        rw (obeys h b t space k e) (released c p v),
        rw after ((bits (told h b t)).bit8 ∙ released c p v),
      )

  damaged_error : hit_of (ten_in (gathered_of h.ear b t).ten) ≢ 0 → x.parameter ≡ 0xFD
  unfolding judged_of
  damaged_error n =
      heeded h b t space k e one (x.parameter ≡ 0xFD) (λ v own loud. absurd (n (obeyed_sound (hit_of (ten_in (gathered_of h.ear b t).ten)) asked (standing_of h) v)))
      (λ f v. (refused_told h b t space k e f v).1)

  raises : hit_of (ten_in (gathered_of h.ear b t).ten) ≢ 0 → bit_set x.word 7 ≡ (third h || not (eqb h.faults.pending 0))
  raises n =
      let after : x.word ≡ status_of (told h b t) = copies.word ∙ rw (damaged_error n, error_new asked, obeys h b t space k e) in
      rw after ((bits (told h b t)).bit7 ∙ rw (told_counts (ten_in (gathered_of h.ear b t).ten) h t n).pending (go (third h)))
    where
      go : (x : Bool) → not (eqb (cond x 0x0080 h.faults.pending) 0) ≡ (x || not (eqb h.faults.pending 0))
      go true = refl
      go false = refl

pub words : Words product
words = record { shows = shows; releases = releases; raises = raises }
