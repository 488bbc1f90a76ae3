-- Reading back: a head alone answers a sound read of one of the 39 at its number in force with the value that it has stored. Its ten byte
-- calls are ten steps, which come to one telegram told to it (Whole), and its verdict is to obey.
-- Assumes nothing.
use Prim.Native.Nat.{ℕ, suc, ◌<◌, ◌≤◌}
use mathlib.Core.Path.{◌≡◌, refl, sym, ◌∙◌, ap}
use mathlib.Core.Bool.{Bool, true, false}
use mathlib.Core.List.{List, [], ◌∷◌}
use native.Mathlib.Omega.{arith}
use borrow.Author.Tests.{le-ltb, eq-eqb, ne_eqb}
use lib.Dec.{eqb}
use lib.ListN.{length, take, drop}
use lib.Seq.{take_at}
use Rattle.std.specs.Prelude.{is_some}
use Rattle.wire.specs.Check.{hit_of}
use Rattle.wire.specs.Telegram.{fields_of, nine_of, bytes_of, ten_in}
use Rattle.wire.proofs.Laws.{word_bytes, built_sound}
use Rattle.rows.specs.declared.access.Access.TheVariants.{ReadWrite}
use Rattle.rows.specs.declared.kind.Kind.TheVariants.{Stored}
use Rattle.rows.specs.Table.{row_of, address}
use Rattle.rows.specs.Access.{access_of}
use Rattle.rows.specs.Kinds.{kind_of, group_of}
use Rattle.rows.proofs.Laws.{row_place, row_below}
use Rattle.rows.proofs.Groups.{group_agrees}
use Rattle.judge.specs.declared.command.Command.TheVariants.{Read}
use Rattle.judge.specs.declared.judged.Judged.{Judged}
use Rattle.judge.specs.declared.verdict.Verdict.TheVariants.{Obeyed}
use Rattle.judge.specs.Commands.{command_of}
use Rattle.judge.specs.Verdicts.{verdict_of}
use Rattle.judge.specs.Judged.{judged_of}
use Rattle.state.specs.declared.parts.Head.{Head}
use Rattle.state.specs.Settings.{value_at}
use Rattle.state.specs.Wellformed.{ear_fits, wellformed_of}
use Rattle.state.proofs.Laws.{told, holds}
use Rattle.state.specs.With.{with_ear}
use Rattle.effects.specs.Restart.{empty_ear}
use Rattle.reply.specs.Reply.{read_of, value_reply, reply_of}
use Rattle.reply.specs.Reply as reply
use Rattle.reply.specs.Word.{carried_of}
use Rattle.head.specs.Hear.{standing_of, told_of, tell_of, step_of}
use Rattle.head.specs.Calls.{laid_on_of, byte_of, byte_space_of}
use Rattle.head.proofs.Keeps.{step_fits}
use Rattle.head.proofs.Passes.{step_ten}
use Rattle.line.specs.Round.{said_by}
use Rattle.demands.specs.Calls.{Calls, Bytes}
use Rattle.demands.specs.Past.{count, value, in_force}
use Rattle.demands.specs.Run.{replied, answers, built, head_in}
use Rattle.demands.specs.Demand3.{Steady, ReadsBack}
use Rattle.demands.proofs.Sim.{sim}
use Rattle.demands.proofs.Range.{well_at, value_small}
use Rattle.demands.proofs.Whole.{said, whole}
use Rattle.demands.proofs.Sorts.{number_access}
use Rattle.demands.proofs.Telling.{read_obeyed}

-- ---- a sound read of one of the 39, at the number in force, is obeyed
row_kind : (r : ℕ) → r < 39 → kind_of (address (row_of r)) ≡ Stored r
unfolding kind_of
row_kind r lt = rw (row_place r lt)

row_access : (r : ℕ) → r < 39 → access_of (address (row_of r)) ≡ ReadWrite
row_access r lt = sym (group_agrees (address (row_of r)) (row_below r lt)) ∙ ap group_of (row_kind r lt)

not_number : (a : ℕ) → access_of a ≡ ReadWrite → eqb a 0x96 ≡ false
not_number a e = ne_eqb a 0x96 (λ q. let z : ◌≡◌ {A = ℕ} 0 1 = cc (number_access a (eq-eqb a 0x96 q)) in omega arith)

-- ---- so the head answers it with the value
read_said : (j : Judged) (h after : Head) {i : ℕ} → j.verdict ≡ Obeyed → j.command ≡ Read → j.kind ≡ Stored i
    → reply_of j h after ≡ reply.said j.telegram j.telegram.parameter (carried_of j.deed h after) (value_at h.stored.values i)
unfolding reply_of value_reply read_of
read_said j h after v c k = rw (v, c, k)

abbrev sent : ℕ → ℕ → ℕ → ℕ → List ℕ
sent f r word v = bytes_of (record { command = 0; node = f; parameter = address (row_of r); word = word; value = v })

module _ (h : Head) (f r v word data' t : ℕ) (lt : r < 39) (force_is : h.stored.number ≡ f) (value_is : value_at h.stored.values r ≡ v) where
  abbrev ten : List ℕ
  ten = sent f r word data'

  read_verdict : verdict_of (hit_of ten) (fields_of ten) (standing_of h) ≡ Obeyed
  unfolding fields_of bytes_of standing_of command_of
  read_verdict =
      rw (built_sound _)
      (read_obeyed (fields_of ten) (standing_of h) refl (eq-eqb f _ (sym force_is)) ReadWrite (row_access r lt) refl (rw (not_number (address (row_of r)) (row_access r lt))))

  abbrev told_word : ℕ
  told_word = let j = judged_of ten (standing_of h) in carried_of j.deed h (told_of j h t)

  read_told : said_by (tell_of h ten t) ≡ sent f r told_word v ∷ []
  unfolding tell_of judged_of fields_of bytes_of command_of reply.said
  read_told = rw (read_said (judged_of ten (standing_of h)) h _ read_verdict refl (row_kind r lt), value_is)

-- and the data of what it says are the value
sent_value : (f r word v : ℕ) → v < 4294967296 → (fields_of (sent f r word v)).value ≡ v
unfolding fields_of bytes_of
sent_value f r word v small = word_bytes v small

-- ---- the byte calls of a head that is well-formed, with ten bytes of space, are its steps
module _ (space : List ℕ) (wide : 10 ≤ length space) where
  pub call_said : (h : Head) (b t : ℕ) (x : Bool) → wellformed_of h ≡ true → is_some (step_of h b t).reply ≡ x
      → replied (byte_of h b t (length space)).heard (take 10 (byte_space_of h b t space)) ≡ said_by (step_of h b t)
  unfolding byte_of byte_space_of laid_on_of
  call_said h b t true w e = simp (w, le-ltb (length space) 10 wide, e, take_at (ten_in (step_of h b t).reply) (drop 10 space) 10 (step_ten h b t))
  call_said h b t false w e = simp (w, le-ltb (length space) 10 wide, e)

  pub call_fed : (h : Head) (b t : ℕ) → wellformed_of h ≡ true → (byte_of h b t (length space)).head ≡ (step_of h b t).head
  unfolding byte_of
  call_fed h b t w = simp (w, le-ltb (length space) 10 wide)

  pub calls_said : (bs : List ℕ) (τ : ℕ → ℕ) (i : ℕ) (h : Head) → wellformed_of h ≡ true → answers built bs τ i h space ≡ said bs τ i h
  calls_said [] τ i h w = refl
  calls_said (b ∷ bs) τ i h w =
      rw (call_said h b (τ i) (is_some (step_of h b (τ i)).reply) w refl, call_fed h b (τ i) w, calls_said bs τ (suc i) (step_of h b (τ i)).head (step_fits h b (τ i) w))

-- ---- ten bytes
module _ (h : Head) (f r v : ℕ) (lt : r < 39) (well : wellformed_of h ≡ true) (force_is : h.stored.number ≡ f)
    (value_is : value_at h.stored.values r ≡ v) (small : v < 4294967296) where
  abbrev none : Head
  none = with_ear h (empty_ear 0)

  none_well : wellformed_of none ≡ true
  unfolding ear_fits empty_ear
  none_well =
      let w = told h well in holds none (record { stored = w.stored; faults = w.faults; measurement = w.measurement; ear = refl; keys = w.keys })

  -- the one reply, word for word: a read's, with the value for its data
  pub read_sent : (τ : ℕ → ℕ) (word data' : ℕ) (space : List ℕ) → Steady τ → 10 ≤ length space
      → (w : ℕ) × (answers built (sent f r word data') τ 0 none space ≡ sent f r w v ∷ [])
  unfolding bytes_of empty_ear
  read_sent τ word data' space steady wide = (
    told_word none f r v word data' (τ 9) lt force_is value_is,
    calls_said space wide (sent f r word data') τ 0 none none_well
        ∙ (whole τ steady none refl refl (nine_of (record { command = 0; node = f; parameter = address (row_of r); word = word; value = data' })) _ refl).1
        ∙ read_told none f r v word data' (τ 9) lt force_is value_is,
  )

  pub read_back : ReadsBack built h f r v
  unfolding bytes_of fields_of empty_ear
  read_back =
      record {
        reads_back = λ τ word data' space steady wide.
            let x = read_sent τ word data' space steady wide in
            (sent f r x.0 v, x.1, record { passes = built_sound _; own = refl; shown = sent_value f r x.0 v small });
      }

-- what looking back finds is what is read back
pub now_sent : (cs : Calls) (k r : ℕ) → Bytes cs → k < count cs → r < 39 → (τ : ℕ → ℕ) (word data' : ℕ) (space : List ℕ) → Steady τ → 10 ≤ length space
    → (w : ℕ) × (answers built (sent (in_force cs k) r word data') τ 0 (built.emptied (head_in cs k)) space ≡ sent (in_force cs k) r w (value cs k r) ∷ [])
now_sent cs k r bytes kl rl =
    read_sent (head_in cs k) (in_force cs k) r (value cs k r) rl (well_at cs k kl) (sim cs k kl).force_is ((sim cs k kl).vals_are r rl) (value_small cs bytes k r rl)

pub now_back : (cs : Calls) (k r : ℕ) → Bytes cs → k < count cs → r < 39 → ReadsBack built (head_in cs k) (in_force cs k) r (value cs k r)
now_back cs k r bytes kl rl =
    read_back (head_in cs k) (in_force cs k) r (value cs k r) rl (well_at cs k kl) (sim cs k kl).force_is ((sim cs k kl).vals_are r rl) (value_small cs bytes k r rl)
