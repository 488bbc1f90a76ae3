-- What is answered: each of the engine's answers, by the address, is the head's reply to what stands behind that address.
-- Assumes nothing.
use Rattle.std.specs.Prelude.{Some, None, Option}
use Prim.Native.Nat.{ℕ, ◌-◌, ◌≤◌}
use mathlib.Core.Path.{◌≡◌, refl, sym, ◌∙◌, ap, subst}
use mathlib.Core.Bool.{Bool, true, false, cond, and-eq-true_iff, true≢false}
use native.Mathlib.Omega.{arith}
use borrow.Author.Tests.{eqb-true, ne_eqb, leb-true}
use lib.Dec.{eqb, leb}
use lib.IntN.{ℤ}
use Rattle.wire.specs.declared.telegram.Telegram.{Telegram}
use Rattle.wire.specs.declared.fault.Fault.{Fault}
use Rattle.wire.specs.Word.{byte0}
use Rattle.wire.specs.Faults.{code_of}
use Rattle.signed.specs.Number.{word_of}
use Rattle.rows.specs.declared.kind.Kind.{Kind}
use Rattle.rows.specs.declared.kind.Kind.TheVariants.{WriteOnly, Unknown}
use Rattle.rows.specs.declared.kind.Order.TheVariants.{System, Calibration, Interlock, Freezing, Assignment}
use Rattle.rows.specs.Table.{rows, place_of, is_at}
use Rattle.rows.specs.Kinds.{other_of, kind_of}
use Rattle.judge.specs.declared.command.Command.{Command}
use Rattle.judge.specs.declared.verdict.Verdict.TheVariants.{Obeyed, Refused}
use Rattle.judge.specs.declared.deed.Deed.{Deed}
use Rattle.judge.specs.declared.deed.Deed.TheVariants.{Nothing, Withdraw}
use Rattle.judge.specs.Deeds.{shown_by}
use Rattle.state.specs.declared.parts.Head.{Head}
use Rattle.state.specs.Errors.{entry_of}
use Rattle.state.specs.Status.{status_of}
use Rattle.reply.specs.Word.{keeps_old, carried_of}
use Rattle.reply.specs.Reply.{input_of, position_word, read_of, said, error_reply}
use Rattle.head.specs.Hear.{stepped}
use Rattle.engine.specs.declared.Told.{Told}
use Rattle.engine.specs.Addresses.{the39, within, is_stored}
use Rattle.engine.specs.Shows.{value, current, differential, status}
use Rattle.engine.specs.Does.{offer, clear_static, release}
use Rattle.engine.specs.Way.{hearing, reply, complain, input_error}
use Rattle.engine.proofs.Shown.{current_is, differential_is, status_is}
use Rattle.engine.proofs.Addressed.{stored_is, place_is}
use Rattle.agreement.specs.Answers.{as_stepped}
use Rattle.agreement.proofs.Deeds.{after, nothing_after, refused_after, clear_after, release_after}

-- by the address: it is this one, or it is not
pub at_or : (P : ℕ → Type 0) (a k : ℕ) → P k → (eqb a k ≡ false → P a) → P a
at_or P a k here else-where = go (eqb a k) refl
  where
    go : (b : Bool) → eqb a k ≡ b → P a
    go true e = subst P (sym (eqb-true a k e)) here
    go false e = else-where e

-- none of the 39 is this address
pub not_stored : (a k : ℕ) → is_stored k ≡ false → is_stored a ≡ true → eqb a k ≡ false
not_stored a k out inside = go (eqb a k) refl
  where
    go : (b : Bool) → eqb a k ≡ b → eqb a k ≡ false
    go true e = absurd (true≢false (sym inside ∙ ap is_stored (eqb-true a k e) ∙ out))
    go false e = e

module _ (t : Telegram) (hit : ℕ) (h : Head) (at : ℕ) (c : Command) (k : Kind) where
  abbrev n : Head
  n = hearing hit at h

  abbrev done : Deed → Head
  done d = after t hit h at c k Obeyed d

  -- ---- a reply with the word of a head, and silence
  replied : (p v : ℕ) (shown shown' x x' : Head) → shown ≡ shown' → x ≡ x' → as_stepped (reply t p shown v x) ≡ stepped x' (said t p (status_of shown') v)
  unfolding reply said
  replied p v shown shown' x x' e f = rw (e, f, status_is shown')

  -- an error reply
  abbrev dropping : Fault → Bool → Head
  dropping f drops = after t hit h at c k (Refused f) (cond drops Withdraw Nothing)

  pub complained : (f : Fault) (drops : Bool)
      → as_stepped (complain t f (cond drops (offer 0 n) n)) ≡ stepped (dropping f drops) (error_reply t (carried_of (cond drops Withdraw Nothing) h (dropping f drops)) f)
  unfolding complain error_reply carried_of keeps_old
  complained f true = let e = refused_after t hit h at c k f true in replied 0xFD (code_of f) _ _ _ _ e e
  complained f false = let e = refused_after t hit h at c k f false in replied 0xFD (code_of f) _ _ _ _ e e

  -- ---- a read, by its address
  abbrev answer : ℕ → ℕ → Head → Told
  answer a v x = reply t a x v x

  abbrev read_at_of : ℕ → Told
  read_at_of a =
      cond (is_stored a) (answer a (value a h) n)
      (cond (eqb a 0x65) (answer a 11 n)
      (cond (eqb a 0x67) (answer a 100 n)
      (cond (eqb a 0x80) (answer a h.faults.memory.count n)
      (cond (within 0x81 0x8A a) (answer a (entry_of h.faults.memory (a - 0x81)) n)
      (cond (eqb a 0x96) (answer a (input_error h (byte0 t.value)) n)
      (cond (eqb a 0xFA) (reply t a h (status h) (clear_static n))
      (cond (eqb a 0xFB) (answer a h.targets.first n)
      (cond (eqb a 0xFC) (answer a (word_of (differential h h.targets.second)) n)
      (cond (eqb a 0xFD) (answer a h.faults.pending n)
      (cond (eqb a 0xFE) (answer a (word_of (cond h.measurement.frozen h.measurement.kept (current h))) (release n))
      (cond (eqb a 0xFF) (answer a h.targets.second n)
      (answer a 0 n))))))))))))

  unfoldable pub ReadAt : ℕ → Type 0
  ReadAt a =
      as_stepped (read_at_of a) ≡ stepped (done (shown_by a)) (said t a (carried_of (shown_by a) h (done (shown_by a))) (read_of (kind_of a) h t.value))

  plain : (a v : ℕ) → as_stepped (answer a v n) ≡ stepped (done Nothing) (said t a (status_of (done Nothing)) v)
  plain a v = let e = nothing_after t hit h at c k in replied a v _ _ _ _ e e

  read_stored : (a : ℕ) → is_stored a ≡ true → ReadAt a
  unfolding ReadAt kind_of read_of shown_by carried_of keeps_old the39
  read_stored a s = go (place_of a) refl
    where
      go : (p : Option ℕ) → place_of a ≡ p → ReadAt a
      go (Some i) e = rw (s, e, not_stored a 0xFA refl s, not_stored a 0xFE refl s, place_is a e) (plain a _)
      go None e = absurd (true≢false (sym s ∙ sym (stored_is a) ∙ ap is_at e))

  -- no other is one of the 39, and none of them stands behind it
  pub nowhere : (a : ℕ) → is_stored a ≡ false → kind_of a ≡ other_of a
  unfolding kind_of
  nowhere a s = go (place_of a) refl
    where
      go : (p : Option ℕ) → place_of a ≡ p → kind_of a ≡ other_of a
      go (Some i) e = absurd (true≢false (sym (ap is_at e) ∙ stored_is a ∙ s))
      go None e = rw e

  -- 81h to 8Ah: the errors in the memory
  read_error : (a : ℕ) → is_stored a ≡ false → within 0x81 0x8A a ≡ true → ReadAt a
  unfolding ReadAt other_of read_of shown_by carried_of keeps_old
  read_error a s w =
      let b = (and-eq-true_iff (leb 0x81 a) (leb a 0x8A)).0 w in
      let low : 0x81 ≤ a = leb-true 0x81 a b.0 in
      let high : a ≤ 0x8A = leb-true a 0x8A b.1 in
      rw (s, nowhere a s, ne_eqb a 0x65 (λ e. omega arith), ne_eqb a 0x67 (λ e. omega arith), ne_eqb a 0x80 (λ e. omega arith), w, ne_eqb a 0xFA (λ e. omega arith), ne_eqb a 0xFE (λ e. omega arith))
      (plain a _)

  -- the same with data that are equal
  pub replied_as : (p v v' : ℕ) (shown shown' x x' : Head) → v' ≡ v → shown ≡ shown' → x ≡ x' → as_stepped (reply t p shown v x) ≡ stepped x' (said t p (status_of shown') v')
  replied_as p v v' shown shown' x x' d e f = ap (λ (y : ℕ). as_stepped (reply t p shown y x)) (sym d) ∙ replied p v' shown shown' x x' e f

  -- what cannot be read shows 0
  unread : (b0 b1 b2 b3 b4 : Bool)
      → read_of (cond b0 (WriteOnly System) (cond b1 (WriteOnly Calibration) (cond b2 (WriteOnly Interlock) (cond b3 (WriteOnly Freezing) (cond b4 (WriteOnly Assignment) Unknown))))) h t.value ≡ 0
  unfolding read_of
  unread true b1 b2 b3 b4 = refl
  unread false true b2 b3 b4 = refl
  unread false false true b3 b4 = refl
  unread false false false true b4 = refl
  unread false false false false true = refl
  unread false false false false false = refl

  -- no other comes there
  read_rest : (a : ℕ) → is_stored a ≡ false → eqb a 0x65 ≡ false → eqb a 0x67 ≡ false → eqb a 0x80 ≡ false → within 0x81 0x8A a ≡ false → eqb a 0x96 ≡ false
      → eqb a 0xFA ≡ false → eqb a 0xFB ≡ false → eqb a 0xFC ≡ false → eqb a 0xFD ≡ false → eqb a 0xFE ≡ false → eqb a 0xFF ≡ false → ReadAt a
  unfolding ReadAt other_of shown_by carried_of keeps_old
  read_rest a s e65 e67 e80 e8A e96 eFA eFB eFC eFD eFE eFF =
      let e = nothing_after t hit h at c k in
      rw (nowhere a s, s, e65, e67, e80, e8A, e96, eFA, eFB, eFC, eFD, eFE, eFF)
      (replied_as a 0 _ _ _ _ _ (unread (eqb a 0xA0) (eqb a 0xA7) (eqb a 0xA8) (eqb a 0xAA) (eqb a 0xD2)) e e)

  -- from 96h on
  read_late : (a : ℕ) → is_stored a ≡ false → eqb a 0x65 ≡ false → eqb a 0x67 ≡ false → eqb a 0x80 ≡ false → within 0x81 0x8A a ≡ false → ReadAt a
  unfolding ReadAt kind_of place_of rows other_of read_of input_of position_word shown_by carried_of keeps_old the39
  read_late a s e65 e67 e80 e8A =
      at_or ReadAt a 0x96 (plain 0x96 (input_error h (byte0 t.value))) (λ e96.
      at_or ReadAt a 0xFA (replied_as 0xFA (status h) (status_of h) h h _ _ (status_is h) refl (clear_after t hit h at c k)) (λ eFA.
      at_or ReadAt a 0xFB (plain 0xFB h.targets.first) (λ eFB.
      at_or ReadAt a 0xFC (let e = nothing_after t hit h at c k in replied_as 0xFC _ _ _ _ _ _ (ap word_of (differential_is h h.targets.second)) e e) (λ eFC.
      at_or ReadAt a 0xFD (plain 0xFD h.faults.pending) (λ eFD.
      at_or ReadAt a 0xFE (let e = release_after t hit h at c k in replied_as 0xFE _ _ _ _ _ _ (ap (λ (v : ℤ). word_of (cond h.measurement.frozen h.measurement.kept v)) (current_is h)) e e) (λ eFE.
      at_or ReadAt a 0xFF (plain 0xFF h.targets.second) (λ eFF.
      read_rest a s e65 e67 e80 e8A e96 eFA eFB eFC eFD eFE eFF)))))))

  pub read_at : (a : ℕ) → ReadAt a
  unfolding ReadAt kind_of place_of rows other_of read_of shown_by carried_of keeps_old the39
  read_at a = go (is_stored a) refl
    where
      later : is_stored a ≡ false → eqb a 0x65 ≡ false → eqb a 0x67 ≡ false → eqb a 0x80 ≡ false → (b : Bool) → within 0x81 0x8A a ≡ b → ReadAt a
      later s e65 e67 e80 true w = read_error a s w
      later s e65 e67 e80 false w = read_late a s e65 e67 e80 w

      go : (b : Bool) → is_stored a ≡ b → ReadAt a
      go true s = read_stored a s
      go false s =
          at_or ReadAt a 0x65 (plain 0x65 11) (λ e65.
          at_or ReadAt a 0x67 (plain 0x67 100) (λ e67.
          at_or ReadAt a 0x80 (plain 0x80 h.faults.memory.count) (λ e80.
          later s e65 e67 e80 (within 0x81 0x8A a) refl)))
