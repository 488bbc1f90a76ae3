-- What a write or a broadcast comes to: by the address, the engine's answer is the head's reply to the deed that stands behind that address.
-- Assumes nothing.
use Rattle.std.specs.Prelude.{Some, None, Option}
use Prim.Native.Nat.{ℕ}
use mathlib.Core.Path.{◌≡◌, refl, sym, ◌∙◌, ap}
use mathlib.Core.Bool.{Bool, true, false, cond, not, ◌&&◌, true≢false}
use lib.Dec.{eqb}
use Rattle.wire.specs.declared.telegram.Telegram.{Telegram}
use Rattle.rows.specs.declared.kind.Kind.{Kind}
use Rattle.rows.specs.declared.kind.Kind.TheVariants.{WriteOnly}
use Rattle.rows.specs.declared.kind.Order.{Order}
use Rattle.rows.specs.declared.kind.Order.TheVariants.{System, Calibration, Interlock, Freezing, Assignment}
use Rattle.rows.specs.Table.{rows, place_of, is_at}
use Rattle.rows.specs.Kinds.{other_of, kind_of}
use Rattle.rows.proofs.Groups.{order_at, other_has}
use Rattle.judge.specs.declared.command.Command.{Command}
use Rattle.judge.specs.declared.verdict.Verdict.TheVariants.{Obeyed}
use Rattle.judge.specs.declared.deed.Deed.{Deed}
use Rattle.judge.specs.declared.deed.Deed.TheVariants.{Nothing, Store, Reset, Restart, Calibrate, Forget, Unlock, Freeze, Aim1, Aim2, Offer}
use Rattle.judge.specs.Deeds.{done_by, system_of}
use Rattle.state.specs.declared.parts.Head.{Head}
use Rattle.state.specs.Status.{status_of}
use Rattle.reply.specs.Word.{keeps_old, carried_of}
use Rattle.reply.specs.Reply.{answer_of, silence, said}
use Rattle.head.specs.declared.hear.Stepped.{Stepped}
use Rattle.head.specs.Hear.{stepped}
use Rattle.engine.specs.declared.Told.{Told}
use Rattle.engine.specs.Addresses.{the39, place, is_stored}
use Rattle.engine.specs.Does.{store, reset, unlock, offer, calibrate, freeze, forget_errors, aim_first, aim_second, restart}
use Rattle.engine.specs.Way.{hearing, silent, reply, response}
use Rattle.engine.proofs.Shown.{current_is, differential_is}
use Rattle.engine.proofs.Addressed.{stored_is, place_is}
use Rattle.agreement.specs.Answers.{as_stepped}
use Rattle.agreement.proofs.Deeds.{after, nothing_after, unlock_after, offer_after, calibrate_after, freeze_after, forget_after, restart_after, first_after, second_after, store_after, reset_after}
use Rattle.agreement.proofs.Replies.{at_or, not_stored, nowhere, replied_as}

module _ (t : Telegram) (hit : ℕ) (h : Head) (at : ℕ) (c : Command) (k : Kind) (writes : Bool) where
  abbrev n : Head
  n = hearing hit at h

  abbrev done : Deed → Head
  done d = after t hit h at c k Obeyed d

  -- ---- answered where it is a write: with the word of after, or of before, as the deed has it
  abbrev saying : ℕ → Head → ℕ → Head → Told
  saying p shown v x = cond writes (reply t p shown v x) (silent x)

  abbrev told : ℕ → Deed → Bool → ℕ → Stepped
  told p d offers v = stepped (done d) (cond (writes && not offers) (said t p (carried_of d h (done d)) v) silence)

  said_as : (p v v' : ℕ) (shown shown' x : Head) (d : Deed) → v' ≡ v → shown ≡ shown' → x ≡ done d → carried_of d h (done d) ≡ status_of shown'
      → as_stepped (saying p shown v x) ≡ told p d false v'
  unfolding silent silence
  said_as p v v' shown shown' x d e f g w = go writes
    where
      go : (b : Bool) → as_stepped (cond b (reply t p shown v x) (silent x)) ≡ stepped (done d) (cond (b && true) (said t p (carried_of d h (done d)) v') silence)
      go true = rw w (replied_as t hit h at c k p v v' shown shown' x (done d) e f g)
      go false = rw g

  -- the two ways
  newly : (p v v' : ℕ) (x : Head) (d : Deed) → v' ≡ v → x ≡ done d → keeps_old d ≡ false → as_stepped (saying p x v x) ≡ told p d false v'
  unfolding carried_of
  newly p v v' x d e g w = said_as p v v' x (done d) x d e g g (rw w)

  oldly : (p v v' : ℕ) (x : Head) (d : Deed) → v' ≡ v → x ≡ done d → keeps_old d ≡ true → as_stepped (saying p h v x) ≡ told p d false v'
  unfolding carried_of
  oldly p v v' x d e g w = said_as p v v' h h x d e refl g (rw w)

  -- an offer is remembered without a reply
  offered : as_stepped (silent (offer t.value n)) ≡ told 0xD2 (Offer t.value) true t.value
  unfolding silent silence
  offered = rw (offer_after t hit h at c k t.value) (go writes)
    where
      go : (b : Bool) → as_stepped (silent (done (Offer t.value))) ≡ stepped (done (Offer t.value)) (cond (b && false) (said t 0xD2 (carried_of (Offer t.value) h (done (Offer t.value))) t.value) silence)
      go true = refl
      go false = refl

  -- ---- by its address
  abbrev system_at : ℕ → Told
  system_at a =
      cond (eqb t.value 7) (saying a (calibrate n) t.value (calibrate n))
      (cond (eqb t.value 8) (saying a (forget_errors n) t.value (forget_errors n))
      (cond (eqb t.value 9) (saying a h t.value (restart n)) (saying a (reset t.value n) t.value (reset t.value n))))

  abbrev doing : ℕ → Head → Told
  doing a x = saying a x t.value x

  abbrev write_at : ℕ → Told
  write_at a =
      cond (is_stored a) (doing a (store a t.value n))
      (cond (eqb a 0xA0) (system_at a)
      (cond (eqb a 0xA7) (doing a (calibrate n))
      (cond (eqb a 0xA8) (doing a (unlock (eqb t.value 1) n))
      (cond (eqb a 0xAA) (doing a (freeze n))
      (cond (eqb a 0xD2) (silent (offer t.value n))
      (cond (eqb a 0xFB) (saying a h t.value (aim_first t.value t.word n))
      (cond (eqb a 0xFF) (saying a h (response t h) (aim_second t.value t.word n))
      (doing a n))))))))

  unfoldable pub WriteAt : ℕ → Type 0
  WriteAt a = as_stepped (write_at a) ≡ told a (done_by (kind_of a) t.value t.word) (eqb a 0xD2) (answer_of a h t.value)

  write_stored : (a : ℕ) → is_stored a ≡ true → WriteAt a
  unfolding WriteAt kind_of done_by answer_of keeps_old the39
  write_stored a s = go (place_of a) refl
    where
      go : (p : Option ℕ) → place_of a ≡ p → WriteAt a
      go (Some i) e =
          rw (s, e, not_stored a 0xD2 refl s, not_stored a 0xFF refl s, ← place_is a e)
          (newly a t.value t.value _ (Store (place a) t.value) refl (store_after t hit h at c k a t.value) refl)
      go None e = absurd (true≢false (sym s ∙ sym (stored_is a) ∙ ap is_at e))

  write_system : WriteAt 0xA0
  unfolding WriteAt kind_of place_of rows other_of done_by system_of answer_of keeps_old the39
  write_system = go (eqb t.value 7) (eqb t.value 8) (eqb t.value 9)
    where
      go : (a b e : Bool)
          → as_stepped
          (cond a (doing 0xA0 (calibrate n)) (cond b (doing 0xA0 (forget_errors n)) (cond e (saying 0xA0 h t.value (restart n)) (doing 0xA0 (reset t.value n)))))
          ≡ told 0xA0 (cond a Calibrate (cond b Forget (cond e Restart (Reset t.value)))) false t.value
      go true b e = newly 0xA0 _ _ _ Calibrate refl (calibrate_after t hit h at c k) refl
      go false true e = newly 0xA0 _ _ _ Forget refl (forget_after t hit h at c k) refl
      go false false true = oldly 0xA0 _ _ _ Restart refl (restart_after t hit h at c k) refl
      go false false false = newly 0xA0 _ _ _ (Reset t.value) refl (reset_after t hit h at c k t.value) refl

  -- FFh is answered by 03h
  response_is : answer_of 0xFF h t.value ≡ response t h
  unfolding answer_of place the39
  response_is = rw (current_is h, differential_is h t.value)

  -- no other comes there
  nothing_done : (a : ℕ) → eqb a 0xA0 ≡ false → eqb a 0xA7 ≡ false → eqb a 0xA8 ≡ false → eqb a 0xAA ≡ false → eqb a 0xD2 ≡ false → eqb a 0xFB ≡ false → eqb a 0xFF ≡ false
      → done_by (other_of a) t.value t.word ≡ Nothing
  unfolding done_by
  nothing_done a eA0 eA7 eA8 eAA eD2 eFB eFF =
      other_has (λ x. done_by x t.value t.word ≡ Nothing) a
      (λ e. absurd (true≢false (sym e ∙ eFB))) (λ e. absurd (true≢false (sym e ∙ eFF))) (λ s. refl) order refl
    where
      order : (o : Order) → eqb a (order_at o) ≡ true → done_by (WriteOnly o) t.value t.word ≡ Nothing
      order System e = absurd (true≢false (sym e ∙ eA0))
      order Calibration e = absurd (true≢false (sym e ∙ eA7))
      order Interlock e = absurd (true≢false (sym e ∙ eA8))
      order Freezing e = absurd (true≢false (sym e ∙ eAA))
      order Assignment e = absurd (true≢false (sym e ∙ eD2))

  write_rest : (a : ℕ) → is_stored a ≡ false → eqb a 0xA0 ≡ false → eqb a 0xA7 ≡ false → eqb a 0xA8 ≡ false → eqb a 0xAA ≡ false → eqb a 0xD2 ≡ false → eqb a 0xFB ≡ false
      → eqb a 0xFF ≡ false → WriteAt a
  unfolding WriteAt answer_of keeps_old
  write_rest a s eA0 eA7 eA8 eAA eD2 eFB eFF =
      rw (nowhere t hit h at c k a s, nothing_done a eA0 eA7 eA8 eAA eD2 eFB eFF, s, eA0, eA7, eA8, eAA, eD2, eFB, eFF)
      (newly a t.value t.value n Nothing refl (nothing_after t hit h at c k) refl)

  pub write_at_lem : (a : ℕ) → WriteAt a
  unfolding WriteAt kind_of place_of rows other_of done_by answer_of keeps_old the39
  write_at_lem a = go (is_stored a) refl
    where
      go : (b : Bool) → is_stored a ≡ b → WriteAt a
      go true s = write_stored a s
      go false s =
          at_or WriteAt a 0xA0 write_system (λ eA0.
          at_or WriteAt a 0xA7 (newly 0xA7 _ _ _ Calibrate refl (calibrate_after t hit h at c k) refl) (λ eA7.
          at_or WriteAt a 0xA8 (newly 0xA8 _ _ _ (Unlock (eqb t.value 1)) refl (unlock_after t hit h at c k (eqb t.value 1)) refl) (λ eA8.
          at_or WriteAt a 0xAA (newly 0xAA _ _ _ Freeze refl (freeze_after t hit h at c k) refl) (λ eAA.
          at_or WriteAt a 0xD2 offered (λ eD2.
          at_or WriteAt a 0xFB (oldly 0xFB _ _ _ (Aim1 t.value t.word) refl (first_after t hit h at c k t.value t.word) refl) (λ eFB.
          at_or WriteAt a 0xFF (oldly 0xFF _ _ _ (Aim2 t.value t.word) response_is (second_after t hit h at c k t.value t.word) refl) (λ eFF.
          write_rest a s eA0 eA7 eA8 eAA eD2 eFB eFF)))))))
