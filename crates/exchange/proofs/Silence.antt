-- Who is silent: a built telegram draws a reply just where it is no broadcast, is for this head, and does not offer it a number that it may adopt. A
-- telegram for this head that is no broadcast passes every check or is refused by one; the checks of D2h compute.
-- Assumes nothing.
use Prim.Native.Nat.{ℕ, ◌≤◌}
use mathlib.Core.Path.{◌≡◌, refl, sym, ◌∙◌, ap}
use mathlib.Core.Bool.{Bool, true, false, cond, not, ◌&&◌, ◌||◌, and-false, true≢false}
use mathlib.Core.Logic.{◌≢◌}
use native.Mathlib.Omega.{arith}
use borrow.Author.Tests.{eqb-true, eqb-false}
use lib.Dec.{eqb, ltb}
use Rattle.std.specs.Prelude.{is_some}
use Rattle.wire.specs.declared.telegram.Telegram.{Telegram}
use Rattle.wire.specs.declared.fault.Fault.{Fault}
use Rattle.wire.specs.declared.fault.Fault.TheVariants.{WriteRefused, ReadRefused}
use Rattle.wire.specs.Telegram.{bytes_of, Fits}
use Rattle.wire.proofs.Laws.{built_sound, built_fields}
use Rattle.rows.specs.declared.access.Access.{Access}
use Rattle.rows.specs.declared.access.Access.TheVariants.{ReadWrite, ReadOnly, WriteOnly, Unknown}
use Rattle.rows.specs.declared.range.Range.{Range}
use Rattle.rows.specs.declared.range.Range.TheVariants.{Right, Low, High, Between}
use Rattle.judge.specs.declared.command.Command.{Command}
use Rattle.judge.specs.declared.command.Command.TheVariants.{Read, Write, Broadcast, Other}
use Rattle.judge.specs.declared.judged.Judged.{Judged}
use Rattle.judge.specs.declared.verdict.Verdict.{Verdict}
use Rattle.judge.specs.declared.verdict.Verdict.TheVariants.{Obeyed, Silent, Refused}
use Rattle.judge.specs.declared.verdict.Standing.{Standing}
use Rattle.judge.specs.Commands.{command_of, reads_of, writes_of, casts_of}
use Rattle.judge.specs.Checks.{◌else◌, sum_check, node_check, command_check, parameter_check, group_check, access_check, lock_check, state_check, range_check, value_check, number_check, hush_of}
use Rattle.judge.specs.Verdicts.{late_of, mine_of, verdict_of}
use Rattle.judge.specs.Judged.{judged_of}
use Rattle.judge.proofs.Laws.{is_obeyed, command_is, casts_is, cast_never_refused}
use Rattle.judge.proofs.Offers.{assignment_of, assignment_is, flip}
use Rattle.state.specs.declared.parts.Head.{Head}
use Rattle.reply.specs.Word.{carried_of}
use Rattle.reply.specs.Reply.{silence, said, error_reply, value_reply, reply_by, reply_of}
use Rattle.reply.proofs.Replies.{cast_none}
use Rattle.head.specs.Hear.{standing_of, told_of, tell_of}
use Rattle.demands.proofs.One.{told_mute}
use Rattle.master.specs.Demand.{May}
use Rattle.exchange.specs.Meant.{offers, unanswered}

-- ---- of a telegram for this head that is no broadcast no check says silence
abbrev is_silent : Verdict → Bool
is_silent Obeyed = false
is_silent Silent = true
is_silent (Refused f) = false

else_is : (a b : Verdict) → is_silent (a else b) ≡ is_silent a || (is_obeyed a && is_silent b)
unfolding ◌else◌
else_is Obeyed b = refl
else_is Silent b = refl
else_is (Refused f) b = refl

-- a check that refuses by one test
test_is : (b : Bool) (f : Fault) → is_silent (cond b (Refused f) Obeyed) ≡ false
test_is true f = refl
test_is false f = refl

command_is_not : (c : Command) → is_silent (command_check c) ≡ false
unfolding command_check
command_is_not Read = refl
command_is_not Write = refl
command_is_not Broadcast = refl
command_is_not Other = refl

parameter_is_not : (a : Access) → is_silent (parameter_check a) ≡ false
unfolding parameter_check
parameter_is_not ReadWrite = refl
parameter_is_not ReadOnly = refl
parameter_is_not WriteOnly = refl
parameter_is_not Unknown = refl

group_is_not : (c : Command) (a : Access) → is_silent (group_check c a) ≡ false
group_is_not c ReadWrite = refl
group_is_not c ReadOnly = test_is (writes_of c) WriteRefused
group_is_not c WriteOnly = test_is (reads_of c) ReadRefused
group_is_not c Unknown = refl

value_is_not : (b : Bool) (g : Range) → is_silent (cond b (range_check g) Obeyed) ≡ false
unfolding range_check
value_is_not true Right = refl
value_is_not true Low = refl
value_is_not true High = refl
value_is_not true Between = refl
value_is_not false g = refl

spoken_to : (t : Telegram) (s : Standing) → casts_of (command_of t.command) ≡ false → mine_of t s ≡ true → is_silent (verdict_of 0 t s) ≡ false
unfolding verdict_of sum_check node_check late_of hush_of access_check lock_check state_check value_check number_check
spoken_to t s plain mine = simp (plain, mine, else_is, command_is_not, parameter_is_not, group_is_not, test_is, value_is_not, and-false)

-- ---- what is said to a telegram, by the judged telegram
module _ (j : Judged) (h : Head) (w : ℕ) where
  -- of D2h: silence just to a write, where the number in force is 31 and the value in its range
  offer_said : (c : Command) (delivered low high : Bool) → j.command ≡ c → j.telegram.parameter ≡ 0xD2 → casts_of c ≡ false
      → is_some (reply_by (assignment_of c delivered (cond low Low (cond high High Right))) j h w) ≡ not (writes_of c && (delivered && (not low && not high)))
  unfolding range_check error_reply value_reply said silence
  offer_said Read delivered low high e p plain = refl
  offer_said Write true true high e p plain = refl
  offer_said Write true false true e p plain = refl
  offer_said Write true false false e p plain = rw (e, p)
  offer_said Write false low high e p plain = refl
  offer_said Broadcast delivered low high e p plain = absurd (true≢false plain)
  offer_said Other delivered low high e p plain = refl

  -- of any other parameter, by a read or a write
  value_said : (c : Command) → j.command ≡ c → eqb j.telegram.parameter 0xD2 ≡ false → casts_of c ≡ false → c ≢ Other → is_some (value_reply j h w) ≡ true
  unfolding value_reply said
  value_said Read e p plain known = rw e
  value_said Write e p plain known = rw (e, p)
  value_said Broadcast e p plain known = absurd (true≢false plain)
  value_said Other e p plain known = absurd (known refl)

  other_said : (v : Verdict) → is_silent v ≡ false → eqb j.telegram.parameter 0xD2 ≡ false → casts_of j.command ≡ false → j.command ≢ Other
      → is_some (reply_by v j h w) ≡ true
  unfolding error_reply said
  other_said Obeyed s p plain known = value_said j.command refl p plain known
  other_said Silent s p plain known = absurd (true≢false s)
  other_said (Refused f) s p plain known = refl

-- no command up to 02h is unknown
known_command : (b : ℕ) → b ≤ 2 → command_of b ≢ Other
unfolding command_of
known_command b small e = go (eqb b 0) refl (eqb b 1) refl (eqb b 2) refl
  where
    go : (x : Bool) → eqb b 0 ≡ x → (y : Bool) → eqb b 1 ≡ y → (z : Bool) → eqb b 2 ≡ z → ⊥
    go true p y q z r = let k : ◌≡◌ {A = ℕ} 0 1 = cc (rw p at e) in omega arith
    go false p true q z r = let k : ◌≡◌ {A = ℕ} 0 1 = cc (rw (p, q) at e) in omega arith
    go false p false q true r = let k : ◌≡◌ {A = ℕ} 0 1 = cc (rw (p, q, r) at e) in omega arith
    go false p false q false r = omega (arith, eqb-false b 0 p, eqb-false b 1 q, eqb-false b 2 r)

two_casts : (b : ℕ) → b ≡ 2 → command_of b ≡ Broadcast
unfolding command_of
two_casts b e = rw e

-- ---- a built telegram: for this head, and no broadcast
module _ (q : Telegram) (may : May q) (h : Head) (w : ℕ) (j : Judged) (told_as : j.telegram ≡ q) (commanded : j.command ≡ command_of q.command) where
  here_said : casts_of (command_of q.command) ≡ false → mine_of q (standing_of h) ≡ true → is_some (reply_by (verdict_of 0 q (standing_of h)) j h w) ≡ not (offers q h)
  unfolding sum_check node_check ◌else◌ standing_of
  here_said plain mine = go (eqb q.parameter 0xD2) refl
    where
      go : (d : Bool) → eqb q.parameter 0xD2 ≡ d → is_some (reply_by (verdict_of 0 q (standing_of h)) j h w) ≡ not (offers q h)
      go true e =
          let p = eqb-true q.parameter 0xD2 e in
          rw (assignment_is 0 q (standing_of h) p, plain, mine, e, flip q.value 1, flip 31 q.value, ← (command_is q.command).1)
          (offer_said j h w (command_of q.command) (eqb h.stored.number 31) (ltb q.value 1) (ltb 31 q.value) commanded (rw told_as p) plain)
      go false e =
          rw (e, and-false (eqb q.command 1))
          (other_said j h w (verdict_of 0 q (standing_of h)) (spoken_to q (standing_of h) plain mine) (rw told_as e) (rw commanded plain)
          (λ o. known_command q.command may.command (sym commanded ∙ o)))

-- any
module _ (q : Telegram) (fits : Fits q) (may : May q) (h : Head) (at : ℕ) where
  abbrev j : Judged
  j = judged_of (bytes_of q) (standing_of h)

  judged_as_lem : j.verdict ≡ verdict_of 0 q (standing_of h)
  unfolding judged_of
  judged_as_lem = rw (built_sound q, built_fields q fits)

  commanded : j.command ≡ command_of q.command
  unfolding judged_of
  commanded = rw (built_fields q fits)

  pub replied_is : is_some (tell_of h (bytes_of q) at).reply ≡ not (unanswered q h)
  unfolding tell_of reply_of judged_of standing_of
  replied_is = go (eqb q.command 2) refl (eqb q.node h.stored.number) refl
    where
      w : ℕ
      w = carried_of j.deed h (told_of j h at)

      go : (c : Bool) → eqb q.command 2 ≡ c → (n : Bool) → eqb q.node h.stored.number ≡ n → is_some (tell_of h (bytes_of q) at).reply ≡ not (unanswered q h)
      go true c n m =
          rw c
          (cast_none j h (told_of j h at) (rw commanded (casts_is q.command ∙ c))
          (λ f r. cast_never_refused 0 q (standing_of h) f (two_casts q.command (eqb-true q.command 2 c)) (sym judged_as_lem ∙ r)))
      go false c false m = rw (c, m) (told_mute h (bytes_of q) at (rw (built_fields q fits) m))
      go false c true m =
          rw (c, m) (ap (λ (v : Verdict). is_some (reply_by v j h w)) judged_as_lem ∙ here_said q may h w j (built_fields q fits) commanded (casts_is q.command ∙ c) m)
