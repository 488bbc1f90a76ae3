-- Check by check: each of the engine's checks is the judge's verdict of that number, acted on.
-- Assumes nothing.
use Prim.Native.Nat.{ℕ, ◌<◌}
use mathlib.Core.Path.{◌≡◌, refl, sym, ◌∙◌, ap}
use mathlib.Core.Bool.{Bool, true, false, cond, not, ◌&&◌, ◌||◌}
use native.Mathlib.Omega.{arith}
use borrow.Author.Tests.{eqb-true, eqb-false, lt-ltb}
use lib.Dec.{eqb, ltb}
use lib.IntN.{ℤ}
use lib.Signed.{lt_z}
use Rattle.wire.specs.declared.telegram.Telegram.{Telegram}
use Rattle.wire.specs.declared.fault.Fault.{Fault}
use Rattle.wire.specs.declared.fault.Fault.TheVariants.{CheckSum, Unlisted, Below, Above, UnknownParameter, NoAccess, WriteRefused, ReadRefused, DeviceState, Locked}
use Rattle.wire.specs.Word.{byte0}
use Rattle.rows.specs.declared.access.Access.{Access}
use Rattle.rows.specs.declared.access.Access.TheVariants.{ReadWrite, ReadOnly, WriteOnly, Unknown}
use Rattle.rows.specs.declared.range.Range.TheVariants.{Right, Low, High, Between}
use Rattle.rows.specs.Table.{rows}
use Rattle.rows.specs.Access.{access_of, broadcast_of}
use Rattle.rows.specs.Ranges.{range_of}
use Rattle.judge.specs.declared.command.Command.{Command}
use Rattle.judge.specs.declared.command.Command.TheVariants.{Read, Write, Broadcast, Other}
use Rattle.judge.specs.declared.verdict.Verdict.{Verdict}
use Rattle.judge.specs.declared.verdict.Verdict.TheVariants.{Obeyed, Silent, Refused}
use Rattle.judge.specs.Commands.{command_of, reads_of, writes_of, casts_of}
use Rattle.judge.specs.Checks.{◌else◌, sum_check, node_check, command_check, parameter_check, access_check, lockable_of, lock_check, state_check, range_check, value_check, number_check, hush_of}
use Rattle.judge.specs.Verdicts.{late_of, verdict_of}
use Rattle.judge.specs.Deeds.{out_of_range}
use Rattle.judge.proofs.Laws.{command_is}
use Rattle.state.specs.declared.parts.Head.{Head}
use Rattle.effects.specs.Stored.{locked_of}
use Rattle.head.specs.Hear.{standing_of}
use Rattle.engine.specs.declared.Told.{Told}
use Rattle.engine.specs.Addresses.{the39, place, is_stored, is_read_only, is_write_only, is_known, may_broadcast, limits_of, is_listed, number_in}
use Rattle.engine.specs.Does.{offer}
use Rattle.engine.specs.Way.{silent, complain, obeyed, mine, locked, way}
use Rattle.engine.proofs.Addressed.{known, read_only, write_only, known_is, read_only_is, write_only_is, broadcast_is, range_is}

-- ---- the command byte
abbrev beyond : Command → Bool
beyond Read = false
beyond Write = false
beyond Broadcast = false
beyond Other = true

beyond_is : (x : ℕ) → ltb 2 x ≡ beyond (command_of x)
unfolding command_of
beyond_is x = go (eqb x 0) refl (eqb x 1) refl (eqb x 2) refl
  where
    go : (a : Bool) → eqb x 0 ≡ a → (b : Bool) → eqb x 1 ≡ b → (c : Bool) → eqb x 2 ≡ c → ltb 2 x ≡ beyond (command_of x)
    go true e b f c g = rw (eqb-true x 0 e) refl
    go false e true f c g = rw (eqb-true x 1 f) refl
    go false e false f true g = rw (eqb-true x 2 g) refl
    go false e false f false g =
        let n0 : (x ≡ 0 → ⊥) = eqb-false x 0 e in
        let n1 : (x ≡ 1 → ⊥) = eqb-false x 1 f in
        let n2 : (x ≡ 2 → ⊥) = eqb-false x 2 g in
        rw (e, f, g) (lt-ltb 2 x (omega arith))

-- ---- a verdict acted on: S is silence, Z what an error reply comes to, next what comes if the check lets pass
module _ (S : Told) (Z : Fault → Told) where
  abbrev act : Verdict → Told → Told
  act Obeyed next = next
  act Silent next = S
  act (Refused f) next = Z f

  else_is : (v w : Verdict) (next : Told) → act (v else w) next ≡ act v (act w next)
  unfolding ◌else◌
  else_is Obeyed w next = refl
  else_is Silent w next = refl
  else_is (Refused f) w next = refl

  step : (v w : Verdict) (x y next : Told) → x ≡ act v y → y ≡ act w next → x ≡ act (v else w) next
  step v w x y next p q = p ∙ ap (act v) q ∙ sym (else_is v w next)

  module _ (next : Told) where
    when : (b : Bool) (f : Fault) → cond b (Z f) next ≡ act (cond b (Refused f) Obeyed) next
    when true f = refl
    when false f = refl

    is_1 : (hit x : ℕ) (mine : Bool) → cond (eqb hit 0) next (cond mine (cond (eqb x 2) S (Z CheckSum)) S) ≡ act (sum_check hit (command_of x) mine) next
    unfolding sum_check
    is_1 hit x mine = rw (command_is x).2 (go (eqb hit 0) mine (eqb x 2))
      where
        go : (s m b : Bool) → cond s next (cond m (cond b S (Z CheckSum)) S) ≡ act (cond s Obeyed (cond (m && not b) (Refused CheckSum) Silent)) next
        go true m b = refl
        go false false b = refl
        go false true true = refl
        go false true false = refl

    is_2 : (x : ℕ) (mine : Bool) → cond (not (eqb x 2) && not mine) S next ≡ act (node_check (command_of x) mine) next
    unfolding node_check
    is_2 x mine = rw (command_is x).2 (go mine (eqb x 2))
      where
        go : (m b : Bool) → cond (not b && not m) S next ≡ act (cond (b || m) Obeyed Silent) next
        go m true = refl
        go true false = refl
        go false false = refl

    is_3 : (x : ℕ) → cond (ltb 2 x) (Z NoAccess) next ≡ act (command_check (command_of x)) next
    unfolding command_check
    is_3 x = rw (beyond_is x) (go (command_of x))
      where
        go : (c : Command) → cond (beyond c) (Z NoAccess) next ≡ act (command_check c) next
        go Read = refl
        go Write = refl
        go Broadcast = refl
        go Other = refl

    is_4 : (a : ℕ) → a < 256 → cond (is_known a) next (Z UnknownParameter) ≡ act (parameter_check (access_of a)) next
    unfolding parameter_check
    is_4 a p = rw (known_is a p) (go (access_of a))
      where
        go : (c : Access) → cond (known c) next (Z UnknownParameter) ≡ act (parameter_check c) next
        go ReadWrite = refl
        go ReadOnly = refl
        go WriteOnly = refl
        go Unknown = refl

    -- check 5, by its tests
    abbrev allowed : Bool → Bool → Bool → Bool → Bool → Bool → Told
    allowed w r b readable writable castable = cond (w && readable) (Z WriteRefused) (cond (r && writable) (Z ReadRefused) (cond (b && not castable) S next))

    is_5 : (x a : ℕ) → a < 256
        → allowed (eqb x 1) (eqb x 0) (eqb x 2) (is_read_only a) (is_write_only a) (may_broadcast a) ≡ act (access_check (command_of x) (access_of a) (broadcast_of a)) next
    unfolding access_check
    is_5 x a p =
        rw (← (command_is x).0, ← (command_is x).1, ← (command_is x).2, read_only_is a p, write_only_is a p, ← broadcast_is a)
        (go (command_of x) (access_of a) (broadcast_of a))
      where
        go : (c : Command) (a : Access) (k : Bool)
            → allowed (writes_of c) (reads_of c) (casts_of c) (read_only a) (write_only a) k ≡ act (access_check c a k) next
        go Read ReadWrite k = refl
        go Read ReadOnly k = refl
        go Read WriteOnly k = refl
        go Read Unknown k = refl
        go Write ReadWrite k = refl
        go Write ReadOnly k = refl
        go Write WriteOnly k = refl
        go Write Unknown k = refl
        go Other ReadWrite k = refl
        go Other ReadOnly k = refl
        go Other WriteOnly k = refl
        go Other Unknown k = refl
        go Broadcast a true = refl
        go Broadcast a false = refl

    is_6 : (x a : ℕ) (shut : Bool)
        → cond ((eqb x 1 || eqb x 2) && (shut && (is_stored a || eqb a 0xA0))) (Z Locked) next ≡ act (lock_check shut (command_of x) a) next
    unfolding lock_check lockable_of the39 rows
    is_6 x a shut = rw ((command_is x).1, (command_is x).2) (go (eqb x 1 || eqb x 2) shut (is_stored a || eqb a 0xA0))
      where
        go : (c s b : Bool) → cond (c && (s && b)) (Z Locked) next ≡ act (cond (s && (c && b)) (Refused Locked) Obeyed) next
        go true s b = when (s && b) Locked
        go false true b = refl
        go false false b = refl

    is_6' : (x a number : ℕ)
        → cond ((eqb x 1 || eqb x 2) && (eqb a 0xD2 && not (eqb number 31))) (Z DeviceState) next ≡ act (state_check number (command_of x) a) next
    unfolding state_check
    is_6' x a number = rw ((command_is x).1, (command_is x).2) (when ((eqb x 1 || eqb x 2) && (eqb a 0xD2 && not (eqb number 31))) DeviceState)

    abbrev ranged : ℤ → ℤ → ℤ → Bool → Told
    ranged lo hi v listed = cond (lt_z v lo) (Z Below) (cond (lt_z hi v) (Z Above) (cond listed next (Z Unlisted)))

    is_7 : (x a w : ℕ) → a < 256 → w < 4294967296
        → cond (eqb x 1 || eqb x 2) (ranged (limits_of a).low (limits_of a).high (number_in a w) (is_listed a w)) next ≡ act (value_check (command_of x) (range_of a w)) next
    unfolding value_check range_check
    is_7 x a w p q =
        rw ((command_is x).1, (command_is x).2, range_is a w p q)
        (go (eqb x 1 || eqb x 2) (lt_z (number_in a w) (limits_of a).low) (lt_z (limits_of a).high (number_in a w)) (is_listed a w))
      where
        go : (c b h l : Bool)
            → cond c (cond b (Z Below) (cond h (Z Above) (cond l next (Z Unlisted)))) next
            ≡ act (cond c (range_check (cond b Low (cond h High (cond l Right Between)))) Obeyed) next
        go false b h l = refl
        go true true h l = refl
        go true false true l = refl
        go true false false true = refl
        go true false false false = refl

    is_7' : (a number count : ℕ) → cond (eqb a 0x96 && ltb count number) (Z Above) next ≡ act (number_check a number count) next
    unfolding number_check
    is_7' a number count = when (eqb a 0x96 && ltb count number) Above

-- a refused broadcast is silent
hush_is : (S : Told) (Z : Fault → Told) (x : ℕ) (v : Verdict) (next : Told)
    → act S (λ f. cond (eqb x 2) S (Z f)) v next ≡ act S Z (hush_of (command_of x) v) next
unfolding hush_of
hush_is S Z x v next = rw (command_is x).2 (go (eqb x 2) v)
  where
    go : (b : Bool) (v : Verdict) → act S (λ f. cond b S (Z f)) v next ≡ act S Z (cond b (hush_of Broadcast v) v) next
    go true Obeyed = refl
    go true Silent = refl
    go true (Refused f) = refl
    go false Obeyed = refl
    go false Silent = refl
    go false (Refused f) = refl

-- ---- the telegram t, the head h before it and the head n that has heard it
module _ (t : Telegram) (h n : Head) where
  abbrev S : Told
  S = silent n

  -- what an error reply comes to: a value of D2h outside its range drops the offer
  abbrev Z : Fault → Told
  Z f = complain t f (cond (out_of_range f && eqb t.parameter 0xD2) (offer 0 n) n)

  abbrev R : Fault → Told
  R f = cond (eqb t.command 2) S (Z f)

  abbrev pub acted : Verdict → Told
  acted v = act S Z v (obeyed t h n)

  -- 96h is not D2h
  inputs_only : (b : Bool) (next : Told)
      → cond (eqb t.parameter 0x96 && b) (cond (eqb t.command 2) S (complain t Above n)) next ≡ cond (eqb t.parameter 0x96 && b) (R Above) next
  inputs_only b next = go (eqb t.parameter 0x96) refl
    where
      go : (x : Bool) → eqb t.parameter 0x96 ≡ x
          → cond (x && b) (cond (eqb t.command 2) S (complain t Above n)) next ≡ cond (x && b) (R Above) next
      go true e = let m : eqb t.parameter 0xD2 ≡ false = ap (λ (a : ℕ). eqb a 0xD2) (eqb-true t.parameter 0x96 e) in rw m
      go false e = refl

  pub way_is : t.parameter < 256 → t.value < 4294967296 → (hit : ℕ) → way t h n hit ≡ acted (verdict_of hit t (standing_of h))
  unfolding way verdict_of late_of standing_of locked_of place the39
  way_is small fits hit =
      step S Z _ _ _ _ _ (is_1 S Z _ hit t.command (mine t h))
      (step S Z _ _ _ _ _ (is_2 S Z _ t.command (mine t h))
      (step S R _ _ _ _ _ (is_3 S R _ t.command)
      (step S R _ _ _ _ _ (is_4 S R _ t.parameter small)
      (step S R _ _ _ _ _ (is_5 S R _ t.command t.parameter small)
      (step S R _ _ _ _ _ (is_6 S R _ t.command t.parameter (locked h))
      (step S R _ _ _ _ _ (is_6' S R _ t.command t.parameter h.stored.number)
      (step S R _ _ _ _ _ (is_7 S R _ t.command t.parameter t.value small fits)
      (inputs_only (ltb h.faults.inputs.count (byte0 t.value)) _ ∙ is_7' S R _ t.parameter (byte0 t.value) h.faults.inputs.count))))))
      ∙ hush_is S Z t.command _ _))
