-- Wrong engines, and two that look wrong and are not (proofs/Wrongs). Each is the right way with one thing another.
-- Assumes nothing.
use Rattle.std.specs.Prelude.{ℕ, ◌+◌, ◌≡◌, cond, not, ◌&&◌, ◌||◌, List, eqb, replicate}
use Rattle.wire.specs.declared.telegram.Telegram.{Telegram}
use Rattle.wire.specs.declared.fault.Fault.TheVariants.{CheckSum, Locked, WriteRefused}
use Rattle.wire.specs.Check.{hit_of}
use Rattle.wire.specs.Faults.{code_of}
use Rattle.wire.specs.Telegram.{fields_of}
use Rattle.state.specs.declared.parts.Head.{Head}
use Rattle.state.specs.Errors.{remembered_of}
use Rattle.state.specs.Wellformed.{wellformed_of}
use Rattle.state.specs.With.{with_stored, with_faults, with_measurement, with_inputs, with_damaged, with_zero}
use Rattle.engine.specs.declared.Told.{Told}
use Rattle.engine.specs.declared.Outcome.{Outcome}
use Rattle.engine.specs.declared.Outcome.TheVariants.{Silence, Reply, Refused}
use Rattle.engine.specs.Addresses.{is_known}
use Rattle.engine.specs.Shows.{value}
use Rattle.engine.specs.Does.{aim_first}
use Rattle.engine.specs.Way.{is, reads, hearing, silent, reply, refuse, mine, casts, writes, locked, obeyed, check1, check2, check3, check4, check5, check6, check7, way}
use Rattle.engine.specs.Answer.{answered_by, refused_with, answer_of}
use Rattle.demands.specs.Run.{product}
use Rattle.agreement.specs.Agreement.{Engine, TenBytes, Agreement}

-- the engine of a way: the telegram, the head before it and the head that has heard it, and the exclusive-or
abbrev pub Way : Type 0
Way = Telegram → Head → Head → ℕ → Told

abbrev pub engine_by : Way → Engine
engine_by w h ten time = cond (wellformed_of h) (answered_by (w (fields_of ten) h (hearing (hit_of ten) time h) (hit_of ten))) (refused_with h)

-- ---- the checks in another order
-- 5 before 4, and 6 before 5: these two cannot be told from the right one by any telegram
abbrev pub access_first : Way
access_first t h n hit =
    check1 t h n hit (check2 t h n (check3 t h n (check5 t h n (check4 t h n (check6 t h n (check7 t h n (obeyed t h n)))))))

abbrev pub lock_first : Way
lock_first t h n hit =
    check1 t h n hit (check2 t h n (check3 t h n (check4 t h n (check6 t h n (check5 t h n (check7 t h n (obeyed t h n)))))))

-- 3 before 2, 4 before 3, 7 before 5, 7 before 6
abbrev pub command_first : Way
command_first t h n hit =
    check1 t h n hit (check3 t h n (check2 t h n (check4 t h n (check5 t h n (check6 t h n (check7 t h n (obeyed t h n)))))))

abbrev pub parameter_first : Way
parameter_first t h n hit =
    check1 t h n hit (check2 t h n (check4 t h n (check3 t h n (check5 t h n (check6 t h n (check7 t h n (obeyed t h n)))))))

abbrev pub value_first : Way
value_first t h n hit =
    check1 t h n hit (check2 t h n (check3 t h n (check4 t h n (check7 t h n (check5 t h n (check6 t h n (obeyed t h n)))))))

abbrev pub range_first : Way
range_first t h n hit =
    check1 t h n hit (check2 t h n (check3 t h n (check4 t h n (check5 t h n (check7 t h n (check6 t h n (obeyed t h n)))))))

-- ---- a check that covers more
-- check 5 counts an unknown parameter as read only, and comes before 4
abbrev pub unknown_protected : Way
unknown_protected t h n hit =
    check1 t h n hit
    (check2 t h n
    (check3 t h n
    (cond (writes t && not (is_known t.parameter)) (refuse t WriteRefused n)
    (check4 t h n (check5 t h n (check6 t h n (check7 t h n (obeyed t h n))))))))

-- the lock comes before the access, and covers every write
abbrev pub lock_all : Way
lock_all t h n hit =
    check1 t h n hit
    (check2 t h n
    (check3 t h n
    (check4 t h n
    (cond ((writes t || casts t) && locked h) (refuse t Locked n) (check5 t h n (check6 t h n (check7 t h n (obeyed t h n))))))))

-- ---- the count of damaged is not reset: a head that has heard a sound telegram with the count as it was
abbrev pub counting : Engine
counting h ten time =
    let n = hearing (hit_of ten) time h in
    let kept = cond (eqb (hit_of ten) 0) (with_faults n (with_damaged n.faults h.faults.damaged)) n in
    cond (wellformed_of h) (answered_by (way (fields_of ten) h kept (hit_of ten))) (refused_with h)

-- ---- the status word of before for an error reply: here for that of check 1
abbrev pub old_word : Way
old_word t h n hit =
    let after = with_faults n (with_inputs n.faults (remembered_of n.faults.inputs (code_of CheckSum))) in
    cond (eqb hit 0) (way t h n hit)
    (cond (mine t h && not (casts t)) (reply t 0xFD h (code_of CheckSum) after) (silent n))

-- ---- a read of FBh takes its control word
abbrev pub poll_takes : Way
poll_takes t h n hit = way t h (cond (eqb hit 0 && (reads t && is t 0xFB)) (aim_first h.targets.first t.word n) n) hit

-- ---- leaves another head: one whose number in force is 00h at once; one that adopts 1Fh when it is written
abbrev pub leaving : (Head → Head) → Engine
leaving f h ten time = let x = answer_of h ten time in record { head = f x.head; outcome = x.outcome; reply = x.reply }

abbrev pub numbered : Head → Head
numbered k =
    let s = k.stored in
    with_stored k (record { values = s.values; number = value 0x00 k; baud = s.baud; offer = s.offer; serial = s.serial; unlocked = s.unlocked })

abbrev pub adopted : Head → Head
adopted k = with_measurement k (with_zero k.measurement k.measurement.zero (value 0x1F k))

-- ---- a millisecond late; sevens where there is no reply
abbrev pub late : Engine
late h ten time = answer_of h ten (time + 1)

abbrev pub sevens : Outcome → List ℕ → List ℕ
sevens Silence x = replicate 10 7
sevens Reply x = x
sevens (Refused why) x = x

abbrev pub noisy : Engine
noisy h ten time = let x = answer_of h ten time in record { head = x.head; outcome = x.outcome; reply = sevens x.outcome x.reply }

-- ---- says nothing; refuses every head
abbrev pub mute : Way
mute t h n hit = silent n

abbrev pub refusing : Engine
refusing h ten time = refused_with h

abbrev pub Agrees : Engine → Type 0
Agrees e = Agreement product e

pub record Wrong : Type 0 where
  pub access_first_same : (h : Head) (ten : List ℕ) (time : ℕ) → TenBytes ten → engine_by access_first h ten time ≡ answer_of h ten time
  pub lock_first_same : (h : Head) (ten : List ℕ) (time : ℕ) → TenBytes ten → engine_by lock_first h ten time ≡ answer_of h ten time
  pub command_first_fails : Agrees (engine_by command_first) → ⊥
  pub parameter_first_fails : Agrees (engine_by parameter_first) → ⊥
  pub value_first_fails : Agrees (engine_by value_first) → ⊥
  pub range_first_fails : Agrees (engine_by range_first) → ⊥
  pub unknown_protected_fails : Agrees (engine_by unknown_protected) → ⊥
  pub lock_all_fails : Agrees (engine_by lock_all) → ⊥
  pub counting_fails : Agrees counting → ⊥
  pub old_word_fails : Agrees (engine_by old_word) → ⊥
  pub poll_takes_fails : Agrees (engine_by poll_takes) → ⊥
  pub hasty_fails : Agrees (leaving numbered) → ⊥
  pub adopting_fails : Agrees (leaving adopted) → ⊥
  pub late_fails : Agrees late → ⊥
  pub noisy_fails : Agrees noisy → ⊥
  pub mute_fails : Agrees (engine_by mute) → ⊥
  pub refusing_fails : Agrees refusing → ⊥
