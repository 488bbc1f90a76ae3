-- The wrong engines fail: each by ten bytes to which it answers, or after which it leaves the head, as the right one does not; both are computed. And the two that only look
-- wrong are the right one: where an earlier check is passed over, a later one gives the same, or does not apply.
-- Assumes nothing.
use Prim.Native.Nat.{ℕ, zero, suc, ◌<◌}
use mathlib.Core.Path.{◌≡◌, refl, ap}
use mathlib.Core.Bool.{Bool, true, false, cond, not, ◌&&◌, ◌||◌}
use mathlib.Core.List.{List}
use native.Mathlib.Omega.{arith}
use borrow.Author.Tests.{ne_eqb}
use lib.Dec.{T, eqb}
use lib.ListN.{length, get_or}
use Rattle.wire.specs.declared.telegram.Telegram.{Telegram}
use Rattle.wire.specs.declared.fault.Fault.TheVariants.{UnknownParameter, WriteRefused, ReadRefused, DeviceState, Locked}
use Rattle.wire.specs.Check.{hit_of}
use Rattle.wire.specs.Telegram.{fields_of}
use Rattle.rows.proofs.Span.{in_span}
use Rattle.state.specs.declared.parts.Head.{Head}
use Rattle.effects.specs.Restart.{fresh_of}
use Rattle.engine.specs.declared.Told.{Told}
use Rattle.engine.specs.declared.Answered.{Answered}
use Rattle.engine.specs.Addresses.{the39, is_stored, is_read_only, is_write_only, is_known, may_broadcast}
use Rattle.engine.specs.Way.{silent, complain, refuse, reads, writes, casts, obeyed, check1, check2, check3, check4, check6, check7, locked, hearing, way}
use Rattle.engine.specs.Answer.{told_of, answer_of}
use Rattle.demands.specs.Cases.{split}
use Rattle.demands.proofs.Bounded.{below, bounded}
use Rattle.agreement.specs.Answers.{drawn}
use Rattle.agreement.specs.Agreement.{Engine, TenBytes}
use Rattle.agreement.specs.Wrong.{Way, engine_by, access_first, lock_first, command_first, parameter_first, value_first, range_first, unknown_protected, lock_all, counting, old_word, poll_takes, leaving, numbered, adopted, late, noisy, mute, refusing, Agrees, Wrong}
use Rattle.agreement.proofs.Computing.{engine_computing}
use Rattle.agreement.proofs.Proved.{fields_small}
use Rattle.agreement.proofs.Only.{only}

-- ---- ten bytes written as one number, and heads: as made, locked, and with one or two damaged in a row
ten_of_lem : (xs : List ℕ) → length xs ≡ 10 → below 256 xs ≡ true → TenBytes xs
ten_of_lem xs l b = record { long = l; small = bounded 256 (omega arith) xs b }

abbrev new : Head
new = fresh_of 31 0

abbrev told : Head → ℕ → Head
told h n = (answer_of h (split 10 n) 0).head

abbrev shut : Head
shut = told new 0x011F0E00000000000111

abbrev damaged : Head
damaged = told new 0x001F200000000000003E

abbrev twice : Head
twice = told damaged 0x001F200000000000003E

-- byte k of a reply; how many there are
abbrev byte : ℕ → Answered → ℕ
byte k x = get_or x.reply k 0

abbrev count : Answered → ℕ
count x = length (drawn x)

-- an engine that agrees is the right one (Only): so whatever is counted of its answer is what is counted of the right one's
module _ (e : Engine) (a : Agrees e) (h : Head) (n : ℕ) (l : length (split 10 n) ≡ 10) (b : below 256 (split 10 n) ≡ true) where
  same : (f : Answered → ℕ) → f (e h (split 10 n) 0) ≡ f (answer_of h (split 10 n) 0)
  same f = ap f (only e a h (split 10 n) 0 (ten_of_lem (split 10 n) l b))

-- ---- 5 before 4: an unknown parameter is in no group, and a refused broadcast is silent
apart : ℕ → Bool
apart a = is_known a || (not (is_read_only a) && (not (is_write_only a) && not (may_broadcast a)))

all_apart : (a : ℕ) → a < 256 → T (apart a)
unfolding apart is_known may_broadcast the39
all_apart a p = in_span apart 0 256 tt a (omega arith) (omega arith)

module _ (S U R1 R2 X : Told) where
  access_swap : (k ro wo mb r w c : Bool) → T (k || (not ro && (not wo && not mb)))
      → cond (w && ro) R1 (cond (r && wo) R2 (cond (c && not mb) S (cond k X (cond c S U))))
      ≡ cond k (cond (w && ro) R1 (cond (r && wo) R2 (cond (c && not mb) S X))) (cond c S U)
  access_swap true ro wo mb r w c t = refl
  access_swap false true wo mb r w c t = absurd t
  access_swap false false true mb r w c t = absurd t
  access_swap false false false true r w c t = absurd t
  access_swap false false false false true true true t = refl
  access_swap false false false false true true false t = refl
  access_swap false false false false true false true t = refl
  access_swap false false false false true false false t = refl
  access_swap false false false false false true true t = refl
  access_swap false false false false false true false t = refl
  access_swap false false false false false false true t = refl
  access_swap false false false false false false false t = refl

access_same : (t : Telegram) (h n : Head) (hit : ℕ) → t.parameter < 256 → access_first t h n hit ≡ way t h n hit
unfolding way apart
access_same t h n hit p =
    ap (λ (x : Told). check1 t h n hit (check2 t h n (check3 t h n x)))
    (access_swap (silent n) (complain t UnknownParameter n) (refuse t WriteRefused n) (refuse t ReadRefused n) (check6 t h n (check7 t h n (obeyed t h n)))
    (is_known t.parameter) (is_read_only t.parameter) (is_write_only t.parameter) (may_broadcast t.parameter) (reads t) (writes t) (casts t) (all_apart t.parameter p))

-- ---- 6 before 5: what is locked, and D2h, is not read only; a read is neither a write nor a broadcast; and a refused broadcast is silent
clear_of : ℕ → Bool
clear_of a = not (is_read_only a) || (not (is_stored a || eqb a 0xA0) && not (eqb a 0xD2))

all_clear : (a : ℕ) → a < 256 → T (clear_of a)
unfolding clear_of the39
all_clear a p = in_span clear_of 0 256 tt a (omega arith) (omega arith)

one_command : (x : ℕ) → T (not (eqb x 0) || not (eqb x 1 || eqb x 2))
one_command zero = tt
one_command (suc x) = rw (ne_eqb (suc x) 0 (λ e. omega arith)) tt

weaker : (ro closed own d far : Bool) → T (not ro || (not own && not d)) → T (not ro || (not (closed && own) && not (d && far)))
weaker false closed own d far t = tt
weaker true closed true d far t = absurd t
weaker true closed false true far t = absurd t
weaker true true false false far t = tt
weaker true false false false far t = tt

module _ (S ZL ZD R1 R2 X : Told) where
  -- l: it is locked; d: a number is offered where the number in force is not 31
  lock_swap : (r w c ro wo mb l d : Bool) → T (not ro || (not l && not d)) → T (not r || not (w || c))
      → cond ((w || c) && l) (cond c S ZL) (cond ((w || c) && d) (cond c S ZD) (cond (w && ro) R1 (cond (r && wo) R2 (cond (c && not mb) S X))))
      ≡ cond (w && ro) R1 (cond (r && wo) R2 (cond (c && not mb) S (cond ((w || c) && l) (cond c S ZL) (cond ((w || c) && d) (cond c S ZD) X))))
  lock_swap true true c ro wo mb l d f g = absurd g
  lock_swap true false true ro wo mb l d f g = absurd g
  lock_swap true false false ro wo mb l d f g = refl
  lock_swap false true c true wo mb true d f g = absurd f
  lock_swap false true c true wo mb false true f g = absurd f
  lock_swap false true c true wo mb false false f g = refl
  lock_swap false true false false wo mb l d f g = refl
  lock_swap false true true false wo true l d f g = refl
  lock_swap false true true false wo false true d f g = refl
  lock_swap false true true false wo false false true f g = refl
  lock_swap false true true false wo false false false f g = refl
  lock_swap false false false ro wo mb l d f g = refl
  lock_swap false false true ro wo true l d f g = refl
  lock_swap false false true ro wo false true d f g = refl
  lock_swap false false true ro wo false false true f g = refl
  lock_swap false false true ro wo false false false f g = refl

lock_same : (t : Telegram) (h n : Head) (hit : ℕ) → t.parameter < 256 → lock_first t h n hit ≡ way t h n hit
unfolding way clear_of
lock_same t h n hit p =
    let a = t.parameter in
    ap (λ (x : Told). check1 t h n hit (check2 t h n (check3 t h n (check4 t h n x))))
    (lock_swap (silent n) (complain t Locked n) (complain t DeviceState n) (refuse t WriteRefused n) (refuse t ReadRefused n) (check7 t h n (obeyed t h n))
    (reads t) (writes t) (casts t) (is_read_only a) (is_write_only a) (may_broadcast a) (locked h && (is_stored a || eqb a 0xA0)) (eqb a 0xD2 && not (eqb h.stored.number 31))
    (weaker (is_read_only a) (locked h) (is_stored a || eqb a 0xA0) (eqb a 0xD2) (not (eqb h.stored.number 31)) (all_clear a p))
    (one_command t.command))

-- ---- an engine of an equal way is equal
by_way : (w : Way) → ((t : Telegram) (h n : Head) (hit : ℕ) → t.parameter < 256 → w t h n hit ≡ way t h n hit)
    → (h : Head) (ten : List ℕ) (time : ℕ) → TenBytes ten → engine_by w h ten time ≡ answer_of h ten time
unfolding answer_of told_of
by_way w same h ten time t = rw (same (fields_of ten) h (hearing (hit_of ten) time h) (hit_of ten) (fields_small ten t).0)

pub wrong : Wrong
unfolding engine_computing
wrong =
    record {
      access_first_same = by_way access_first access_same;
      lock_first_same = by_way lock_first lock_same;
      -- a command 03h for node 5
      command_first_fails = λ a.
          let z : ◌≡◌ {A = ℕ} 1 0 = same (engine_by command_first) a new 0x03052000000000000026 refl refl count in omega (arith, z);
      -- a command 03h for an unknown parameter: 00 84
      parameter_first_fails = λ a.
          let z : ◌≡◌ {A = ℕ} 0x83 0x84 = same (engine_by parameter_first) a new 0x031F100000000000000C refl refl (byte 8) in omega (arith, z);
      -- a write to 96h: 01 84
      value_first_fails = λ a.
          let z : ◌≡◌ {A = ℕ} 0x82 0x84 = same (engine_by value_first) a new 0x011F9600000100000089 refl refl (byte 8) in omega (arith, z);
      -- a locked write out of range: 03 85
      range_first_fails = λ a.
          let z : ◌≡◌ {A = ℕ} 0x82 0x85 = same (engine_by range_first) a shut 0x011F0400000000005A40 refl refl (byte 8) in omega (arith, z);
      -- a write to an unknown parameter: 00 83
      unknown_protected_fails = λ a.
          let z : ◌≡◌ {A = ℕ} 0x84 0x83 = same (engine_by unknown_protected) a new 0x011F100000000000000E refl refl (byte 8) in omega (arith, z);
      -- A8h opens the interlock, locked or not: its own reply, and no error's
      lock_all_fails = λ a.
          let z : ◌≡◌ {A = ℕ} 0xFD 0xA8 = same (engine_by lock_all) a shut 0x011FA8000000000001B7 refl refl (byte 2) in omega (arith, z);
      -- one damaged, then one sound
      counting_fails = λ a. let z : ◌≡◌ {A = ℕ} 1 0 = same counting a damaged 0x001F200000000000003F refl refl (λ x. x.head.faults.damaged) in omega (arith, z);
      -- the third damaged in a row shows the error that it raises
      old_word_fails = λ a.
          let z : ◌≡◌ {A = ℕ} 0x00 0x80 = same (engine_by old_word) a twice 0x001F200000000000003E refl refl (byte 4) in omega (arith, z);
      -- a read of FBh whose control word has bit 2
      poll_takes_fails = λ a.
          let z : ◌≡◌ {A = ℕ} 1 0 = same (engine_by poll_takes) a new 0x001FFB000400000000E0 refl refl (λ x. cond x.head.targets.valid1 1 0) in omega (arith, z);
      -- 00h is written 12
      hasty_fails = λ a. let z : ◌≡◌ {A = ℕ} 12 31 = same (leaving numbered) a new 0x011F0000000000000C12 refl refl (λ x. x.head.stored.number) in omega (arith, z);
      -- 1Fh is written 5
      adopting_fails = λ a.
          let z : ◌≡◌ {A = ℕ} 5 0 = same (leaving adopted) a new 0x011F1F00000000000504 refl refl (λ x. x.head.measurement.adopted) in omega (arith, z);
      -- a sound telegram starts the monitor
      late_fails = λ a. let z : ◌≡◌ {A = ℕ} 1 0 = same late a new 0x001F200000000000003F refl refl (λ x. x.head.monitor.since) in omega (arith, z);
      -- another node
      noisy_fails = λ a. let z : ◌≡◌ {A = ℕ} 7 0 = same noisy a new 0x001E200000000000003E refl refl (byte 0) in omega (arith, z);
      mute_fails = λ a. let z : ◌≡◌ {A = ℕ} 0 1 = same (engine_by mute) a new 0x001F200000000000003F refl refl count in omega (arith, z);
      refusing_fails = λ a. let z : ◌≡◌ {A = ℕ} 0 1 = same refusing a new 0x001F200000000000003F refl refl count in omega (arith, z);
    }
