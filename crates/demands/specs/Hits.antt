-- Which bits were hit (document 02, request (i)): the last non-zero exclusive-or, which a head keeps, is the one that looking back over the calls
-- finds. `last_hit` looks into no head: which bytes a head has gathered, and which calls restart it, stand in the account (Past).
-- Assumes nothing.
use Rattle.std.specs.Prelude.{ℕ, ◌<◌, ◌≤◌, ◌≡◌, cond, ◌||◌, List, [], ◌∷◌, ltb, eqb, pos, length, get_or, set, replicate, Ok, Err}
use Rattle.std.proofs.Math.Option.{Option, none, some}
use Rattle.std.specs.Int.Bits.{bit_xor}
use Rattle.wire.specs.declared.telegram.Telegram.{Telegram}
use Rattle.wire.specs.Check.{xor_all, hit_of}
use Rattle.wire.specs.Telegram.{bytes_of}
use Rattle.head.specs.declared.refusal.Refusal.TheVariants.{NoHead}
use Rattle.demands.specs.Calls.{Call, new_head, byte, tick, named, keys, dropped, measure, power, Calls, start, ◌▸◌, hearing}
use Rattle.demands.specs.Past.{Entry, room, gather, change, look, count, serials, entry}
use Rattle.demands.specs.Run.{System, machine_of, runs, head_after}
use Rattle.demands.specs.Cases.{split}

-- ---- the check of ten bytes shows which bits were hit: bits e that are turned over in one of them, whichever, are turned over in it; ten zeros give
-- 0. So every bit of every byte counts, in its own place, and a telegram built of fields and hit in one byte gives what that byte was hit by
pub record Shown : Type 0 where
  pub zeros : hit_of (replicate 10 0) ≡ 0
  pub turned : (ten : List ℕ) (i e : ℕ) → length ten ≡ 10 → i < 10 → hit_of (set ten i (bit_xor (get_or ten i 0) e)) ≡ bit_xor (hit_of ten) e
  pub one_byte : (t : Telegram) (i e : ℕ) → i < 10 → hit_of (set (bytes_of t) i (bit_xor (get_or (bytes_of t) i 0) e)) ≡ e

-- ---- the exclusive-or of ten bytes that are damaged; fewer are no telegram yet
abbrev pub damage : List ℕ → Option ℕ
damage l = cond (ltb (length l) 10 || eqb (xor_all l) 0) none (some (xor_all l))

-- what a call gives a head to keep: a byte that is heard, and ends ten damaged ones there, gives their exclusive-or, for whomever they were and
-- whatever command they held
unfoldable pub hits : Call → Entry → Option ℕ
hits (new_head node serial) e = none
hits (byte b t s) e = cond (room s) (damage (gather e.ear b t)) none
hits (tick t) e = none
hits (named j a) e = none
hits (keys j s n) e = none
hits (dropped t) e = none

-- the last of them since head k was restarted last, its making included; 0 where there is none
unfoldable pub last_hit : Calls → ℕ → ℕ
last_hit start k = 0
last_hit (cs ▸ c) k = cond (change c (count cs) (serials cs) k (entry cs k)).restarts 0 (look (hits c (entry cs k)) (last_hit cs k))

-- after any calls on a line grown from none, refused ones included, the call that reads it shows it, on the line and on the head alone; of a head
-- that is not there it is refused with 3
pub record Hits (m : System) : Type 0 where
  pub on_line : (cs : Calls) (k : ℕ) → k < count cs → m.on_line_of.hit (runs (machine_of m) cs) k ≡ Ok (last_hit cs k)
  pub alone : (cs : Calls) (k : ℕ) → k < count cs → m.on_head.hit (head_after (machine_of m) cs k) ≡ Ok (last_hit cs k)
  pub no_head : (cs : Calls) (k : ℕ) → count cs ≤ k → m.on_line_of.hit (runs (machine_of m) cs) k ≡ Err NoHead

-- ---- a line of two heads, at 31 and at 12, and what each of them shows after some calls
pub record Seen : Type 0 where
  pub calls : Calls
  pub first : ℕ
  pub second : ℕ

abbrev pub seen : Calls → ℕ → ℕ → Seen
seen cs x y = record { calls = cs; first = x; second = y }

abbrev pub AllSeen : System → List Seen → Type 0
AllSeen m [] = Unit {0}
AllSeen m (s ∷ ss) =
    (m.on_line_of.hit (runs (machine_of m) s.calls) 0 ≡ Ok s.first) × (m.on_line_of.hit (runs (machine_of m) s.calls) 1 ≡ Ok s.second) × AllSeen m ss

abbrev pub two : Calls
two = start ▸ new_head 31 4711 ▸ new_head 12 4712

-- ten bytes more, written as one number, all at the time 0
abbrev pub hear : Calls → ℕ → Calls
hear cs ten = hearing cs (split 10 ten)

-- the read of 20h at 31 with bit 0 of its last byte hit; after it the broadcast of A0h 9 with bit 7 of its node and bit 2 of its last byte hit
abbrev pub noisy : Calls
noisy = hear two 0x001F200000000000003E

abbrev pub noisier : Calls
noisier = hear noisy 0x0280A0000000000009AF

unfoldable pub cases : List Seen
cases =
    seen two 0 0
    -- also the head that it was not for keeps it; the next one, which restarts no head, takes its place
    ∷ seen noisy 0x01 0x01
    ∷ seen noisier 0x84 0x84
    -- so does the third in a row, which raises the error and sets the count back to 0: the read of 20h at 31, 30h for 20h
    ∷ seen (hear noisier 0x001F300000000000003F) 0x10 0x10
    -- a sound telegram leaves it: the read of 20h, A0h 8, A0h 1 at 31
    ∷ seen (hear noisier 0x001F200000000000003F) 0x84 0x84
    ∷ seen (hear noisier 0x011FA0000000000008B6) 0x84 0x84
    ∷ seen (hear noisier 0x011FA0000000000001BF) 0x84 0x84
    -- so do a tick, a key state and a measurement
    ∷ seen (noisy ▸ tick 5 ▸ keys 0 1 10 ▸ named 0 (measure (pos 7))) 0x01 0x01
    -- a number that is offered to head 0 by D2h, and adopted there, restarts it
    ∷ seen (hear noisy 0x011FD2000000000005C9 ▸ keys 0 4 10) 0 0x01
    -- a power cut of head 0; the write of A0h 9 at 12
    ∷ seen (noisier ▸ named 0 power) 0 0x84
    ∷ seen (hear noisier 0x010CA0000000000009A4) 0x84 0
    -- no telegram: a gap of 11 ms before the tenth byte; the tenth byte refused for want of space
    ∷ seen (hearing two (split 9 0x001F20000000000000) ▸ byte 0x3E 11 10) 0 0
    ∷ seen (hearing two (split 9 0x001F20000000000000) ▸ byte 0x3E 0 9) 0 0
    ∷ []
