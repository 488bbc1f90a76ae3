-- Auto-ID at the machine (document 02, request (ii); section 6.8 of the manual): what a telegram of D2h is met with, at any head; and after any calls
-- on a line grown from none, what a key state does that adopts the number offered, by the account that looks back over the calls (Past).
-- Assumes nothing.
use Rattle.std.specs.Prelude.{ℕ, ◌<◌, ◌≤◌, ◌≡◌, Bool, true, false, cond, ◌≢◌, ◌⊎◌, List, [], ◌∷◌, eqb, length, take, replicate, Ok, Result, is_some}
use Rattle.wire.specs.Check.{hit_of}
use Rattle.wire.specs.Telegram.{fields_of, ten_in}
use Rattle.judge.specs.declared.deed.Deed.TheVariants.{Restart}
use Rattle.judge.specs.Judged.{judged_of}
use Rattle.state.specs.declared.parts.Head.{Head}
use Rattle.head.specs.Hear.{standing_of, gathered_of}
use Rattle.demands.specs.Calls.{Calls, start, ◌▸◌, new_head, named, power, keys, hearing, Bytes}
use Rattle.demands.specs.Past.{adopts, count, entry, value, in_force}
use Rattle.demands.specs.Run.{System, machine_of, runs, head_after}
use Rattle.demands.specs.Alone.{Taken, Announced}
use Rattle.demands.specs.Every.{Passed}
use Rattle.demands.specs.Demand3.{ReadsBack}
use Rattle.demands.specs.Cases.{split}
use Rattle.head.specs.declared.refusal.Refusal.{Refusal}

-- ---- a telegram of D2h, sound, for this head and of this command
pub record Assigns (h : Head) (ten : List ℕ) (command : ℕ) : Type 0 where
  pub sound : hit_of ten ≡ 0
  pub commanded : (fields_of ten).command ≡ command
  pub here : (fields_of ten).node ≡ h.stored.number
  pub assigns : (fields_of ten).parameter ≡ 0xD2

-- the reply is an error with this code
abbrev pub Complains : Result ℕ Refusal → List ℕ → ℕ → Type 0
Complains x space code = (x ≡ Ok 1) × ((fields_of (take 10 space)).parameter ≡ 0xFD) × ((fields_of (take 10 space)).value ≡ code)

pub record Offers (m : System) : Type 0 where
  -- a write of D2h, 1 to 31, to a head whose number in force is 31 is remembered, without a reply; else it is a sound telegram like any other
  pub remembers : (h : Head) (b t : ℕ) (space : List ℕ) → Taken h space → is_some (gathered_of h.ear b t).ten ≡ true
      → let ten = ten_in (gathered_of h.ear b t).ten in Assigns h ten 1 → h.stored.number ≡ 31 → 1 ≤ (fields_of ten).value → (fields_of ten).value ≤ 31
      → ((m.on_head.byte h b t (length space)).heard ≡ Ok 0)
      × (m.on_head.space h b t space ≡ space)
      × Passed h (m.on_head.byte h b t (length space)).head t (fields_of ten).value
  -- outside the range it is refused with 01 82 or 02 82, and drops the offer; what else it leaves as it was, `errs` of Every says
  pub drops : (h : Head) (b t : ℕ) (space : List ℕ) → Taken h space → is_some (gathered_of h.ear b t).ten ≡ true
      → let ten = ten_in (gathered_of h.ear b t).ten in Assigns h ten 1 → h.stored.number ≡ 31 → ((fields_of ten).value ≡ 0) ⊎ (31 < (fields_of ten).value)
      → Complains (m.on_head.byte h b t (length space)).heard (m.on_head.space h b t space) (cond (eqb (fields_of ten).value 0) 0x0182 0x0282)
      × ((m.on_head.byte h b t (length space)).head.stored.offer ≡ 0)
  -- where the number in force is not 31 it is refused with 00 85, whatever the value; a read with 02 84
  pub elsewhere : (h : Head) (b t : ℕ) (space : List ℕ) → Taken h space → is_some (gathered_of h.ear b t).ten ≡ true
      → Assigns h (ten_in (gathered_of h.ear b t).ten) 1 → h.stored.number ≢ 31
      → Complains (m.on_head.byte h b t (length space)).heard (m.on_head.space h b t space) 0x0085
  pub unread : (h : Head) (b t : ℕ) (space : List ℕ) → Taken h space → is_some (gathered_of h.ear b t).ten ≡ true
      → Assigns h (ten_in (gathered_of h.ear b t).ten) 0
      → Complains (m.on_head.byte h b t (length space)).heard (m.on_head.space h b t space) 0x0284
  -- a command above 02h with 00 84
  pub above : (h : Head) (b t : ℕ) (space : List ℕ) → Taken h space → is_some (gathered_of h.ear b t).ten ≡ true
      → (command : ℕ) → 2 < command → Assigns h (ten_in (gathered_of h.ear b t).ten) command
      → Complains (m.on_head.byte h b t (length space)).heard (m.on_head.space h b t space) 0x0084
  -- a broadcast is silent, and does nothing
  pub uncast : (h : Head) (b t : ℕ) (space : List ℕ) → Taken h space → is_some (gathered_of h.ear b t).ten ≡ true
      → let ten = ten_in (gathered_of h.ear b t).ten in hit_of ten ≡ 0 → (fields_of ten).command ≡ 2 → (fields_of ten).parameter ≡ 0xD2
      → ((m.on_head.byte h b t (length space)).heard ≡ Ok 0)
      × (m.on_head.space h b t space ≡ space)
      × Passed h (m.on_head.byte h b t (length space)).head t h.stored.offer
  -- every telegram but a sound write of D2h at this head, whose number in force is 31, leaves the offer as it is, unless it restarts the head
  pub leaves : (h : Head) (b t : ℕ) (space : List ℕ) → Taken h space → is_some (gathered_of h.ear b t).ten ≡ true
      → let ten = ten_in (gathered_of h.ear b t).ten in (Assigns h ten 1 → h.stored.number ≢ 31) → (judged_of ten (standing_of h)).deed ≢ Restart
      → (m.on_head.byte h b t (length space)).head.stored.offer ≡ h.stored.offer

-- ---- after the calls cs, the key state s of head k, with n bytes lent, is taken; and it adopts: up is newly pressed, and a number is offered
pub record TakenAt (cs : Calls) (k s n : ℕ) : Type 0 where
  pub there : k < count cs
  pub state : s ≤ 7
  pub room : 10 ≤ n

abbrev pub adopts_at : Calls → ℕ → ℕ → Bool
adopts_at cs k s = adopts s (entry cs k)

abbrev pub offer_at : Calls → ℕ → ℕ
offer_at cs k = (entry cs k).offer

pub record AutoId (m : System) : Type 0 where
  -- a number that is offered is 1 to 31, and the head's number in force is 31
  pub offered : (cs : Calls) (k : ℕ) → k < count cs → offer_at cs k ≢ 0 → (offer_at cs k ≤ 31) × (in_force cs k ≡ 31)
  -- adopted, it is the value of 00h and in force at once; no offer is left, and no key is down
  pub adopted : (cs : Calls) (k s n : ℕ) → TakenAt cs k s n → adopts_at cs k s ≡ true
      → let ds = cs ▸ keys k s n in (value ds k 0 ≡ offer_at cs k) × (in_force ds k ≡ offer_at cs k) × (offer_at ds k ≡ 0) × ((entry ds k).keys ≡ 0)
  -- every other value stays
  pub others : (cs : Calls) (k s n r : ℕ) → TakenAt cs k s n → r ≢ 0 → value (cs ▸ keys k s n) k r ≡ value cs k r
  -- the head hands that number out, and 00h reads it back there, by demand 3's own reading
  pub in_force_lem : (cs : Calls) (k s n : ℕ) → TakenAt cs k s n → adopts_at cs k s ≡ true
      → (machine_of m).number (head_after (machine_of m) (cs ▸ keys k s n) k) ≡ offer_at cs k
  pub reads_back : (cs : Calls) (k s n : ℕ) → Bytes cs → TakenAt cs k s n → adopts_at cs k s ≡ true
      → ReadsBack (machine_of m) (head_after (machine_of m) (cs ▸ keys k s n) k) (offer_at cs k) 0 (offer_at cs k)
  -- it is told in one reply, which passes its check
  pub told : (cs : Calls) (k s : ℕ) (space : List ℕ) → TakenAt cs k s (length space) → adopts_at cs k s ≡ true
      → let l = runs (machine_of m) cs in
      ((m.on_line_of.keys l k s (length space)).heard ≡ Ok 1)
      × Announced (head_after (machine_of m) cs k) space (m.on_line_of.key_space l k s space)
      × ((head_after (machine_of m) cs k).stored.offer ≡ offer_at cs k)
  -- a key state that adopts no number draws no reply, and stores nothing
  pub silent : (cs : Calls) (k s : ℕ) (space : List ℕ) → TakenAt cs k s (length space) → adopts_at cs k s ≡ false
      → let l = runs (machine_of m) cs in
      ((m.on_line_of.keys l k s (length space)).heard ≡ Ok 0)
      × (m.on_line_of.key_space l k s space ≡ space)
      × ((head_after (machine_of m) (cs ▸ keys k s (length space)) k).stored ≡ (head_after (machine_of m) cs k).stored)
  -- whatever it does, it changes no other head: two heads at 31 both remember, and only the one whose key is pressed adopts
  pub alone : (cs : Calls) (k j s n : ℕ) → j < count cs → j ≢ k
      → head_after (machine_of m) (cs ▸ keys k s n) j ≡ head_after (machine_of m) cs j

-- ---- the story of 6.8: two heads at 31; 5 is offered, and up pressed at the one; 6 is offered, and up pressed at the other
abbrev pub two : Calls
two = start ▸ new_head 31 4711 ▸ new_head 31 4712

-- ten bytes more, written as one number, all at the time 0; nine, which lack the last
abbrev pub hear : Calls → ℕ → Calls
hear cs ten = hearing cs (split 10 ten)

abbrev pub begin : Calls → ℕ → Calls
begin cs nine = hearing cs (split 9 nine)

abbrev pub five : Calls
five = hear two 0x011FD2000000000005C9

abbrev pub six : Calls
six = hear (five ▸ keys 0 4 10) 0x011FD2000000000006CA

abbrev pub both : Calls
both = six ▸ keys 1 4 10

pub record Story (m : System) : Type 0 where
  -- neither write is answered; both heads remember the first, the second reaches the one that is still at 31
  pub no_reply_lem : (m.on_line_of.byte (runs (machine_of m) (begin two 0x011FD2000000000005)) 0xC9 0 10).heard ≡ Ok 0
  pub remembered : (offer_at five 0 ≡ 5) × (offer_at five 1 ≡ 5)
  -- each adoption is told by node 31, with the new number
  pub first : ((m.on_line_of.keys (runs (machine_of m) five) 0 4 10).heard ≡ Ok 1)
      × (m.on_line_of.key_space (runs (machine_of m) five) 0 4 (replicate 10 0) ≡ split 10 0x011FD2000000000005C9)
  pub second : ((m.on_line_of.keys (runs (machine_of m) six) 1 4 10).heard ≡ Ok 1)
      × (m.on_line_of.key_space (runs (machine_of m) six) 1 4 (replicate 10 0) ≡ split 10 0x011FD2000000000006CA)
  -- the reads of 00h at 5, at 6 and at 31: 5 and 6 answer, 31 nobody
  pub at_five : (m.on_line_of.byte (runs (machine_of m) (begin both 0x000500000000000000)) 0x05 0 10).heard ≡ Ok 1
  pub at_six : (m.on_line_of.byte (runs (machine_of m) (begin both 0x000600000000000000)) 0x06 0 10).heard ≡ Ok 1
  pub at_none : (m.on_line_of.byte (runs (machine_of m) (begin both 0x001F00000000000000)) 0x1F 0 10).heard ≡ Ok 0
  pub reads : (m.on_line_of.space (runs (machine_of m) (begin both 0x000500000000000000)) 0x05 0 (replicate 10 0) ≡ split 10 0x00050000000000000500)
      × (m.on_line_of.space (runs (machine_of m) (begin both 0x000600000000000000)) 0x06 0 (replicate 10 0) ≡ split 10 0x00060000000000000600)

-- ---- by the account, what is offered to head 0 of the two after some calls
pub record Offered : Type 0 where
  pub calls : Calls
  pub offer : ℕ

abbrev pub offered : Calls → ℕ → Offered
offered cs n = record { calls = cs; offer = n }

abbrev pub AllOffered : List Offered → Type 0
AllOffered [] = Unit {0}
AllOffered (o ∷ os) = (offer_at o.calls 0 ≡ o.offer) × AllOffered os

unfoldable pub cases : List Offered
cases =
    offered two 0
    -- a second write replaces the offer; 31 may be offered
    ∷ offered (hear five 0x011FD2000000000006CA) 6
    ∷ offered (hear five 0x011FD200000000001FD3) 31
    -- 0 and 32 drop it
    ∷ offered (hear five 0x011FD2000000000000CC) 0
    ∷ offered (hear five 0x011FD2000000000020EC) 0
    -- damaged, for another node, broadcast or read, these leave it: 0, with a check sum that is off by one; 0 at 30; 0 to all; the read
    ∷ offered (hear five 0x011FD2000000000000CD) 5
    ∷ offered (hear five 0x011ED2000000000000CD) 5
    ∷ offered (hear five 0x021FD2000000000000CF) 5
    ∷ offered (hear five 0x001FD2000000000000CD) 5
    -- so does a reset, A0h 1, and a closed interlock is none for D2h: 0Eh is set to 1 before
    ∷ offered (hear five 0x011FA0000000000001BF) 5
    ∷ offered (hear (hear two 0x011F0E00000000000111) 0x011FD2000000000005C9) 5
    -- power and A0h 9 drop it
    ∷ offered (five ▸ named 0 power) 0
    ∷ offered (hear five 0x011FA0000000000009B7) 0
    -- a key state that is refused leaves it: a key state of 12, nine bytes lent; so does up that was held down before the offer
    ∷ offered (five ▸ keys 0 12 10) 5
    ∷ offered (five ▸ keys 0 4 9) 5
    ∷ offered (hear (two ▸ keys 0 4 10) 0x011FD2000000000005C9 ▸ keys 0 4 10) 5
    -- a head at 12 takes none: 00h is set to 12, power is cut, and 5 is offered at 12
    ∷ offered (hear (hear two 0x011F0000000000000C12 ▸ named 0 power) 0x010CD2000000000005DA) 0
    ∷ []
