-- Demand 3 fails for a machine that only echoes after the first telegram, and for a line that takes a new node number into force at once. Each by a
-- line of one head that hears two writes: what the account has, and what the machine has, are computed.
-- Assumes nothing.
use Prim.Native.Nat.{ℕ, ◌<◌, ◌≤◌}
use mathlib.Core.Path.{◌≡◌, refl, sym, ◌∙◌, ap}
use mathlib.Core.Bool.{Bool, true, ◌&&◌, and-eq-true_iff}
use mathlib.Core.List.{List, [], ◌∷◌}
use native.Mathlib.Omega.{arith}
use borrow.Author.Tests.{ltb-true}
use lib.Dec.{ltb}
use lib.ListN.{replicate}
use Rattle.wire.specs.Telegram.{fields_of}
use Rattle.rows.specs.Table.{row_of, address}
use Rattle.demands.specs.Calls.{new_head, byte, Calls, start, ◌▸◌, Bytes, hearing}
use Rattle.demands.specs.Past.{since, count, value, in_force}
use Rattle.demands.specs.Run.{head_after, answers, read_of, machine_of}
use Rattle.demands.specs.Demand3.{ReadsBack, Demand3}
use Rattle.demands.specs.Cases.{split}
use Rattle.demands.specs.Wrong.{echoing, hasty}
use Rattle.demands.proofs.Computing.{computing}

abbrev are_bytes : List ℕ → Bool
are_bytes [] = true
are_bytes (b ∷ bs) = ltb b 256 && are_bytes bs

hearing_bytes : (cs : Calls) (bs : List ℕ) → Bytes cs → are_bytes bs ≡ true → Bytes (hearing cs bs)
hearing_bytes cs [] p e = p
hearing_bytes cs (b ∷ bs) p e = let k = (and-eq-true_iff (ltb b 256) _).0 e in hearing_bytes (cs ▸ byte b 0 10) bs (p, ltb-true b 256 k.0) k.1

-- ---- a head at 31 hears a write of 04h 7, and one of 04h 9: the account has the second value, and the machine reads back the first
abbrev first : Calls
first = hearing (start ▸ new_head 31 4711) (split 10 0x011F040000000000071D)

abbrev both : Calls
both = hearing first (split 10 0x011F0400000000000913)

the_account : (value both 0 4 ≡ 9) × (in_force both 0 ≡ 31) × (count both ≡ 1)
unfolding computing
the_account = (refl, refl, refl)

the_reply : answers echoing (read_of 31 4 0 0) (λ i. 0) 0 (echoing.emptied (head_after echoing both 0)) (replicate 10 0) ≡ split 10 0x001F040000000000071C ∷ []
unfolding computing
the_reply = refl

fourth : address (row_of 4) ≡ 4
unfolding computing
fourth = refl

-- its data are 7
reply_value : (fields_of (split 10 0x001F040000000000071C)).value ≡ 7
unfolding computing
reply_value = refl

steady : (i : ℕ) → since 0 0 ≤ 10
unfolding computing
steady i = omega arith

same_head : {x y : List ℕ} → x ∷ [] ≡ y ∷ [] → y ≡ x
same_head e = cc

pub echoing_fails : Demand3 echoing → ⊥
echoing_fails d =
    let one : 0 < count both = rw the_account.2 (omega arith) in
    let h = d.holds both 0 4 (hearing_bytes first (split 10 0x011F0400000000000913) (hearing_bytes (start ▸ new_head 31 4711) (split 10 0x011F040000000000071D) (tt, tt) refl) refl) one (omega arith) in
    let back : ReadsBack echoing (head_after echoing both 0) 31 4 9 = rw (the_account.0, the_account.1) at h.now in
    let r = back.reads_back (λ i. 0) 0 0 (replicate 10 0) steady (omega arith) in
    let is : r.0 ≡ split 10 0x001F040000000000071C = same_head (sym the_reply ∙ rw fourth at r.1) in
    let nine : ◌≡◌ {A = ℕ} 7 9 = sym reply_value ∙ ap (λ (x : List ℕ). (fields_of x).value) (sym is) ∙ r.2.shown in
    omega arith

-- ---- a head at 31 hears a write of 00h 12: 31 stays in force
abbrev twelve : Calls
twelve = hearing (start ▸ new_head 31 4711) (split 10 0x011F0000000000000C12)

still_31 : (in_force twelve 0 ≡ 31) × (count twelve ≡ 1) × ((head_after (machine_of hasty) twelve 0).stored.number ≡ 12)
unfolding computing
still_31 = (refl, refl, refl)

pub hasty_fails : Demand3 (machine_of hasty) → ⊥
hasty_fails d =
    let one : 0 < count twelve = rw still_31.1 (omega arith) in
    let z : ◌≡◌ {A = ℕ} 12 31 = sym still_31.2 ∙ d.in_force_lem twelve 0 one ∙ still_31.0 in
    omega arith
