-- Demand 3, proved: the value is what the last call that touched the parameter gave it, by going back over the calls; that it is read back is
-- Back's, and a power cut is one call more, which touches no value. One reply and one change are One's.
-- Assumes nothing.
use Prim.Native.Nat.{ℕ, suc, ◌<◌, ◌≤◌}
use mathlib.Core.Path.{◌≡◌, refl, sym}
use mathlib.Core.Bool.{Bool, true, false, cond, ◌&&◌}
use mathlib.Core.Option.{Option, none, some}
use native.Mathlib.Nat.{not-suc-le-zero}
use native.Mathlib.Omega.{arith}
use borrow.Author.Tests.{eqb-false}
use lib.Dec.{eqb}
use lib.ListN.{length, get_or}
use Rattle.head.specs.Calls.{factory_of}
use Rattle.line.proofs.Laws.{fits_small}
use Rattle.line.proofs.Apart.{serial_at, serials_length}
use Rattle.demands.specs.Calls.{Call, new_head, byte, tick, named, keys, dropped, power, Calls, start, ◌▸◌, Bytes}
use Rattle.demands.specs.Past.{nothing, making, may_add_of, grown, cutting, asked, names, change, look, next, account, count, serials, value, in_force}
use Rattle.demands.specs.Run.{built, run, head_in}
use Rattle.demands.specs.Demand3.{touch, Last, here, earlier, ReadsBack, Demand3}
use Rattle.demands.proofs.Sim.{fits, sim}
use Rattle.demands.proofs.One.{one_reply, one_change}
use Rattle.demands.proofs.Back.{now_back}

-- ---- a power cut touches no stored value
value_power : (cs : Calls) (j k r : ℕ) → value (cs ▸ named j power) k r ≡ value cs k r
unfolding account next change asked look
value_power cs j k r = elim (names (count cs) j k) as (λ x. look ((cond x cutting nothing).gives r) (value cs k r) ≡ value cs k r) [ true ↦ refl | false ↦ refl ]

count_power : (cs : Calls) (j : ℕ) → count (cs ▸ named j power) ≡ count cs
unfolding account grown
count_power cs j = refl

cut_back : (cs : Calls) (k r : ℕ) → Bytes cs → k < count cs → r < 39
    → ReadsBack built (head_in (cs ▸ named k power) k) (in_force (cs ▸ named k power) k) r (value cs k r)
cut_back cs k r bytes kl rl =
    rw (← value_power cs k k r) (now_back (cs ▸ named k power) k r (bytes, tt) (rw (count_power cs k) kl) rl)

-- ---- a call that does not touch a head's parameter did not make the head
before : (cs : Calls) (c : Call) (k r : ℕ) → k < count (cs ▸ c) → touch cs c k r ≡ none → k < count cs
unfolding account grown change
before cs (new_head node serial) k r lt e = go (may_add_of (count cs) (serials cs) node serial) (eqb k (count cs)) refl lt e
  where
    go : (b d : Bool) → eqb k (count cs) ≡ d → k < cond b (suc (count cs)) (count cs)
        → (cond (b && d) (making node) nothing).gives r ≡ none → k < count cs
    go false d q lt e = lt
    go true false q lt e = let ne = eqb-false k (count cs) q in omega arith
    go true true q lt e = let z : ◌≡◌ {A = ℕ} 0 1 = cc in absurd (omega arith)
before cs (byte b t s) k r lt e = lt
before cs (tick t) k r lt e = lt
before cs (named j a) k r lt e = lt
before cs (keys j s n) k r lt e = lt
before cs (dropped t) k r lt e = lt

last : (cs : Calls) (k r : ℕ) → k < count cs → Last k r (value cs k r) cs
unfolding account next look
last start k r lt = absurd (not-suc-le-zero lt)
last (cs ▸ c) k r lt = go (touch cs c k r) refl (λ old. last cs k r old)
  where
    go : (o : Option ℕ) → touch cs c k r ≡ o → (k < count cs → Last k r (value cs k r) cs) → Last k r (look o (value cs k r)) (cs ▸ c)
    go (some v) e ih = here e
    go none e ih = earlier e (ih (before cs c k r lt e))

-- the serial numbers of the line are those that the account keeps
module _ (cs : Calls) where
  few : (run cs).count ≤ length (run cs).heads
  few = omega (arith, fits_small (run cs) (fits cs).fits, (fits cs).places)

  pub marks_long : length (serials cs) ≡ count cs
  marks_long = rw (← (fits cs).marks, ← (fits cs).counts) (serials_length (run cs).count (run cs).heads few)

  pub marked_as : (k : ℕ) → k < count cs → (head_in cs k).stored.serial ≡ get_or (serials cs) k 0
  marked_as k kl =
      let p : k < (run cs).count = rw (fits cs).counts kl in
      rw (← (fits cs).marks) (sym (serial_at (factory_of 0) k (run cs).count (run cs).heads p (omega (arith, few, p))))

pub proved : Demand3 built
proved =
    record {
      thirty_two = λ cs. ((fits cs).counts, rw (fits cs).counts at (fits_small (run cs) (fits cs).fits), (fits cs).fits);
      serial = λ cs. (marks_long cs, λ k kl. marked_as cs k kl);
      in_force_lem = λ cs k kl. (sim cs k kl).force_is;
      holds = λ cs k r bytes kl rl.
          record { is_last = last cs k r kl; now = now_back cs k r bytes kl rl; after_cut = cut_back cs k r bytes kl rl };
      one_reply = one_reply;
      one_change = one_change;
    }
