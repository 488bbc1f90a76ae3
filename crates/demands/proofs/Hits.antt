-- What a head keeps of the last damaged telegram is what looking back over the calls finds: by induction over the calls, each call seen at one head.
-- Assumes nothing.
use Rattle.std.specs.Prelude.{Ok, Err}
use Prim.Native.Nat.{ℕ, ◌<◌, ◌≤◌}
use mathlib.Core.Path.{◌≡◌, refl, sym, ◌∙◌, ap}
use mathlib.Core.Bool.{Bool, true, false, cond, ◌&&◌, ◌||◌}
use mathlib.Core.List.{List}
use mathlib.Core.Option.{none, some}
use borrow.Author.Tests.{ltb-true, ltb-false, eqb-false, le-ltb}
use lib.Dec.{leb, ltb, eqb}
use lib.ListN.{length, replicate}
use Rattle.wire.specs.Check.{xor_all, hit_of}
use Rattle.wire.specs.Telegram.{bytes_of}
use Rattle.wire.proofs.Laws.{built_sound, built_ten}
use Rattle.wire.proofs.Noise.{turned}
use Rattle.rows.proofs.Groups.{either}
use Rattle.judge.specs.Judged.{judged_of}
use Rattle.state.specs.declared.parts.Head.{Head}
use Rattle.state.specs.declared.parts.Faults.{Faults}
use Rattle.state.specs.Wellformed.{in_reach_of}
use Rattle.effects.specs.Faults.{counted_of, restarted_faults}
use Rattle.effects.specs.Restart.{restarted_of, adopted_of, fresh_of}
use Rattle.head.specs.declared.hear.Stepped.{Stepped}
use Rattle.head.specs.Hear.{standing_of, tell_of, step_of}
use Rattle.head.specs.Moves.{adopts_of, keyed_of}
use Rattle.head.specs.Calls as head
use Rattle.head.specs.Outcome as alone
use Rattle.head.specs.declared.refusal.Refusal.TheVariants.{NoHead}
use Rattle.line.specs.Calls.{last_hit_of}
use Rattle.line.proofs.Theorems.{well_at}
use Rattle.head.specs.Calls.{loaded_of}
use Rattle.demands.specs.Calls.{Ask, measure, power, load, bring, Call, new_head, byte, tick, named, keys, dropped, Calls, ◌▸◌}
use Rattle.demands.specs.Past.{Entry, grown, room, gather, making, nothing, locked, telling, hearing, storing, loadable, loaded, asked, adopts, adopting, pressing, pressed, makes, names, change, look, count, serials, entry}
use Rattle.demands.specs.Run.{run, head_in, product}
use Rattle.demands.specs.Hits.{Shown, damage, hits, last_hit, Hits, AllSeen, cases}
use Rattle.demands.proofs.Older.{brought}
use Rattle.demands.proofs.Computing.{computing}
use Rattle.demands.proofs.Telegram.{told_restarts}
use Rattle.demands.proofs.Ear.{ear_alone, ear_whole}
use Rattle.demands.proofs.Loading.{guarded_is}
use Rattle.demands.proofs.Heads.{asked_of, keyed_by, head_by}
use Rattle.demands.proofs.Sim.{Is, sim, fits, number_is, locked_is, adopts_is, seen, of_heads}
use Rattle.demands.proofs.Alone.{ticked, measured, keyed}
use Rattle.demands.proofs.Telling.{told_marks, counted_damaged}
use Rattle.demands.proofs.Lines.{shows, line_shows}

abbrev kept : Head → ℕ
kept h = h.faults.hit

-- what counting ten bytes leaves, by their exclusive-or
counted_hit : (x : ℕ) (f : Faults) → (counted_of x f).hit ≡ look (cond (eqb x 0) none (some x)) f.hit
unfolding counted_of look
counted_hit x f = go (eqb x 0) refl
  where
    go : (sound : Bool) → eqb x 0 ≡ sound → (counted_of x f).hit ≡ look (cond sound none (some x)) f.hit
    go true e = rw e
    go false e = (counted_damaged f x (eqb-false x 0 e)).0

-- what a key state leaves, by its two ways
adopted_kept : (h : Head) (s : ℕ) → adopts_of h s ≡ true → kept (keyed_of h s).head ≡ 0
unfolding keyed_of adopted_of restarted_of restarted_faults
adopted_kept h s e = rw e

up_kept : (h : Head) (s : ℕ) → adopts_of h s ≡ false → kept (keyed_of h s).head ≡ kept h
unfolding keyed_of
up_kept h s e = rw e (keyed h s).hit

-- ---- one call, at head k of n heads
module _ (h : Head) (e : Entry) (A : Is h e) where
  told_kept : (ten : List ℕ) (t : ℕ)
      → kept (tell_of h ten t).head ≡ cond (telling e ten).restarts 0 (look (cond (eqb (xor_all ten) 0) none (some (xor_all ten))) (kept h))
  unfolding tell_of judged_of hit_of
  told_kept ten t =
      (told_marks (judged_of ten (standing_of h)) h t).0
      ∙ rw (told_restarts ten (standing_of h) e.number (locked e) (number_is h e A) (locked_is h e A), counted_hit (hit_of ten) h.faults)

  heard_kept : (b t : ℕ) → let l = gather e.ear b t in
      kept (step_of h b t).head ≡ cond (hearing e l).restarts 0 (look (damage l) (kept h))
  unfolding hearing look
  heard_kept b t = go (ltb (length l) 10) refl
    where
      l : List ℕ
      l = gather e.ear b t

      go : (few : Bool) → ltb (length l) 10 ≡ few
          → kept (step_of h b t).head
          ≡ cond (cond few nothing (telling e l)).restarts 0 (look (cond (few || eqb (xor_all l) 0) none (some (xor_all l))) (kept h))
      go true p = ap kept (ear_alone h e.ear b t A.ear_is (ltb-true _ _ p))
      go false p = ap (λ (s : Stepped). kept s.head) (ear_whole h e.ear b t A.ear_is (ltb-false _ _ p)) ∙ told_kept l t

  ask_kept : (a : Ask) → kept (asked_of a h) ≡ cond (asked a e).restarts 0 (kept h)
  unfolding asked_of alone.own alone.next asked loaded loaded_of restarted_of restarted_faults
  ask_kept (measure m) = either (λ (x : Head). kept x ≡ kept h) (in_reach_of m) (λ _. ap (λ (f : Faults). f.hit) (measured h m).faults) refl
  ask_kept power = refl
  ask_kept bring = ap (λ (f : Faults). f.hit) (brought h).faults
  ask_kept (load s) = rw (guarded_is s h (loaded_of h s)) (elim (loadable s) as (λ x. kept (cond x (loaded_of h s) h) ≡ cond (cond x (storing s) nothing).restarts 0 (kept h)) [ true ↦ refl | false ↦ refl ])

  -- a key state leaves it, but for the restart of an adoption
  keys_kept : (s n : ℕ) → kept (keyed_by s n h) ≡ cond (pressed s n e).restarts 0 (kept h)
  unfolding keyed_by pressed
  keys_kept s n = go (leb s 7 && room n) (adopts s e) (sym (adopts_is h e A s))
    where
      go : (x y : Bool) → y ≡ adopts_of h s
          → kept (cond x (keyed_of h s).head h) ≡ cond (cond x (cond y (adopting e.offer) (pressing s)) nothing).restarts 0 (kept h)
      go true true p = adopted_kept h s (sym p)
      go true false p = up_kept h s (sym p)
      go false y p = refl

  step_kept : (c : Call) (n : ℕ) (ss : List ℕ) (k : ℕ) → kept (head_by c n ss k h) ≡ cond (change c n ss k e).restarts 0 (look (hits c e) (kept h))
  unfolding head_by change hits look fresh_of restarted_of restarted_faults
  step_kept (new_head node serial) n ss k =
      elim (makes n ss node serial k) as (λ x. kept (cond x (fresh_of node serial) h) ≡ cond (cond x (making node) nothing).restarts 0 (kept h)) [ true ↦ refl | false ↦ refl ]
  step_kept (byte b t s) n ss k =
      let l = gather e.ear b t in
      elim (room s) as (λ x. kept (cond x (step_of h b t).head h) ≡ cond (cond x (hearing e l) nothing).restarts 0 (look (cond x (damage l) none) (kept h)))
      [ true ↦ heard_kept b t | false ↦ refl ]
  step_kept (tick t) n ss k = (ticked h t).hit
  step_kept (named j a) n ss k =
      elim (names n j k) as (λ x. kept (cond x (asked_of a h) h) ≡ cond (cond x (asked a e) nothing).restarts 0 (kept h)) [ true ↦ ask_kept a | false ↦ refl ]
  step_kept (keys j s r) n ss k =
      elim (names n j k) as (λ x. kept (cond x (keyed_by s r h) h) ≡ cond (cond x (pressed s r e) nothing).restarts 0 (kept h)) [ true ↦ keys_kept s r | false ↦ refl ]
  step_kept (dropped t) n ss k = refl

-- ---- for every list of calls
kept_old : (cs : Calls) (c : Call) (k : ℕ) → k < grown c (count cs) (serials cs) → k < count cs → kept (head_in cs k) ≡ last_hit cs k
    → kept (head_in (cs ▸ c) k) ≡ last_hit (cs ▸ c) k
unfolding last_hit
kept_old cs c k lt old A = ap kept (seen cs c k lt) ∙ step_kept (head_in cs k) (entry cs k) (sim cs k old) c (count cs) (serials cs) k ∙ rw A

-- the head that a call makes keeps nothing, whatever stood in its place
kept_new : (cs : Calls) (node serial k : ℕ) → k < grown (new_head node serial) (count cs) (serials cs) → makes (count cs) (serials cs) node serial k ≡ true
    → kept (head_in (cs ▸ new_head node serial) k) ≡ last_hit (cs ▸ new_head node serial) k
unfolding last_hit head_by change fresh_of restarted_of restarted_faults
kept_new cs node serial k lt e = ap kept (seen cs (new_head node serial) k lt) ∙ rw e

kept_is : (cs : Calls) (k : ℕ) → k < count cs → kept (head_in cs k) ≡ last_hit cs k
kept_is = of_heads (λ cs k. kept (head_in cs k) ≡ last_hit cs k) kept_old kept_new

module _ (cs : Calls) (k : ℕ) where
  shown : k < count cs → head.last_hit_of (head_in cs k) ≡ Ok (last_hit cs k)
  shown lt =
      let f = fits cs in
      let there : k < (run cs).count = rw f.counts lt in
      shows (head_in cs k) (well_at (run cs) f.fits k there) ∙ rw (kept_is cs k lt)

  shown_on_lem : k < count cs → last_hit_of (run cs) k ≡ Ok (last_hit cs k)
  shown_on_lem lt =
      let f = fits cs in
      line_shows (run cs) (record { fits = f.fits; places = f.places }) k (rw f.counts lt) ∙ shown lt

  none_there : count cs ≤ k → last_hit_of (run cs) k ≡ Err NoHead
  unfolding last_hit_of
  none_there le = let f = fits cs in rw (f.fits, f.counts, le-ltb k (count cs) le)

-- ---- what is shown
zeros : hit_of (replicate 10 0) ≡ 0
unfolding hit_of
zeros = refl

pub shown_bits : Shown
shown_bits =
    record {
      zeros = zeros;
      turned = λ ten i e n lt. turned ten i e (rw n lt);
      one_byte = λ t i e lt. turned (bytes_of t) i e (rw (built_ten t) lt) ∙ rw (built_sound t);
    }

pub hits_kept : Hits product
hits_kept = record { on_line = shown_on_lem; alone = shown; no_head = none_there }

pub all_seen : AllSeen product cases
unfolding computing cases
all_seen = (refl, refl, (refl, refl, (refl, refl, (refl, refl, (refl, refl, (refl, refl, (refl, refl, (refl, refl, (refl, refl, (refl, refl, (refl, refl, (refl, refl, (refl, refl, tt)))))))))))))
