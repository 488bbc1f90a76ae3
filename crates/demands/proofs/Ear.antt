-- A head's bytes gathered, and the account's: a byte that ends no telegram is gathered, and one that ends it hands the ten bytes to the head.
-- As many bytes stand in the ear as are gathered, so both count alike.
-- Assumes nothing.
use Prim.Native.Nat.{ℕ, suc, ◌+◌, ◌<◌, ◌≤◌}
use mathlib.Core.Path.{◌≡◌, refl, sym, ◌∙◌, ap, subst}
use mathlib.Core.Bool.{Bool, true, false, cond, not}
use mathlib.Core.Logic.{◌⊎◌, inl, inr}
use mathlib.Core.List.{List, [], ◌∷◌, ◌++◌}
use native.Mathlib.Omega.{arith}
use native.Mathlib.Numerals.{add-one}
use borrow.Author.Tests.{lt-ltb, le-ltb, leb-true, leb-false}
use lib.Dec.{leb, ltb}
use lib.ListN.{length, take, set, length-append, length-set}
use lib.Seq.{length-take-le, take_all, take-suc-set}
use Rattle.std.specs.Prelude.{None, is_some}
use Rattle.wire.specs.Telegram.{ten_in}
use Rattle.judge.specs.Judged.{judged_of}
use Rattle.state.specs.declared.parts.Head.{Head}
use Rattle.state.specs.declared.parts.Ear.{Ear}
use Rattle.state.specs.With.{with_ear}
use Rattle.effects.specs.Restart.{empty_ear}
use Rattle.head.specs.declared.hear.Stepped.{Stepped}
use Rattle.head.specs.Hear.{elapsed_of, kept_ear, one_more_of, gathered_of, standing_of, tell_of, step_of}
use Rattle.head.proofs.Again.{told_ear}
use Rattle.demands.specs.Past as past
use Rattle.demands.specs.Calls.{Call, Calls, start, ◌▸◌}
use Rattle.demands.specs.Past.{since, gather, ear_by, no_bytes_of, change, account, count, serials, entry}

-- the bytes that stand gathered at the head are those of the account, the last of which came when it says
pub record Gathered (h : Head) (g : past.Ear) : Type 0 where
  pub few : h.ear.count ≤ 9
  pub long : length h.ear.bytes ≡ 10
  pub got_is : take h.ear.count h.ear.bytes ≡ g.bytes
  pub time_is : (g.bytes ≡ []) ⊎ (h.ear.at ≡ g.last)

-- a byte that ends no telegram: no reply, the stored part as it was, and the byte is gathered
pub record Short (h : Head) (g : past.Ear) (b t : ℕ) : Type 0 where
  pub no_reply_lem : is_some (step_of h b t).reply ≡ false
  pub stored : (step_of h b t).head.stored ≡ h.stored
  pub more : Gathered (step_of h b t).head (record { bytes = gather g b t; last = t })

-- ---- the bytes in an ear
record Bytes (e : Ear) (g : List ℕ) : Type 0 where
  few : e.count ≤ 9
  long : length e.bytes ≡ 10
  got : take e.count e.bytes ≡ g

-- what the gap leaves of the bytes before
abbrev before : List ℕ → ℕ → ℕ → List ℕ
before g u t = cond (ltb 10 (since t u)) [] g

later : (x : ℕ) → leb x 10 ≡ not (ltb 10 x)
later x = go (leb x 10) refl
  where
    go : (b : Bool) → leb x 10 ≡ b → b ≡ not (ltb 10 x)
    go true e = let p : x ≤ 10 = leb-true x 10 e in rw (le-ltb 10 x p)
    go false e = let p : 10 < x = leb-false x 10 e in rw (lt-ltb 10 x p)

gather_is : (g : past.Ear) (b t : ℕ) → gather g b t ≡ before g.bytes g.last t ++ (b ∷ [])
unfolding gather
gather_is g b t = rw (later (since t g.last)) (go (ltb 10 (since t g.last)))
  where
    go : (x : Bool) → cond (not x) (g.bytes ++ (b ∷ [])) (b ∷ []) ≡ cond x [] g.bytes ++ (b ∷ [])
    go true = refl
    go false = refl

kept_or : (e : Ear) (g : List ℕ) (t : ℕ) (x : Bool) → Bytes e g → Bytes (cond x (empty_ear t) e) (cond x [] g)
unfolding empty_ear
kept_or e g t true k = record { few = omega arith; long = refl; got = refl }
kept_or e g t false k = k

-- with none gathered the time does not matter
none_before : (x y : Bool) (g : List ℕ) → g ≡ [] → cond x [] g ≡ cond y [] g
none_before true true g e = refl
none_before true false g e = sym e
none_before false true g e = e
none_before false false g e = refl

kept_bytes : (h : Head) (g : past.Ear) (t : ℕ) → Gathered h g → Bytes (kept_ear h.ear t) (before g.bytes g.last t)
unfolding kept_ear elapsed_of since
kept_bytes h g t k = go k.time_is
  where
    here : Bytes (cond (ltb 10 (since t h.ear.at)) (empty_ear t) h.ear) (before g.bytes h.ear.at t)
    here = kept_or h.ear g.bytes t (ltb 10 (since t h.ear.at)) (record { few = k.few; long = k.long; got = k.got_is })

    go : (g.bytes ≡ []) ⊎ (h.ear.at ≡ g.last) → Bytes (cond (ltb 10 (since t h.ear.at)) (empty_ear t) h.ear) (before g.bytes g.last t)
    go (inl e) = subst (λ (l : List ℕ). Bytes (cond (ltb 10 (since t h.ear.at)) (empty_ear t) h.ear) l) (none_before (ltb 10 (since t h.ear.at)) (ltb 10 (since t g.last)) g.bytes e) here
    go (inr e) = subst (λ (v : ℕ). Bytes (cond (ltb 10 (since t h.ear.at)) (empty_ear t) h.ear) (before g.bytes v t)) e here

-- as many bytes stand in the ear as are gathered
count_is : (e : Ear) (g : List ℕ) → Bytes e g → length g ≡ e.count
count_is e g k =
    let p : e.count ≤ length e.bytes = omega (arith, k.few, k.long) in
    ap length (sym k.got) ∙ length-take-le e.count e.bytes p

module _ (h : Head) (g : past.Ear) (b t : ℕ) (e : Gathered h g) where
  abbrev ear : Ear
  ear = kept_ear h.ear t

  inside : Bytes ear (before g.bytes g.last t)
  inside = kept_bytes h g t e

  long_is : length (gather g b t) ≡ ear.count + 1
  long_is = rw (gather_is g b t, length-append, count_is ear (before g.bytes g.last t) inside)

  short_is : ear.count < 9 → step_of h b t ≡ record { head = with_ear h (one_more_of ear b t); reply = None }
  unfolding step_of gathered_of
  short_is p = rw (lt-ltb ear.count 9 p)

  -- the bytes with one more of them
  joined : take (suc ear.count) (set ear.bytes ear.count b) ≡ gather g b t
  joined =
      let p : ear.count < length ear.bytes = omega (arith, inside.few, inside.long) in
      take-suc-set ear.bytes ear.count b p ∙ ap (λ (l : List ℕ). l ++ (b ∷ [])) inside.got ∙ sym (gather_is g b t)

  one_more : ear.count < 9 → Gathered (with_ear h (one_more_of ear b t)) (record { bytes = gather g b t; last = t })
  one_more p =
      record {
        few = omega arith;
        long = length-set ear.bytes ear.count b ∙ inside.long;
        got_is = rw (add-one ear.count) joined;
        time_is = inr refl;
      }

  whole_is : 9 ≤ ear.count → step_of h b t ≡ tell_of h (set ear.bytes 9 b) t
  unfolding step_of gathered_of
  whole_is p = rw (le-ltb ear.count 9 p)

pub ear_short : (h : Head) (g : past.Ear) (b t : ℕ) → Gathered h g → length (gather g b t) < 10 → Short h g b t
ear_short h g b t e n =
    let p : (kept_ear h.ear t).count < 9 = omega (arith, long_is h g b t e) in
    let is = short_is h g b t e p in
    record {
      no_reply_lem = ap (λ (s : Stepped). is_some s.reply) is;
      stored = ap (λ (s : Stepped). s.head.stored) is;
      more = subst (λ (s : Stepped). Gathered s.head (record { bytes = gather g b t; last = t })) (sym is) (one_more h g b t e p);
    }

-- a byte that ends a telegram: the head is told the ten bytes
pub ear_whole : (h : Head) (g : past.Ear) (b t : ℕ) → Gathered h g → 10 ≤ length (gather g b t) → step_of h b t ≡ tell_of h (gather g b t) t
ear_whole h g b t e n =
    let q : 9 ≤ (kept_ear h.ear t).count = omega (arith, long_is h g b t e) in
    let nine : (kept_ear h.ear t).count ≡ 9 = omega (arith, (inside h g b t e).few) in
    let small : length (set (kept_ear h.ear t).bytes 9 b) ≤ 10 = omega (arith, length-set (kept_ear h.ear t).bytes 9 b, (inside h g b t e).long) in
    let ten : set (kept_ear h.ear t).bytes 9 b ≡ gather g b t = sym (take_all 10 _ small) ∙ rw nine at (joined h g b t e) in
    whole_is h g b t e q ∙ ap (λ (l : List ℕ). tell_of h l t) ten

-- the same of any head, by the bytes that stand in its ear
module _ (h : Head) (b t : ℕ) (few : h.ear.count ≤ 9) (long : length h.ear.bytes ≡ 10) where
  abbrev own : past.Ear
  own = record { bytes = take h.ear.count h.ear.bytes; last = h.ear.at }

  own_got : Gathered h own
  own_got = record { few = few; long = long; got_is = refl; time_is = inr refl }

  pub heard_whole : 10 ≤ length (gather own b t) → (is_some (gathered_of h.ear b t).ten ≡ true) × (ten_in (gathered_of h.ear b t).ten ≡ gather own b t)
  unfolding gathered_of
  heard_whole n =
      let q : 9 ≤ (kept_ear h.ear t).count = omega (arith, long_is h own b t own_got) in
      let nine : (kept_ear h.ear t).count ≡ 9 = omega (arith, (inside h own b t own_got).few) in
      let small : length (set (kept_ear h.ear t).bytes 9 b) ≤ 10 = omega (arith, length-set (kept_ear h.ear t).bytes 9 b, (inside h own b t own_got).long) in
      let ten : set (kept_ear h.ear t).bytes 9 b ≡ gather own b t = sym (take_all 10 _ small) ∙ rw nine at (joined h own b t own_got) in
      rw (le-ltb (kept_ear h.ear t).count 9 q) (refl, ten)

  pub heard_short : length (gather own b t) < 10
      → (is_some (gathered_of h.ear b t).ten ≡ false) × (take (gathered_of h.ear b t).ear.count (gathered_of h.ear b t).ear.bytes ≡ gather own b t)
  unfolding gathered_of
  heard_short n =
      let p : (kept_ear h.ear t).count < 9 = omega (arith, long_is h own b t own_got) in
      rw (lt-ltb (kept_ear h.ear t).count 9 p) (refl, (one_more h own b t own_got p).got_is)

-- and none stands gathered then
pub told_none : (h : Head) (ten : List ℕ) (t : ℕ) (g : past.Ear) → g.bytes ≡ [] → Gathered (tell_of h ten t).head g
unfolding tell_of empty_ear
told_none h ten t g none =
    let e = told_ear (judged_of ten (standing_of h)) h t in
    record { few = rw e (omega arith); long = rw e; got_is = rw e (sym none); time_is = inl none }

-- a byte that ends no telegram changes the bytes gathered alone
pub ear_alone : (h : Head) (g : past.Ear) (b t : ℕ) → Gathered h g → length (gather g b t) < 10
    → (step_of h b t).head ≡ with_ear h (step_of h b t).head.ear
ear_alone h g b t e n =
    let p : (kept_ear h.ear t).count < 9 = omega (arith, long_is h g b t e) in
    rw (short_is h g b t e p)

-- what holds of no bytes, and after a call of what stands gathered if it held before, holds of what stands gathered in the account
pub ear_all : (P : Calls → List ℕ → Type 0) → ((cs : Calls) → P cs [])
    → ((cs : Calls) (c : Call) (g : past.Ear) → P cs g.bytes → P (cs ▸ c) (ear_by c g).bytes)
    → (cs : Calls) (k : ℕ) → P cs (entry cs k).ear.bytes
unfolding account past.next
ear_all P none more start k = none start
ear_all P none more (cs ▸ c) k =
    elim (change c (count cs) (serials cs) k (entry cs k)).restarts as (λ x. P (cs ▸ c) (cond x no_bytes_of (ear_by c (entry cs k).ear)).bytes)
    [ true ↦ none (cs ▸ c) | false ↦ more cs c (entry cs k).ear (ear_all P none more cs k) ]
