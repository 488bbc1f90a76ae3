-- While the numbers in force differ, a byte draws one reply at most and, but for a broadcast, changes one head's stored parameters at most.
-- What a head has gathered is the end of all that the line has heard, and shorter than ten bytes: heads that complete a telegram at the same
-- byte complete the same one, and a head whose number in force is not its node byte neither answers nor stores.
-- Assumes nothing.
use Rattle.std.specs.Prelude.{Ok, Err, Result, is_some}
use Prim.Native.Nat.{ℕ, zero, suc, ◌<◌, ◌≤◌}
use mathlib.Core.Path.{◌≡◌, refl, sym, ◌∙◌, ap}
use mathlib.Core.Bool.{Bool, true, false, cond, ◌||◌, true≢false}
use mathlib.Core.Logic.{◌≢◌, ◌⊎◌, inl, inr, ⊎_elim}
use mathlib.Core.List.{List, [], ◌∷◌, ◌++◌, append_assoc, append-nil}
use native.Mathlib.Omega.{arith}
use borrow.Author.Tests.{ltb-true, lt-ltb, eqb-true}
use lib.Dec.{leb, ltb, eqb}
use lib.ListN.{length, get_or, length-append}
use lib.Seq.{drop-append_seam}
use Rattle.wire.specs.declared.fault.Fault.{Fault}
use Rattle.wire.specs.Check.{hit_of}
use Rattle.wire.specs.Telegram.{fields_of, ten_in}
use Rattle.rows.proofs.Groups.{less_or_not}
use Rattle.judge.specs.declared.verdict.Verdict.{Verdict}
use Rattle.judge.specs.declared.verdict.Verdict.TheVariants.{Obeyed, Silent, Refused}
use Rattle.judge.specs.Commands.{command_of, casts_of}
use Rattle.judge.specs.Verdicts.{verdict_of}
use Rattle.judge.specs.Deeds.{deed_of}
use Rattle.judge.specs.Judged.{judged_of}
use Rattle.judge.proofs.Laws.{refused_mine, casts_is, obeyed_mine, obeyed_sound}
use Rattle.state.specs.declared.parts.Head.{Head}
use Rattle.state.specs.declared.parts.Stored.{Stored}
use Rattle.effects.specs.Stored.{stored_by}
use Rattle.head.specs.declared.refusal.Refusal.TheVariants.{Space}
use Rattle.head.specs.Hear.{standing_of, restarts_of, told_of, tell_of, step_of}
use Rattle.head.specs.Calls.{factory_of}
use Rattle.reply.proofs.Replies.{silent_none, cast_none}
use Rattle.line.specs.declared.calls.Line.{Line}
use Rattle.line.specs.Round.{replies_of}
use Rattle.line.specs.Calls.{fits_of, replies_at, byte_of}
use Rattle.line.proofs.Theorems.{byte_alone}
use Rattle.demands.specs.Calls.{Call, new_head, byte, tick, named, keys, dropped, Calls, start, ◌▸◌}
use Rattle.demands.specs.Past.{Ear, room, since, gather, kept, ear_by, count, entry, in_force}
use Rattle.demands.specs.Run.{after, built, runs, run, head_in}
use Rattle.demands.specs.Demand3.{Differ, NoBroadcast, Unchanged}
use Rattle.demands.proofs.Ear.{Gathered, ear_short, ear_whole, ear_all}
use Rattle.demands.proofs.Sim.{fits, sim}
use Rattle.head.specs.declared.refusal.Refusal.{Refusal}

-- ---- all that the line has heard, and what a head has gathered of it: its end
heard_by : Call → List ℕ → List ℕ
heard_by (new_head node serial) l = l
heard_by (byte b t s) l = cond (room s) (l ++ (b ∷ [])) l
heard_by (tick t) l = l
heard_by (named j a) l = l
heard_by (keys j s n) l = l
heard_by (dropped t) l = l

stream : Calls → List ℕ
stream start = []
stream (cs ▸ c) = heard_by c (stream cs)

Ends : List ℕ → List ℕ → Type 0
Ends l s = (p : List ℕ) × (s ≡ p ++ l)

ends_none : (s : List ℕ) → Ends [] s
unfolding Ends
ends_none s = (s, sym (append-nil s))

ends_gather : (g : Ear) (s : List ℕ) (b t : ℕ) → Ends g.bytes s → Ends (gather g b t) (s ++ (b ∷ []))
unfolding Ends gather
ends_gather g s b t e = go (leb (since t g.last) 10)
  where
    go : (x : Bool) → Ends (cond x (g.bytes ++ (b ∷ [])) (b ∷ [])) (s ++ (b ∷ []))
    go true = (e.0, rw e.1 (append_assoc e.0 g.bytes (b ∷ [])))
    go false = (s, refl)

-- what holds of no bytes and of these holds of either
either : (P : List ℕ → Type 0) (x : Bool) (l m : List ℕ) → P l → P m → P (cond x l m)
either P true l m p q = p
either P false l m p q = q

ends_kept : (l s : List ℕ) → Ends l s → Ends (kept l) s
unfolding kept
ends_kept l s e = either (λ m. Ends m s) (ltb (length l) 10) l [] e (ends_none s)

ends_ear : (c : Call) (g : Ear) (l : List ℕ) → Ends g.bytes l → Ends (ear_by c g).bytes (heard_by c l)
unfolding ear_by heard_by
ends_ear (new_head node serial) g l e = e
ends_ear (byte b t s) g l e =
    elim (room s) as (λ x. Ends (cond x (record { bytes = kept (gather g b t); last = t }) g).bytes (cond x (l ++ (b ∷ [])) l))
    [ true ↦ ends_kept _ _ (ends_gather g l b t e) | false ↦ e ]
ends_ear (tick t) g l e = e
ends_ear (named j a) g l e = e
ends_ear (keys j s n) g l e = e
ends_ear (dropped t) g l e = ends_none l

ends : (cs : Calls) (k : ℕ) → Ends (entry cs k).ear.bytes (stream cs)
unfolding stream
ends = ear_all (λ cs l. Ends l (stream cs)) (λ cs. ends_none (stream cs)) (λ cs c g e. ends_ear c g (stream cs) e)

-- ---- fewer than ten stand gathered
Few : List ℕ → Type 0
Few l = length l < 10

few_none : Few []
unfolding Few
few_none = omega arith

few_kept : (l : List ℕ) → Few (kept l)
unfolding kept Few
few_kept l = go (ltb (length l) 10) refl
  where
    go : (x : Bool) → ltb (length l) 10 ≡ x → length (cond x l []) < 10
    go true e = ltb-true (length l) 10 e
    go false e = omega arith

few_ear : (c : Call) (g : Ear) → Few g.bytes → Few (ear_by c g).bytes
unfolding ear_by
few_ear (new_head node serial) g h = h
few_ear (byte b t s) g h =
    elim (room s) as (λ x. Few (cond x (record { bytes = kept (gather g b t); last = t }) g).bytes) [ true ↦ few_kept (gather g b t) | false ↦ h ]
few_ear (tick t) g h = h
few_ear (named j a) g h = h
few_ear (keys j s n) g h = h
few_ear (dropped t) g h = few_none

few : (cs : Calls) (k : ℕ) → Few (entry cs k).ear.bytes
few = ear_all (λ cs l. Few l) (λ cs. few_none) (λ cs c g h. few_ear c g h)

gather_ten : (g : Ear) (b t : ℕ) → Few g.bytes → length (gather g b t) ≤ 10
unfolding gather Few
gather_ten g b t h =
    either (λ l. length l ≤ 10) (leb (since t g.last) 10) (g.bytes ++ (b ∷ [])) (b ∷ []) (omega (arith, length-append g.bytes (b ∷ []))) (omega arith)

-- two ends of one list that are equally long are the same
same_end : (l m s : List ℕ) → Ends l s → Ends m s → length l ≡ length m → l ≡ m
unfolding Ends
same_end l m s e f n =
    let eq : e.0 ++ l ≡ f.0 ++ m = sym e.1 ∙ f.1 in
    let pp : length e.0 ≡ length f.0 = omega (arith, ap length eq, length-append e.0 l, length-append f.0 m) in
    sym (drop-append_seam e.0 l) ∙ rw (eq, pp) (drop-append_seam f.0 m)

-- ---- of two heads with different numbers in force, one is not spoken to by a byte
abbrev gathered_with : Calls → ℕ → ℕ → ℕ → List ℕ
gathered_with cs b t k = gather (entry cs k).ear b t

-- these bytes are no telegram yet, or one whose node byte is not the number
Quiet : List ℕ → ℕ → Type 0
Quiet l f = (length l < 10) ⊎ ((10 ≤ length l) × (eqb (fields_of l).node f ≡ false))

same_telegram : (cs : Calls) (b t i j : ℕ) → 10 ≤ length (gathered_with cs b t i) → 10 ≤ length (gathered_with cs b t j)
    → gathered_with cs b t i ≡ gathered_with cs b t j
same_telegram cs b t i j p q =
    let li = gather_ten (entry cs i).ear b t (few cs i) in
    let lj = gather_ten (entry cs j).ear b t (few cs j) in
    same_end _ _ (stream cs ++ (b ∷ []))
    (ends_gather (entry cs i).ear (stream cs) b t (ends cs i))
    (ends_gather (entry cs j).ear (stream cs) b t (ends cs j))
    (omega arith)

one_quiet : (cs : Calls) (b t i j : ℕ) → in_force cs i ≢ in_force cs j
    → Quiet (gathered_with cs b t i) (in_force cs i) ⊎ Quiet (gathered_with cs b t j) (in_force cs j)
unfolding Quiet
one_quiet cs b t i j ne =
    ⊎_elim (λ p. inl (inl p))
    (λ p. ⊎_elim (λ q. inr (inl q)) (λ q. go p q _ _ refl refl) (less_or_not (length (gathered_with cs b t j)) 10))
    (less_or_not (length (gathered_with cs b t i)) 10)
  where
    node : ℕ → ℕ
    node k = (fields_of (gathered_with cs b t k)).node

    go : 10 ≤ length (gathered_with cs b t i) → 10 ≤ length (gathered_with cs b t j) → (x y : Bool)
        → eqb (node i) (in_force cs i) ≡ x → eqb (node j) (in_force cs j) ≡ y
        → Quiet (gathered_with cs b t i) (in_force cs i) ⊎ Quiet (gathered_with cs b t j) (in_force cs j)
    go p q false y e f = inl (inr (p, e))
    go p q true false e f = inr (inr (q, f))
    go p q true true e f =
        absurd (ne (sym (eqb-true _ _ e) ∙ ap (λ (l : List ℕ). (fields_of l).node) (same_telegram cs b t i j p q) ∙ eqb-true _ _ f))

-- ---- a telegram whose node byte is not the number in force
module _ (h : Head) (ten : List ℕ) (t : ℕ) (other : eqb (fields_of ten).node h.stored.number ≡ false) where
  -- it is silent, or obeyed as a broadcast
  passed : (verdict_of (hit_of ten) (fields_of ten) (standing_of h) ≡ Silent)
      ⊎ ((verdict_of (hit_of ten) (fields_of ten) (standing_of h) ≡ Obeyed) × (casts_of (command_of (fields_of ten).command) ≡ true))
  unfolding standing_of
  passed = go _ refl
    where
      cast : (c : Bool) → (c || eqb (fields_of ten).node h.stored.number) ≡ true → c ≡ true
      cast true e = refl
      cast false e = absurd (true≢false (sym e ∙ other))

      go : (v : Verdict) → verdict_of (hit_of ten) (fields_of ten) (standing_of h) ≡ v
          → (verdict_of (hit_of ten) (fields_of ten) (standing_of h) ≡ Silent)
          ⊎ ((verdict_of (hit_of ten) (fields_of ten) (standing_of h) ≡ Obeyed) × (casts_of (command_of (fields_of ten).command) ≡ true))
      go Silent e = inl e
      go Obeyed e = inr (e, cast _ (obeyed_mine _ (fields_of ten) (standing_of h) e))
      go (Refused f) e = absurd (true≢false (sym (refused_mine _ (fields_of ten) (standing_of h) e) ∙ other))

  -- is not answered
  pub told_mute : is_some (tell_of h ten t).reply ≡ false
  unfolding tell_of judged_of
  told_mute =
      ⊎_elim (λ e. silent_none (judged_of ten (standing_of h)) h _ e)
      (λ e. cast_none (judged_of ten (standing_of h)) h _ e.1 (λ f q. never (sym e.0 ∙ q)))
      passed
    where
      never : {f : Fault} → Obeyed ≡ Refused f → ⊥
      never q = let z : ◌≡◌ {A = ℕ} 0 1 = cc in omega arith

  -- and but for a sound broadcast stores nothing
  told_still : (hit_of ten ≡ 0 → (fields_of ten).command ≢ 2) → (tell_of h ten t).head.stored ≡ h.stored
  unfolding tell_of told_of judged_of deed_of stored_by restarts_of
  told_still ne = ⊎_elim (λ e. rw e) (λ e. absurd (ne (obeyed_sound _ (fields_of ten) (standing_of h) e.0) (eqb-true _ 2 (sym (casts_is _) ∙ e.1)))) passed

-- ---- a head that is not spoken to by a byte
module _ (h : Head) (g : Ear) (b t : ℕ) (e : Gathered h g) where
  step_mute : Quiet (gather g b t) h.stored.number → is_some (step_of h b t).reply ≡ false
  unfolding Quiet
  step_mute q =
      ⊎_elim (λ few. (ear_short h g b t e few).no_reply_lem)
      (λ ten. rw (ear_whole h g b t e ten.0) (told_mute h (gather g b t) t ten.1))
      q

  step_still : Quiet (gather g b t) h.stored.number → (10 ≤ length (gather g b t) → hit_of (gather g b t) ≡ 0 → (fields_of (gather g b t)).command ≢ 2)
      → (step_of h b t).head.stored ≡ h.stored
  unfolding Quiet
  step_still q ne =
      ⊎_elim (λ few. (ear_short h g b t e few).stored)
      (λ ten. rw (ear_whole h g b t e ten.0) (told_still h (gather g b t) t ten.1 (ne ten.0)))
      q

-- ---- the line
module _ (cs : Calls) (b t k : ℕ) (lt : k < count cs) (q : Quiet (gathered_with cs b t k) (in_force cs k)) where
  quiet_here : Quiet (gathered_with cs b t k) (head_in cs k).stored.number
  quiet_here = rw (sim cs k lt).force_is q

  at_mute : is_some (step_of (head_in cs k) b t).reply ≡ false
  at_mute = step_mute (head_in cs k) (entry cs k).ear b t (sim cs k lt).ear_is quiet_here

  at_still : (10 ≤ length (gathered_with cs b t k) → hit_of (gathered_with cs b t k) ≡ 0 → (fields_of (gathered_with cs b t k)).command ≢ 2) → (step_of (head_in cs k) b t).head.stored ≡ (head_in cs k).stored
  at_still ne = step_still (head_in cs k) (entry cs k).ear b t (sim cs k lt).ear_is quiet_here ne

module _ (d : Head) (b t : ℕ) where
  no_replies : (n : ℕ) (hs : List Head) → ((j : ℕ) → j < n → is_some (step_of (get_or hs j d) b t).reply ≡ false) → replies_of n hs b t ≡ []
  no_replies zero hs f = refl
  no_replies (suc n) [] f = refl
  no_replies (suc n) (h ∷ hs) f = rw (f 0 (omega arith)) (no_replies n hs (λ j lt. f (suc j) (omega arith)))

  replies_one : (n : ℕ) (hs : List Head)
      → ((i j : ℕ) → i < n → j < n → i ≢ j → (is_some (step_of (get_or hs i d) b t).reply ≡ false) ⊎ (is_some (step_of (get_or hs j d) b t).reply ≡ false))
      → length (replies_of n hs b t) ≤ 1
  replies_one zero hs f = omega arith
  replies_one (suc n) [] f = omega arith
  replies_one (suc n) (h ∷ hs) f =
      go (is_some (step_of h b t).reply) refl (replies_one n hs (λ i j il jl ne. f (suc i) (suc j) (omega arith) (omega arith) (omega arith)))
    where
      rest_mute : is_some (step_of h b t).reply ≡ true → (j : ℕ) → j < n → is_some (step_of (get_or hs j d) b t).reply ≡ false
      rest_mute e j lt = ⊎_elim (λ p. absurd (true≢false (sym e ∙ p))) (λ p. p) (f 0 (suc j) (omega arith) (omega arith) (omega arith))

      go : (x : Bool) → is_some (step_of h b t).reply ≡ x → length (replies_of n hs b t) ≤ 1
          → length (cond x (ten_in (step_of h b t).reply ∷ []) [] ++ replies_of n hs b t) ≤ 1
      go false e ih = ih
      go true e ih = rw (no_replies n hs (rest_mute e)) (omega arith)

replies_few : (cs : Calls) (b t : ℕ) → Differ cs → length (replies_at (run cs) b t) ≤ 1
replies_few cs b t d =
    replies_one (factory_of 0) b t (run cs).count (run cs).heads
    (λ i j il jl ne. pick i j (rw (fits cs).counts at il) (rw (fits cs).counts at jl) ne)
  where
    pick : (i j : ℕ) → i < count cs → j < count cs → i ≢ j
        → (is_some (step_of (head_in cs i) b t).reply ≡ false) ⊎ (is_some (step_of (head_in cs j) b t).reply ≡ false)
    pick i j il jl ne =
        ⊎_elim (λ q. inl (at_mute cs b t i il q)) (λ q. inr (at_mute cs b t j jl q)) (one_quiet cs b t i j (d.differ i j il jl ne))

-- what the byte call of a line that fits returns, by the space
abbrev heard_if : Bool → ℕ → Result ℕ Refusal
heard_if x n = cond x (Err Space) (Ok n)

byte_heard : (l : Line) (b t s : ℕ) (x : Bool) → fits_of l ≡ true → ltb s 10 ≡ x → (byte_of l b t s).heard ≡ heard_if x (length (replies_at l b t))
unfolding byte_of
byte_heard l b t s true f e = rw (f, e)
byte_heard l b t s false f e = rw (f, e)

pub one_reply : (cs : Calls) (b t s n : ℕ) → Differ cs → (byte_of (run cs) b t s).heard ≡ Ok n → n ≤ 1
one_reply cs b t s n d e = go (ltb s 10) (sym (byte_heard (run cs) b t s (ltb s 10) (fits cs).fits refl) ∙ e)
  where
    go : (x : Bool) → heard_if x (length (replies_at (run cs) b t)) ≡ Ok n → n ≤ 1
    go true q = let z : ◌≡◌ {A = ℕ} 0 1 = cc in absurd (omega arith)
    go false q = let z : length (replies_at (run cs) b t) ≡ n = cc in omega (arith, replies_few cs b t d)

byte_refused : (l : Line) (b t s : ℕ) → fits_of l ≡ true → s < 10 → (byte_of l b t s).line ≡ l
unfolding byte_of
byte_refused l b t s f p = rw (f, lt-ltb s 10 p)

module _ (cs : Calls) (b t s k : ℕ) where
  -- every head has heard the byte
  stepped : 10 ≤ s → k < count cs → head_in (cs ▸ byte b t s) k ≡ (step_of (head_in cs k) b t).head
  unfolding runs after
  stepped p lt = byte_alone (run cs) (fits cs).fits (fits cs).places k (rw (fits cs).counts lt) b t s p

  -- with less space it is refused
  refused : s < 10 → head_in (cs ▸ byte b t s) k ≡ head_in cs k
  unfolding runs after
  refused p = rw (byte_refused (run cs) b t s (fits cs).fits p)

  unchanged : k < count cs → NoBroadcast cs b t s → Quiet (gathered_with cs b t k) (in_force cs k) → Unchanged built cs b t s k
  unchanged lt nb q =
      ⊎_elim (λ p. rw (refused p))
      (λ p. ap (λ (h : Head). h.stored.values) (stepped p lt)
      ∙ ap (λ (x : Stored). x.values) (at_still cs b t k lt q (λ n. nb.none_ends k lt p (let m = gather_ten (entry cs k).ear b t (few cs k) in omega arith))))
      (less_or_not s 10)

pub one_change : (cs : Calls) (b t s : ℕ) → Differ cs → NoBroadcast cs b t s
    → (i j : ℕ) → i < count cs → j < count cs → i ≢ j → Unchanged built cs b t s i ⊎ Unchanged built cs b t s j
one_change cs b t s d nb i j il jl ne =
    ⊎_elim (λ q. inl (unchanged cs b t s i il nb q)) (λ q. inr (unchanged cs b t s j jl nb q)) (one_quiet cs b t i j (d.differ i j il jl ne))
