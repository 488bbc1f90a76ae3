-- The promise: ten bytes in time are one telegram told to the head (demands, Whole), and the engine agrees with the head that is told it (Same).
-- Assumes nothing.
use Rattle.std.specs.Prelude.{Option, Some, None, is_some}
use Prim.Native.Nat.{ℕ, suc, ◌<◌, ◌≤◌}
use mathlib.Core.Path.{◌≡◌, refl, sym, ◌∙◌, ap, subst}
use mathlib.Core.Bool.{Bool, true, false, cond}
use mathlib.Core.List.{List, [], ◌∷◌, ◌++◌, map}
use native.Mathlib.Omega.{arith}
use lib.ListN.{length, get_or, take, replicate}
use lib.Seq.{take-suc, take_all, length-take-le}
use Rattle.wire.specs.Check.{hit_of}
use Rattle.wire.specs.Telegram.{fields_of, ten_in}
use Rattle.state.specs.declared.parts.Head.{Head}
use Rattle.state.specs.declared.parts.Ear.{Ear}
use Rattle.state.specs.Wellformed.{wellformed_of}
use Rattle.state.specs.With.{with_ear}
use Rattle.judge.specs.declared.judged.Judged.{Judged}
use Rattle.judge.specs.Judged.{judged_of}
use Rattle.effects.specs.Restart.{empty_ear, restarted_of}
use Rattle.reply.proofs.Replies.{reply_sound}
use Rattle.head.specs.declared.hear.Stepped.{Stepped}
use Rattle.head.specs.Hear as head
use Rattle.head.specs.Hear.{standing_of, restarts_of, affected_of, tell_of, step_of}
use Rattle.head.specs.Calls.{factory_of, byte_of}
use Rattle.head.proofs.Keeps.{step_fits}
use Rattle.head.proofs.Apart.{tell_apart}
use Rattle.line.specs.Round.{said_by}
use Rattle.engine.specs.declared.Told.{Told}
use Rattle.engine.specs.declared.Answered.{Answered}
use Rattle.engine.specs.declared.Outcome.TheVariants.{Silence, Reply, Refused}
use Rattle.engine.specs.declared.Refusal.TheVariants.{Malformed}
use Rattle.engine.specs.Answer.{refused_with, answered_by, told_of, answer_of}
use Rattle.demands.specs.Run.{product, built, answers}
use Rattle.demands.specs.Past.{since}
use Rattle.demands.specs.Demand3.{Steady}
use Rattle.demands.proofs.Computing.{computing}
use Rattle.demands.proofs.Whole.{fed, said, whole}
use Rattle.demands.proofs.Back.{call_fed, calls_said}
use Rattle.agreement.specs.Answers.{as_stepped, drawn}
use Rattle.agreement.specs.Agreement.{TenBytes, Idle, Given, fed_by, Sent, AllSent, end, then, at_once, AllTen, none, more, head_draws, head_last, engine_draws, engine_last, Agreement}
use Rattle.agreement.proofs.Same.{agree}

-- ---- the fields of ten bytes
pub fields_small : (ten : List ℕ) → TenBytes ten → ((fields_of ten).parameter < 256) × ((fields_of ten).value < 4294967296)
unfolding fields_of
fields_small ten t = (t.small 2, omega (arith, t.small 5, t.small 6, t.small 7, t.small 8))

-- ---- a well-formed head is never refused, and its answer is what it is told
taken_is : (h : Head) (ten : List ℕ) (at : ℕ) → wellformed_of h ≡ true → answer_of h ten at ≡ answered_by (told_of h ten at)
unfolding answer_of
taken_is h ten at w = rw w

-- ---- byte calls are steps, and ten of them one telegram
module _ (space : List ℕ) (wide : 10 ≤ length space) where
  calls_fed : (bs : List ℕ) (τ : ℕ → ℕ) (i : ℕ) (h : Head) → wellformed_of h ≡ true → fed_by product bs τ i h space ≡ fed bs τ i h
  calls_fed [] τ i h w = refl
  calls_fed (b ∷ bs) τ i h w = rw (call_fed space wide h b (τ i) w) (calls_fed bs τ (suc i) (step_of h b (τ i)).head (step_fits h b (τ i) w))

-- ten bytes are nine and one
nine_one : (ten : List ℕ) → length ten ≡ 10 → take 9 ten ++ (get_or ten 9 0 ∷ []) ≡ ten
nine_one ten l = sym (take-suc ten 9 0 (omega arith)) ∙ take_all 10 ten (omega arith)

in_time : (h : Head) (ten : List ℕ) (τ : ℕ → ℕ) → Idle h → length ten ≡ 10 → Steady τ
    → (fed ten τ 0 h ≡ (tell_of h ten (τ 9)).head) × (said ten τ 0 h ≡ said_by (tell_of h ten (τ 9)))
in_time h ten τ i l s =
    subst (λ (x : List ℕ). (fed x τ 0 h ≡ (tell_of h x (τ 9)).head) × (said x τ 0 h ≡ said_by (tell_of h x (τ 9)))) (nine_one ten l)
    (whole τ s h i.none i.places (take 9 ten) (get_or ten 9 0) (length-take-le 9 ten (omega (arith, l))))

-- after a telegram no bytes are gathered
ear_empty : (j : Judged) (h : Head) (at : ℕ) → ((head.told_of j h at).ear.count ≡ 0) × (length (head.told_of j h at).ear.bytes ≡ 10)
unfolding head.told_of restarted_of empty_ear
ear_empty j h at = go (restarts_of j.deed)
  where
    go : (b : Bool) → let x = cond b (restarted_of (affected_of j h at)) (affected_of j h at) in (x.ear.count ≡ 0) × (length x.ear.bytes ≡ 10)
    go true = (refl, refl)
    go false = (refl, refl)

-- ---- the replies that an answer draws are those of the step that it is
drawn_is : (x : Told) → said_by (as_stepped x) ≡ drawn (answered_by x)
drawn_is x = go x.reply
  where
    go : (o : Option (List ℕ)) → said_by (record { head = x.head; reply = o }) ≡ drawn (answered_by (record { head = x.head; reply = o }))
    go (Some ten) = refl
    go None = refl

module _ (h : Head) (ten : List ℕ) (τ : ℕ → ℕ) (space : List ℕ) (i : Idle h) (t : TenBytes ten) (g : Given τ space) (well : wellformed_of h ≡ true) where
  same : as_stepped (told_of h ten (τ 9)) ≡ tell_of h ten (τ 9)
  same = let s = fields_small ten t in agree h ten (τ 9) s.0 s.1

  taken : answer_of h ten (τ 9) ≡ answered_by (told_of h ten (τ 9))
  taken = taken_is h ten (τ 9) well

  head_is : (answer_of h ten (τ 9)).head ≡ (tell_of h ten (τ 9)).head
  head_is = ap (λ (x : Answered). x.head) taken ∙ ap (λ (x : Stepped). x.head) same

  state_well : fed_by product ten τ 0 h space ≡ (answer_of h ten (τ 9)).head
  state_well = calls_fed space g.room ten τ 0 h well ∙ (in_time h ten τ i t.long g.steady).0 ∙ sym head_is

  replies_well : answers built ten τ 0 h space ≡ drawn (answer_of h ten (τ 9))
  replies_well =
      calls_said space g.room ten τ 0 h well ∙ (in_time h ten τ i t.long g.steady).1 ∙ ap said_by (sym same) ∙ drawn_is (told_of h ten (τ 9))
      ∙ ap drawn (sym taken)

  -- a head that has answered is idle again
  idle_well : Idle (answer_of h ten (τ 9)).head
  unfolding tell_of
  idle_well =
      let q = ear_empty (judged_of ten (standing_of h)) h (τ 9) in
      subst Idle (sym head_is)
      (record { none = q.0; places = q.1 })

-- a head that is not well-formed stays as it is, and sends nothing
fed_unformed : (bs : List ℕ) (τ : ℕ → ℕ) (i : ℕ) (h : Head) (space : List ℕ) → wellformed_of h ≡ false → fed_by product bs τ i h space ≡ h
unfolding byte_of
fed_unformed [] τ i h space w = refl
fed_unformed (b ∷ bs) τ i h space w = rw w (fed_unformed bs τ (suc i) h space w)

said_unformed : (bs : List ℕ) (τ : ℕ → ℕ) (i : ℕ) (h : Head) (space : List ℕ) → wellformed_of h ≡ false → answers built bs τ i h space ≡ []
unfolding byte_of
said_unformed [] τ i h space w = refl
said_unformed (b ∷ bs) τ i h space w = rw w (said_unformed bs τ (suc i) h space w)

refused_is : (h : Head) (ten : List ℕ) (at : ℕ) → wellformed_of h ≡ false → answer_of h ten at ≡ refused_with h
unfolding answer_of
refused_is h ten at w = rw w

-- either way
module _ (h : Head) (ten : List ℕ) (τ : ℕ → ℕ) (space : List ℕ) (i : Idle h) (t : TenBytes ten) (g : Given τ space) where
  state_is : fed_by product ten τ 0 h space ≡ (answer_of h ten (τ 9)).head
  state_is = go (wellformed_of h) refl
    where
      go : (w : Bool) → wellformed_of h ≡ w → fed_by product ten τ 0 h space ≡ (answer_of h ten (τ 9)).head
      go true w = state_well h ten τ space i t g w
      go false w = fed_unformed ten τ 0 h space w ∙ sym (ap (λ (x : Answered). x.head) (refused_is h ten (τ 9) w))

  replies_are : answers built ten τ 0 h space ≡ drawn (answer_of h ten (τ 9))
  replies_are = go (wellformed_of h) refl
    where
      go : (w : Bool) → wellformed_of h ≡ w → answers built ten τ 0 h space ≡ drawn (answer_of h ten (τ 9))
      go true w = replies_well h ten τ space i t g w
      go false w = said_unformed ten τ 0 h space w ∙ sym (ap drawn (refused_is h ten (τ 9) w))

  idle_again : Idle (answer_of h ten (τ 9)).head
  idle_again = go (wellformed_of h) refl
    where
      go : (w : Bool) → wellformed_of h ≡ w → Idle (answer_of h ten (τ 9)).head
      go true w = idle_well h ten τ space i t g w
      go false w = subst Idle (sym (ap (λ (x : Answered). x.head) (refused_is h ten (τ 9) w))) i

-- ---- telegrams one after another
all_is : (ss : List Sent) (h : Head) (space : List ℕ) → Idle h → AllSent space ss
    → (head_draws product ss h space ≡ engine_draws answer_of ss h) × (head_last product ss h space ≡ engine_last answer_of ss h)
all_is [] h space i end = (refl, refl)
all_is (s ∷ ss) h space i (then t g rest) =
    let f = state_is h s.ten s.times space i t g in
    let r = replies_are h s.ten s.times space i t g in
    let q = all_is ss (answer_of h s.ten (s.times 9)).head space (idle_again h s.ten s.times space i t g) rest in
    (rw (f, r, q.0), rw (f, q.1))

-- ---- all at time 0, to a head as the factory delivers it
pub at_once_lem : (time : ℕ) → Given (λ i. time) (replicate 10 0)
unfolding since
at_once_lem time = record { steady = λ i. omega arith; room = omega arith }

all_at_once : (tens : List (List ℕ)) → AllTen tens → AllSent (replicate 10 0) (map at_once tens)
all_at_once [] none = end
all_at_once (ten ∷ tens) (more t rest) = then t (at_once_lem 0) (all_at_once tens rest)

delivered_idle : Idle (factory_of 0)
unfolding computing
delivered_idle = record { none = refl; places = refl }

-- ---- 20
taken_so : (o : Option (List ℕ)) → cond (is_some o) Reply Silence ≡ Refused Malformed → ⊥
taken_so (Some ten) e = cc
taken_so None e = cc

takes_is : (h : Head) (ten : List ℕ) (at : ℕ) → wellformed_of h ≡ true → (answer_of h ten at).outcome ≡ Refused Malformed → ⊥
takes_is h ten at w e = taken_so (told_of h ten at).reply (sym (ap (λ (x : Answered). x.outcome) (taken_is h ten at w)) ∙ e)

-- ---- bytes gathered are not looked at
drops_is : (h : Head) (ear : Ear) (ten : List ℕ) (at : ℕ) → TenBytes ten → wellformed_of h ≡ true → wellformed_of (with_ear h ear) ≡ true
    → answer_of (with_ear h ear) ten at ≡ answer_of h ten at
drops_is h ear ten at t w v =
    let s = fields_small ten t in
    let e : as_stepped (told_of (with_ear h ear) ten at) ≡ as_stepped (told_of h ten at) =
    agree (with_ear h ear) ten at s.0 s.1 ∙ tell_apart h ear ten at ∙ sym (agree h ten at s.0 s.1) in
    taken_is (with_ear h ear) ten at v
    ∙ ap (λ (x : Stepped). answered_by (record { head = x.head; reply = x.reply })) e
    ∙ sym (taken_is h ten at w)

-- ---- replies pass their own check
is_reply : (o : Option (List ℕ)) → cond (is_some o) Reply Silence ≡ Reply → is_some o ≡ true
is_reply (Some ten) e = refl
is_reply None e = cc

sound_is : (h : Head) (ten : List ℕ) (at : ℕ) (w : Bool) → wellformed_of h ≡ w → TenBytes ten → (answer_of h ten at).outcome ≡ Reply → hit_of (answer_of h ten at).reply ≡ 0
unfolding tell_of
sound_is h ten at true w t e =
    let s = fields_small ten t in
    let a = agree h ten at s.0 s.1 in
    let j = judged_of ten (standing_of h) in
    let r = is_reply (told_of h ten at).reply (sym (ap (λ (x : Answered). x.outcome) (taken_is h ten at w)) ∙ e) in
    ap (λ (x : Answered). hit_of x.reply) (taken_is h ten at w)
    ∙ ap (λ (x : Stepped). hit_of (ten_in x.reply)) a
    ∙ reply_sound j h (head.told_of j h at) (sym (ap (λ (x : Stepped). is_some x.reply) a) ∙ r)
sound_is h ten at false w t e = let z : Refused Malformed ≡ Reply = sym (ap (λ (x : Answered). x.outcome) (refused_is h ten at w)) ∙ e in cc

-- ---- silence leaves ten bytes of 0
is_quiet : (o : Option (List ℕ)) → cond (is_some o) Reply Silence ≡ Silence → ten_in o ≡ replicate 10 0
is_quiet (Some ten) e = cc
is_quiet None e = refl

quiet_is : (h : Head) (ten : List ℕ) (at : ℕ) (w : Bool) → wellformed_of h ≡ w → (answer_of h ten at).outcome ≡ Silence → (answer_of h ten at).reply ≡ replicate 10 0
quiet_is h ten at true w e =
    ap (λ (x : Answered). x.reply) (taken_is h ten at w)
    ∙ is_quiet (told_of h ten at).reply (sym (ap (λ (x : Answered). x.outcome) (taken_is h ten at w)) ∙ e)
quiet_is h ten at false w e = ap (λ (x : Answered). x.reply) (refused_is h ten at w)

pub agreement : Agreement product answer_of
agreement =
    record {
      state = state_is;
      replies = replies_are;
      all_replies_lem = λ ss h space i a. (all_is ss h space i a).0;
      last_state = λ ss h space i a. (all_is ss h space i a).1;
      desks = λ tens a. (all_is (map at_once tens) (factory_of 0) (replicate 10 0) delivered_idle (all_at_once tens a)).0;
      refuses = refused_is;
      takes = takes_is;
      quiet = λ h ten at t. quiet_is h ten at (wellformed_of h) refl;
      drops = drops_is;
      sound = λ h ten at t. sound_is h ten at (wellformed_of h) refl t;
    }
