-- Ten bytes in time, put to a head with none gathered, are one telegram told to it: reply and head are those of `tell_of`.
-- Assumes nothing.
use Prim.Native.Nat.{ℕ, suc, ◌+◌, ◌<◌, ◌≤◌}
use mathlib.Core.Path.{◌≡◌, refl, ◌∙◌, ap}
use mathlib.Core.Logic.{inl}
use mathlib.Core.List.{List, [], ◌∷◌, ◌++◌, append_assoc, append-nil}
use native.Mathlib.Omega.{arith}
use borrow.Author.Tests.{le-leb}
use lib.ListN.{length, length-append}
use Rattle.state.specs.declared.parts.Head.{Head}
use Rattle.state.specs.With.{with_ear}
use Rattle.head.specs.declared.hear.Stepped.{Stepped}
use Rattle.head.specs.Hear.{tell_of, step_of}
use Rattle.head.proofs.Apart.{tell_apart}
use Rattle.line.specs.Round.{said_by}
use Rattle.demands.specs.Past as past
use Rattle.demands.specs.Past.{since, gather}
use Rattle.demands.specs.Demand3.{Steady}
use Rattle.demands.proofs.Ear.{Gathered, ear_short, ear_whole, ear_alone}

-- the head after bytes, byte i at the time τ i, and its replies
abbrev pub fed : List ℕ → (ℕ → ℕ) → ℕ → Head → Head
fed [] τ i h = h
fed (b ∷ bs) τ i h = fed bs τ (suc i) (step_of h b (τ i)).head

abbrev pub said : List ℕ → (ℕ → ℕ) → ℕ → Head → List (List ℕ)
said [] τ i h = []
said (b ∷ bs) τ i h = said_by (step_of h b (τ i)) ++ said bs τ (suc i) (step_of h b (τ i)).head

-- ---- bytes in time
gather_on : (g : past.Ear) (b t : ℕ) → since t g.last ≤ 10 → gather g b t ≡ g.bytes ++ (b ∷ [])
unfolding gather
gather_on g b t p = rw (le-leb (since t g.last) 10 p)

-- a head that has gathered g and is h but for that
record Ready (h : Head) (g : past.Ear) (t : ℕ) (x : Head) : Type 0 where
  same : x ≡ with_ear h x.ear
  got : Gathered x g
  in_time : since t g.last ≤ 10

module _ (τ : ℕ → ℕ) (steady : Steady τ) (h : Head) where
  feed : (bs : List ℕ) (g : past.Ear) (i : ℕ) (x : Head) → length g.bytes + length bs ≡ 9 → (b : ℕ) → Ready h g (τ i) x
      → (fed (bs ++ (b ∷ [])) τ i x ≡ (tell_of h (g.bytes ++ (bs ++ (b ∷ []))) (τ (i + length bs))).head)
      × (said (bs ++ (b ∷ [])) τ i x ≡ said_by (tell_of h (g.bytes ++ (bs ++ (b ∷ []))) (τ (i + length bs))))
  feed [] g i x n b r =
      let e = gather_on g b (τ i) r.in_time in
      let m : 10 ≤ length (gather g b (τ i)) = rw e (omega (arith, length-append g.bytes (b ∷ []))) in
      let k : i + 0 ≡ i = omega arith in
      let w : step_of x b (τ i) ≡ tell_of h (g.bytes ++ (b ∷ [])) (τ i) =
      ear_whole x g b (τ i) r.got m ∙ ap (λ (l : List ℕ). tell_of x l (τ i)) e
      ∙ ap (λ (y : Head). tell_of y (g.bytes ++ (b ∷ [])) (τ i)) r.same ∙ tell_apart h x.ear (g.bytes ++ (b ∷ [])) (τ i) in
      (rw k (ap (λ (s : Stepped). s.head) w), rw k (append-nil _ ∙ ap said_by w))
  feed (c ∷ bs) g i x n b r =
      let e = gather_on g c (τ i) r.in_time in
      let m : length (gather g c (τ i)) < 10 = rw e (omega (arith, length-append g.bytes (c ∷ []))) in
      let s = ear_short x g c (τ i) r.got m in
      let y : Head = (step_of x c (τ i)).head in
      let q : y ≡ with_ear h y.ear = ear_alone x g c (τ i) r.got m ∙ ap (λ (z : Head). with_ear z y.ear) r.same in
      let z = feed bs (record { bytes = g.bytes ++ (c ∷ []); last = τ i }) (suc i) y (omega (arith, length-append g.bytes (c ∷ []))) b
      (record { same = q; got = rw e at s.more; in_time = steady i }) in
      let k : i + suc (length bs) ≡ suc i + length bs = omega arith in
      (rw (k, ← append_assoc g.bytes (c ∷ []) (bs ++ (b ∷ []))) z.0, rw (k, s.no_reply_lem, ← append_assoc g.bytes (c ∷ []) (bs ++ (b ∷ []))) z.1)

-- a head with none gathered: the first byte's gap does not matter
pub whole : (τ : ℕ → ℕ) → Steady τ → (h : Head) → h.ear.count ≡ 0 → length h.ear.bytes ≡ 10 → (nine : List ℕ) (b : ℕ) → length nine ≡ 9
    → (fed (nine ++ (b ∷ [])) τ 0 h ≡ (tell_of h (nine ++ (b ∷ [])) (τ 9)).head)
    × (said (nine ++ (b ∷ [])) τ 0 h ≡ said_by (tell_of h (nine ++ (b ∷ [])) (τ 9)))
unfolding since
whole τ steady h none ten nine b n =
    let k : 0 + length nine ≡ 9 = omega arith in
    let z = feed τ steady h nine (record { bytes = []; last = τ 0 }) 0 h (omega arith) b
    (record { same = refl; got = record { few = omega arith; long = ten; got_is = rw none; time_is = inl refl }; in_time = omega arith }) in
    (rw (← k) z.0, rw (← k) z.1)
