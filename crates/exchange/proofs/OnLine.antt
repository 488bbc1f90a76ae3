-- On a line: where all heads but one stay silent to bytes, the line's byte calls lay just what that one sends. Each byte reaches every head as it does alone
-- (demands, Lines), so the same holds of the bytes that follow.
-- Assumes nothing.
use Rattle.std.specs.Prelude.{Ok, is_some}
use Prim.Native.Nat.{ℕ, suc, ◌<◌, ◌≤◌}
use mathlib.Core.Path.{◌≡◌, refl, ◌∙◌}
use mathlib.Core.Bool.{Bool, true, false, cond}
use mathlib.Core.Logic.{◌≢◌}
use mathlib.Core.List.{List, [], ◌∷◌, ◌++◌}
use native.Mathlib.Omega.{arith}
use borrow.Author.Tests.{eqb-true, eqb-false, ltb-true, ltb-false, le-ltb}
use lib.Dec.{eqb, ltb}
use lib.ListN.{length, take}
use Rattle.wire.specs.Telegram.{ten_in}
use Rattle.state.specs.declared.parts.Head.{Head}
use Rattle.state.specs.Wellformed.{wellformed_of}
use Rattle.head.specs.declared.hear.Stepped.{Stepped}
use Rattle.head.specs.Hear.{step_of}
use Rattle.head.specs.Calls as head
use Rattle.line.specs.declared.calls.Line.{Line}
use Rattle.line.specs.Round.{said_by}
use Rattle.line.specs.Calls.{head_at, byte_of, byte_space_of}
use Rattle.line.proofs.Theorems.{well_at, byte_keeps}
use Rattle.demands.specs.Run.{product, replied}
use Rattle.demands.specs.Lines.{Fits, Only}
use Rattle.demands.proofs.Lines.{line_count, line_heads, line_silent, line_one}
use Rattle.demands.proofs.Whole.{said}
use Rattle.demands.proofs.Back.{call_said, call_fed}
use Rattle.exchange.specs.Exchange.{line_answers}

-- ---- a head that says nothing
first_none : {A : Type 0} (xs ys : List A) → xs ++ ys ≡ [] → xs ≡ []
first_none [] ys e = refl
first_none (x ∷ xs) ys e = let z : ◌≡◌ {A = ℕ} 0 1 = cc in absurd (omega arith)

rest_none : {A : Type 0} (xs ys : List A) → xs ++ ys ≡ [] → ys ≡ []
rest_none [] ys e = e
rest_none (x ∷ xs) ys e = let z : ◌≡◌ {A = ℕ} 0 1 = cc in absurd (omega arith)

pub no_reply_lem : (s : Stepped) → said_by s ≡ [] → is_some s.reply ≡ false
no_reply_lem s e = go (is_some s.reply) e
  where
    go : (b : Bool) → cond b (ten_in s.reply ∷ []) [] ≡ [] → b ≡ false
    go true e = let z : ◌≡◌ {A = ℕ} 0 1 = cc in absurd (omega arith)
    go false e = refl

module _ (space : List ℕ) (wide : 10 ≤ length space) (τ : ℕ → ℕ) where
  -- a byte to a head alone
  heard_is : (h : Head) (b t : ℕ) → wellformed_of h ≡ true → (r : Bool) → is_some (step_of h b t).reply ≡ r → (head.byte_of h b t (length space)).heard ≡ Ok (cond r 1 0)
  unfolding head.byte_of
  heard_is h b t w r e = rw (w, le-ltb (length space) 10 wide, e)

  -- ---- a byte to the line: the line after it, and what stands at the start of the space
  abbrev next : Line → ℕ → ℕ → Line
  next l b t = (byte_of l b t (length space)).line

  abbrev laid : Line → ℕ → ℕ → List (List ℕ)
  laid l b t = replied (byte_of l b t (length space)).heard (take 10 (byte_space_of l b t space))

  module _ (l : Line) (f : Fits l) (b t : ℕ) where
    next_fits : Fits (next l b t)
    next_fits = let k = byte_keeps l b t (length space) in record { fits = k.fits f.fits; places = k.places ∙ f.places }

    next_count : (next l b t).count ≡ l.count
    next_count = line_count l b t space f wide

    next_head : (j : ℕ) → j < l.count → head_at (next l b t) j ≡ (step_of (head_at l j) b t).head
    next_head j p = line_heads l b t space f wide j p ∙ call_fed space wide (head_at l j) b t (well_at l f.fits j p)

    mute : (j : ℕ) → j < l.count → said_by (step_of (head_at l j) b t) ≡ [] → (head.byte_of (head_at l j) b t (length space)).heard ≡ Ok 0
    mute j p e = heard_is (head_at l j) b t (well_at l f.fits j p) false (no_reply_lem (step_of (head_at l j) b t) e)

    -- what the line's call lays: nothing, where all heads are silent
    none_laid : ((j : ℕ) → j < l.count → said_by (step_of (head_at l j) b t) ≡ []) → laid l b t ≡ []
    none_laid all = rw (line_silent l b t space f wide (λ j p. mute j p (all j p))).0

    -- what head k sends, where the others are
    one_laid : (k : ℕ) → k < l.count → ((j : ℕ) → j < l.count → j ≢ k → said_by (step_of (head_at l j) b t) ≡ []) → laid l b t ≡ said_by (step_of (head_at l k) b t)
    one_laid k p others = go (is_some (step_of (head_at l k) b t).reply) refl
      where
        well : wellformed_of (head_at l k) ≡ true
        well = well_at l f.fits k p

        go : (r : Bool) → is_some (step_of (head_at l k) b t).reply ≡ r → laid l b t ≡ said_by (step_of (head_at l k) b t)
        go true e =
            let speaks = heard_is (head_at l k) b t well true e in
            let o : Only product.on_head l b t space k = record { there = p; speaks = speaks; others = λ j q n. mute j q (others j q n) } in
            let z = line_one l b t space f wide k o in
            rw (z.0, z.1) (rw speaks at (call_said space wide (head_at l k) b t true well e))
        go false e = none_laid (λ j q. either j q (eqb j k) refl) ∙ rw e
          where
            either : (j : ℕ) → j < l.count → (x : Bool) → eqb j k ≡ x → said_by (step_of (head_at l j) b t) ≡ []
            either j q true x = rw (eqb-true j k x, e)
            either j q false x = others j q (eqb-false j k x)

  -- ---- all bytes
  pub line_said : (bs : List ℕ) (i : ℕ) (l : Line) → Fits l → (k : ℕ) → ((j : ℕ) → j < l.count → j ≢ k → said bs τ i (head_at l j) ≡ [])
      → line_answers product.on_line_of bs τ i l space ≡ cond (ltb k l.count) (said bs τ i (head_at l k)) []
  line_said [] i l f k others = elim (ltb k l.count) as (λ x. ◌≡◌ {A = List (List ℕ)} [] (cond x [] [])) [ true ↦ refl | false ↦ refl ]
  line_said (b ∷ bs) i l f k others =
      rw (line_said bs (suc i) (next l b (τ i)) (next_fits l f b (τ i)) k rest, next_count l f b (τ i)) (go (ltb k l.count) refl)
    where
      now_silent : (j : ℕ) → j < l.count → j ≢ k → said_by (step_of (head_at l j) b (τ i)) ≡ []
      now_silent j p n = first_none (said_by (step_of (head_at l j) b (τ i))) (said bs τ (suc i) (step_of (head_at l j) b (τ i)).head) (others j p n)

      rest : (j : ℕ) → j < (next l b (τ i)).count → j ≢ k → said bs τ (suc i) (head_at (next l b (τ i)) j) ≡ []
      rest j p n =
          let q = rw (next_count l f b (τ i)) at p in
          rw (next_head l f b (τ i) j q) (rest_none (said_by (step_of (head_at l j) b (τ i))) (said bs τ (suc i) (step_of (head_at l j) b (τ i)).head) (others j q n))

      go : (x : Bool) → ltb k l.count ≡ x
          → laid l b (τ i) ++ cond x (said bs τ (suc i) (head_at (next l b (τ i)) k)) [] ≡ cond x (said (b ∷ bs) τ i (head_at l k)) []
      go true e = let p = ltb-true k l.count e in rw (one_laid l f b (τ i) k p now_silent, next_head l f b (τ i) k p)
      go false e =
          let q = ltb-false k l.count e in
          rw (none_laid l f b (τ i) (λ j p. now_silent j p (λ n. omega (arith, n))))
