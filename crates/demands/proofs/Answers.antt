-- The byte call is tied to the definition of a telegram's way through a head, and every reply is sound.
-- Assumes nothing.
use Rattle.std.specs.Prelude.{Ok, Err, is_some}
use Prim.Native.Nat.{ℕ, zero, suc}
use native.Mathlib.Omega.{arith}
use mathlib.Core.Path.{◌≡◌, refl, sym, ◌∙◌}
use mathlib.Core.Bool.{Bool, true, false, true≢false}
use mathlib.Core.List.{List, [], ◌∷◌, ◌++◌}
use borrow.Author.Tests.{le-ltb}
use lib.Dec.{ltb}
use lib.ListN.{length, take, drop}
use lib.Seq.{take_at}
use Rattle.wire.specs.Check.{hit_of}
use Rattle.wire.specs.Telegram.{ten_in}
use Rattle.judge.specs.declared.deed.Deed.TheVariants.{Restart}
use Rattle.judge.specs.Judged.{judged_of}
use Rattle.state.specs.declared.parts.Head.{Head}
use Rattle.state.specs.Wellformed.{wellformed_of}
use Rattle.state.specs.With.{with_ear}
use Rattle.head.specs.declared.refusal.Refusal.TheVariants.{Space, Malformed}
use Rattle.reply.specs.Reply.{reply_of}
use Rattle.head.specs.Hear.{standing_of, gathered_of, told_of, tell_of, step_of}
use Rattle.head.specs.Calls.{laid_on_of, byte_of, byte_space_of, power_of}
use Rattle.head.specs.Outcome.{power, called}
use Rattle.head.proofs.Again.{restart_told}
use Rattle.reply.proofs.Replies.{reply_sound, reply_ten}
use Rattle.line.specs.declared.calls.Line.{Line}
use Rattle.line.specs.Round.{said_by, replies_of}
use Rattle.line.specs.Calls as line
use Rattle.demands.specs.Alone.{Taken}

module _ (h : Head) (b t : ℕ) (space : List ℕ) (k : Taken h space) where
  wide : ltb (length space) 10 ≡ false
  wide = le-ltb (length space) 10 k.room

  pub gathers : is_some (gathered_of h.ear b t).ten ≡ false
      → (byte_of h b t (length space) ≡ record { head = with_ear h (gathered_of h.ear b t).ear; heard = Ok 0 }) × (byte_space_of h b t space ≡ space)
  unfolding byte_of byte_space_of step_of
  gathers e = (simp (k.well, wide, e), simp (k.well, wide, e))

  module _ (e : is_some (gathered_of h.ear b t).ten ≡ true) where
    pub obeys : (byte_of h b t (length space)).head ≡ told_of (judged_of (ten_in (gathered_of h.ear b t).ten) (standing_of h)) h t
    unfolding byte_of step_of tell_of
    obeys = simp (k.well, wide, e)

    pub answers : let j = judged_of (ten_in (gathered_of h.ear b t).ten) (standing_of h) in is_some (reply_of j h (told_of j h t)) ≡ true
        → ((byte_of h b t (length space)).heard ≡ Ok 1) × (byte_space_of h b t space ≡ ten_in (reply_of j h (told_of j h t)) ++ drop 10 space)
    unfolding byte_of byte_space_of step_of tell_of laid_on_of
    answers r = (simp (k.well, wide, e, r), simp (k.well, wide, e, r))

    pub keeps_silent : let j = judged_of (ten_in (gathered_of h.ear b t).ten) (standing_of h) in is_some (reply_of j h (told_of j h t)) ≡ false
        → ((byte_of h b t (length space)).heard ≡ Ok 0) × (byte_space_of h b t space ≡ space)
    unfolding byte_of byte_space_of step_of tell_of
    keeps_silent r = (simp (k.well, wide, e, r), simp (k.well, wide, e, r))

-- ---- every reply is sound and has ten bytes
abbrev Sound : List ℕ → Type 0
Sound x = (hit_of x ≡ 0) × (length x ≡ 10)

step_sound : (h : Head) (b t : ℕ) (w : Bool) → is_some (gathered_of h.ear b t).ten ≡ w → is_some (step_of h b t).reply ≡ true → Sound (ten_in (step_of h b t).reply)
unfolding step_of tell_of
step_sound h b t true e r =
    let j = judged_of (ten_in (gathered_of h.ear b t).ten) (standing_of h) in
    rw e (reply_sound j h (told_of j h t) (rw e at r), reply_ten j h (told_of j h t))
step_sound h b t false e r = absurd (true≢false (sym (rw e at r)))

laid_sound : (space x : List ℕ) → ltb (length space) 10 ≡ false → Sound x → hit_of (take 10 (laid_on_of space x)) ≡ 0
unfolding laid_on_of
laid_sound space x e s = simp e (rw (take_at x (drop 10 space) 10 s.1) s.0)

pub head_sound : (h : Head) (b t : ℕ) (space : List ℕ) (w r s : Bool) → wellformed_of h ≡ w → ltb (length space) 10 ≡ r → is_some (step_of h b t).reply ≡ s
    → (byte_of h b t (length space)).heard ≡ Ok 1 → hit_of (take 10 (byte_space_of h b t space)) ≡ 0
unfolding byte_of byte_space_of
head_sound h b t space false r s p q x e = absurd (let k : Err Malformed ≡ Ok 1 = simp p at e in let z : ◌≡◌ {A = ℕ} 0 1 = cc in omega arith)
head_sound h b t space true true s p q x e = absurd (let k : Err Space ≡ Ok 1 = simp (p, q) at e in let z : ◌≡◌ {A = ℕ} 0 1 = cc in omega arith)
head_sound h b t space true false false p q x e = absurd (let k : Ok 0 ≡ Ok 1 = simp (p, q, x) at e in let z : ◌≡◌ {A = ℕ} 0 1 = cc in omega arith)
head_sound h b t space true false true p q x e = simp (p, q, x) (laid_sound space (ten_in (step_of h b t).reply) q (step_sound h b t (is_some (gathered_of h.ear b t).ten) refl x))

-- all replies on a line
abbrev AllSound : List (List ℕ) → Type 0
AllSound [] = Unit {0}
AllSound (x ∷ xs) = Sound x × AllSound xs

joined : (xs ys : List (List ℕ)) → AllSound xs → AllSound ys → AllSound (xs ++ ys)
joined [] ys a b = b
joined (x ∷ xs) ys a b = (a.0, joined xs ys a.1 b)

one_sound : (h : Head) (b t : ℕ) (s : Bool) → is_some (step_of h b t).reply ≡ s → AllSound (said_by (step_of h b t))
one_sound h b t true e = rw e (step_sound h b t (is_some (gathered_of h.ear b t).ten) refl e, tt)
one_sound h b t false e = rw e tt

all_sound : (n : ℕ) (hs : List Head) (b t : ℕ) → AllSound (replies_of n hs b t)
all_sound zero hs b t = tt
all_sound (suc n) [] b t = tt
all_sound (suc n) (h ∷ hs) b t = joined (said_by (step_of h b t)) (replies_of n hs b t) (one_sound h b t (is_some (step_of h b t).reply) refl) (all_sound n hs b t)

laid_by : (rs : List (List ℕ)) (space : List ℕ) → ltb (length space) 10 ≡ false → AllSound rs → length rs ≡ 1 → hit_of (take 10 (line.laid_by_of rs space)) ≡ 0
laid_by [] space e a n = absurd (omega arith)
laid_by (x ∷ []) space e a n = laid_sound space x e a.0
laid_by (x ∷ (y ∷ rs)) space e a n = absurd (omega arith)

pub line_sound : (l : Line) (b t : ℕ) (space : List ℕ) (f r : Bool) → line.fits_of l ≡ f → ltb (length space) 10 ≡ r
    → (line.byte_of l b t (length space)).heard ≡ Ok 1 → hit_of (take 10 (line.byte_space_of l b t space)) ≡ 0
unfolding line.byte_of line.byte_space_of
line_sound l b t space false r p q e = absurd (let k : Err Malformed ≡ Ok 1 = simp p at e in let z : ◌≡◌ {A = ℕ} 0 1 = cc in omega arith)
line_sound l b t space true true p q e = absurd (let k : Err Space ≡ Ok 1 = simp (p, q) at e in let z : ◌≡◌ {A = ℕ} 0 1 = cc in omega arith)
line_sound l b t space true false p q e =
    let k : Ok (length (line.replies_at l b t)) ≡ Ok 1 = simp (p, q) at e in
    let n : length (line.replies_at l b t) ≡ 1 = cc in
    simp (p, q) (laid_by (line.replies_at l b t) space q (all_sound l.count l.heads b t) n)

-- ---- a restart by telegram is the restart by power
pub restarts : (h : Head) (b t : ℕ) (space : List ℕ) (k : Taken h space) → is_some (gathered_of h.ear b t).ten ≡ true
    → (judged_of (ten_in (gathered_of h.ear b t).ten) (standing_of h)).deed ≡ Restart → (byte_of h b t (length space)).head ≡ (called power h).head
unfolding called power_of
restarts h b t space k e d = obeys h b t space k e ∙ restart_told _ (standing_of h) h t d ∙ rw k.well
