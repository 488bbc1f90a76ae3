-- Ten bytes at one time, put to a line of which no head has gathered any, are one telegram that every head is told: nine draw nothing, and with the tenth
-- the heads and the replies are those of `tell_of`. So replies come at tenth bytes alone.
-- Assumes nothing.
use Rattle.std.specs.Prelude.{Ok}
use Prim.Native.Nat.{ℕ, zero, suc, ◌+◌, ◌-◌}
use mathlib.Core.Path.{◌≡◌, refl, sym, ap, ◌∙◌}
use mathlib.Core.Bool.{true, false, cond}
use mathlib.Core.List.{List, [], ◌∷◌, ◌++◌}
use native.Mathlib.Omega.{arith}
use borrow.Author.Tests.{le-ltb, lt-ltb}
use lib.Dec.{ltb}
use lib.ListN.{length, set, replicate}
use Rattle.judge.specs.Judged.{judged_of}
use Rattle.state.specs.declared.parts.Head.{Head}
use Rattle.state.specs.declared.parts.Ear.{Ear}
use Rattle.state.specs.With.{with_ear}
use Rattle.effects.specs.Restart.{empty_ear}
use Rattle.head.specs.declared.hear.Stepped.{Stepped}
use Rattle.head.specs.Hear.{elapsed_of, kept_ear, one_more_of, gathered_of, standing_of, restarts_of, tell_of, step_of}
use Rattle.head.proofs.Again.{told_ear}
use Rattle.head.proofs.Apart.{tell_apart}
use Rattle.head.proofs.Passes.{unanswered}
use Rattle.line.specs.declared.calls.Line.{Line}
use Rattle.line.specs.Round.{each, stepped_by, said_by, replies_by, replies_of}
use Rattle.line.specs.Calls.{fits_of, replies_at, heard_by, laid_by_of, byte_of, byte_space_of}
use Rattle.line.proofs.Theorems.{byte_keeps}
use Rattle.rack.specs.Rack.{eared, Fed, drawing, fed_of}

-- ---- a head
no_time : (t : ℕ) → elapsed_of t t ≡ 0
unfolding elapsed_of
no_time t = let p : t + 4294967296 - t ≡ 4294967296 = omega arith in rw p

-- no bytes gathered, whenever the last was heard
abbrev pub Empty : Head → Type 0
Empty h = (s : ℕ) × (h.ear ≡ empty_ear s)

-- what is kept when a byte comes: bytes of the same time stay, and none stay none
kept_now : (e : Ear) (at : ℕ) → e.at ≡ at → kept_ear e at ≡ e
unfolding kept_ear
kept_now e at now = let z : elapsed_of at e.at ≡ 0 = ap (elapsed_of at) now ∙ no_time at in rw z

kept_none : (s at : ℕ) → kept_ear (empty_ear s) at ≡ empty_ear (cond (ltb 10 (elapsed_of at s)) at s)
unfolding kept_ear empty_ear
kept_none s at =
    elim (ltb 10 (elapsed_of at s)) as (λ x. cond x (empty_ear at) (empty_ear s) ≡ empty_ear (cond x at s)) [ true ↦ refl | false ↦ refl ]

module _ (h : Head) (b at : ℕ) where
  -- the first byte, whose gap does not matter
  first : Empty h → step_of h b at ≡ unanswered (with_ear h (one_more_of (empty_ear at) b at))
  unfolding step_of gathered_of empty_ear
  first (s, e) = rw (e, kept_none s at)

  module _ (e : Ear) (now : e.at ≡ at) where
    -- one more of fewer than ten
    more : ltb e.count 9 ≡ true → step_of (with_ear h e) b at ≡ unanswered (with_ear h (one_more_of e b at))
    unfolding step_of gathered_of
    more p = rw (kept_now e at now, p)

    -- the tenth
    tenth : ltb e.count 9 ≡ false → step_of (with_ear h e) b at ≡ tell_of h (set e.bytes 9 b) at
    unfolding step_of gathered_of
    tenth p = rw (kept_now e at now, p) (tell_apart h e (set e.bytes 9 b) at)

-- none are gathered after a telegram
pub told_empty : (h : Head) (ten : List ℕ) (at : ℕ) → Empty (tell_of h ten at).head
unfolding tell_of
told_empty h ten at = (cond (restarts_of (judged_of ten (standing_of h)).deed) 0 at, told_ear (judged_of ten (standing_of h)) h at)

-- ---- the first n heads of a line
abbrev pub AllEmpty : ℕ → List Head → Type 0
AllEmpty zero hs = Unit {0}
AllEmpty (suc n) [] = Unit {0}
AllEmpty (suc n) (h ∷ hs) = Empty h × AllEmpty n hs

pub all_empty : (f : Head → Head) → ((h : Head) → Empty (f h)) → (n : ℕ) (hs : List Head) → AllEmpty n (each f n hs)
all_empty f e zero hs = tt
all_empty f e (suc n) [] = tt
all_empty f e (suc n) (h ∷ hs) = (e h, all_empty f e n hs)

-- what a byte does to heads that are as g makes them, where each does what f does
module _ (b at : ℕ) (g : Head → Head) (f : Head → Stepped) (same : (h : Head) → step_of (g h) b at ≡ f h) where
  all_heads : (n : ℕ) (hs : List Head) → each (stepped_by b at) n (each g n hs) ≡ each (λ h. (f h).head) n hs
  all_heads zero hs = refl
  all_heads (suc n) [] = refl
  all_heads (suc n) (h ∷ hs) =
      ap (λ (s : Stepped). s.head ∷ each (stepped_by b at) n (each g n hs)) (same h) ∙ ap (λ (xs : List Head). (f h).head ∷ xs) (all_heads n hs)

  all_replies_lem : (n : ℕ) (hs : List Head) → replies_of n (each g n hs) b at ≡ replies_by f n hs
  all_replies_lem zero hs = refl
  all_replies_lem (suc n) [] = refl
  all_replies_lem (suc n) (h ∷ hs) = rw (same h, all_replies_lem n hs)

all_silent : (g : Head → Head) (n : ℕ) (hs : List Head) → replies_by (λ h. unanswered (g h)) n hs ≡ []
all_silent g zero hs = refl
all_silent g (suc n) [] = refl
all_silent g (suc n) (h ∷ hs) = all_silent g n hs

-- ---- a line: a byte that is heard, with ten bytes of space of its own
abbrev blank : List ℕ
blank = replicate 10 0

-- what a byte came to that drew these replies, and the bytes after it
abbrev pub drew : List (List ℕ) → Fed → Fed
drew rs f = drawing (Ok (length rs)) (laid_by_of rs blank) f

module _ (l : Line) (b : ℕ) (bs : List ℕ) (at : ℕ) (f : fits_of l ≡ true) where
  fed_on : {k : Line} {rs : List (List ℕ)} → heard_by l b at ≡ k → replies_at l b at ≡ rs → (fed_of l (b ∷ bs) at ≡ drew rs (fed_of k bs at)) × (fits_of k ≡ true)
  unfolding fed_of byte_of byte_space_of
  fed_on {k} {rs} heads replies = (rw (f, replies, heads), sym (ap fits_of heads) ∙ rw f at ((byte_keeps l b at 10).fits f))

-- what a telegram comes to that every head is told: the line, and the replies
abbrev pub told : List ℕ → ℕ → Head → Stepped
told ten at h = tell_of h ten at

abbrev pub told_line : Line → List ℕ → ℕ → Line
told_line l ten at = record { heads = each (λ h. (told ten at h).head) l.count l.heads; count = l.count }

pub record Told (l : Line) (bs : List ℕ) (ten : List ℕ) (rest : List ℕ) (at : ℕ) : Type 0 where
  pub fed : fed_of l bs at ≡ drew (replies_by (told ten at) l.count l.heads) (fed_of (told_line l ten at) rest at)
  pub fits : fits_of (told_line l ten at) ≡ true

-- the bytes gathered, with more of them
abbrev ear_after : Ear → List ℕ → ℕ → Ear
ear_after e [] at = e
ear_after e (c ∷ bs) at = ear_after (one_more_of e c at) bs at

module _ (l : Line) (at : ℕ) where
  hears : (g : Head → Head) (f : Head → Stepped) (b : ℕ) → ((h : Head) → step_of (g h) b at ≡ f h)
      → let k : Line = record { heads = each g l.count l.heads; count = l.count } in
      (heard_by k b at ≡ record { heads = each (λ h. (f h).head) l.count l.heads; count = l.count }) × (replies_at k b at ≡ replies_by f l.count l.heads)
  hears g f b same = (rw (all_heads b at g f same l.count l.heads), all_replies_lem b at g f same l.count l.heads)

  gathers : (bs : List ℕ) (e : Ear) (b : ℕ) (rest : List ℕ) → e.at ≡ at → e.count + length bs ≡ 9 → fits_of (eared l e) ≡ true
      → let ten = set (ear_after e bs at).bytes 9 b in
      (fed_of (eared l e) (bs ++ (b ∷ rest)) at ≡ drew (replies_by (told ten at) l.count l.heads) (fed_of (told_line l ten at) rest at))
      × (fits_of (told_line l ten at) ≡ true)
  gathers [] e b rest now nine f =
      let w = hears (λ h. with_ear h e) (told (set e.bytes 9 b) at) b (λ h. tenth h b at e now (le-ltb e.count 9 (omega arith))) in
      fed_on (eared l e) b rest at f w.0 w.1
  gathers (c ∷ bs) e b rest now nine f =
      let w = hears (λ h. with_ear h e) (λ h. unanswered (with_ear h (one_more_of e c at))) c (λ h. more h c at e now (lt-ltb e.count 9 (omega arith))) in
      let s = fed_on (eared l e) c (bs ++ (b ∷ rest)) at f w.0 (w.1 ∙ all_silent (λ h. with_ear h (one_more_of e c at)) l.count l.heads) in
      let z = gathers bs (one_more_of e c at) b rest refl (omega arith) s.1 in
      (s.0 ∙ z.0, z.1)

  -- the first byte, to heads with none gathered
  all_first : (b n : ℕ) (hs : List Head) → AllEmpty n hs
      → (each (stepped_by b at) n hs ≡ each (λ h. with_ear h (one_more_of (empty_ear at) b at)) n hs) × (replies_of n hs b at ≡ [])
  all_first b zero hs e = (refl, refl)
  all_first b (suc n) [] e = (refl, refl)
  all_first b (suc n) (h ∷ hs) e =
      let s = first h b at e.0 in
      let z = all_first b n hs e.1 in (
        ap (λ (r : Stepped). r.head ∷ each (stepped_by b at) n hs) s ∙ ap (λ (xs : List Head). with_ear h (one_more_of (empty_ear at) b at) ∷ xs) z.0,
        ap (λ (r : Stepped). said_by r ++ replies_of n hs b at) s ∙ z.1,
      )

  -- ten bytes
  pub ten_told : fits_of l ≡ true → AllEmpty l.count l.heads → (b0 b1 b2 b3 b4 b5 b6 b7 b8 b9 : ℕ) (rest : List ℕ)
      → let ten = b0 ∷ b1 ∷ b2 ∷ b3 ∷ b4 ∷ b5 ∷ b6 ∷ b7 ∷ b8 ∷ b9 ∷ [] in Told l (ten ++ rest) ten rest at
  unfolding empty_ear
  ten_told f e b0 b1 b2 b3 b4 b5 b6 b7 b8 b9 rest =
      let w = all_first b0 l.count l.heads e in
      let nine = b1 ∷ b2 ∷ b3 ∷ b4 ∷ b5 ∷ b6 ∷ b7 ∷ b8 ∷ [] in
      let s = fed_on l b0 (nine ++ (b9 ∷ rest)) at f (ap (λ (hs : List Head). record { heads = hs; count = l.count }) w.0) w.1 in
      let z = gathers nine (one_more_of (empty_ear at) b0 at) b9 rest refl refl s.1 in
      record { fed = s.0 ∙ z.0; fits = z.1 }
