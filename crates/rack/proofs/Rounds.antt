-- A rack is its telegrams: each comes to one reply that is laid, to one collision, or to neither, and the line fits after it. So the replies need no
-- more room than the telegrams.
-- Assumes nothing.
use Rattle.std.specs.Prelude.{Ok, Err, Result, is_some}
use Rattle.std.specs.Simd.{first_chunks}
use Prim.Native.Nat.{ℕ, zero, suc, ◌+◌, ◌*◌, ◌/◌, ◌%◌, ◌≤◌, ◌<◌}
use mathlib.Core.Path.{◌≡◌, refl, ◌∙◌}
use mathlib.Core.Bool.{Bool, true, false, cond}
use mathlib.Core.List.{List, [], ◌∷◌, ◌++◌, map, append-nil}
use native.Mathlib.Omega.{arith}
use native.Mathlib.Numerals.{add-one}
use lib.ListN.{length, take, drop, get_or, replicate, length-append, drop_of_length-le}
use lib.Seq.{drop-cons, drop-drop}
use Rattle.state.specs.declared.parts.Head.{Head}
use Rattle.state.specs.Wellformed.{wellformed_of}
use Rattle.state.proofs.Laws as state
use Rattle.state.specs.With.{with_ear}
use Rattle.effects.specs.Restart.{empty_ear}
use Rattle.effects.proofs.Keeps.{empty_ear_fits}
use Rattle.head.specs.Hear.{step_of}
use Rattle.head.specs.Calls.{laid_on_of}
use Rattle.head.proofs.Passes.{step_ten}
use Rattle.line.specs.declared.calls.Line.{Line}
use Rattle.line.specs.Round.{replies_of, replies_by, last_or}
use Rattle.line.specs.Calls.{fits_of, laid_by_of, replies_at, byte_of, byte_space_of}
use Rattle.line.proofs.Laws.{each_map}
use Rattle.line.proofs.Theorems.{Kept, unmoved, each_kept, byte_keeps}
use Rattle.rack.specs.Rack.{dropped_of, Fed, drawing, fed_of, ten_at}
use Rattle.rack.proofs.Filled.{Tens}
use Rattle.rack.proofs.Whole.{AllEmpty, all_empty, told_empty, drew, told, told_line, ten_told}
use Rattle.head.specs.declared.refusal.Refusal.{Refusal}

-- ---- what so many replies came to
module _ (f : Fed) where
  pub drew_none : (rs : List (List ℕ)) → length rs ≡ 0 → drew rs f ≡ f
  drew_none [] e = refl
  drew_none (r ∷ rs) e = absurd (omega arith)

  pub drew_one : (rs : List (List ℕ)) → length rs ≡ 1
      → drew rs f ≡ record { line = f.line; laid = last_or (replicate 10 0) rs ∷ f.laid; collisions = f.collisions }
  unfolding laid_on_of
  drew_one [] e = absurd (omega arith)
  drew_one (r ∷ []) e = rw (append-nil r)
  drew_one (r ∷ (q ∷ rs)) e = absurd (omega arith)

  pub drew_many : (rs : List (List ℕ)) → 1 < length rs → drew rs f ≡ record { line = f.line; laid = f.laid; collisions = suc f.collisions }
  drew_many [] p = absurd (omega arith)
  drew_many (r ∷ []) p = absurd (omega arith)
  drew_many (r ∷ (q ∷ rs)) p = refl

  drew_few : (rs : List (List ℕ)) → length (drew rs f).laid + (drew rs f).collisions ≤ suc (length f.laid + f.collisions)
  drew_few [] = omega arith
  drew_few (r ∷ []) = omega arith
  drew_few (r ∷ (q ∷ rs)) = omega arith

-- what a byte drew does not change the line
pub drawing_line : (h : Result ℕ Refusal) (ten : List ℕ) (f : Fed) → (drawing h ten f).line ≡ f.line
drawing_line (Ok zero) ten f = refl
drawing_line (Ok (suc zero)) ten f = refl
drawing_line (Ok (suc (suc n))) ten f = refl
drawing_line (Err why) ten f = refl

-- ---- the telegram at a place, and the bytes after it
module _ (bs : List ℕ) (j : ℕ) where
  next : (k : ℕ) → j + k < length bs → drop (j + k) bs ≡ get_or bs (j + k) 0 ∷ drop (j + (k + 1)) bs
  next k p = let e : j + (k + 1) ≡ suc (j + k) = omega arith in rw e (drop-cons bs (j + k) 0 p)

  drop_ten : j + 10 ≤ length bs → drop j bs ≡ ten_at bs j ++ drop (j + 10) bs
  drop_ten p =
      rw (drop-cons bs j 0 (omega arith), ← add-one j)
      (rw (next 1 (omega arith), next 2 (omega arith), next 3 (omega arith), next 4 (omega arith), next 5 (omega arith), next 6 (omega arith), next 7 (omega arith), next 8 (omega arith), next 9 (omega arith)))

-- telegram t of whole telegrams
pub chunk_at : (m t : ℕ) (bs d : List ℕ) → t < m → 10 * m ≤ length bs → get_or (first_chunks 10 m bs) t d ≡ ten_at bs (10 * t)
chunk_at m t bs d p q = go m t bs p ∙ rw (drop_ten bs (10 * t) (omega arith))
  where
    go : (m t : ℕ) (bs : List ℕ) → t < m → get_or (first_chunks 10 m bs) t d ≡ take 10 (drop (10 * t) bs)
    go zero t bs p = absurd (omega arith)
    go (suc m) zero bs p = refl
    go (suc m) (suc t) bs p = let e : 10 * suc t ≡ 10 + 10 * t = omega arith in go m t (drop 10 bs) (omega arith) ∙ rw (drop-drop, e)

-- ---- telegram t of a rack, fed to a line that fits and of which no head has gathered a byte
pub record Ready (l : Line) : Type 0 where
  pub fits : fits_of l ≡ true
  pub empty : AllEmpty l.count l.heads

module _ (bytes : List ℕ) (at : ℕ) where
  abbrev pub left : Line → ℕ → Fed
  left l t = fed_of l (drop (10 * t) bytes) at

  abbrev pub here : ℕ → List ℕ
  here t = ten_at bytes (10 * t)

  pub round : (l : Line) (t : ℕ) → Ready l → 10 * t + 10 ≤ length bytes
      → (left l t ≡ drew (replies_by (told (here t) at) l.count l.heads) (left (told_line l (here t) at) (t + 1))) × Ready (told_line l (here t) at)
  round l t r p =
      let e : 10 * (t + 1) ≡ 10 * t + 10 = omega arith in
      let w = ten_told l at r.fits r.empty _ _ _ _ _ _ _ _ _ _ (drop (10 * t + 10) bytes) in
      (rw (e, drop_ten bytes (10 * t) p) w.fed, record { fits = w.fits; empty = all_empty _ (λ h. told_empty h (here t) at) l.count l.heads })

  pub round_last : (l : Line) (t : ℕ) → length bytes ≤ 10 * t → left l t ≡ record { line = l; laid = []; collisions = 0 }
  unfolding fed_of
  round_last l t p = rw (drop_of_length-le bytes p)

  -- at most one reply that is laid, or one collision, for each
  pub few : (m t : ℕ) (l : Line) → Ready l → 10 * t + 10 * m ≡ length bytes → length (left l t).laid + (left l t).collisions ≤ m
  few zero t l r e = rw (round_last l t (omega arith)) (omega arith)
  few (suc m) t l r e =
      let w = round l t r (omega arith) in
      let k = told_line l (here t) at in
      let z = few m (t + 1) k w.1 (omega arith) in
      rw w.0 (omega (arith, z, drew_few (left k (t + 1)) (replies_by (told (here t) at) l.count l.heads)))

  -- so is the line after them
  after_ready : (m t : ℕ) (l : Line) → Ready l → 10 * t + 10 * m ≡ length bytes → Ready (left l t).line
  after_ready zero t l r e = rw (round_last l t (omega arith)) r
  after_ready (suc m) t l r e =
      let w = round l t r (omega arith) in
      rw (w.0, drawing_line (Ok (length (replies_by (told (here t) at) l.count l.heads))) _ (left (told_line l (here t) at) (t + 1)))
      (after_ready m (t + 1) (told_line l (here t) at) w.1 (omega arith))

-- ---- the line whose heads have dropped their bytes
deaf_fits : (at : ℕ) (h : Head) → wellformed_of h ≡ true → wellformed_of (with_ear h (empty_ear at)) ≡ true
deaf_fits at h f =
    let w = state.told h f in
    state.holds (with_ear h (empty_ear at)) (record { stored = w.stored; faults = w.faults; measurement = w.measurement; ear = empty_ear_fits at; keys = w.keys })

module _ (l : Line) (at : ℕ) where
  pub dropped_keeps : Kept l (dropped_of l at)
  unfolding dropped_of
  dropped_keeps = each_kept l (λ h. with_ear h (empty_ear at)) (deaf_fits at) (λ h. refl)

  -- as the heads below the count drop them
  pub dropped_part : record { heads = map (λ h. with_ear h (empty_ear at)) (take l.count l.heads) ++ drop l.count l.heads; count = l.count } ≡ dropped_of l at
  unfolding dropped_of
  dropped_part = rw each_map

  pub dropped_ready : fits_of l ≡ true → Ready (dropped_of l at)
  unfolding dropped_of
  dropped_ready f = record { fits = dropped_keeps.fits f; empty = all_empty _ (λ h. (at, refl)) l.count l.heads }

  -- at most one reply that is laid, or one collision, for each telegram
  pub one_each : (bs : List ℕ) → fits_of l ≡ true → length bs % 10 ≡ 0
      → let f = fed_of (dropped_of l at) bs at in 10 * (length f.laid + f.collisions) ≤ length bs
  one_each bs f e =
      let whole : 10 * 0 + 10 * (length bs / 10) ≡ length bs = omega arith in
      omega (arith, few bs at (length bs / 10) 0 (dropped_of l at) (dropped_ready f) whole, whole)

  -- and no byte is gathered at any head after them
  pub fed_ready : (bs : List ℕ) → fits_of l ≡ true → length bs % 10 ≡ 0 → Ready (fed_of (dropped_of l at) bs at).line
  fed_ready bs f e = after_ready bs at (length bs / 10) 0 (dropped_of l at) (dropped_ready f) (omega arith)

-- ---- the line after bytes: it fits where it did, with its heads, its places and its serial numbers
pub kept_on : {l k n : Line} → Kept l k → Kept k n → Kept l n
kept_on a b = record { count = b.count ∙ a.count; fits = λ f. b.fits (a.fits f); places = b.places ∙ a.places; serials = b.serials ∙ a.serials }

pub fed_keeps : (bs : List ℕ) (l : Line) (at : ℕ) → Kept l (fed_of l bs at).line
unfolding fed_of
fed_keeps [] l at = unmoved l
fed_keeps (b ∷ bs) l at =
    let k = (byte_of l b at 10).line in
    rw (drawing_line (byte_of l b at 10).heard (byte_space_of l b at (replicate 10 0)) (fed_of k bs at)) (kept_on (byte_keeps l b at 10) (fed_keeps bs k at))

-- ---- each reply that is laid has ten bytes
lone : (x : Bool) (r : List ℕ) (rs : List (List ℕ)) → length r ≡ 10 → Tens rs → Tens (cond x (r ∷ []) [] ++ rs)
lone true r rs e t = (e, t)
lone false r rs e t = t

replies_ten : (b at n : ℕ) (hs : List Head) → Tens (replies_of n hs b at)
replies_ten b at zero hs = tt
replies_ten b at (suc n) [] = tt
replies_ten b at (suc n) (h ∷ hs) = lone (is_some (step_of h b at).reply) _ _ (step_ten h b at) (replies_ten b at n hs)

laid_ten : (rs : List (List ℕ)) → Tens rs → length (laid_by_of rs (replicate 10 0)) ≡ 10
unfolding laid_on_of
laid_ten [] t = refl
laid_ten (r ∷ []) t = rw (length-append, t.0)
laid_ten (r ∷ (q ∷ rs)) t = refl

reply_is_ten : (l : Line) (b at : ℕ) → length (byte_space_of l b at (replicate 10 0)) ≡ 10
unfolding byte_space_of
reply_is_ten l b at =
    elim (fits_of l) as (λ x. length (cond x (laid_by_of (replies_at l b at) (replicate 10 0)) (replicate 10 0)) ≡ 10)
    [ true ↦ laid_ten (replies_at l b at) (replies_ten b at l.count l.heads) | false ↦ refl ]

drawing_tens : (h : Result ℕ Refusal) (ten : List ℕ) (f : Fed) → length ten ≡ 10 → Tens f.laid → Tens (drawing h ten f).laid
drawing_tens (Ok zero) ten f e t = t
drawing_tens (Ok (suc zero)) ten f e t = (e, t)
drawing_tens (Ok (suc (suc n))) ten f e t = t
drawing_tens (Err why) ten f e t = t

pub tens : (bs : List ℕ) (l : Line) (at : ℕ) → Tens (fed_of l bs at).laid
unfolding fed_of
tens [] l at = tt
tens (b ∷ bs) l at = drawing_tens (byte_of l b at 10).heard _ (fed_of (byte_of l b at 10).line bs at) (reply_is_ten l b at) (tens bs (byte_of l b at 10).line at)
