-- Laws of the round that a byte and a tick make over the heads, and of a line that fits. None opens what a single head does.
-- Assumes nothing.
use Rattle.std.specs.Prelude.{Some, None, Option, is_some}
use Prim.Native.Nat.{ℕ, zero, suc, ◌+◌, ◌<◌, ◌≤◌}
use mathlib.Core.Path.{◌≡◌, refl, ◌∙◌}
use mathlib.Core.Logic.{◌≢◌}
use mathlib.Core.Bool.{Bool, true, false, cond, ◌&&◌, and-true, and_assoc, and-eq-true_iff}
use mathlib.Core.List.{List, [], ◌∷◌, ◌++◌, map, append_assoc, append-nil}
use native.Mathlib.Omega.{arith}
use native.Mathlib.Numerals.{add-one}
use native.Mathlib.Nat.{le_of_suc-le-suc, not-suc-le-zero}
use borrow.Author.Tests.{le-leb, lt-leb, leb-true, ne_eqb}
use lib.Dec.{leb}
use lib.ListN.{length, get_or, set, take, drop, length-append}
use Rattle.wire.specs.Telegram.{ten_in}
use Rattle.state.specs.declared.parts.Head.{Head}
use Rattle.state.specs.Wellformed.{wellformed_of}
use Rattle.state.specs.Older.{passes_of}
use Rattle.head.specs.declared.hear.Stepped.{Stepped}
use Rattle.head.specs.Hear.{step_of}
use Rattle.head.proofs.Asked.{passes}
use Rattle.line.specs.declared.round.Replies.{Replies}
use Rattle.line.specs.declared.calls.Line.{Line}
use Rattle.line.specs.Round.{each, all_pass_of, all_fit, said_by, replies_by, replies_of, no_reply, counted, last_or, tally, laid_for}
use Rattle.line.specs.Serials.{all_differ}
use Rattle.line.specs.Calls.{serials_at, fits_by, fits_of, laid_by_of}

-- f at the ith element, after f at the first i
each_turn : {A : Type 0} (f : A → A) (d : A) (i : ℕ) (xs : List A) → i < length xs
    → set (each f i xs) i (f (get_or xs i d)) ≡ each f (suc i) xs
each_turn f d i [] p = absurd (not-suc-le-zero p)
each_turn f d zero (x ∷ xs) p = refl
each_turn f d (suc i) (x ∷ xs) p = rw (each_turn f d i xs (le_of_suc-le-suc p))

-- f at the first n elements is a map of these, before the rest
pub each_map : {A : Type 0} (f : A → A) (n : ℕ) (xs : List A) → map f (take n xs) ++ drop n xs ≡ each f n xs
each_map f zero xs = refl
each_map f (suc n) [] = refl
each_map f (suc n) (x ∷ xs) = rw (each_map f n xs)

each_all : {A : Type 0} (f : A → A) (xs : List A) → each f (length xs) xs ≡ map f xs
each_all f [] = refl
each_all f (x ∷ xs) = rw (each_all f xs)

-- the ith element is not reached by the first i
each_ahead : {A : Type 0} (f : A → A) (d : A) (i : ℕ) (xs : List A) → get_or (each f i xs) i d ≡ get_or xs i d
each_ahead f d zero xs = refl
each_ahead f d (suc i) [] = refl
each_ahead f d (suc i) (x ∷ xs) = each_ahead f d i xs

-- a turn of a loop that does f to one after another
pub each_step : {A : Type 0} (f : A → A) (d : A) (i : ℕ) (xs : List A) {ys : List A} → ys ≡ each f i xs → i < length xs
    → set ys i (f (get_or ys i d)) ≡ each f (i + 1) xs
each_step f d i xs e p = rw (e, each_ahead f d i xs, add-one i) (each_turn f d i xs p)

pub each_length : {A : Type 0} (f : A → A) (i : ℕ) (xs : List A) → length (each f i xs) ≡ length xs
each_length f zero xs = refl
each_length f (suc i) [] = refl
each_length f (suc i) (x ∷ xs) = rw (each_length f i xs)

-- each of the first n elements is what f makes of it alone
pub each_here : {A : Type 0} (f : A → A) (d : A) (i n : ℕ) (xs : List A) → i < n → i < length xs
    → get_or (each f n xs) i d ≡ f (get_or xs i d)
each_here f d i zero xs p q = absurd (not-suc-le-zero p)
each_here f d i (suc n) [] p q = absurd (not-suc-le-zero q)
each_here f d zero (suc n) (x ∷ xs) p q = refl
each_here f d (suc i) (suc n) (x ∷ xs) p q = each_here f d i n xs (le_of_suc-le-suc p) (le_of_suc-le-suc q)

-- those past them are as they were
pub each_past : {A : Type 0} (f : A → A) (d : A) (i n : ℕ) (xs : List A) → n ≤ i → get_or (each f n xs) i d ≡ get_or xs i d
each_past f d i zero xs p = refl
each_past f d i (suc n) [] p = refl
each_past f d zero (suc n) (x ∷ xs) p = absurd (not-suc-le-zero p)
each_past f d (suc i) (suc n) (x ∷ xs) p = each_past f d i n xs (le_of_suc-le-suc p)

rest : (a b c : Bool) → (b ≡ true → c ≡ true) → (a && b) ≡ true → (a && c) ≡ true
rest true b c k e = k e
rest false b c k e = e

-- the first n heads stay well-formed where each of them does
pub fit_each : (f : Head → Head) → ((h : Head) → wellformed_of h ≡ true → wellformed_of (f h) ≡ true)
    → (n : ℕ) (hs : List Head) → all_fit n hs ≡ true → all_fit n (each f n hs) ≡ true
fit_each f k zero hs e = refl
fit_each f k (suc n) [] e = refl
fit_each f k (suc n) (h ∷ hs) e = let b = (and-eq-true_iff _ _).0 e in (and-eq-true_iff _ _).1 (k h b.0, fit_each f k n hs b.1)

-- the first n pass where one that does is put in a place
pub fit_set : (b : Bool) (d h : Head) (i n : ℕ) (hs : List Head) → i < n → (passes_of b (get_or hs i d) ≡ true → passes_of b h ≡ true)
    → all_pass_of b n hs ≡ true → all_pass_of b n (set hs i h) ≡ true
fit_set b d h i zero hs p k e = refl
fit_set b d h i (suc n) [] p k e = refl
fit_set b d h zero (suc n) (x ∷ xs) p k e = let q = (and-eq-true_iff _ _).0 e in (and-eq-true_iff _ _).1 (k q.0, q.1)
fit_set b d h (suc i) (suc n) (x ∷ xs) p k e = rest (passes_of b x) _ _ (fit_set b d h i n xs (le_of_suc-le-suc p) k) e

-- one more head, put in the next place
pub fit_grown : (h : Head) (n : ℕ) (hs : List Head) → wellformed_of h ≡ true → all_fit n hs ≡ true → all_fit (suc n) (set hs n h) ≡ true
fit_grown h n [] k e = refl
fit_grown h zero (x ∷ xs) k e = (and-eq-true_iff _ _).1 (k, refl)
fit_grown h (suc n) (x ∷ xs) k e = rest (wellformed_of x) _ _ (fit_grown h n xs k) e

-- each of the first n passes, and where there are fewer, what stands in for a missing one
pub fit_at : (b : Bool) (d : Head) → passes_of b d ≡ true → (k n : ℕ) (hs : List Head) → k < n → all_pass_of b n hs ≡ true → passes_of b (get_or hs k d) ≡ true
fit_at b d w k zero hs p e = absurd (not-suc-le-zero p)
fit_at b d w k (suc n) [] p e = w
fit_at b d w zero (suc n) (h ∷ hs) p e = ((and-eq-true_iff (passes_of b h) _).0 e).0
fit_at b d w (suc k) (suc n) (h ∷ hs) p e = fit_at b d w k n hs (le_of_suc-le-suc p) ((and-eq-true_iff (passes_of b h) _).0 e).1

pub fit_turn : (b : Bool) (d : Head) (i : ℕ) (hs : List Head) → i < length hs → all_pass_of b (suc i) hs ≡ (all_pass_of b i hs && passes_of b (get_or hs i d))
fit_turn b d i [] p = absurd (not-suc-le-zero p)
fit_turn b d zero (h ∷ hs) p = and-true _
fit_turn b d (suc i) (h ∷ hs) p = rw (fit_turn b d i hs (le_of_suc-le-suc p), and_assoc)

replies_turn : (f : Head → Stepped) (d : Head) (i : ℕ) (hs : List Head) → i < length hs
    → replies_by f (suc i) hs ≡ replies_by f i hs ++ said_by (f (get_or hs i d))
replies_turn f d i [] p = absurd (not-suc-le-zero p)
replies_turn f d zero (h ∷ hs) p = append-nil _
replies_turn f d (suc i) (h ∷ hs) p = rw (replies_turn f d i hs (le_of_suc-le-suc p), append_assoc)

-- no reply where no head gives one, and one where just head k does
pub none_reply : (b at : ℕ) (d : Head) (n : ℕ) (hs : List Head) → ((j : ℕ) → j < n → is_some (step_of (get_or hs j d) b at).reply ≡ false) → replies_of n hs b at ≡ []
none_reply b at d zero hs q = refl
none_reply b at d (suc n) [] q = refl
none_reply b at d (suc n) (h ∷ hs) q = rw (q 0 (omega arith)) (none_reply b at d n hs (λ j p. q (suc j) (omega arith)))

pub one_replies : (b at : ℕ) (d : Head) (k n : ℕ) (hs : List Head) → k < n → k < length hs → is_some (step_of (get_or hs k d) b at).reply ≡ true
    → ((j : ℕ) → j < n → j ≢ k → is_some (step_of (get_or hs j d) b at).reply ≡ false) → replies_of n hs b at ≡ ten_in (step_of (get_or hs k d) b at).reply ∷ []
one_replies b at d k zero hs p q y z = absurd (not-suc-le-zero p)
one_replies b at d k (suc n) [] p q y z = absurd (not-suc-le-zero q)
one_replies b at d zero (suc n) (h ∷ hs) p q y z = rw (y, none_reply b at d n hs (λ j i. z (suc j) (omega arith) (λ e. omega arith)))
one_replies b at d (suc k) (suc n) (h ∷ hs) p q y z =
    rw (z 0 (omega arith) (λ e. omega arith))
    (one_replies b at d k n hs (le_of_suc-le-suc p) (le_of_suc-le-suc q) y (λ j i ne. z (suc j) (omega arith) (λ e. ne (omega arith))))

last_snoc : (d r : List ℕ) (rs : List (List ℕ)) → last_or d (rs ++ (r ∷ [])) ≡ r
last_snoc d r [] = refl
last_snoc d r (q ∷ rs) = last_snoc q r rs

-- of the first n of the first n heads, they are those of the first n heads
pub replies_first : (f : Head → Stepped) (n : ℕ) (hs : List Head) → replies_by f (length (take n hs)) (take n hs) ≡ replies_by f n hs
replies_first f zero hs = refl
replies_first f (suc n) [] = refl
replies_first f (suc n) (h ∷ hs) = rw (replies_first f n hs)

-- one head more
tally_more : (rs : List (List ℕ)) (s : Option (List ℕ)) → counted (tally rs) s ≡ tally (rs ++ cond (is_some s) (ten_in s ∷ []) [])
tally_more rs (Some ten) = rw (length-append, last_snoc)
tally_more rs None = rw append-nil

-- heads of which the first i have done f, with their replies
pub record Heard (f : Head → Stepped) (hs : List Head) (i : ℕ) (ks : List Head) (r : Replies) : Type 0 where
  pub heads : ks ≡ each (λ h. (f h).head) i hs
  pub replies : r ≡ tally (replies_by f i hs)

-- before the first turn, a turn of the loop over the heads, and after the last
pub unheard : (f : Head → Stepped) (hs : List Head) {r : Replies} → r ≡ no_reply → Heard f hs 0 hs r
unheard f hs e = record { heads = refl; replies = e }

module _ {f : Head → Stepped} {hs : List Head} {i : ℕ} {ks : List Head} {r : Replies} (t : Heard f hs i ks r) where
  pub heard_turn : i < length hs → (d : Head) (s : Stepped) → s ≡ f (get_or ks i d) → (q : Replies) → q ≡ counted r s.reply
      → Heard f hs (i + 1) (set ks i s.head) q
  heard_turn p d s e q eq =
      let same : s ≡ f (get_or hs i d) = e ∙ rw (t.heads, each_ahead) in
      record {
        heads = rw (t.heads, same, add-one i, each_turn (λ h. (f h).head) d i hs);
        replies = eq ∙ rw (t.replies, same, add-one i, replies_turn f d i hs p) (tally_more (replies_by f i hs) (f (get_or hs i d)).reply);
      }

  pub heard_all : length hs ≤ i → i ≤ length hs → (r ≡ tally (replies_by f (length hs) hs)) × (ks ≡ map (λ h. (f h).head) hs)
  heard_all p q =
      let e : i ≡ length hs = omega arith in (t.replies ∙ rw e, t.heads ∙ rw e (each_all (λ h. (f h).head) hs))

-- no head replies twice
few : (f : Head → Stepped) (n : ℕ) (hs : List Head) → length (replies_by f n hs) ≤ n
few f zero hs = omega arith
few f (suc n) [] = omega arith
few f (suc n) (h ∷ hs) = rw (length-append (said_by (f h))) (omega (arith, few f n hs, said_one (f h).reply))
  where
    said_one : (s : Option (List ℕ)) → length (cond (is_some s) (ten_in s ∷ []) []) ≤ 1
    said_one (Some ten) = omega arith
    said_one None = omega arith

pub heard_few : {f : Head → Stepped} {hs : List Head} {i : ℕ} {ks : List Head} {r : Replies} → Heard f hs i ks r → r.count ≤ i
heard_few {f} {hs} {i} t = rw t.replies (few f i hs)

-- a line that passes the test has at most 32 heads, which all pass theirs, and their serial numbers differ
module _ (b : Bool) (l : Line) where
  pub by_small : fits_by b l ≡ true → l.count ≤ 32
  unfolding fits_by
  by_small e = leb-true _ _ ((and-eq-true_iff _ _).0 e).0

  by_both : fits_by b l ≡ true → (all_pass_of b l.count l.heads ≡ true) × (all_differ (serials_at l) ≡ true)
  unfolding fits_by
  by_both e = (and-eq-true_iff _ _).0 ((and-eq-true_iff (leb l.count 32) _).0 e).1

  pub by_heads : fits_by b l ≡ true → all_pass_of b l.count l.heads ≡ true
  by_heads e = (by_both e).0

  pub by_serials : fits_by b l ≡ true → all_differ (serials_at l) ≡ true
  by_serials e = (by_both e).1

  -- with at most 32, it passes where its heads do and their serial numbers differ
  pub by_few : l.count ≤ 32 → fits_by b l ≡ (all_pass_of b l.count l.heads && all_differ (serials_at l))
  unfolding fits_by
  by_few p = rw (le-leb _ _ p)

  -- and with more it does not
  pub by_over : 32 < l.count → fits_by b l ≡ false
  unfolding fits_by
  by_over p = rw (lt-leb _ _ p)

-- so has a line that fits, whose heads are well-formed
pub fits_small : (l : Line) → fits_of l ≡ true → l.count ≤ 32
fits_small l e = by_small false l e

pub fits_heads : (l : Line) → fits_of l ≡ true → all_fit l.count l.heads ≡ true
fits_heads l e = by_heads false l e

pub fits_serials : (l : Line) → fits_of l ≡ true → all_differ (serials_at l) ≡ true
fits_serials l e = by_serials false l e

pub fits_few : (l : Line) → l.count ≤ 32 → fits_of l ≡ (all_fit l.count l.heads && all_differ (serials_at l))
fits_few l p = by_few false l p

-- a line that fits passes either test
pass_either : (b : Bool) (n : ℕ) (hs : List Head) → all_fit n hs ≡ true → all_pass_of b n hs ≡ true
pass_either b zero hs e = refl
pass_either b (suc n) [] e = refl
pass_either b (suc n) (h ∷ hs) e = let q = (and-eq-true_iff _ _).0 e in (and-eq-true_iff _ _).1 (passes b h q.0, pass_either b n hs q.1)

pub fits_either : (b : Bool) (l : Line) → fits_of l ≡ true → fits_by b l ≡ true
fits_either b l f = by_few b l (fits_small l f) ∙ rw (pass_either b l.count l.heads (fits_heads l f), fits_serials l f)

-- an element put back where it stood
pub set_back : {A : Type 0} (d : A) (i : ℕ) (xs : List A) → set xs i (get_or xs i d) ≡ xs
set_back d i [] = refl
set_back d zero (x ∷ xs) = refl
set_back d (suc i) (x ∷ xs) = rw (set_back d i xs)

-- at a place of a list, the element that stands in for a missing one does not matter
pub get_d_either : {A : Type 0} (d e : A) (i : ℕ) (xs : List A) → i < length xs → get_or xs i d ≡ get_or xs i e
get_d_either d e i [] p = absurd (not-suc-le-zero p)
get_d_either d e zero (x ∷ xs) p = refl
get_d_either d e (suc i) (x ∷ xs) p = get_d_either d e i xs (le_of_suc-le-suc p)

-- other than one reply, nothing is laid
pub not_one : (rs : List (List ℕ)) (s : List ℕ) → (length rs ≡ 1 → ⊥) → s ≡ laid_by_of rs s
not_one [] s n = refl
not_one (r ∷ []) s n = absurd (n refl)
not_one (r ∷ (q ∷ rs)) s n = refl

-- what is laid goes by the replies alone
pub laid_tally : (rs : List (List ℕ)) (s : List ℕ) → laid_for (tally rs) s ≡ laid_by_of rs s
laid_tally [] s = refl
laid_tally (r ∷ []) s = refl
laid_tally (r ∷ (q ∷ rs)) s = rw (ne_eqb (suc (suc (length rs))) 1 (λ e. omega arith))
