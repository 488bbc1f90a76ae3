-- Laws of the serial numbers on a line: those of one head more stand after the others, they differ where the new one is none of the others, and what
-- keeps each head's keeps them all.
-- Assumes nothing.
use Prim.Native.Nat.{ℕ, zero, suc, ◌<◌, ◌≤◌}
use Rattle.std.specs.List.{list_any, fold}
use mathlib.Core.Path.{◌≡◌, refl, sym, ap, ◌∙◌}
use mathlib.Core.Logic.{◌≢◌}
use mathlib.Core.Bool.{Bool, true, false, not, ◌&&◌, ◌||◌, and-eq-true_iff}
use mathlib.Core.List.{List, [], ◌∷◌, ◌++◌}
use native.Mathlib.Omega.{arith}
use native.Mathlib.Nat.{le_of_suc-le-suc, not-suc-le-zero}
use borrow.Author.Tests.{ne_eqb}
use lib.Dec.{eqb}
use lib.ListN.{length, get_or, set, take}
use Rattle.rows.specs.Among.{among}
use Rattle.rows.proofs.Listed.{eqb_turned, among_more, among_at, among_none}
use Rattle.state.specs.declared.parts.Head.{Head}
use Rattle.state.specs.Older.{passes_of}
use Rattle.line.specs.Round.{each, all_pass_of}
use Rattle.line.specs.Serials.{serials_of, all_differ}
use Rattle.line.specs.declared.calls.Line.{Line}
use Rattle.line.specs.Calls.{fits_by}
use Rattle.line.proofs.Laws.{fit_turn, by_few}

-- ---- one more at the end
or_assoc : (a b c : Bool) → (a || (b || c)) ≡ ((a || b) || c)
or_assoc true b c = refl
or_assoc false b c = refl

pub among_last : (xs : List ℕ) (x a : ℕ) → among (xs ++ (x ∷ [])) a ≡ (among xs a || eqb a x)
among_last [] x a = refl
among_last (y ∷ ys) x a =
    among_more y (ys ++ (x ∷ [])) a ∙ rw (among_last ys x a, among_more y ys a) (or_assoc (eqb a y) (among ys a) (eqb a x))

-- whether a number is on a list, one after another
pub among_fold : (xs : List ℕ) (a : ℕ) → fold (λ found x. found || eqb a x) false xs ≡ among xs a
among_fold xs a = go false xs
  where
    go : (b : Bool) (ys : List ℕ) → fold (λ found x. found || eqb a x) b ys ≡ (b || among ys a)
    go true [] = refl
    go false [] = refl
    go b (y ∷ ys) = rw (go (b || eqb a y) ys, among_more y ys a) (sym (or_assoc b (eqb a y) (among ys a)))

-- they differ where the others do and it is none of these
pub differ_last : (xs : List ℕ) (x : ℕ) → all_differ (xs ++ (x ∷ [])) ≡ (all_differ xs && not (among xs x))
differ_last [] x = refl
differ_last (y ∷ ys) x =
    rw (among_last ys x y, differ_last ys x, among_more y ys x, eqb_turned y x) (go (among ys y) (eqb x y) (all_differ ys) (among ys x))
  where
    go : (a e d b : Bool) → (not (a || e) && (d && not b)) ≡ ((not a && d) && not (e || b))
    go true e d b = refl
    go false true true b = refl
    go false true false b = refl
    go false false d b = refl

-- ---- head i is the next
pub serials_turn : (d : Head) (i : ℕ) (hs : List Head) → i < length hs → serials_of (suc i) hs ≡ serials_of i hs ++ ((get_or hs i d).stored.serial ∷ [])
serials_turn d i [] p = absurd (not-suc-le-zero p)
serials_turn d zero (h ∷ hs) p = refl
serials_turn d (suc i) (h ∷ hs) p = rw (serials_turn d i hs (le_of_suc-le-suc p))

-- whether one of the first n heads has a number
pub among_heads : (s n : ℕ) (hs : List Head) → list_any (λ h. eqb h.stored.serial s) (take n hs) ≡ among (serials_of n hs) s
among_heads s zero hs = refl
among_heads s (suc n) [] = refl
among_heads s (suc n) (h ∷ hs) = rw (among_more h.stored.serial (serials_of n hs) s, among_heads s n hs, eqb_turned s h.stored.serial)

-- the first i of an array, and then the ith, which was put there
pub take_set : (i : ℕ) (xs : List ℕ) (v : ℕ) → i < length xs → take (suc i) (set xs i v) ≡ take i xs ++ (v ∷ [])
take_set i [] v p = absurd (not-suc-le-zero p)
take_set zero (x ∷ xs) v p = refl
take_set (suc i) (x ∷ xs) v p = rw (take_set i xs v (le_of_suc-le-suc p))

-- one number more leaves the others in their places, and stands after them
pub append_at : (xs : List ℕ) (x k : ℕ) → k < length xs → get_or (xs ++ (x ∷ [])) k 0 ≡ get_or xs k 0
append_at [] x k p = absurd (not-suc-le-zero p)
append_at (y ∷ ys) x zero p = refl
append_at (y ∷ ys) x (suc k) p = append_at ys x k (le_of_suc-le-suc p)

pub append_last : (xs : List ℕ) (x : ℕ) → get_or (xs ++ (x ∷ [])) (length xs) 0 ≡ x
append_last [] x = refl
append_last (y ∷ ys) x = append_last ys x

-- ---- what keeps each head's keeps them all: a step of each, a head put back, and a head put past them
pub serials_each : (f : Head → Head) → ((h : Head) → (f h).stored.serial ≡ h.stored.serial) → (n k : ℕ) (hs : List Head)
    → serials_of n (each f k hs) ≡ serials_of n hs
serials_each f e zero k hs = refl
serials_each f e (suc n) zero hs = refl
serials_each f e (suc n) (suc k) [] = refl
serials_each f e (suc n) (suc k) (h ∷ hs) = rw (e h, serials_each f e n k hs)

pub serials_set : (d h : Head) (i n : ℕ) (hs : List Head) → h.stored.serial ≡ (get_or hs i d).stored.serial
    → serials_of n (set hs i h) ≡ serials_of n hs
serials_set d h i zero hs e = refl
serials_set d h i (suc n) [] e = refl
serials_set d h zero (suc n) (x ∷ hs) e = rw e
serials_set d h (suc i) (suc n) (x ∷ hs) e = rw (serials_set d h i n hs e)

pub serials_grown : (h : Head) (n : ℕ) (hs : List Head) → n < length hs → serials_of (suc n) (set hs n h) ≡ serials_of n hs ++ (h.stored.serial ∷ [])
serials_grown h n [] p = absurd (not-suc-le-zero p)
serials_grown h zero (x ∷ hs) p = refl
serials_grown h (suc n) (x ∷ hs) p = rw (serials_grown h n hs (le_of_suc-le-suc p))

-- ---- each by its place
pub serial_at : (d : Head) (k n : ℕ) (hs : List Head) → k < n → k < length hs → get_or (serials_of n hs) k 0 ≡ (get_or hs k d).stored.serial
serial_at d k zero hs p q = absurd (not-suc-le-zero p)
serial_at d k (suc n) [] p q = absurd (not-suc-le-zero q)
serial_at d zero (suc n) (h ∷ hs) p q = refl
serial_at d (suc k) (suc n) (h ∷ hs) p q = serial_at d k n hs (le_of_suc-le-suc p) (le_of_suc-le-suc q)

pub serials_length : (n : ℕ) (hs : List Head) → n ≤ length hs → length (serials_of n hs) ≡ n
serials_length zero hs p = refl
serials_length (suc n) [] p = absurd (not-suc-le-zero p)
serials_length (suc n) (h ∷ hs) p = rw (serials_length n hs (le_of_suc-le-suc p))

-- a serial number that no head has is none of them
pub unused : (d : Head) (s n : ℕ) (hs : List Head) → ((k : ℕ) → k < n → (get_or hs k d).stored.serial ≢ s) → among (serials_of n hs) s ≡ false
unused d s zero hs p = refl
unused d s (suc n) [] p = refl
unused d s (suc n) (h ∷ hs) p =
    among_more h.stored.serial (serials_of n hs) s
    ∙ rw (ne_eqb s h.stored.serial (λ e. p 0 (omega arith) (sym e)), unused d s n hs (λ k q. p (suc k) (omega arith)))

-- that they differ, by their places, and by the test
differ_from : (x : ℕ) (xs : List ℕ) (j : ℕ) → not (among xs x) ≡ true → j < length xs → x ≢ get_or xs j 0
differ_from x xs j e p q =
    let t : among xs x ≡ true = rw q (among_at xs j p) in
    let z : ◌≡◌ {A = ℕ} 0 1 = cc (rw t at e) in omega arith

pub differ_at : (xs : List ℕ) → all_differ xs ≡ true → (i j : ℕ) → i < length xs → j < length xs → i ≢ j → get_or xs i 0 ≢ get_or xs j 0
differ_at [] e i j p q n = absurd (not-suc-le-zero p)
differ_at (x ∷ xs) e zero zero p q n = absurd (n refl)
differ_at (x ∷ xs) e zero (suc j) p q n = differ_from x xs j ((and-eq-true_iff _ _).0 e).0 (le_of_suc-le-suc q)
differ_at (x ∷ xs) e (suc i) zero p q n =
    λ r. differ_from x xs i ((and-eq-true_iff _ _).0 e).0 (le_of_suc-le-suc p) (sym r)
differ_at (x ∷ xs) e (suc i) (suc j) p q n =
    differ_at xs ((and-eq-true_iff (not (among xs x)) _).0 e).1 i j (le_of_suc-le-suc p) (le_of_suc-le-suc q) (λ r. n (ap suc r))

pub at_differ : (xs : List ℕ) → ((i j : ℕ) → i < length xs → j < length xs → i ≢ j → get_or xs i 0 ≢ get_or xs j 0) → all_differ xs ≡ true
at_differ [] n = refl
at_differ (x ∷ xs) n =
    (and-eq-true_iff _ _).1 (
      ap not (among_none xs x (λ i p e. n 0 (suc i) (omega arith) (omega arith) (λ q. omega arith) (sym e))),
      at_differ xs (λ i j p q r. n (suc i) (suc j) (omega arith) (omega arith) (λ e. r (omega arith))),
    )

-- a turn of the loop that looks at the heads and gathers their serial numbers
pub both_turn : (b : Bool) (d : Head) (i : ℕ) (hs : List Head) → i < length hs
    → (((all_pass_of b i hs && all_differ (serials_of i hs)) && passes_of b (get_or hs i d)) && not (among (serials_of i hs) (get_or hs i d).stored.serial))
    ≡ (all_pass_of b (suc i) hs && all_differ (serials_of (suc i) hs))
both_turn b d i hs p =
    rw (fit_turn b d i hs p, serials_turn d i hs p, differ_last (serials_of i hs) (get_or hs i d).stored.serial)
    (go (all_pass_of b i hs) (all_differ (serials_of i hs)) (passes_of b (get_or hs i d)) (not (among (serials_of i hs) (get_or hs i d).stored.serial)))
  where
    go : (f s w n : Bool) → (((f && s) && w) && n) ≡ ((f && w) && (s && n))
    go true true w n = refl
    go true false true n = refl
    go true false false n = refl
    go false s w n = refl

-- only the heads below the count are looked at
pub by_first : (b : Bool) (l : Line) → l.count ≤ 32
    → fits_by b l ≡ (all_pass_of b l.count (take l.count l.heads) && all_differ (serials_of l.count (take l.count l.heads)))
by_first b l p = by_few b l p ∙ rw (pass_first l.count l.heads, serials_first l.count l.heads)
  where
    pass_first : (n : ℕ) (hs : List Head) → all_pass_of b n (take n hs) ≡ all_pass_of b n hs
    pass_first zero hs = refl
    pass_first (suc n) [] = refl
    pass_first (suc n) (h ∷ hs) = rw (pass_first n hs)

    serials_first : (n : ℕ) (hs : List Head) → serials_of n (take n hs) ≡ serials_of n hs
    serials_first zero hs = refl
    serials_first (suc n) [] = refl
    serials_first (suc n) (h ∷ hs) = rw (serials_first n hs)
