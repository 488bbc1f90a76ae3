-- The bytes of a written sheet, by arithmetic on their places: the front is one computed test over its 118 bytes.
-- Assumes nothing.
use Prim.Native.Nat.{ℕ, zero, suc, ◌+◌, ◌*◌, ◌-◌, ◌/◌, ◌%◌, ◌<◌, ◌≤◌}
use mathlib.Core.Path.{◌≡◌, refl, ◌∙◌}
use mathlib.Core.Bool.{cond}
use mathlib.Core.List.{List, [], ◌∷◌, ◌++◌}
use native.Mathlib.Nat.{le_of_suc-le-suc, not-suc-le-zero}
use native.Mathlib.Omega.{arith}
use lib.Dec.{eqb, eqb→eq}
use lib.ListN.{length, take, drop, get_or, set}
use Rattle.wire.specs.Word.{byte2, byte3}
use Rattle.rows.specs.Table.{address, rows, row_of}
use Rattle.rows.proofs.Span.{in_span}
use Rattle.sheet.specs.Spelled.{bodies_of}
use Rattle.sheet.specs.Writing.{all, front, sheet_of}
use Rattle.sheet.proofs.Spelled.{spelled_front, spelled_body, spelled_length}

pub all_length : length all ≡ 39
unfolding rows
all_length = refl

-- byte k of the front
abbrev pub front_byte : ℕ → ℕ
front_byte k =
    cond (eqb k 0) 39
    (cond (eqb ((k - 1) % 3) 0) (address (row_of ((k - 1) / 3)))
    (cond (eqb ((k - 1) % 3) 1) (byte2 (118 + 4 * ((k - 1) / 3))) (byte3 (118 + 4 * ((k - 1) / 3)))))

pub front_at : (k : ℕ) → k < 118 → get_or front k 0 ≡ front_byte k
unfolding rows row_of
front_at k h = eqb→eq _ _ (in_span (λ j. eqb (get_or front j 0) (front_byte j)) 0 118 tt k (omega arith) h)

pub sheet_front : (ws : List ℕ) (k : ℕ) → k < 118 → get_or (sheet_of ws) k 0 ≡ get_or front k 0
unfolding sheet_of
sheet_front ws k h = spelled_front all ws k (omega (arith, all_length))

pub sheet_length : (ws : List ℕ) → length ws ≡ 39 → length (sheet_of ws) ≡ 274
unfolding sheet_of
sheet_length ws n = let e = spelled_length all ws (all_length ∙ rw n) in omega (arith, all_length)

-- byte k of the bodies
pub sheet_at : (ws : List ℕ) (k : ℕ) → length ws ≡ 39 → 118 ≤ k → k < 274
    → get_or (sheet_of ws) k 0 ≡ get_or (bodies_of (get_or ws ((k - 118) / 4) 0 ∷ [])) ((k - 118) % 4) 0
unfolding sheet_of
sheet_at ws k n l h =
    let e : 118 + (4 * ((k - 118) / 4) + (k - 118) % 4) ≡ k = omega arith in
    let p : (k - 118) / 4 < length ws = omega arith in
    rw e at (rw all_length at (spelled_body all ws ((k - 118) / 4) ((k - 118) % 4) p (omega arith)))

-- a store of the next element of x over a list that already starts with i elements of x
pub turn : {A : Type 0} (d : A) (i : ℕ) (x s : List A) → i < length x → i < length s
    → set (take i x ++ drop i s) i (get_or x i d) ≡ take (suc i) x ++ drop (suc i) s
turn d i [] s p q = absurd (not-suc-le-zero p)
turn d i (a ∷ x) [] p q = absurd (not-suc-le-zero q)
turn d zero (a ∷ x) (y ∷ s) p q = refl
turn d (suc i) (a ∷ x) (y ∷ s) p q = rw (turn d i x s (le_of_suc-le-suc p) (le_of_suc-le-suc q))
