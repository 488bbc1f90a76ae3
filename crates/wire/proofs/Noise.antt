-- What the exclusive-or shows of bits that were hit: bits that are turned over in one byte, whichever, are turned over in it. For exclusive-ors may be
-- taken in any order, so what is turned over in one byte can be taken last.
-- Assumes nothing.
use Prim.Native.Nat.{ℕ, zero, suc, ◌+◌, ◌*◌, ◌/◌, ◌%◌, ◌<◌}
use mathlib.Core.Path.{◌≡◌, refl, sym, ◌∙◌, ap}
use mathlib.Core.List.{List, [], ◌∷◌}
use native.Mathlib.Nat.{not-suc-le-zero, le_of_suc-le-suc}
use native.Mathlib.Omega.{arith}
use lib.Arith.{bin_ind}
use lib.Bits.{bit_xor, differ, xor_step, xor_shr, xor_mod, xor_comm}
use lib.ListN.{length, get_or, set}
use Rattle.wire.specs.Check.{xor_onto, hit_of}

-- the second and the third may change places: the last digits, then the rest
digit : (P : ℕ → Type 0) → P 0 → P 1 → (x : ℕ) → x < 2 → P x
digit P o i zero lt = o
digit P o i (suc zero) lt = i
digit P o i (suc (suc x)) lt = absurd (omega arith)

abbrev Swaps : ℕ → ℕ → ℕ → Type 0
Swaps x y z = differ (bit_xor x y) z ≡ differ (bit_xor x z) y

digits : (x y z : ℕ) → x < 2 → y < 2 → z < 2 → Swaps x y z
digits x y z p q r =
    digit (λ a. Swaps a y z)
    (digit (λ b. Swaps 0 b z) (digit (λ c. Swaps 0 0 c) refl refl z r) (digit (λ c. Swaps 0 1 c) refl refl z r) y q)
    (digit (λ b. Swaps 1 b z) (digit (λ c. Swaps 1 0 c) refl refl z r) (digit (λ c. Swaps 1 1 c) refl refl z r) y q)
    x p

split : (a b e : ℕ) → bit_xor (bit_xor a b) e ≡ bit_xor (bit_xor (a / 2) (b / 2)) (e / 2) * 2 + differ (bit_xor (a % 2) (b % 2)) (e % 2)
split a b e = xor_step (bit_xor a b) e ∙ rw (xor_shr a b 1, xor_mod a b 1)

swap : (a b e : ℕ) → bit_xor (bit_xor a b) e ≡ bit_xor (bit_xor a e) b
swap =
    bin_ind (λ (n : ℕ). (b e : ℕ) → bit_xor (bit_xor n b) e ≡ bit_xor (bit_xor n e) b) xor_comm
    (λ n ih b e.
    split n b e ∙ rw (ih (b / 2) (e / 2), digits (n % 2) (b % 2) (e % 2) (omega arith) (omega arith) (omega arith)) (sym (split n e b)))

regroup : (a b e : ℕ) → bit_xor a (bit_xor b e) ≡ bit_xor (bit_xor a b) e
regroup a b e = xor_comm a (bit_xor b e) ∙ swap b e a ∙ ap (λ (x : ℕ). bit_xor x e) (xor_comm b a)

-- what is turned at first can be turned at last; so can what is turned in one byte
onto_last : (a e : ℕ) (bs : List ℕ) → xor_onto (bit_xor a e) bs ≡ bit_xor (xor_onto a bs) e
onto_last a e [] = refl
onto_last a e (b ∷ bs) = ap (λ (x : ℕ). xor_onto x bs) (swap a e b) ∙ onto_last (bit_xor a b) e bs

onto_turned : (a : ℕ) (bs : List ℕ) (i e : ℕ) → i < length bs → xor_onto a (set bs i (bit_xor (get_or bs i 0) e)) ≡ bit_xor (xor_onto a bs) e
onto_turned a [] i e lt = absurd (not-suc-le-zero lt)
onto_turned a (b ∷ bs) zero e lt = ap (λ (x : ℕ). xor_onto x bs) (regroup a b e) ∙ onto_last (bit_xor a b) e bs
onto_turned a (b ∷ bs) (suc i) e lt = onto_turned (bit_xor a b) bs i e (le_of_suc-le-suc lt)

pub turned : (bs : List ℕ) (i e : ℕ) → i < length bs → hit_of (set bs i (bit_xor (get_or bs i 0) e)) ≡ bit_xor (hit_of bs) e
unfolding hit_of
turned bs i e lt = onto_turned 0 bs i e lt
