-- Bytes that are read one by one: how many they are, byte `i` of them, and that they are gathered one by one in their room. By induction over how
-- many are read.
-- Assumes nothing.
use Prim.Native.Nat.{ℕ, zero, suc, ◌+◌, ◌<◌}
use mathlib.Core.Path.{◌≡◌, refl, ap}
use mathlib.Core.List.{List, [], ◌∷◌, ◌++◌}
use native.Mathlib.Numerals.{add-one}
use native.Mathlib.Omega.{arith}
use lib.ListN.{length, get_or, take, set}
use lib.Seq.{take-suc-set}
use Rattle.script.specs.Meaning.{read}

-- a byte more, and as many as are asked for
one_more : (f : ℕ → ℕ) (n : ℕ) → read f (suc n) ≡ read f n ++ (f n ∷ [])
one_more f zero = refl
one_more f (suc n) = ap (λ (l : List ℕ). f 0 ∷ l) (one_more (λ (i : ℕ). f (suc i)) n)

pub as_many : (f : ℕ → ℕ) (n : ℕ) → length (read f n) ≡ n
as_many f zero = refl
as_many f (suc n) = ap suc (as_many (λ (i : ℕ). f (suc i)) n)

-- byte `i` of them
pub read_at : (f : ℕ → ℕ) (n i : ℕ) → i < n → get_or (read f n) i 0 ≡ f i
read_at f zero i p = absurd (omega arith)
read_at f (suc n) zero p = refl
read_at f (suc n) (suc i) p = read_at (λ (k : ℕ). f (suc k)) n i (omega arith)

-- byte `i` laid in its place
pub gathered : (f : ℕ → ℕ) (room : List ℕ) (i : ℕ) {b : ℕ} → i < length room → b ≡ f i → take i room ≡ read f i
    → take (i + 1) (set room i b) ≡ read f (i + 1)
gathered f room i {b} h e k = rw (add-one, take-suc-set room i b h, one_more f i, k, e)
