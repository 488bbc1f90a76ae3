-- Spaces dropped one by one, from the start on and from the end back.
-- Assumes nothing.
use Rattle.std.proofs.lemmas.List.Recursion.{and_from_places, and_fails_at}
use Prim.Native.Nat.{ℕ, zero, suc, ◌+◌, ◌-◌, ◌<◌}
use native.Mathlib.Numerals.{add-one}
use native.Mathlib.Omega.{arith}
use mathlib.Core.Path.{◌≡◌, refl, ◌∙◌}
use mathlib.Core.Bool.{true, ◌&&◌, and-true, and-false}
use mathlib.Core.List.{List, [], ◌∷◌, ◌++◌}
use borrow.Author.Tests.{eq-eqb, ne_eqb}
use lib.ListN.{length, get_or, take, drop, length-drop}
use lib.Seq.{take_all}
use Rattle.form_text.proofs.Tests.{by_test}
use Rattle.form_text.specs.Cuts.{is_space, spaces, trimmed_start_of, trimmed_end_of}

-- a part of a line that goes up to its end
pub rest : (l : List ℕ) (i : ℕ) → take (length l - i) (drop i l) ≡ drop i l
rest l i = take_all (length l - i) (drop i l) (simp length-drop (omega arith))

-- nothing but spaces
spaces_alone : (cs : List ℕ) → ((k : ℕ) → k < length cs → get_or cs k 0 ≡ 32) → spaces cs ≡ true
spaces_alone cs h = and_from_places spaces is_space refl (λ _ _. refl) cs 0 (λ k l. eq-eqb (get_or cs k 0) 32 (h k l))

pub start_nothing : (cs : List ℕ) → ((k : ℕ) → k < length cs → get_or cs k 0 ≡ 32) → trimmed_start_of cs ≡ []
unfolding trimmed_start_of
start_nothing [] h = refl
start_nothing (c ∷ cs) h = simp (eq-eqb c 32 (h 0 (omega arith))) (start_nothing cs (λ k l. h (suc k) (omega arith)))

pub end_nothing : (cs : List ℕ) → ((k : ℕ) → k < length cs → get_or cs k 0 ≡ 32) → trimmed_end_of cs ≡ []
unfolding trimmed_end_of
end_nothing [] h = refl
end_nothing (c ∷ cs) h = rw (spaces_alone (c ∷ cs) h)

-- the first character and the last one that are no space
from_first : (cs : List ℕ) (i : ℕ) → i < length cs → (get_or cs i 0 ≡ 32 → ⊥) → ((k : ℕ) → k < i → get_or cs k 0 ≡ 32)
    → drop i cs ≡ trimmed_start_of cs
unfolding trimmed_start_of
from_first [] i h n s = absurd (omega arith)
from_first (c ∷ cs) zero h n s = simp (ne_eqb c 32 n)
from_first (c ∷ cs) (suc i) h n s =
    simp (eq-eqb c 32 (s 0 (omega arith))) (from_first cs i (omega arith) n (λ k l. s (suc k) (omega arith)))

pub start_first : (cs : List ℕ) (i : ℕ) → i < length cs → (get_or cs i 0 ≡ 32 → ⊥) → ((k : ℕ) → k < i → get_or cs k 0 ≡ 32)
    → take (length cs - i) (drop i cs) ≡ trimmed_start_of cs
start_first cs i h n s = rest cs i ∙ from_first cs i h n s

up_to_last : (cs : List ℕ) (i : ℕ) → i < length cs → (get_or cs i 0 ≡ 32 → ⊥) → ((k : ℕ) → i < k → k < length cs → get_or cs k 0 ≡ 32)
    → take (suc i) cs ≡ trimmed_end_of cs
unfolding trimmed_end_of
up_to_last [] i h n s = absurd (omega arith)
up_to_last (c ∷ cs) zero h n s = simp (ne_eqb c 32 n, end_nothing cs (λ k l. s (suc k) (omega arith) (omega arith)))
up_to_last (c ∷ cs) (suc i) h n s =
    let some = and_fails_at spaces is_space refl (λ _ _. refl) (c ∷ cs) (suc i) 0 h (ne_eqb (get_or cs i 0) 32 n) in
    rw (some, up_to_last cs i (omega arith) n (λ k l m. s (suc k) (omega arith) (omega arith)))

pub end_last : (cs : List ℕ) (i : ℕ) → i < length cs → (get_or cs i 0 ≡ 32 → ⊥) → ((k : ℕ) → i < k → k < length cs → get_or cs k 0 ≡ 32)
    → take (i + 1) cs ≡ trimmed_end_of cs
end_last cs i h n s = rw add-one (up_to_last cs i h n s)

-- one character more at the end
spaces_more : (cs : List ℕ) (c : ℕ) → spaces (cs ++ c ∷ []) ≡ spaces cs && is_space c
spaces_more [] c = and-true (is_space c)
spaces_more (b ∷ cs) c = by_test (is_space b) (λ e. simp e (spaces_more cs c)) (λ e. simp e)

pub end_space : (cs : List ℕ) (c : ℕ) → c ≡ 32 → trimmed_end_of (cs ++ c ∷ []) ≡ trimmed_end_of cs
unfolding trimmed_end_of
end_space [] c e = simp (eq-eqb c 32 e)
end_space (b ∷ cs) c e = simp (spaces_more cs c, eq-eqb c 32 e, and-true, end_space cs c e)

pub end_other : (cs : List ℕ) (c : ℕ) → (c ≡ 32 → ⊥) → trimmed_end_of (cs ++ c ∷ []) ≡ cs ++ c ∷ []
unfolding trimmed_end_of
end_other [] c e = simp (ne_eqb c 32 e)
end_other (b ∷ cs) c e = simp (spaces_more cs c, ne_eqb c 32 e, and-false, end_other cs c e)
