-- The fields of a line by the place of its first separator.
-- Assumes nothing.
use Rattle.std.specs.List.{position_or_len}
use Prim.Native.Nat.{ℕ, suc, ◌<◌, ◌≤◌}
use native.Mathlib.Nat.{not-suc-le-zero}
use native.Mathlib.Omega.{arith}
use mathlib.Core.Path.{◌≡◌, refl}
use mathlib.Core.List.{List, [], ◌∷◌}
use lib.ListN.{length, take, drop}
use Rattle.form_text.specs.Cuts.{is_separator, front_of, others, fields_of}
use Rattle.form_text.proofs.Tests.{by_test}

-- how long the first field is: up to the place of the first separator
pub front_size : (cs : List ℕ) → length (front_of cs) ≡ position_or_len is_separator cs
unfolding front_of
front_size [] = refl
front_size (c ∷ cs) = by_test (is_separator c) (λ e. simp e) (λ e. simp e (omega (arith, front_size cs)))

-- the first field is a part of the line; where it is the whole line there is no other, and else the others are the fields past the separator
pub fronts : (cs : List ℕ) → take (length (front_of cs)) cs ≡ front_of cs
unfolding front_of
fronts [] = refl
fronts (c ∷ cs) = by_test (is_separator c) (λ e. simp e) (λ e. simp (e, fronts cs))

pub one_field : (cs : List ℕ) → length cs ≤ length (front_of cs) → others cs ≡ []
unfolding front_of
one_field [] h = refl
one_field (c ∷ cs) h =
    by_test (is_separator c)
    (λ e. absurd (let k = simp e at h in omega arith))
    (λ e. simp e (one_field cs (let k = simp e at h in omega arith)))

pub front_whole : (cs : List ℕ) → others cs ≡ [] → front_of cs ≡ cs
unfolding front_of
front_whole [] h = refl
front_whole (c ∷ cs) h =
    by_test (is_separator c)
    (λ e. absurd (let k = simp e at h in let q : ◌≡◌ {A = ℕ} 0 1 = cc in omega arith))
    (λ e. simp (e, front_whole cs (simp e at h)))

pub more_fields : (cs : List ℕ) → length (front_of cs) < length cs → others cs ≡ fields_of (drop (suc (length (front_of cs))) cs)
unfolding front_of
more_fields [] h = absurd (not-suc-le-zero h)
more_fields (c ∷ cs) h = by_test (is_separator c) (λ e. simp e) (λ e. simp e (more_fields cs (let k = simp e at h in omega arith)))
