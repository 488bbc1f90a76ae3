-- A row by the place of the line's first separator: what stands past it may be read as one field, because a separator is no digit.
-- Assumes nothing.
use Rattle.std.specs.Prelude.{Some, None, Option}
use Rattle.std.specs.List.{position_or_len}
use Prim.Native.Nat.{ℕ, ◌+◌, ◌<◌, ◌≤◌}
use native.Mathlib.Numerals.{add-one}
use native.Mathlib.Omega.{arith}
use mathlib.Core.Path.{◌≡◌, refl, sym, ◌∙◌}
use mathlib.Core.Bool.{true, false}
use mathlib.Core.List.{List, [], ◌∷◌}
use borrow.Author.Tests.{leb-true, eqb-true, ne_eqb}
use lib.Dec.{leb}
use lib.ListN.{length, take, drop}
use Rattle.form_text.specs.declared.rows.Entry.TheVariants as entry
use Rattle.text.specs.Numbers.{within, digits, number_of}
use Rattle.form_text.specs.Cuts.{is_space, spaces, trimmed_start_of, trimmed_end_of, trimmed_of, is_separator, front_of, others, fields_of}
use Rattle.form_text.specs.Form.{whole, paired_of, said_of, row_of}
use Rattle.form_text.proofs.Tests.{by_test, both}
use Rattle.form_text.proofs.Split.{front_size, fronts, one_field, front_whole, more_fields}

-- neither a space nor a digit is a separator
joins : (c : ℕ) → (c ≡ 44 → ⊥) → (c ≡ 59 → ⊥) → (c ≡ 9 → ⊥) → is_separator c ≡ false
joins c comma semicolon tab = simp (ne_eqb c 44 comma, ne_eqb c 59 semicolon, ne_eqb c 9 tab)

space_joins : (c : ℕ) → is_space c ≡ true → is_separator c ≡ false
space_joins c e = let q = eqb-true c 32 e in joins c (λ k. omega arith) (λ k. omega arith) (λ k. omega arith)

digit_joins : (c : ℕ) → within 48 57 c ≡ true → is_separator c ≡ false
digit_joins c e =
    let p = both (leb 48 c) (leb c 57) e in
    let low = leb-true 48 c p.0 in
    let high = leb-true c 57 p.1 in
    joins c (λ k. omega arith) (λ k. omega arith) (λ k. omega arith)

-- what is digits without the spaces at its ends has no separator in it
spaces_alone : (cs : List ℕ) → spaces cs ≡ true → others cs ≡ []
spaces_alone [] h = refl
spaces_alone (c ∷ cs) h = let p = both (is_space c) (spaces cs) h in simp (space_joins c p.0, spaces_alone cs p.1)

end_alone : (cs : List ℕ) → digits (trimmed_end_of cs) ≡ true → others cs ≡ []
unfolding trimmed_end_of
end_alone [] h = refl
end_alone (c ∷ cs) h =
    by_test (spaces (c ∷ cs))
    (λ e. spaces_alone (c ∷ cs) e)
    (λ e. let p = both (within 48 57 c) (digits (trimmed_end_of cs)) (rw e at h) in simp (digit_joins c p.0, end_alone cs p.1))

start_others : (cs : List ℕ) → others (trimmed_start_of cs) ≡ others cs
unfolding trimmed_start_of
start_others [] = refl
start_others (c ∷ cs) = by_test (is_space c) (λ e. simp (e, space_joins c e, start_others cs)) (λ e. simp e)

pub alone : (cs : List ℕ) → digits (trimmed_of cs) ≡ true → others cs ≡ []
unfolding trimmed_of
alone cs h = sym (start_others cs) ∙ end_alone (trimmed_start_of cs) h

-- what holds a separator is no number
unfit : (cs : List ℕ) → digits cs ≡ false → number_of whole cs ≡ None
unfolding number_of
unfit [] h = refl
unfit (c ∷ cs) h = simp h

not_paired : (r : Option ℕ) → paired_of r None ≡ entry.Malformed
not_paired (Some n) = refl
not_paired None = refl

-- so that a line past its first separator may be read as one field
pub said_past : (a cs : List ℕ) → row_of (a ∷ fields_of cs) ≡ paired_of (said_of a) (said_of cs)
said_past a cs = go (others cs) refl
  where
    none : (f : List ℕ) (fs : List (List ℕ)) → others cs ≡ f ∷ fs → digits (trimmed_of cs) ≡ false
    none f fs e = by_test (digits (trimmed_of cs)) (λ d. absurd (let k = alone cs d in let q : ◌≡◌ {A = ℕ} 0 1 = cc in omega arith)) (λ d. d)

    go : (fs : List (List ℕ)) → others cs ≡ fs → row_of (a ∷ front_of cs ∷ fs) ≡ paired_of (said_of a) (said_of cs)
    go [] e = simp (front_whole cs e)
    go (f ∷ fs) e = simp (unfit (trimmed_of cs) (none f fs e), not_paired (said_of a))

-- the row by the place of the first separator
pub no_row : (l : List ℕ) → length l ≤ position_or_len is_separator l → entry.Malformed ≡ row_of (fields_of l)
no_row l h = simp (one_field l (rw (front_size l) h))

pub a_row : (l : List ℕ) {n : ℕ} → n ≡ position_or_len is_separator l → n < length l
    → row_of (fields_of l) ≡ paired_of (said_of (take n l)) (said_of (drop (n + 1) l))
a_row l {n} e h =
    let size = e ∙ sym (front_size l) in
    let f : take n l ≡ front_of l = rw size (fronts l) in
    simp (more_fields l (omega arith), ← size, add-one, f, said_past)
