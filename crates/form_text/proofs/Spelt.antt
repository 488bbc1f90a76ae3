-- A row as anybody may write it: two numbers in decimal digits with a separator between them, and as many spaces around each as one likes.
-- Assumes nothing.
use Rattle.std.specs.Prelude.{Some}
use Prim.Native.Nat.{ℕ, ◌≤◌}
use native.Mathlib.Omega.{arith}
use mathlib.Core.Path.{◌≡◌, refl, ◌∙◌}
use mathlib.Core.Bool.{true, false}
use mathlib.Core.List.{List, [], ◌∷◌, ◌++◌}
use borrow.Author.Tests.{leb-true, ne_eqb, le-leb}
use lib.Dec.{leb}
use Rattle.form_text.specs.declared.rows.Entry.TheVariants.{Row}
use Rattle.text.specs.Numbers.{within, digits, is_decimal, value_of, number_of}
use Rattle.form_text.specs.Cuts.{is_space, trimmed_start_of, trimmed_end_of, trimmed_of, is_separator, front_of, others, fields_of}
use Rattle.form_text.specs.Form.{whole, said_of, row_of}
use Rattle.form_text.proofs.Tests.{by_test, both}
use Rattle.form_text.proofs.Sides.{alone, said_past}
use Rattle.form_text.proofs.Spaces.{gap, spaced}

-- a line is parted at its first separator
front_parts : (l r : List ℕ) (k : ℕ) → is_separator k ≡ true → others l ≡ [] → front_of (l ++ (k ∷ r)) ≡ l
unfolding front_of
front_parts [] r k e h = simp e
front_parts (c ∷ l) r k e h =
    by_test (is_separator c)
    (λ s. absurd (let q = simp s at h in let z : ◌≡◌ {A = ℕ} 0 1 = cc in omega arith))
    (λ s. simp (s, front_parts l r k e (simp s at h)))

other_parts : (l r : List ℕ) (k : ℕ) → is_separator k ≡ true → others l ≡ [] → others (l ++ (k ∷ r)) ≡ fields_of r
other_parts [] r k e h = simp e
other_parts (c ∷ l) r k e h =
    by_test (is_separator c)
    (λ s. absurd (let q = simp s at h in let z : ◌≡◌ {A = ℕ} 0 1 = cc in omega arith))
    (λ s. simp s (other_parts l r k e (simp s at h)))

-- digits have no space at their ends
pub digit_solid : (c : ℕ) → within 48 57 c ≡ true → is_space c ≡ false
digit_solid c e = let low = leb-true 48 c (both (leb 48 c) (leb c 57) e).0 in ne_eqb c 32 (λ k. omega arith)

pub end_digits : (cs : List ℕ) → digits cs ≡ true → trimmed_end_of cs ≡ cs
unfolding trimmed_end_of
end_digits [] h = refl
end_digits (c ∷ cs) h =
    let p = both (within 48 57 c) (digits cs) h in
    simp (digit_solid c p.0, end_digits cs p.1)

solid : (cs : List ℕ) → is_decimal cs ≡ true → trimmed_of cs ≡ cs
unfolding trimmed_of trimmed_start_of
solid [] h = end_digits [] refl
solid (c ∷ cs) h =
    let p = both (within 48 57 c) (digits cs) h in
    simp (digit_solid c p.0) (end_digits (c ∷ cs) h)

all_digits : (cs : List ℕ) → is_decimal cs ≡ true → digits cs ≡ true
all_digits [] h = refl
all_digits (c ∷ cs) h = h

-- a number with spaces around it
module _ (m n : ℕ) (cs : List ℕ) (d : is_decimal cs ≡ true) where
  abbrev field : List ℕ
  field = gap m ++ (cs ++ gap n)

  trimmed_field : trimmed_of field ≡ cs
  trimmed_field = spaced m n cs ∙ solid cs d

  one_field : others field ≡ []
  one_field = alone field (rw trimmed_field (all_digits cs d))

  said_field : value_of cs ≤ whole → said_of field ≡ Some (value_of cs)
  unfolding number_of
  said_field h = rw (trimmed_field, d, le-leb (value_of cs) whole h)

pub row_spelt : (a b c d k : ℕ) (serial node : List ℕ) → is_decimal serial ≡ true → is_decimal node ≡ true
    → value_of serial ≤ whole → value_of node ≤ whole → is_separator k ≡ true
    → row_of (fields_of ((gap a ++ (serial ++ gap b)) ++ (k ∷ (gap c ++ (node ++ gap d))))) ≡ Row (value_of serial) (value_of node)
row_spelt a b c d k serial node ds dn hs hn e =
    let left = gap a ++ (serial ++ gap b) in
    let right = gap c ++ (node ++ gap d) in
    rw (front_parts left right k e (one_field a b serial ds), other_parts left right k e (one_field a b serial ds), said_past, said_field a b serial ds hs, said_field c d node dn hn)
