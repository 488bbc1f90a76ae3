-- A line that is such a row is read as that row, wherever it stands, with a carriage return at its end or without, and after a byte order mark.
-- Assumes nothing.
use Prim.Native.Nat.{ℕ, zero, suc, ◌≤◌}
use Prim.Native.Char.{code}
use native.Mathlib.Omega.{arith}
use mathlib.Core.Path.{◌≡◌, refl, sym, ◌∙◌}
use mathlib.Core.Bool.{Bool, true, false, and-false}
use mathlib.Core.List.{List, [], ◌∷◌, ◌++◌, append_assoc, append-nil}
use borrow.Author.Tests.{leb-true, ne_eqb, le-ltb}
use lib.Dec.{leb}
use lib.ListN.{length}
use lib.Seq.{append_snoc}
use Rattle.form_text.specs.declared.rows.Entry.TheVariants.{Row}
use Rattle.text.specs.Numbers.{within, digits, is_decimal, value_of}
use Rattle.text.specs.Lines.{bare_of}
use Rattle.text.proofs.Bare.{bare_return, bare_other}
use Rattle.form_text.specs.Cuts.{unmarked_of, is_space, spaces, trimmed_start_of, trimmed_end_of, trimmed_of, is_separator, fields_of}
use Rattle.form_text.specs.Form.{whole, any_digit, row_of, read_of, entry_of, longest}
use Rattle.form_text.proofs.Tests.{by_test, both}
use Rattle.form_text.proofs.Spaces.{gap, spaced}
use Rattle.form_text.proofs.Spelt.{digit_solid, end_digits, row_spelt}

-- nothing goes from an end that is decimal digits
not_spaces : (before cs : List ℕ) → is_decimal cs ≡ true → spaces (before ++ cs) ≡ false
not_spaces [] [] h = absurd (let z : ◌≡◌ {A = ℕ} 0 1 = cc in omega arith)
not_spaces [] (c ∷ cs) h = simp (digit_solid c (both (within 48 57 c) (digits cs) h).0)
not_spaces (b ∷ before) cs h = by_test (is_space b) (λ e. simp e (not_spaces before cs h)) (λ e. simp e)

end_solid : (before cs : List ℕ) → is_decimal cs ≡ true → trimmed_end_of (before ++ cs) ≡ before ++ cs
unfolding trimmed_end_of
end_solid [] [] h = refl
end_solid [] (c ∷ cs) h = end_digits (c ∷ cs) h
end_solid (b ∷ before) cs h = simp (not_spaces (b ∷ before) cs h, end_solid before cs h)

-- the last byte of such an end, with spaces after it, is no carriage return
bare_digits : (before cs : List ℕ) → is_decimal cs ≡ true → bare_of (before ++ cs) ≡ before ++ cs
bare_digits before [] h = absurd (let z : ◌≡◌ {A = ℕ} 0 1 = cc in omega arith)
bare_digits before (c ∷ []) h =
    let low = leb-true 48 c (both (leb 48 c) (leb c 57) (both (within 48 57 c) true h).0).0 in
    bare_other before c (λ z. omega arith)
bare_digits before (c ∷ x ∷ cs) h =
    rw (append_snoc before c (x ∷ cs)) at (bare_digits (before ++ (c ∷ [])) (x ∷ cs) (both (within 48 57 c) (digits (x ∷ cs)) h).1)

one_more : (d : ℕ) → gap (suc d) ≡ gap d ++ (32 ∷ [])
one_more zero = refl
one_more (suc d) = rw (one_more d)

bare_gap : (before cs : List ℕ) → is_decimal cs ≡ true → (d : ℕ) → bare_of ((before ++ cs) ++ gap d) ≡ (before ++ cs) ++ gap d
bare_gap before cs h zero = rw append-nil (bare_digits before cs h)
bare_gap before cs h (suc d) =
    let e : (before ++ cs) ++ gap (suc d) ≡ ((before ++ cs) ++ gap d) ++ (32 ∷ []) = rw (one_more d) (sym (append_assoc (before ++ cs) (gap d) (32 ∷ []))) in
    rw e (bare_other ((before ++ cs) ++ gap d) 32 (λ z. omega arith))

-- a line that starts with a digit is read as a row
as_row : (x : ℕ) (rest : List ℕ) (first : Bool) → within 48 57 x ≡ true → read_of (x ∷ rest) first ≡ row_of (fields_of (x ∷ rest))
unfolding read_of any_digit
as_row x rest first h =
    let low = leb-true 48 x (both (leb 48 x) (leb x 57) h).0 in
    simp (ne_eqb (suc (length rest)) 0 (λ z. omega arith), ne_eqb x 35 (λ z. omega arith), h, and-false)

-- nothing goes from a line that starts and ends with a number
shown : (serial t node : List ℕ) (first : Bool) → is_decimal serial ≡ true → is_decimal node ≡ true
    → read_of (trimmed_of ((serial ++ t) ++ node)) first ≡ row_of (fields_of ((serial ++ t) ++ node))
unfolding trimmed_of trimmed_start_of
shown [] t node first ds dn = absurd (let z : ◌≡◌ {A = ℕ} 0 1 = cc in omega arith)
shown (x ∷ xs) t node first ds dn =
    let digit = (both (within 48 57 x) (digits xs) ds).0 in
    simp (digit_solid x digit, end_solid (x ∷ (xs ++ t)) node dn) (as_row x ((xs ++ t) ++ node) first digit)

module _ (a b c d k : ℕ) (serial node : List ℕ) (ds : is_decimal serial ≡ true) (dn : is_decimal node ≡ true)
    (hs : value_of serial ≤ whole) (hn : value_of node ≤ whole) (e : is_separator k ≡ true) where
  abbrev before : List ℕ
  before = serial ++ (gap b ++ (k ∷ gap c))

  abbrev line : List ℕ
  line = gap a ++ ((before ++ node) ++ gap d)

  read_line : (first : Bool) → read_of (trimmed_of line) first ≡ Row (value_of serial) (value_of node)
  read_line first =
      rw (spaced a d (before ++ node))
      (shown serial (gap b ++ (k ∷ gap c)) node first ds dn
      ∙ simp append_assoc (simp (append-nil, append_assoc) at (row_spelt 0 b c 0 k serial node ds dn hs hn e)))

  pub line_taken : (first : Bool) → length line ≤ longest → entry_of line false first ≡ Row (value_of serial) (value_of node)
  unfolding entry_of unmarked_of
  line_taken first h =
      let bare : bare_of line ≡ line = simp append_assoc (simp append_assoc at (bare_gap (gap a ++ before) node dn d)) in
      rw (bare, le-ltb longest (length line) h) (read_line first)

  pub return_taken : (first : Bool) → length line ≤ longest → entry_of (line ++ (code "\r" ∷ [])) false first ≡ Row (value_of serial) (value_of node)
  unfolding entry_of unmarked_of
  return_taken first h = rw (bare_return line 13 refl, le-ltb longest (length line) h) (read_line first)

-- a byte order mark at the very start changes nothing of any line
pub mark_taken : (l : List ℕ) (first : Bool) → entry_of (239 ∷ 187 ∷ 191 ∷ l) true first ≡ entry_of l false first
unfolding entry_of unmarked_of
mark_taken l first = refl
