-- A line is read as a row only where it is two numbers in decimal digits with a separator between them and nothing but spaces around each.
-- Assumes nothing.
use Rattle.std.specs.Prelude.{Some, None, Option}
use Prim.Native.Nat.{ℕ, ◌≤◌}
use native.Mathlib.Omega.{arith}
use mathlib.Core.Path.{◌≡◌, refl, ap}
use mathlib.Core.Bool.{Bool, true, false, ◌&&◌, not, cond}
use mathlib.Core.List.{List, [], ◌∷◌, ◌++◌}
use borrow.Author.Tests.{ltb-false, leb-true}
use lib.Dec.{leb, ltb, eqb}
use lib.ListN.{length, get_or}
use Rattle.form_text.specs.declared.rows.Entry.TheVariants as entry
use Rattle.text.specs.Numbers.{is_decimal, value_of, number_of}
use Rattle.text.specs.Lines.{bare_of}
use Rattle.form_text.specs.Cuts.{unmarked_of, trimmed_of, is_separator, front_of, others, fields_of}
use Rattle.form_text.specs.Form.{whole, paired_of, said_of, row_of, any_digit, read_of, entry_of, longest}
use Rattle.form_text.proofs.Tests.{by_test}
use Rattle.form_text.proofs.Sides.{said_past}
use Rattle.form_text.proofs.Spaces.{Around, around}

-- ---- a number
pub record Says (cs : List ℕ) (v : ℕ) : Type 0 where
  pub word : List ℕ
  pub around : Around cs word
  pub decimal : is_decimal word ≡ true
  pub value : value_of word ≡ v
  pub fits : v ≤ whole

says : (cs : List ℕ) (v : ℕ) → said_of cs ≡ Some v → Says cs v
unfolding number_of
says cs v h = go (trimmed_of cs) (around cs) (is_decimal (trimmed_of cs)) (leb (value_of (trimmed_of cs)) whole) refl refl h
  where
    go : (word : List ℕ) → Around cs word → (a b : Bool) → is_decimal word ≡ a → leb (value_of word) whole ≡ b
        → cond (a && b) (Some (value_of word)) None ≡ Some v → Says cs v
    go word r true true p q k =
        let e : value_of word ≡ v = cc in
        record { word = word; around = r; decimal = p; value = e; fits = omega (arith, leb-true (value_of word) whole q) }
    go word r true false p q k = absurd (let z : ◌≡◌ {A = ℕ} 0 1 = cc in omega arith)
    go word r false b p q k = absurd (let z : ◌≡◌ {A = ℕ} 0 1 = cc in omega arith)

-- ---- a line with a separator in it, parted at the first
record Parted (cs : List ℕ) : Type 0 where
  left : List ℕ
  mark : ℕ
  right : List ℕ
  is : cs ≡ left ++ (mark ∷ right)
  parts : is_separator mark ≡ true
  front : front_of cs ≡ left
  rest : others cs ≡ fields_of right

parted : (cs : List ℕ) {f : List ℕ} {fs : List (List ℕ)} → others cs ≡ f ∷ fs → Parted cs
unfolding front_of
parted [] h = absurd (let z : ◌≡◌ {A = ℕ} 0 1 = cc in omega arith)
parted (c ∷ cs) h =
    by_test (is_separator c)
    (λ e. record { left = []; mark = c; right = cs; is = refl; parts = e; front = simp e; rest = simp e })
    (λ e. let r = parted cs (simp e at h) in
    record { left = c ∷ r.left; mark = r.mark; right = r.right; is = ap (λ (l : List ℕ). c ∷ l) r.is; parts = r.parts; front = simp e (ap (λ (l : List ℕ). c ∷ l) r.front); rest = simp e r.rest })

-- ---- a row
pub record Spells (cs : List ℕ) (x y : ℕ) : Type 0 where
  pub left : List ℕ
  pub mark : ℕ
  pub right : List ℕ
  pub is : cs ≡ left ++ (mark ∷ right)
  pub parts : is_separator mark ≡ true
  pub serial : Says left x
  pub node : Says right y

paired_only : (p q : Option ℕ) {x y : ℕ} → paired_of p q ≡ entry.Row x y → (p ≡ Some x) × (q ≡ Some y)
paired_only (Some m) (Some n) h = (cc, cc)
paired_only (Some m) None h = absurd (let z : ◌≡◌ {A = ℕ} 0 1 = cc in omega arith)
paired_only None q h = absurd (let z : ◌≡◌ {A = ℕ} 0 1 = cc in omega arith)

spells : (cs : List ℕ) (x y : ℕ) → row_of (fields_of cs) ≡ entry.Row x y → Spells cs x y
spells cs x y h = go (others cs) refl
  where
    go : (fs : List (List ℕ)) → others cs ≡ fs → Spells cs x y
    go [] e = absurd (let k = rw e at h in let z : ◌≡◌ {A = ℕ} 0 1 = cc in omega arith)
    go (f ∷ fs) e =
        let r = parted cs e in
        let k = rw (r.front, r.rest, said_past r.left r.right) at h in
        let said = paired_only (said_of r.left) (said_of r.right) k in
        record { left = r.left; mark = r.mark; right = r.right; is = r.is; parts = r.parts; serial = says r.left x said.0; node = says r.right y said.1 }

read_only : (cs : List ℕ) (first : Bool) {x y : ℕ} → read_of cs first ≡ entry.Row x y → row_of (fields_of cs) ≡ entry.Row x y
unfolding read_of
read_only cs first {x} {y} h = go (eqb (length cs) 0) (eqb (get_or cs 0 0) 35) (first && not (any_digit cs)) h
  where
    go : (a b c : Bool) → cond a entry.Blank (cond b entry.Blank (cond c entry.Heading (row_of (fields_of cs)))) ≡ entry.Row x y
        → row_of (fields_of cs) ≡ entry.Row x y
    go true b c k = absurd (let z : ◌≡◌ {A = ℕ} 0 1 = cc in omega arith)
    go false true c k = absurd (let z : ◌≡◌ {A = ℕ} 0 1 = cc in omega arith)
    go false false true k = absurd (let z : ◌≡◌ {A = ℕ} 0 1 = cc in omega arith)
    go false false false k = k

-- the line without a mark and a carriage return is spaces, a row and spaces, and not too long
pub only : (line : List ℕ) (top first : Bool) (x y : ℕ) → entry_of line top first ≡ entry.Row x y
    → let bare = bare_of (unmarked_of line top) in (length bare ≤ longest) × Around bare (trimmed_of bare) × Spells (trimmed_of bare) x y
unfolding entry_of
only line top first x y h =
    let bare = bare_of (unmarked_of line top) in
    by_test (ltb longest (length bare))
    (λ e. absurd (let k = rw e at h in let z : ◌≡◌ {A = ℕ} 0 1 = cc in omega arith))
    (λ e. (ltb-false longest (length bare) e, around bare, spells (trimmed_of bare) x y (read_only (trimmed_of bare) first (rw e at h))))
