-- What is asked of a keeper leaves nothing open: two keepers that do it give any two words the same answers, and the same words after any call.
-- Assumes nothing.
use Rattle.std.specs.Prelude.{Some, None, Option}
use Prim.Native.Nat.{ℕ, zero, suc, ◌+◌, ◌-◌, ◌≤◌, ◌<◌, ◌/◌, ◌%◌, ◌^◌}
use mathlib.Core.Path.{◌≡◌, refl, sym, ap, ◌∙◌}
use mathlib.Core.Bool.{Bool, true, false, not, true≢false}
use mathlib.Core.Logic.{◌⊎◌, inl, inr}
use native.Mathlib.Nat.{lt_of_not-le, mod-lt, pow-suc, zero-lt-suc, not-suc-le-zero, le_of_suc-le-suc}
use native.Mathlib.Omega.{arith}
use borrow.Author.Tests.{le-leb, lt-leb, eqb-true, eqb-false}
use lib.Dec.{eqb}
use Rattle.free_number.specs.declared.map.Map.{Map}
use Rattle.free_number.specs.declared.map.Change.{Change}
use Rattle.free_number.specs.Used.{bit}
use Rattle.free_number.specs.Rows.{is_node}
use Rattle.free_number.specs.Demand.{Keeper, number_of, IsNode, IsLowest, Words, holds, Becomes, Makes, Demanded}
use Rattle.free_number.proofs.Words.{bit_zero, bit_suc}
use Rattle.free_number.proofs.Nodes.{is_node_lem, node_is}
use Rattle.free_number.proofs.Demands.{either}

-- ---- the lowest free number is one number
one_lowest : (p : ℕ → Bool) (f g : Option ℕ) → IsLowest p f → IsLowest p g → f ≡ g
one_lowest p (Some a) (Some b) h k =
    let le = lt_of_not-le {n = suc a} {m = b} (λ l. true≢false (sym (k.2 a h.0.0 l) ∙ h.1)) in
    let ge = lt_of_not-le {n = suc b} {m = a} (λ l. true≢false (sym (h.2 b k.0.0 l) ∙ k.1)) in
    ap Some (omega (arith, le, ge))
one_lowest p (Some a) None h k = absurd (true≢false (sym (k a h.0) ∙ h.1))
one_lowest p None (Some b) h k = absurd (true≢false (sym (h b k.0) ∙ k.1))
one_lowest p None None h k = refl

-- ---- a word is its bits
low_bit : (w v : ℕ) → bit w 0 ≡ bit v 0 → w % 2 ≡ v % 2
low_bit w v e = go (w % 2) (v % 2) (mod-lt w (zero-lt-suc 1)) (mod-lt v (zero-lt-suc 1)) (sym (bit_zero w) ∙ e ∙ bit_zero v)
  where
    go : (a b : ℕ) → a < 2 → b < 2 → eqb a 1 ≡ eqb b 1 → a ≡ b
    go zero zero h k z = refl
    go zero (suc zero) h k z = absurd (true≢false (sym z))
    go (suc zero) zero h k z = absurd (true≢false z)
    go (suc zero) (suc zero) h k z = refl
    go (suc (suc a)) b h k z = absurd (not-suc-le-zero (le_of_suc-le-suc (le_of_suc-le-suc h)))
    go zero (suc (suc b)) h k z = absurd (not-suc-le-zero (le_of_suc-le-suc (le_of_suc-le-suc k)))
    go (suc zero) (suc (suc b)) h k z = absurd (not-suc-le-zero (le_of_suc-le-suc (le_of_suc-le-suc k)))

same_word : (K w v : ℕ) → w < 2 ^ K → v < 2 ^ K → ((i : ℕ) → i < K → bit w i ≡ bit v i) → w ≡ v
same_word zero w v h k same = omega (arith, h, k)
same_word (suc K) w v h k same =
    let low = low_bit w v (same 0 (zero-lt-suc K)) in
    let up = same_word K (w / 2) (v / 2) (omega (arith, pow-suc 2 K)) (omega (arith, pow-suc 2 K))
    (λ i l. sym (bit_suc w i) ∙ same (suc i) (omega arith) ∙ bit_suc v i) in
    omega (arith, low, up)

same_map : (x y : Map) → Words x → Words y → ((i : ℕ) → 1 ≤ i → i ≤ 128 → holds x i ≡ holds y i) → x ≡ y
unfolding bit
same_map x y a b same =
    let low : x.low ≡ y.low = same_word 64 x.low y.low a.low_fits b.low_fits (λ i l. lower i l (same (suc i) (omega arith) (omega arith))) in
    let high : x.high ≡ y.high = same_word 64 x.high y.high a.high_fits b.high_fits (λ i l. upper i l (same (65 + i) (omega arith) (omega arith))) in
    rw (low, high)
  where
    lower : (i : ℕ) → i < 64 → holds x (suc i) ≡ holds y (suc i) → bit x.low i ≡ bit y.low i
    lower i l e = let z : suc i - 1 ≡ i = omega arith in rw (le-leb (suc i) 64 l, z) at e

    upper : (i : ℕ) → i < 64 → holds x (65 + i) ≡ holds y (65 + i) → bit x.high i ≡ bit y.high i
    upper i l e = let z : 65 + i - 65 ≡ i = omega arith in rw (lt-leb (65 + i) 64 (omega arith), z) at e

-- ---- a call
differs : (b : Bool) → b ≡ not b → ⊥
differs true e = true≢false e
differs false e = true≢false (sym e)

abbrev pub Alike : Change → Change → Type 0
Alike c d = (c.map ≡ d.map) × (number_of c.answer ≡ number_of d.answer)

one_becomes : (m : Map) (n : ℕ) (now : Bool) (x y : Map) → Becomes m n now x → Becomes m n now y → x ≡ y
one_becomes m n now x y b d = same_map x y b.words d.words (λ i l u. go i l u (eqb i n) refl)
  where
    go : (i : ℕ) → 1 ≤ i → i ≤ 128 → (t : Bool) → eqb i n ≡ t → holds x i ≡ holds y i
    go i l u true e = let z : i ≡ n = eqb-true i n e in rw z (b.here ∙ sym d.here)
    go i l u false e = b.others i l u (eqb-false i n e) ∙ sym (d.others i l u (eqb-false i n e))

one_call : (now : Bool) (m : Map) (n : ℕ) (c d : Change) → Makes now m n c → Makes now m n d → Alike c d
one_call now m n c d p q = go (is_node n) refl (either (holds m n) now)
  where
    node : IsNode n → (holds m n ≡ now) ⊎ (holds m n ≡ not now) → Alike c d
    node h (inl e) = let x = p.nine h e in let y = q.nine h e in (x.0 ∙ sym y.0, x.1 ∙ sym y.1)
    node h (inr e) =
        let x = p.done h (λ z. differs now (sym z ∙ e)) in
        let y = q.done h (λ z. differs now (sym z ∙ e)) in
        (one_becomes m n now c.map d.map x.0 y.0, ap number_of (x.1 ∙ sym y.1))

    go : (b : Bool) → is_node n ≡ b → (holds m n ≡ now) ⊎ (holds m n ≡ not now) → Alike c d
    go true e o = node (is_node_lem n e) o
    go false e o =
        let out : IsNode n → ⊥ = λ h. true≢false (sym (node_is n h) ∙ e) in
        let x = p.seven out in
        let y = q.seven out in (x.0 ∙ sym y.0, x.1 ∙ sym y.1)

pub record Same (j k : Keeper) (m : Map) : Type 0 where
  pub adds : (n : ℕ) → Alike (j.add m n) (k.add m n)
  pub removes : (n : ℕ) → Alike (j.remove m n) (k.remove m n)
  pub lowest : j.lowest m ≡ k.lowest m
  pub count : j.count m ≡ k.count m

pub only : (j k : Keeper) → Demanded j → Demanded k → (m : Map) → Words m → Same j k m
only j k p q m w =
    let x = p.any_words m w in
    let y = q.any_words m w in
    record {
      adds = λ n. one_call true m n (j.add m n) (k.add m n) (x.adds n) (y.adds n);
      removes = λ n. one_call false m n (j.remove m n) (k.remove m n) (x.removes n) (y.removes n);
      lowest = one_lowest (holds m) (j.lowest m) (k.lowest m) x.lowest y.lowest;
      count = x.counts ∙ sym y.counts;
    }
