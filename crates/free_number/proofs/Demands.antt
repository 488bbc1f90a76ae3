-- The map does what is asked of it: a call turns the bit of the number that it names, or is refused; so after any calls a number is used just if it is a
-- row's (Rows), and the lowest free number and the count are those of the rows (Lowest).
-- Assumes nothing.
use Prim.Native.Nat.{ℕ, ◌+◌, ◌-◌, ◌*◌, ◌≤◌, ◌/◌, ◌%◌, ◌^◌}
use mathlib.Core.Path.{◌≡◌, refl, sym, ap, ◌∙◌}
use mathlib.Core.Bool.{Bool, true, false, cond, not, beq, not-not, true≢false}
use mathlib.Core.List.{List}
use mathlib.Core.Logic.{◌⊎◌, inl, inr}
use native.Mathlib.Nat.{zero-div}
use borrow.Author.Tests.{leb-true, leb-false, eqb-true, eq-eqb, ne_eqb}
use lib.Bits.{bit_xor, xor_zero_l}
use lib.Dec.{leb, eqb}
use lib.Pow.{split}
use Rattle.rows.specs.Among.{among}
use Rattle.head.proofs.Nodes.{node_same, node_may}
use Rattle.free_number.specs.declared.map.Map.{Map}
use Rattle.free_number.specs.declared.map.Change.{Change}
use Rattle.free_number.specs.declared.answer.Refusal.{Refusal}
use Rattle.free_number.specs.declared.answer.Refusal.TheVariants.{Outside, Taken, Unused}
use Rattle.free_number.specs.Lowest.{lowest_of}
use Rattle.free_number.specs.Used.{bit, whole, of_whole, used, empty_of, flipped, turned, refused, refusal_of, make_of, add_of, remove_of}
use Rattle.free_number.specs.Rows.{Call, adds, removes, Calls, start, ◌▸◌, is_node, refusal, rows_after, named, is_add, adding}
use Rattle.free_number.specs.Demand.{product, step, after, number_of, IsNode, IsLowest, Words, holds, Becomes, Makes, Bits, Reads, Demanded}
use Rattle.free_number.proofs.Lowest.{lowest_ext, count_ext, lowest_is, none_free}
use Rattle.free_number.proofs.Maps.{used_low, used_high, flipped_fits, used_flipped, count_words}
use Rattle.free_number.proofs.Nodes.{is_node_lem, other}
use Rattle.free_number.proofs.Rows.{row_step, after_list, count_rows}

-- ---- what a call that names number n, to make it used or not, does to a map
record Turns (now : Bool) (m : Map) (n : ℕ) (c : Change) : Type 0 where
  outside : is_node n ≡ false → c ≡ refused m Outside
  already : IsNode n → used m n ≡ now → (c.map ≡ m) × (number_of c.answer ≡ 9)
  turns : IsNode n → used m n ≡ not now → c ≡ turned m n

same_bool : (b : Bool) → beq b b ≡ true
same_bool true = refl
same_bool false = refl

other_bool : (b : Bool) → beq (not b) b ≡ false
other_bool true = refl
other_bool false = refl

make_turns : (m : Map) (n : ℕ) (now : Bool) (why : Refusal) → refusal_of why ≡ 9 → Turns now m n (make_of m n now why)
make_turns m n now why nine =
    record {
      outside = λ e. rw (node_same n, e);
      already = λ h e. rw (node_may n h.0 h.1, e, same_bool now) (refl, nine);
      turns = λ h e. rw (node_may n h.0 h.1, e, other_bool now);
    }

add_turns : (m : Map) (n : ℕ) → Turns true m n (add_of m n)
unfolding add_of
add_turns m n = make_turns m n true Taken refl

remove_turns : (m : Map) (n : ℕ) → Turns false m n (remove_of m n)
unfolding remove_of
remove_turns m n = make_turns m n false Unused refl

step_turns : (m : Map) (c : Call) → Turns (is_add c) m (named c) (step product m c)
step_turns m (adds n) = add_turns m n
step_turns m (removes n) = remove_turns m n

-- so it decides whether that number is used, and leaves all others
pub either : (v now : Bool) → (v ≡ now) ⊎ (v ≡ not now)
either true true = inl refl
either true false = inr refl
either false true = inr refl
either false false = inl refl

module _ (now : Bool) (m : Map) (n : ℕ) (c : Change) (t : Turns now m n c) where
  decides : (i : ℕ) → IsNode i → used c.map i ≡ cond (eqb i n) now (used m i)
  decides i h = go (is_node n) refl (either (used m n) now)
    where
      -- where the map stays, the number is as the call wants it, or none that is looked at
      stays : (eqb i n ≡ true → used m n ≡ now) → (b : Bool) → eqb i n ≡ b → used m i ≡ cond b now (used m i)
      stays so true z = ap (used m) (eqb-true i n z) ∙ so z
      stays so false z = refl

      turned_over : used m n ≡ not now → (b : Bool) → eqb i n ≡ b → cond b (not (used m i)) (used m i) ≡ cond b now (used m i)
      turned_over e true z = ap not (ap (used m) (eqb-true i n z) ∙ e) ∙ not-not now
      turned_over e false z = refl

      go : (b : Bool) → is_node n ≡ b → (used m n ≡ now) ⊎ (used m n ≡ not now) → used c.map i ≡ cond (eqb i n) now (used m i)
      go true e (inl f) = rw (t.already (is_node_lem n e) f).0 (stays (λ z. f) (eqb i n) refl)
      go true e (inr f) = rw (t.turns (is_node_lem n e) f) (used_flipped m n i (is_node_lem n e).0 h.0 ∙ turned_over f (eqb i n) refl)
      go false e d = rw (t.outside e) (stays (λ z. absurd (true≢false (sym z ∙ other i n h e))) (eqb i n) refl)

-- ---- any two words
held : (m : Map) → Words m → (n : ℕ) → 1 ≤ n → holds m n ≡ used m n
unfolding bit
held m w n l = go (leb n 64) refl
  where
    go : (b : Bool) → leb n 64 ≡ b → eqb (cond b (m.low / 2 ^ (n - 1)) (m.high / 2 ^ (n - 65)) % 2) 1 ≡ used m n
    go true e = sym (used_low m n l (leb-true n 64 e))
    go false e = sym (used_high m n w.low_fits (leb-false n 64 e))

flipped_words : (m : Map) → Words m → (n : ℕ) → IsNode n → Words (flipped m n)
flipped_words m w n h = let f = flipped_fits m n w.low_fits w.high_fits h.0 h.1 in record { low_fits = f.0; high_fits = f.1 }

module _ (now : Bool) (m : Map) (w : Words m) (n : ℕ) (c : Change) (t : Turns now m n c) where
  becomes : IsNode n → used m n ≡ not now → Becomes m n now (flipped m n)
  becomes h e =
      let f = flipped_words m w n h in
      record {
        words = f;
        here = held (flipped m n) f n h.0 ∙ used_flipped m n n h.0 h.0 ∙ rw (eq-eqb n n refl, e) (not-not now);
        others = λ i l u ne. held (flipped m n) f i l ∙ used_flipped m n i h.0 l ∙ rw (ne_eqb i n ne) (sym (held m w i l));
      }

  makes : Makes now m n c
  makes =
      record {
        seven = λ out. rw (t.outside (go out (is_node n) refl)) (refl, refl);
        nine = λ h e. t.already h (sym (held m w n h.0) ∙ e);
        done = λ h ne. let e = not_so h ne (either (used m n) now) in rw (t.turns h e) (becomes h e, refl);
      }
    where
      go : (IsNode n → ⊥) → (b : Bool) → is_node n ≡ b → is_node n ≡ false
      go out true e = absurd (out (is_node_lem n e))
      go out false e = e

      not_so : IsNode n → (holds m n ≡ now → ⊥) → (used m n ≡ now) ⊎ (used m n ≡ not now) → used m n ≡ not now
      not_so h ne (inl e) = absurd (ne (held m w n h.0 ∙ e))
      not_so h ne (inr e) = e

bits : (m : Map) → Words m → Bits product m
bits m w =
    record {
      adds = λ n. makes true m w n (add_of m n) (add_turns m n);
      removes = λ n. makes false m w n (remove_of m n) (remove_turns m n);
      lowest = rw (lowest_ext (used m) (holds m) same) (lowest_is (holds m));
      counts = count_ext (used m) (holds m) same;
      set_bits = count_words m w.low_fits;
    }
  where
    same : (n : ℕ) → IsNode n → used m n ≡ holds m n
    same n h = sym (held m w n h.0)

-- ---- after any calls
used_empty : (n : ℕ) → used empty_of n ≡ false
unfolding used whole bit
used_empty n = rw (zero-div (2 ^ (n - 1)))

agrees : (cs : Calls) (n : ℕ) → IsNode n → used (after product cs) n ≡ among (rows_after cs) n
unfolding after rows_after
agrees start n h = used_empty n
agrees (cs ▸ c) n h =
    let m = after product cs in
    decides (is_add c) m (named c) (step product m c) (step_turns m c) n h ∙ rw (agrees cs n h) (sym (row_step (rows_after cs) c n h))

module _ (m : Map) (rows : List ℕ) (same : (n : ℕ) → IsNode n → used m n ≡ among rows n) where
  -- the call has this refusal, 0 for none, and leaves the map if it has one
  abbrev Says : ℕ → Change → Type 0
  Says e c = (number_of c.answer ≡ e) × ((e ≡ 0 → ⊥) → c.map ≡ m)

  says : (c : Call) → Says (refusal rows c) (step product m c)
  unfolding refusal
  says (adds n) = go (add_turns m n) (is_node n) refl (among rows n) refl
    where
      go : Turns true m n (add_of m n) → (b : Bool) → is_node n ≡ b → (v : Bool) → among rows n ≡ v
          → Says (cond b (cond v 9 0) 7) (add_of m n)
      go t true e true f = let a = t.already (is_node_lem n e) (same n (is_node_lem n e) ∙ f) in (a.1, λ ne. a.0)
      go t true e false f = rw (t.turns (is_node_lem n e) (same n (is_node_lem n e) ∙ f)) (refl, λ ne. absurd (ne refl))
      go t false e v f = rw (t.outside e) (refl, λ ne. refl)
  says (removes n) = go (remove_turns m n) (is_node n) refl (among rows n) refl
    where
      go : Turns false m n (remove_of m n) → (b : Bool) → is_node n ≡ b → (v : Bool) → among rows n ≡ v
          → Says (cond b (cond v 0 9) 7) (remove_of m n)
      go t true e true f = rw (t.turns (is_node_lem n e) (same n (is_node_lem n e) ∙ f)) (refl, λ ne. absurd (ne refl))
      go t true e false f = let a = t.already (is_node_lem n e) (same n (is_node_lem n e) ∙ f) in (a.1, λ ne. a.0)
      go t false e v f = rw (t.outside e) (refl, λ ne. refl)

lowest_rows : (cs : Calls) → lowest_of (used (after product cs)) ≡ lowest_of (among (rows_after cs))
lowest_rows cs = lowest_ext (used (after product cs)) (among (rows_after cs)) (agrees cs)

-- the numbers of a list, added one after another: of those that come twice, and those that are not 1..127, the list says the same
pub lowest_added : (ns : List ℕ) → lowest_of (used (after product (adding start ns))) ≡ lowest_of (among ns)
lowest_added ns = lowest_rows (adding start ns) ∙ lowest_ext (among (rows_after (adding start ns))) (among ns) (after_list ns)

reads : (cs : Calls) → Reads product cs
reads cs =
    record {
      lowest = lowest;
      full = none_free (among (rows_after cs)) (lowest_of (used (after product cs))) lowest;
      heads = count_ext (used (after product cs)) (among (rows_after cs)) (agrees cs) ∙ count_rows cs;
      answers = λ c. (says (after product cs) (rows_after cs) (agrees cs) c).0;
      unchanged = λ c. (says (after product cs) (rows_after cs) (agrees cs) c).1;
    }
  where
    lowest : IsLowest (among (rows_after cs)) (lowest_of (used (after product cs)))
    lowest = rw (lowest_rows cs) (lowest_is (among (rows_after cs)))

alone : (n : ℕ) → IsNode n → let m = (add_of empty_of n).map in m.high * 2 ^ 64 + m.low ≡ 2 ^ (n - 1)
unfolding flipped whole of_whole
alone n h = rw ((add_turns empty_of n).turns h (used_empty n)) (split (bit_xor 0 (2 ^ (n - 1))) 64 ∙ xor_zero_l (2 ^ (n - 1)))

pub demanded : Demanded product
demanded = record { begins = refl; alone = alone; any_words = bits; any_calls = reads }
