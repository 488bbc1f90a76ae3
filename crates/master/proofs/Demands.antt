-- The master does what is asked of it: its tests hold just where a reply belongs to the question, and of what belongs FDh is an error or a value.
-- Assumes nothing.
use Prim.Native.Nat.{ℕ}
use mathlib.Core.Path.{◌≡◌, refl, sym, ◌∙◌}
use mathlib.Core.Bool.{Bool, true, false, cond, not, ◌&&◌, ◌||◌, and-eq-true_iff}
use mathlib.Core.Logic.{◌≢◌, ◌⊎◌, inl, inr}
use mathlib.Core.List.{List}
use borrow.Author.Tests.{eqb-true, eqb-false, eq-eqb, ne_eqb, leb-true, le-leb}
use lib.Dec.{eqb, leb}
use lib.ListN.{length, get_or}
use Rattle.wire.specs.declared.telegram.Telegram.{Telegram}
use Rattle.wire.specs.Check.{hit_of}
use Rattle.wire.specs.Telegram.{fields_of, bytes_of, Fits}
use Rattle.wire.proofs.Laws.{word_bytes, half_bytes, built_sound, built_ten}
use Rattle.master.specs.declared.Reading.{Reading}
use Rattle.master.specs.declared.Reading.TheVariants.{Value, Error, Foreign}
use Rattle.master.specs.Master.{may_build, built_of, belongs_of, error_of, code_in, meaning_of, reading_of}
use Rattle.master.specs.Demand.{product, May, Spelled, Builds, Refuses, Belongs, ReadsErrors, Demanded}

-- ---- building
may : (q : Telegram) → may_build q ≡ true → May q
may q e =
    let b = (and-eq-true_iff (leb q.command 2) (leb q.node 127)).0 e in
    record { command = leb-true q.command 2 b.0; node = leb-true q.node 127 b.1 }

spelled : (q : Telegram) → Fits q → Spelled q (bytes_of q)
unfolding bytes_of
spelled q f =
    record { command = refl; node = refl; parameter = refl; word = half_bytes q.word f.word; value = word_bytes q.value f.value }

builds : (q : Telegram) → May q → Builds q (built_of q)
unfolding built_of
builds q m =
    rw (le-leb q.command 2 m.command, le-leb q.node 127 m.node)
    (record { done = refl; bytes = refl; long = built_ten q; passes = built_sound q; spelled = spelled q })

refuses : (q : Telegram) → (May q → ⊥) → Refuses (built_of q)
unfolding built_of
refuses q n = go (may_build q) refl
  where
    go : (b : Bool) → may_build q ≡ b → Refuses (built_of q)
    go true e = absurd (n (may q e))
    go false e = rw e (record { number = refl; nothing = refl })

-- ---- what belongs
abbrev pub belongs_all : Telegram → List ℕ → Bool
belongs_all q x = eqb (length x) 10 && (eqb (hit_of x) 0 && belongs_of q (fields_of x))

or_either : (a b : Bool) → a || b ≡ true → (a ≡ true) ⊎ (b ≡ true)
or_either true b e = inl refl
or_either false b e = inr e

pub negated : (a : Bool) → not a ≡ true → a ≡ false
negated true e = sym e
negated false e = refl

pub belongs : (q : Telegram) (x : List ℕ) → belongs_all q x ≡ true → Belongs q x
unfolding fields_of
belongs q x e =
    let l = (and-eq-true_iff (eqb (length x) 10) _).0 e in
    let s = (and-eq-true_iff (eqb (hit_of x) 0) _).0 l.1 in
    let a = (and-eq-true_iff (not (eqb q.command 2)) _).0 s.1 in
    let c = (and-eq-true_iff (eqb (get_or x 0 0) q.command) _).0 a.1 in
    let n = (and-eq-true_iff (eqb (get_or x 1 0) q.node) _).0 c.1 in
    record {
      asked = eqb-false q.command 2 (negated (eqb q.command 2) a.0);
      long = eqb-true (length x) 10 l.0;
      passes = eqb-true (hit_of x) 0 s.0;
      command = eqb-true (get_or x 0 0) q.command c.0;
      node = eqb-true (get_or x 1 0) q.node n.0;
      parameter = go (or_either (eqb (get_or x 2 0) q.parameter) (eqb (get_or x 2 0) 0xFD) n.1);
    }
  where
    go : (eqb (get_or x 2 0) q.parameter ≡ true) ⊎ (eqb (get_or x 2 0) 0xFD ≡ true) → (get_or x 2 0 ≡ q.parameter) ⊎ (get_or x 2 0 ≡ 0xFD)
    go (inl e) = inl (eqb-true (get_or x 2 0) q.parameter e)
    go (inr e) = inr (eqb-true (get_or x 2 0) 0xFD e)

pub all_hold : (q : Telegram) (x : List ℕ) → Belongs q x → belongs_all q x ≡ true
unfolding fields_of
all_hold q x b =
    rw (
      eq-eqb (length x) 10 b.long,
      eq-eqb (hit_of x) 0 b.passes,
      ne_eqb q.command 2 b.asked,
      eq-eqb (get_or x 0 0) q.command b.command,
      eq-eqb (get_or x 1 0) q.node b.node,
    )
    (go b.parameter)
  where
    go : (get_or x 2 0 ≡ q.parameter) ⊎ (get_or x 2 0 ≡ 0xFD) → eqb (get_or x 2 0) q.parameter || eqb (get_or x 2 0) 0xFD ≡ true
    go (inl e) = rw (eq-eqb (get_or x 2 0) q.parameter e)
    go (inr e) = rw (eq-eqb (get_or x 2 0) 0xFD e) (or-true (eqb (get_or x 2 0) q.parameter))
      where
        or-true : (a : Bool) → a || true ≡ true
        or-true true = refl
        or-true false = refl

-- a reading by the tests
abbrev meant : Telegram → List ℕ → Reading
meant q x = cond (error_of q (fields_of x)) (Error (code_in x)) (Value (fields_of x).value)

reading_is : (q : Telegram) (x : List ℕ) → reading_of q x ≡ cond (belongs_all q x) (meant q x) Foreign
unfolding reading_of meaning_of
reading_is q x = go (eqb (length x) 10)
  where
    go : (b : Bool)
        → cond b (cond (eqb (hit_of x) 0 && belongs_of q (fields_of x)) (meant q x) Foreign) Foreign
        ≡ cond (b && (eqb (hit_of x) 0 && belongs_of q (fields_of x))) (meant q x) Foreign
    go true = refl
    go false = refl

foreign : (q : Telegram) (x : List ℕ) → (Belongs q x → ⊥) → reading_of q x ≡ Foreign
foreign q x n = reading_is q x ∙ go (belongs_all q x) refl
  where
    go : (b : Bool) → belongs_all q x ≡ b → cond b (meant q x) Foreign ≡ Foreign
    go true e = absurd (n (belongs q x e))
    go false e = refl

-- ---- what belongs is an error or a value
module _ (q : Telegram) (x : List ℕ) (b : Belongs q x) where
  belonging : reading_of q x ≡ meant q x
  belonging = reading_is q x ∙ rw (all_hold q x b)

  value : (get_or x 2 0 ≢ 0xFD) ⊎ ReadsErrors q → reading_of q x ≡ Value (fields_of x).value
  unfolding fields_of
  value (inl n) = belonging ∙ rw (ne_eqb (get_or x 2 0) 0xFD n)
  value (inr r) = belonging ∙ rw (eq-eqb q.command 0 r.0, eq-eqb q.parameter 0xFD r.1) (go (eqb (get_or x 2 0) 0xFD))
    where
      go : (d : Bool) → cond (d && false) (Error (code_in x)) (Value (fields_of x).value) ≡ Value (fields_of x).value
      go true = refl
      go false = refl

  error : get_or x 2 0 ≡ 0xFD → (ReadsErrors q → ⊥) → reading_of q x ≡ Error (code_in x)
  unfolding fields_of
  error fd n = belonging ∙ rw (eq-eqb (get_or x 2 0) 0xFD fd) (go (eqb q.command 0) refl (eqb q.parameter 0xFD) refl)
    where
      go : (c : Bool) → eqb q.command 0 ≡ c → (p : Bool) → eqb q.parameter 0xFD ≡ p
          → cond (not c || not p) (Error (code_in x)) (Value (fields_of x).value) ≡ Error (code_in x)
      go true c true p = absurd (n (eqb-true q.command 0 c, eqb-true q.parameter 0xFD p))
      go true c false p = refl
      go false c p e = refl

pub demanded : Demanded product
unfolding fields_of
demanded = record { builds = builds; refuses = refuses; foreign = foreign; value = value; error = error }
