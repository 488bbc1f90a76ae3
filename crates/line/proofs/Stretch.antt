-- Laws of a stretch of bytes: a turn of the loop over them, one byte is a byte call, and a stretch is its byte calls one after another.
-- Assumes nothing.
use Rattle.std.specs.Prelude.{Ok, Err, Result}
use Prim.Native.Nat.{ℕ, suc, ◌+◌, ◌<◌, ◌≤◌, suc-le-suc}
use mathlib.Core.Path.{◌≡◌, refl, sym, ap, ◌∙◌}
use mathlib.Core.Bool.{Bool, true, false, cond}
use mathlib.Core.List.{List, [], ◌∷◌}
use native.Mathlib.Omega.{arith}
use native.Mathlib.Numerals.{add-one}
use borrow.Author.Tests.{le-ltb, ltb-false, eq-eqb, ne_eqb, eqb-true, eqb-false}
use lib.Dec.{eqb, ltb}
use lib.ListN.{length, get_or, take, drop}
use lib.Seq.{drop-cons}
use Rattle.head.specs.declared.refusal.Refusal.{Refusal}
use Rattle.head.specs.declared.refusal.Refusal.TheVariants.{Space, Malformed}
use Rattle.line.specs.declared.round.Replies.{Replies}
use Rattle.line.specs.declared.calls.Line.{Line}
use Rattle.line.specs.declared.calls.Fed.{Fed}
use Rattle.line.specs.declared.calls.Stretch.{Stretch}
use Rattle.line.specs.Round.{stepped_by, no_reply, tally, laid_for}
use Rattle.line.specs.Calls.{unfed, fits_of, replies_at, heard_by, laid_by_of, byte_of, byte_space_of}
use Rattle.line.specs.Stretch.{unheard_at, stopped_at, heard_until, laid_until, until_of, until_space_of}
use Rattle.line.proofs.Laws.{each_length, laid_tally}
use Rattle.line.proofs.Theorems.{byte_counts, byte_lays, byte_keeps}

-- ---- the loop over the bytes: the answer from the start is the one from here, which is that of the bytes left where no reply came yet
abbrev pub onward : Replies → Line → List ℕ → ℕ → ℕ → Stretch
onward r k left j at = cond (eqb r.count 0) (heard_until k left j at) (stopped_at k r.count j)

abbrev pub onward_space : Replies → Line → List ℕ → ℕ → List ℕ → List ℕ
onward_space r k left at s = cond (eqb r.count 0) (laid_until k left at s) (laid_for r s)

pub record Going (at : ℕ) (l : Line) (bs : List ℕ) (from : ℕ) (k : Line) (left : List ℕ) (j : ℕ) (r : Replies) : Type 0 where
  pub said : heard_until l bs from at ≡ onward r k left j at
  pub laid : (s : List ℕ) → laid_until l bs at s ≡ onward_space r k left at s
  pub none : r.count ≡ 0 → r ≡ no_reply
  pub count : k.count ≡ l.count
  pub places : length k.heads ≡ length l.heads

-- before the first byte
pub going_start : (at : ℕ) (l : Line) (bs : List ℕ) (from : ℕ) {r : Replies} → r ≡ no_reply → Going at l bs from l bs from r
going_start at l bs from e =
    record { said = rw e; laid = λ s. rw e; none = λ z. e; count = refl; places = refl }

tally_none : (rs : List (List ℕ)) → length rs ≡ 0 → tally rs ≡ no_reply
tally_none [] z = refl
tally_none (r ∷ rs) z = absurd (omega arith)

-- a byte more, which every head of the line has heard
going_on : (b at : ℕ) {l : Line} {bs : List ℕ} {from : ℕ} {k : Line} {left : List ℕ} {j : ℕ} {r : Replies} → Going at l bs from k (b ∷ left) j r → r.count ≡ 0
    → {n : Line} {q : Replies} → n ≡ heard_by k b at → q ≡ tally (replies_at k b at) → Going at l bs from n left (j + 1) q
unfolding heard_until laid_until
going_on b at {k = k} g z heard replies = record {
  said = g.said ∙ rw (eq-eqb _ _ z, replies, heard);
  laid = λ s. g.laid s ∙ rw (eq-eqb _ _ z, replies, heard, laid_tally (replies_at k b at) s);
  none = λ y. replies ∙ tally_none (replies_at k b at) (sym (ap (λ (x : Replies). x.count) replies) ∙ y);
  count = ap (λ (x : Line). x.count) heard ∙ g.count;
  places = ap (λ (x : Line). length x.heads) heard ∙ each_length (stepped_by b at) k.count k.heads ∙ g.places;
}

-- the byte at a place of all bytes
pub going_next : {at : ℕ} {l : Line} {bs : List ℕ} {from : ℕ} {k : Line} (bytes : List ℕ) {j : ℕ} {r : Replies} → Going at l bs from k (drop j bytes) j r
    → j < length bytes → r.count ≡ 0
    → {n : Line} {q : Replies} → n ≡ heard_by k (get_or bytes j 0) at → q ≡ tally (replies_at k (get_or bytes j 0) at)
    → Going at l bs from n (drop (j + 1) bytes) (j + 1) q
going_next {at} bytes {j} g p z heard replies = going_on (get_or bytes j 0) at (rw (drop-cons bytes j 0 p, ← add-one j) at g) z heard replies

-- after the last: no byte is left, or a reply came
module _ {at : ℕ} {l : Line} {bs : List ℕ} {from : ℕ} {k : Line} {left : List ℕ} {j : ℕ} {r : Replies} (g : Going at l bs from k left j r) where
  abbrev Ended : Type 0
  Ended = (heard_until l bs from at ≡ stopped_at k r.count j) × ((s : List ℕ) → laid_until l bs at s ≡ laid_for r s)

  pub going_stopped : (r.count ≡ 0 → ⊥) → Ended
  going_stopped n = (g.said ∙ rw (ne_eqb _ _ n), λ s. g.laid s ∙ rw (ne_eqb _ _ n))

  pub going_through : left ≡ [] → Ended
  unfolding heard_until laid_until
  going_through e = go (eqb r.count 0) refl
    where
      go : (x : Bool) → eqb r.count 0 ≡ x → Ended
      go true y = let z = eqb-true _ _ y in (g.said ∙ rw (e, g.none z), λ s. g.laid s ∙ rw (e, g.none z))
      go false y = going_stopped (eqb-false _ _ y)

-- ---- the way out of a call that is not refused
pub until_heard : (l : Line) (bs : List ℕ) (from at : ℕ) (s : List ℕ) → fits_of l ≡ true → 10 ≤ length s
    → {x : Stretch} {y : List ℕ} → heard_until l bs from at ≡ x → laid_until l bs at s ≡ y
    → (x ≡ until_of l bs from at (length s)) × (y ≡ until_space_of l bs at s)
unfolding until_of until_space_of
until_heard l bs from at s e q x y = (sym x ∙ rw (e, le-ltb _ _ q), sym y ∙ rw (e, le-ltb _ _ q))

-- ---- a stretch of one byte is a byte call
abbrev pub fed_by : Stretch → Fed
fed_by s = record { line = s.line; heard = s.heard }

either_way : {A : Type 0} (f : List (List ℕ) → A) (rs : List (List ℕ)) → cond (eqb (length rs) 0) (f []) (f rs) ≡ f rs
either_way f [] = refl
either_way f (r ∷ rs) = rw (ne_eqb (suc (length rs)) 0 (λ e. omega arith))

module _ (l : Line) (b from at : ℕ) where
  pub until_one : (room : ℕ) → fed_by (until_of l (b ∷ []) from at room) ≡ byte_of l b at room
  unfolding until_of byte_of heard_until
  until_one room = rw (either_way (λ rs. stopped_at (heard_by l b at) (length rs) (from + 1)) (replies_at l b at)) (go (fits_of l) (ltb room 10))
    where
      go : (x y : Bool)
          → let k = stopped_at (heard_by l b at) (length (replies_at l b at)) (from + 1) in
          fed_by (cond x (cond y (unheard_at l from Space) k) (unheard_at l from Malformed)) ≡ cond x (cond y (unfed l Space) (fed_by k)) (unfed l Malformed)
      go true true = refl
      go true false = refl
      go false y = refl

  pub until_one_space : (space : List ℕ) → until_space_of l (b ∷ []) at space ≡ byte_space_of l b at space
  unfolding until_space_of byte_space_of laid_until
  until_one_space space = rw (either_way (λ rs. laid_by_of rs space) (replies_at l b at))

  -- as the call is made
  pub until_byte : (space : List ℕ) {s : Stretch} {laid : List ℕ}
      → (s ≡ until_of l (b ∷ []) from at (length space)) × (laid ≡ until_space_of l (b ∷ []) at space)
      → (fed_by s ≡ byte_of l b at (length space)) × (laid ≡ byte_space_of l b at space)
  until_byte space u = (ap fed_by u.0 ∙ until_one (length space), u.1 ∙ until_one_space space)

laid_none : (rs : List (List ℕ)) → length rs ≡ 0 → (s : List ℕ) → laid_by_of rs s ≡ s
laid_none [] z s = refl
laid_none (r ∷ rs) z s = absurd (omega arith)

replies_same : {m n : ℕ} → ◌≡◌ {A = Result ℕ Refusal} (Ok m) (Ok n) → m ≡ n
replies_same e = cc

-- ---- a stretch by its first byte, where that is not refused: the line takes it, with these replies
module _ (l : Line) (b at : ℕ) (space : List ℕ) where
  record Takes (n : ℕ) : Type 0 where
    fits : fits_of l ≡ true
    lent : 10 ≤ length space
    replies : length (replies_at l b at) ≡ n

  takes : {n : ℕ} → (byte_of l b at (length space)).heard ≡ Ok n → Takes n
  unfolding byte_of
  takes {n} = go (fits_of l) (ltb (length space) 10) refl refl
    where
      go : (x y : Bool) → fits_of l ≡ x → ltb (length space) 10 ≡ y
          → (cond x (cond y (unfed l Space) (record { line = heard_by l b at; heard = Ok (length (replies_at l b at)) })) (unfed l Malformed)).heard
          ≡ Ok n
          → Takes n
      go true true e f h = let z : ◌≡◌ {A = ℕ} 0 1 = cc in absurd (omega arith)
      go true false e f h = record { fits = e; lent = ltb-false _ _ f; replies = replies_same h }
      go false y e f h = let z : ◌≡◌ {A = ℕ} 0 1 = cc in absurd (omega arith)

  module _ (f : fits_of l ≡ true) (r : 10 ≤ length space) where
    byte_line : (byte_of l b at (length space)).line ≡ heard_by l b at
    unfolding byte_of
    byte_line = rw (f, le-ltb _ _ r)

    heard_fits : fits_of (heard_by l b at) ≡ true
    heard_fits = rw byte_line at ((byte_keeps l b at (length space)).fits f)

  module _ (bs : List ℕ) (from : ℕ) where
    pub until_silent : let k = byte_of l b at (length space) in
        k.heard ≡ Ok 0
        → (until_of l (b ∷ bs) from at (length space) ≡ until_of k.line bs (from + 1) at (length space))
        × (until_space_of l (b ∷ bs) at space ≡ until_space_of k.line bs at (byte_space_of l b at space))
    unfolding until_of until_space_of heard_until laid_until
    until_silent h =
        let t = takes h in
        let z = eq-eqb _ _ t.replies in
        let q = le-ltb _ _ t.lent in
        let same : byte_space_of l b at space ≡ space = byte_lays l t.fits b at space t.lent ∙ laid_none (replies_at l b at) t.replies space in (
          rw (byte_line t.fits t.lent, t.fits, heard_fits t.fits t.lent, q, z),
          rw (same, byte_line t.fits t.lent, t.fits, heard_fits t.fits t.lent, q, z),
        )

    pub until_last : {n : ℕ}
        → let k = byte_of l b at (length space) in
        k.heard ≡ Ok (suc n)
        → (until_of l (b ∷ bs) from at (length space) ≡ record { line = k.line; heard = k.heard; next = from + 1 })
        × (until_space_of l (b ∷ bs) at space ≡ byte_space_of l b at space)
    unfolding until_of until_space_of heard_until laid_until
    until_last h =
        let t = takes h in
        let z = ne_eqb (length (replies_at l b at)) 0 (λ e. omega (arith, e, t.replies)) in
        let q = le-ltb _ _ t.lent in (
          rw (byte_line t.fits t.lent, byte_counts l t.fits b at space t.lent, t.fits, q, z),
          rw (byte_lays l t.fits b at space t.lent, t.fits, q, z),
        )

-- ---- a stretch is the byte calls of its bytes, one after another
abbrev pub fed_all : Line → List ℕ → ℕ → ℕ → Line
fed_all l [] at room = l
fed_all l (b ∷ bs) at room = fed_all (byte_of l b at room).line bs at room

-- so many of the bytes were heard, at least one where there is one, and the line is that after a call for each of them
pub record Stretched (l : Line) (bs : List ℕ) (j at room : ℕ) (s : Stretch) : Type 0 where
  pub count : ℕ
  pub within : count ≤ length bs
  pub some : 0 < length bs → 0 < count
  pub next : s.next ≡ j + count
  pub line : s.line ≡ fed_all l (take count bs) at room

module _ (at : ℕ) (space : List ℕ) (r : 10 ≤ length space) where
  stretched : (l : Line) → fits_of l ≡ true → (bs : List ℕ) (j : ℕ) → Stretched l bs j at (length space) (heard_until l bs j at)
  unfolding heard_until
  stretched l f [] j = record { count = 0; within = omega arith; some = λ p. p; next = omega arith; line = refl }
  stretched l f (b ∷ bs) j =
      go (stretched (heard_by l b at) (heard_fits l b at space f r) bs (j + 1)) (eqb (length (replies_at l b at)) 0)
    where
      called : (cs : List ℕ) → fed_all (heard_by l b at) cs at (length space) ≡ fed_all l (b ∷ cs) at (length space)
      called cs = ap (λ (k : Line). fed_all k cs at (length space)) (sym (byte_line l b at space f r))

      go : let k = heard_by l b at in
          Stretched k bs (j + 1) at (length space) (heard_until k bs (j + 1) at) → (x : Bool)
          → Stretched l (b ∷ bs) j at (length space) (cond x (heard_until k bs (j + 1) at) (stopped_at k (length (replies_at l b at)) (j + 1)))
      go g true = record {
        count = suc g.count;
        within = suc-le-suc g.within;
        some = λ p. omega arith;
        next = g.next ∙ omega arith;
        line = g.line ∙ called (take g.count bs);
      }
      go g false = record { count = 1; within = omega arith; some = λ p. omega arith; next = refl; line = called [] }

-- bytes that are heard are answered with a number, and so not refused
pub heard_counts : (at : ℕ) (l : Line) (bs : List ℕ) (j : ℕ) → (n : ℕ) × ((heard_until l bs j at).heard ≡ Ok n)
unfolding heard_until
heard_counts at l [] j = (0, refl)
heard_counts at l (b ∷ bs) j = go (heard_until (heard_by l b at) bs (j + 1) at) (eqb (length (replies_at l b at)) 0) (heard_counts at (heard_by l b at) bs (j + 1))
  where
    go : (s : Stretch) (x : Bool) → (n : ℕ) × (s.heard ≡ Ok n)
        → (n : ℕ) × ((cond x s (stopped_at (heard_by l b at) (length (replies_at l b at)) (j + 1))).heard ≡ Ok n)
    go s true h = h
    go s false h = (length (replies_at l b at), refl)

never : {why : Refusal} (at : ℕ) (l : Line) (bs : List ℕ) (j : ℕ) → (heard_until l bs j at).heard ≡ Err why → ⊥
never {why} at l bs j e = let k = heard_counts at l bs j in let f : Ok k.0 ≡ Err why = sym k.1 ∙ e in let z : ◌≡◌ {A = ℕ} 0 1 = cc in omega arith

-- byte calls that leave the line as it is, however many
stays : (l : Line) (at room : ℕ) → ((b : ℕ) → (byte_of l b at room).line ≡ l) → (cs : List ℕ) → fed_all l cs at room ≡ l
stays l at room h [] = refl
stays l at room h (c ∷ cs) = ap (λ (k : Line). fed_all k cs at room) (h c) ∙ stays l at room h cs

module _ (l : Line) (bs : List ℕ) (j at : ℕ) (space : List ℕ) where
  -- a stretch that is not refused is as above
  pub until_stretched : {n : ℕ} → (until_of l bs j at (length space)).heard ≡ Ok n → Stretched l bs j at (length space) (until_of l bs j at (length space))
  unfolding until_of
  until_stretched {n} = go (fits_of l) (ltb (length space) 10) refl refl
    where
      go : (x y : Bool) → fits_of l ≡ x → ltb (length space) 10 ≡ y
          → (cond x (cond y (unheard_at l j Space) (heard_until l bs j at)) (unheard_at l j Malformed)).heard ≡ Ok n
          → Stretched l bs j at (length space) (cond x (cond y (unheard_at l j Space) (heard_until l bs j at)) (unheard_at l j Malformed))
      go true true e f h = let z : ◌≡◌ {A = ℕ} 0 1 = cc in absurd (omega arith)
      go true false e f h = stretched at space (ltb-false _ _ f) l e bs j
      go false y e f h = let z : ◌≡◌ {A = ℕ} 0 1 = cc in absurd (omega arith)

  -- one that is refused stands for all bytes that there are: each is refused for the same reason, and the line stays
  pub until_refused : {why : Refusal} → (until_of l bs j at (length space)).heard ≡ Err why
      → ((until_of l bs j at (length space)).line ≡ l) × ((cs : List ℕ) → fed_all l cs at (length space) ≡ l)
  unfolding until_of byte_of
  until_refused {why} = go (fits_of l) (ltb (length space) 10) refl refl
    where
      go : (x y : Bool) → fits_of l ≡ x → ltb (length space) 10 ≡ y
          → (cond x (cond y (unheard_at l j Space) (heard_until l bs j at)) (unheard_at l j Malformed)).heard ≡ Err why
          → ((cond x (cond y (unheard_at l j Space) (heard_until l bs j at)) (unheard_at l j Malformed)).line ≡ l)
          × ((cs : List ℕ) → fed_all l cs at (length space) ≡ l)
      go true true e f h = (refl, stays l at (length space) (λ b. rw (e, f)))
      go true false e f h = absurd (never at l bs j h)
      go false y e f h = (refl, stays l at (length space) (λ b. rw e))
