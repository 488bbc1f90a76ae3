-- What a `Send`, a `Load` and a `Rack` promise of their lines: the last word is the hex digits, and `byte_at` reads from it the bytes that it stands
-- for; of the latter two it may be left out.
-- Assumes nothing.
use Rattle.std.specs.Prelude.{Some}
use Prim.Native.Nat.{ℕ, zero, suc, ◌+◌, ◌-◌, ◌*◌, ◌<◌, ◌≤◌, suc-le-suc}
use native.Mathlib.Omega.{arith}
use native.Mathlib.Nat.{not-suc-le-zero, le_of_suc-le-suc}
use mathlib.Core.Path.{◌≡◌, refl, sym, ap, ◌∙◌}
use mathlib.Core.Logic.{◌⊎◌, inl, inr, ⊎_elim}
use mathlib.Core.Bool.{Bool, true, false, ◌&&◌, cond, and-eq-true_iff}
use mathlib.Core.List.{List, [], ◌∷◌, ◌++◌}
use lib.Dec.{eqb}
use lib.ListN.{length, get_or, take, drop, length-drop, length-take}
use lib.Seq.{get_or-take, get_or-drop}
use Rattle.script.specs.declared.Command.TheVariants as command
use Rattle.script.specs.declared.Name.{Name}
use Rattle.script.specs.declared.Name.TheVariants as name
use Rattle.text.specs.Lines.{bare_of}
use Rattle.script.specs.Words.{Word, front, words_of}
use Rattle.script.specs.Places.{words_at, after_of}
use Rattle.text.specs.Numbers.{hex_of, is_hex, in_pairs, bytes_of, pair_of, count_of}
use Rattle.script.specs.Meaning.{meaning_of, byte_at_of, read}
use Rattle.script.proofs.Split.{fronts, front_short, peel, all_words}
use Rattle.script.proofs.Told.{Says, Carrying, Without, sending, loading, racking, not_too_long}

-- what a line whose last word is `w` promises of its bytes, whose digits start at the place `from`
pub record Ends (line : List ℕ) (w : Word) (from count : ℕ) : Type 0 where
  -- at least one byte, and two hex digits in the line for each
  pub some : 0 < count
  pub high : (i : ℕ) → i < count → is_hex (get_or line (from + 2 * i) 0) ≡ true
  pub low : (i : ℕ) → i < count → is_hex (get_or line (from + 2 * i + 1) 0) ≡ true
  -- `byte_at` gives their value, and one after the other the bytes of the word
  pub value : (i : ℕ) → i < count → {a b : ℕ} → hex_of (get_or line (from + 2 * i) 0) ≡ Some a → hex_of (get_or line (from + 2 * i + 1) 0) ≡ Some b
      → byte_at_of line from i ≡ 16 * a + b
  pub bytes : read (byte_at_of line from) count ≡ bytes_of w.chars
  -- the last of them stands in the line as well
  pub within : from + 2 * count ≤ length (bare_of line)

-- the line's words are the name, the numbers, and hex digits that start at the place `from`
pub record Carried (n : Name) (line said : List ℕ) (from count : ℕ) : Type 0 where
  pub are : Carrying n (words_of (bare_of line)) said from count
  pub ends : Ends line are.digits from count

-- the characters of two hex digits for each byte
paired : (cs : List ℕ) → (count_of cs ≡ 0 → ⊥) → (in_pairs cs ≡ true) × (count_of cs ≡ length (bytes_of cs))
unfolding count_of
paired cs h = go (in_pairs cs) refl h
  where
    go : (b : Bool) → in_pairs cs ≡ b → (cond b (length (bytes_of cs)) 0 ≡ 0 → ⊥)
        → (in_pairs cs ≡ true) × (cond (in_pairs cs) (length (bytes_of cs)) 0 ≡ length (bytes_of cs))
    go true e k = (e, rw e)
    go false e k = absurd (k refl)

-- where byte `i` of such characters stands, and its value
record Byte (cs : List ℕ) (i : ℕ) : Type 0 where
  inside : 2 * i + 1 < length cs
  high : is_hex (get_or cs (2 * i) 0) ≡ true
  low : is_hex (get_or cs (2 * i + 1) 0) ≡ true
  value : get_or (bytes_of cs) i 0 ≡ pair_of (get_or cs (2 * i) 0) (get_or cs (2 * i + 1) 0)

byte : (cs : List ℕ) → in_pairs cs ≡ true → (i : ℕ) → i < length (bytes_of cs) → Byte cs i
byte [] p i h = absurd (not-suc-le-zero h)
byte (a ∷ []) p i h = absurd (not-suc-le-zero h)
byte (a ∷ b ∷ cs) p zero h =
    let q = (and-eq-true_iff (is_hex a && is_hex b) (in_pairs cs)).0 p in
    let r = (and-eq-true_iff (is_hex a) (is_hex b)).0 q.0 in
    record { inside = omega arith; high = r.0; low = r.1; value = refl }
byte (a ∷ b ∷ cs) p (suc i) h =
    let k = byte cs ((and-eq-true_iff (is_hex a && is_hex b) (in_pairs cs)).0 p).1 i (le_of_suc-le-suc h) in
    let e : 2 * suc i ≡ suc (suc (2 * i)) = omega arith in
    let f : 2 * suc i + 1 ≡ suc (suc (2 * i + 1)) = omega arith in
    let n = k.inside in
    record { inside = omega arith; high = rw e k.high; low = rw f k.low; value = rw (f, e) k.value }

-- the carriage return is past all characters of the line
bare_same : (line : List ℕ) (j : ℕ) → j < length (bare_of line) → get_or (bare_of line) j 0 ≡ get_or line j 0
unfolding bare_of
bare_same line j h = go (eqb (get_or line (length line - 1) 0) 13) h
  where
    go : (b : Bool) → j < length (cond b (take (length line - 1) line) line)
        → get_or (cond b (take (length line - 1) line) line) j 0 ≡ get_or line j 0
    go true k = get_or-take (length line - 1) line j 0 (omega (arith, simp length-take at k))
    go false k = refl

-- of words that are known, the last stands where it starts
last_word : (l : List ℕ) (from : ℕ) (ws : List Word) (w : Word) → words_at l from ≡ ws ++ (w ∷ []) → w.chars ≡ front (drop w.start l)
last_word l from [] w e =
    let r = (peel l from e).0 in
    ap (λ (v : Word). v.chars) r ∙ ap (λ (n : ℕ). front (drop n l)) (sym (ap (λ (v : Word). v.start) r))
last_word l from (a ∷ ws) w e = last_word l (after_of l from) ws w (sym (peel l from e).1)

-- a word's characters stand in the line, from its start on
stands : (line : List ℕ) (w : Word) {from : ℕ} → w.start ≡ from → w.chars ≡ front (drop w.start (bare_of line))
    → (j : ℕ) → j < length w.chars → get_or w.chars j 0 ≡ get_or line (from + j) 0
stands line w at e j h =
    let d = drop w.start (bare_of line) in
    let k : j < length (front d) = rw (← e) h in
    let n = length-drop w.start (bare_of line) in
    let s = front_short d in
    ap (λ (l : List ℕ). get_or l j 0) (e ∙ sym (fronts d))
    ∙ get_or-take (length (front d)) d j 0 k
    ∙ get_or-drop w.start (bare_of line) j 0
    ∙ bare_same line (w.start + j) (omega arith)
    ∙ ap (λ (m : ℕ). get_or line (m + j) 0) at

-- the bytes that are read one by one
reads : (f : ℕ → ℕ) (bs : List ℕ) → ((i : ℕ) → i < length bs → f i ≡ get_or bs i 0) → read f (length bs) ≡ bs
reads f [] h = refl
reads f (b ∷ bs) h = rw (h 0 (omega arith), reads (λ (i : ℕ). f (suc i)) bs (λ i k. h (suc i) (suc-le-suc k)))

-- byte `i` of characters that stand in the line from the place `from` on
module _ (line : List ℕ) (from : ℕ) (cs : List ℕ) (at : (j : ℕ) → j < length cs → get_or cs j 0 ≡ get_or line (from + j) 0)
    (p : in_pairs cs ≡ true) (i : ℕ) (h : i < length (bytes_of cs)) where
  here : Byte cs i
  here = byte cs p i h

  at_high : get_or cs (2 * i) 0 ≡ get_or line (from + 2 * i) 0
  at_high = let k = here.inside in at (2 * i) (omega arith)

  at_low : get_or cs (2 * i + 1) 0 ≡ get_or line (from + 2 * i + 1) 0
  at_low = at (2 * i + 1) here.inside ∙ ap (λ (j : ℕ). get_or line j 0) (omega arith)

  high_digit : is_hex (get_or line (from + 2 * i) 0) ≡ true
  high_digit = sym (ap is_hex at_high) ∙ here.high

  low_digit : is_hex (get_or line (from + 2 * i + 1) 0) ≡ true
  low_digit = sym (ap is_hex at_low) ∙ here.low

  byte_value : {a b : ℕ} → hex_of (get_or line (from + 2 * i) 0) ≡ Some a → hex_of (get_or line (from + 2 * i + 1) 0) ≡ Some b
      → byte_at_of line from i ≡ 16 * a + b
  unfolding byte_at_of pair_of
  byte_value high low = rw (high, low)

  byte_read : byte_at_of line from i ≡ get_or (bytes_of cs) i 0
  unfolding byte_at_of
  byte_read = sym (rw (at_high, at_low) at here.value)

-- a line whose last word is bytes
pub ending : (line : List ℕ) (before : List Word) (w : Word) {from count : ℕ} → words_of (bare_of line) ≡ before ++ (w ∷ []) → w.start ≡ from
    → count_of w.chars ≡ count → (count ≡ 0 → ⊥) → Ends line w from count
ending line before w {from} {count} words starts counts z =
    let cs = w.chars in
    let place = last_word (bare_of line) 0 before w (sym (all_words (bare_of line)) ∙ words) in
    let at : (j : ℕ) → j < length cs → get_or cs j 0 ≡ get_or line (from + j) 0 = stands line w starts place in
    let p = paired cs (λ k. z (sym counts ∙ k)) in
    let n : count ≡ length (bytes_of cs) = sym counts ∙ p.1 in
    let below : (i : ℕ) → i < count → i < length (bytes_of cs) = λ i h. omega arith in
    let some : 0 < count = omega (arith, z) in
    let inside = (byte cs p.0 (count - 1) (omega arith)).inside in
    let fits = rw (← place) at (front_short (drop w.start (bare_of line))) in
    let left = length-drop w.start (bare_of line) in
    record {
      some = some;
      high = λ i h. high_digit line from cs at p.0 i (below i h);
      low = λ i h. low_digit line from cs at p.0 i (below i h);
      value = λ i h. byte_value line from cs at p.0 i (below i h);
      bytes = ap (read (byte_at_of line from)) n ∙ reads (byte_at_of line from) (bytes_of cs) (byte_read line from cs at p.0);
      within = omega arith;
    }

-- a line of a name and numbers, whose last word is bytes
carried : {n : Name} (line : List ℕ) {said : List ℕ} {from count : ℕ} → Carrying n (words_of (bare_of line)) said from count
    → Carried n line said from count
carried line s =
    record { are = s; ends = ending line (s.first ∷ s.numbers) s.digits s.words s.starts s.counts s.some }

-- a line that carries bytes in this way, or has none
abbrev pub Perhaps : Name → List ℕ → List ℕ → ℕ → ℕ → Type 0
Perhaps n line said from count = Carried n line said from count ⊎ Without n (words_of (bare_of line)) said count

-- a line that means a `Send`, a `Load` and a `Rack`
pub sent : (line : List ℕ) {time from count : ℕ} → meaning_of line ≡ command.Send time from count
    → Carried name.Send line (time ∷ []) from count
sent line e = carried line (sending line e)

pub loaded : (line : List ℕ) {at from count : ℕ} → meaning_of line ≡ command.Load at from count → Perhaps name.Load line (at ∷ []) from count
loaded line e = ⊎_elim (λ s. inl (carried line s)) (λ s. inr s) (loading line e)

pub racked : (line : List ℕ) {time place from count : ℕ} → meaning_of line ≡ command.Rack time place from count
    → Perhaps name.Rack line (time ∷ place ∷ []) from count
racked line e = ⊎_elim (λ s. inl (carried line s)) (λ s. inr s) (racking line e)

-- the characters of word `i`, the first being word 0; none where there are fewer words
abbrev pub chars_at : ℕ → List Word → List ℕ
chars_at i [] = []
chars_at zero (w ∷ ws) = w.chars
chars_at (suc i) (w ∷ ws) = chars_at i ws

-- the word past those that say numbers, and that there is none
past : (ws : List Word) (ks : List ℕ) (d : Word) → Says ws ks → chars_at (length ks) (ws ++ (d ∷ [])) ≡ d.chars
past [] [] d s = refl
past [] (k ∷ ks) d s = absurd s
past (w ∷ ws) [] d s = absurd s
past (w ∷ ws) (k ∷ ks) d s = past ws ks d s.1

past_all : (ws : List Word) (ks : List ℕ) → Says ws ks → chars_at (length ks) ws ≡ []
past_all [] ks s = refl
past_all (w ∷ ws) [] s = absurd s
past_all (w ∷ ws) (k ∷ ks) s = past_all ws ks s.1

-- what is read, one byte after the other, are the bytes of the word past the numbers; without that word it is none
bytes_are : {n : Name} (line : List ℕ) {said : List ℕ} {from count : ℕ} → Perhaps n line said from count
    → read (byte_at_of line from) count ≡ bytes_of (chars_at (suc (length said)) (words_of (bare_of line)))
bytes_are line {said} p =
    ⊎_elim
    (λ s. rw (s.are.words, past s.are.numbers said s.are.digits s.are.numbered) s.ends.bytes)
    (λ s. rw (s.words, past_all s.numbers said s.numbered, s.none))
    p

pub load_bytes : (line : List ℕ) {at from count : ℕ} → meaning_of line ≡ command.Load at from count
    → read (byte_at_of line from) count ≡ bytes_of (chars_at 2 (words_of (bare_of line)))
load_bytes line e = bytes_are line (loaded line e)

pub rack_bytes : (line : List ℕ) {time place from count : ℕ} → meaning_of line ≡ command.Rack time place from count
    → read (byte_at_of line from) count ≡ bytes_of (chars_at 3 (words_of (bare_of line)))
rack_bytes line e = bytes_are line (racked line e)

-- a line has at most 4,096 characters, so that the bytes of a `Send`, of a `Load` and of a `Rack` are at most 2,048
most_bytes : {n : Name} (line : List ℕ) {said : List ℕ} {from count : ℕ} → (meaning_of line ≡ command.Malformed → ⊥)
    → Perhaps n line said from count → count ≤ 2048
most_bytes line m p =
    let short = not_too_long line m in
    ⊎_elim (λ s. let w = s.ends.within in omega arith) (λ s. let n = s.none in omega arith) p

pub send_within : (line : List ℕ) {time from count : ℕ} → meaning_of line ≡ command.Send time from count → count ≤ 2048
send_within line e = most_bytes line (λ m. let z : ◌≡◌ {A = ℕ} 0 1 = cc in omega arith) (inl (sent line e))

pub load_within : (line : List ℕ) {at from count : ℕ} → meaning_of line ≡ command.Load at from count → count ≤ 2048
load_within line e = most_bytes line (λ m. let z : ◌≡◌ {A = ℕ} 0 1 = cc in omega arith) (loaded line e)

pub rack_within : (line : List ℕ) {time place from count : ℕ} → meaning_of line ≡ command.Rack time place from count → count ≤ 2048
rack_within line e = most_bytes line (λ m. let z : ◌≡◌ {A = ℕ} 0 1 = cc in omega arith) (racked line e)
