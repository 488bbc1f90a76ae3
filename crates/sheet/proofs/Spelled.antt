-- The bytes that spell rows, one by one: the contents three by three, the bodies four by four. They are a sheet that has those rows, and no other
-- bytes are one: each sheet is spelled by its own rows.
-- Assumes nothing.
use Prim.Native.Nat.{ℕ, zero, suc, ◌+◌, ◌*◌, ◌-◌, ◌/◌, ◌%◌, ◌<◌, ◌≤◌}
use mathlib.Core.Path.{◌≡◌, refl, sym, ap, ◌∙◌}
use mathlib.Core.Bool.{Bool, true, false}
use mathlib.Core.List.{List, [], ◌∷◌}
use native.Mathlib.Nat.{le_of_suc-le-suc, not-suc-le-zero}
use native.Mathlib.Omega.{arith}
use lib.Dec.{ltb}
use lib.ListN.{length, get_or, length-append, get_or-append}
use lib.Seq.{get_or-append-add, ext_get_or}
use borrow.Author.Tests.{ltb-true, ltb-false}
use Rattle.wire.specs.Word.{byte0, byte1, byte2, byte3}
use Rattle.wire.proofs.Laws.{word_bytes, half_bytes, bytes_word, bytes_half}
use Rattle.sheet.specs.Format.{byte_of, count_of, address_of, body_of, word_of, value_of, body_place, size_of}
use Rattle.sheet.specs.Sheet.{Sheet}
use Rattle.sheet.specs.Spelled.{contents_of, bodies_of, front_of, spelled_of, Rising, Bytes, Words, listed, addresses_of, values_of}

-- ---- byte m of row i stands at three times i in the contents, and byte m of body j at four times j in the bodies
pub row_byte : (xs : List ℕ) (p i m : ℕ) → i < length xs → m < 3
    → get_or (contents_of xs p) (3 * i + m) 0 ≡ get_or (contents_of (get_or xs i 0 ∷ []) (p + 4 * i)) m 0
row_byte [] p i m h g = absurd (not-suc-le-zero h)
row_byte (x ∷ xs) p zero zero h g = refl
row_byte (x ∷ xs) p zero (suc zero) h g = let q : p + 4 * 0 ≡ p = omega arith in rw q
row_byte (x ∷ xs) p zero (suc (suc zero)) h g = let q : p + 4 * 0 ≡ p = omega arith in rw q
row_byte (x ∷ xs) p zero (suc (suc (suc m))) h g = absurd (omega arith)
row_byte (x ∷ xs) p (suc i) m h g =
    let n : 3 * suc i + m ≡ suc (suc (suc (3 * i + m))) = omega arith in
    let q : p + 4 + 4 * i ≡ p + 4 * suc i = omega arith in
    rw n (row_byte xs (p + 4) i m (le_of_suc-le-suc h) g ∙ ap (λ z. get_or (contents_of (get_or xs i 0 ∷ []) z) m 0) q)

pub body_byte_lem : (ws : List ℕ) (j m : ℕ) → j < length ws → m < 4 → get_or (bodies_of ws) (4 * j + m) 0 ≡ get_or (bodies_of (get_or ws j 0 ∷ [])) m 0
body_byte_lem [] j m h g = absurd (not-suc-le-zero h)
body_byte_lem (w ∷ ws) zero zero h g = refl
body_byte_lem (w ∷ ws) zero (suc zero) h g = refl
body_byte_lem (w ∷ ws) zero (suc (suc zero)) h g = refl
body_byte_lem (w ∷ ws) zero (suc (suc (suc zero))) h g = refl
body_byte_lem (w ∷ ws) zero (suc (suc (suc (suc m)))) h g = absurd (omega arith)
body_byte_lem (w ∷ ws) (suc j) m h g =
    let n : 4 * suc j + m ≡ suc (suc (suc (suc (4 * j + m)))) = omega arith in
    rw n (body_byte_lem ws j m (le_of_suc-le-suc h) g)

contents_length : (xs : List ℕ) (p : ℕ) → length (contents_of xs p) ≡ 3 * length xs
contents_length [] p = refl
contents_length (x ∷ xs) p = let e = contents_length xs (p + 4) in omega arith

bodies_length : (ws : List ℕ) → length (bodies_of ws) ≡ 4 * length ws
bodies_length [] = refl
bodies_length (w ∷ ws) = let e = bodies_length ws in omega arith

pub front_length : (xs : List ℕ) → length (front_of xs) ≡ body_place (length xs) 0
front_length xs = let e = contents_length xs (body_place (length xs) 0) in omega arith

-- ---- the bytes of a spelled sheet
module _ (xs ws : List ℕ) where
  pub spelled_front : (k : ℕ) → k < body_place (length xs) 0 → byte_of (spelled_of xs ws) k ≡ get_or (front_of xs) k 0
  unfolding spelled_of
  spelled_front k h = get_or-append (front_of xs) (bodies_of ws) 0 k (rw (front_length xs) h)

  pub spelled_body : (j m : ℕ) → j < length ws → m < 4
      → byte_of (spelled_of xs ws) (body_place (length xs) 0 + (4 * j + m)) ≡ get_or (bodies_of (get_or ws j 0 ∷ [])) m 0
  unfolding spelled_of
  spelled_body j m h g = rw (front_length xs) at (get_or-append-add (front_of xs) (bodies_of ws) (4 * j + m) 0) ∙ body_byte_lem ws j m h g

  pub spelled_row : (i m : ℕ) → i < length xs → m < 3
      → byte_of (spelled_of xs ws) (suc (3 * i + m)) ≡ get_or (contents_of (get_or xs i 0 ∷ []) (body_place (length xs) 0 + 4 * i)) m 0
  spelled_row i m h g = spelled_front (suc (3 * i + m)) (omega arith) ∙ row_byte xs (body_place (length xs) 0) i m h g

  module _ (same : length xs ≡ length ws) where
    pub spelled_length : length (spelled_of xs ws) ≡ size_of (length xs)
    unfolding spelled_of
    spelled_length = let e = length-append (front_of xs) (bodies_of ws) in omega (arith, front_length xs, bodies_length ws)

    -- ---- its rows
    pub spelled_count : count_of (spelled_of xs ws) ≡ length xs
    spelled_count = spelled_front 0 (omega arith)

    pub spelled_address : (i : ℕ) → i < length xs → address_of (spelled_of xs ws) i ≡ get_or xs i 0
    spelled_address i h = let k : 1 + 3 * i ≡ suc (3 * i + 0) = omega arith in rw k (spelled_row i 0 h (omega arith))

    pub spelled_place : (i : ℕ) → length xs ≤ 39 → i < length xs → body_of (spelled_of xs ws) i ≡ body_place (length xs) i
    spelled_place i few h =
        let k : 2 + 3 * i ≡ suc (3 * i + 1) = omega arith in
        let l : 3 + 3 * i ≡ suc (3 * i + 2) = omega arith in
        let p : body_place (length xs) 0 + 4 * i ≡ body_place (length xs) i = omega arith in
        rw (k, l, spelled_row i 1 h (omega arith), spelled_row i 2 h (omega arith), p) (half_bytes (body_place (length xs) i) (omega arith))

    pub spelled_value : (i : ℕ) → length xs ≤ 39 → i < length xs → get_or ws i 0 < 4294967296 → value_of (spelled_of xs ws) i ≡ get_or ws i 0
    unfolding value_of
    spelled_value i few h w =
        let p = body_place (length xs) i in
        rw (spelled_place i few h, at 0 p (omega arith) (omega arith), at 1 (p + 1) (omega arith) (omega arith), at 2 (p + 2) (omega arith) (omega arith), at 3 (p + 3) (omega arith) (omega arith))
        (word_bytes (get_or ws i 0) w)
      where
        at : (m k : ℕ) → m < 4 → k ≡ body_place (length xs) 0 + (4 * i + m) → byte_of (spelled_of xs ws) k ≡ get_or (bodies_of (get_or ws i 0 ∷ [])) m 0
        at m k g e = rw e (spelled_body i m (omega arith) g)

    -- rows of rising addresses, 39 at most, are spelled by a sheet
    pub spelled_sheet : length xs ≤ 39 → Rising xs → Sheet (spelled_of xs ws)
    spelled_sheet few rise =
        record {
          few = rw spelled_count few;
          whole = rw spelled_count spelled_length;
          placed = λ i h. let p = rw spelled_count at h in rw spelled_count (spelled_place i few p);
          rising = λ i j l h. let p = rw spelled_count at h in rw (spelled_address i (omega arith), spelled_address j p) (rise i j l p);
        }

-- ---- the numbers that are listed
pub listed_length : (f : ℕ → ℕ) (n : ℕ) → length (listed f n) ≡ n
listed_length f zero = refl
listed_length f (suc n) = ap suc (listed_length (λ i. f (suc i)) n)

pub listed_at : (f : ℕ → ℕ) (n i : ℕ) → i < n → get_or (listed f n) i 0 ≡ f i
listed_at f zero i h = absurd (not-suc-le-zero h)
listed_at f (suc n) zero h = refl
listed_at f (suc n) (suc i) h = listed_at (λ i. f (suc i)) n i (le_of_suc-le-suc h)

-- the rows of a spelled sheet are those that it spells
module _ (xs ws : List ℕ) (same : length xs ≡ length ws) where
  pub spelled_addresses : addresses_of (spelled_of xs ws) ≡ xs
  spelled_addresses =
      rw (spelled_count xs ws same)
      (ext_get_or 0 (listed (address_of (spelled_of xs ws)) (length xs)) xs (listed_length (address_of (spelled_of xs ws)) (length xs))
      (λ i h. let p = rw (listed_length (address_of (spelled_of xs ws)) (length xs)) at h in
      listed_at (address_of (spelled_of xs ws)) (length xs) i p ∙ spelled_address xs ws same i p))

  pub spelled_values : length xs ≤ 39 → Words ws → values_of (spelled_of xs ws) ≡ ws
  spelled_values few words =
      rw (spelled_count xs ws same)
      (ext_get_or 0 (listed (value_of (spelled_of xs ws)) (length xs)) ws (listed_length (value_of (spelled_of xs ws)) (length xs) ∙ same)
      (λ i h. let p = rw (listed_length (value_of (spelled_of xs ws)) (length xs)) at h in
      listed_at (value_of (spelled_of xs ws)) (length xs) i p ∙ spelled_value xs ws same i few p (words i)))

-- ---- what a row says is spelled by the row's own bytes
module _ (s : List ℕ) (bytes : Bytes s) where
  row_bytes : (i m : ℕ) → m < 3 → byte_of s (suc (3 * i + m)) ≡ get_or (contents_of (address_of s i ∷ []) (body_of s i)) m 0
  row_bytes i zero g = let k : suc (3 * i + 0) ≡ 1 + 3 * i = omega arith in rw k
  row_bytes i (suc zero) g =
      let k : suc (3 * i + 1) ≡ 2 + 3 * i = omega arith in
      rw k (sym (bytes_half (byte_of s (2 + 3 * i)) (byte_of s (3 + 3 * i)) (bytes (2 + 3 * i)) (bytes (3 + 3 * i))).0)
  row_bytes i (suc (suc zero)) g =
      let k : suc (3 * i + 2) ≡ 3 + 3 * i = omega arith in
      rw k (sym (bytes_half (byte_of s (2 + 3 * i)) (byte_of s (3 + 3 * i)) (bytes (2 + 3 * i)) (bytes (3 + 3 * i))).1)
  row_bytes i (suc (suc (suc m))) g = absurd (omega arith)

  word_spelled : (p m : ℕ) → m < 4 → byte_of s (p + m) ≡ get_or (bodies_of (word_of s p ∷ [])) m 0
  word_spelled p m g =
      go m g (bytes_word (byte_of s p) (byte_of s (p + 1)) (byte_of s (p + 2)) (byte_of s (p + 3)) (bytes p) (bytes (p + 1)) (bytes (p + 2)) (bytes (p + 3)))
    where
      go : (m : ℕ) → m < 4
          → (byte0 (word_of s p) ≡ byte_of s p) × (byte1 (word_of s p) ≡ byte_of s (p + 1)) × (byte2 (word_of s p) ≡ byte_of s (p + 2)) × (byte3 (word_of s p) ≡ byte_of s (p + 3))
          → byte_of s (p + m) ≡ get_or (bodies_of (word_of s p ∷ [])) m 0
      go zero g four = let k : p + 0 ≡ p = omega arith in rw k (sym four.0)
      go (suc zero) g four = sym four.1
      go (suc (suc zero)) g four = sym four.2
      go (suc (suc (suc zero))) g four = sym four.3
      go (suc (suc (suc (suc m)))) g four = absurd (omega arith)

  value_bytes : (j m : ℕ) → m < 4 → byte_of s (body_of s j + m) ≡ get_or (bodies_of (value_of s j ∷ [])) m 0
  unfolding value_of
  value_bytes j m g = word_spelled (body_of s j) m g

-- ---- a sheet is spelled by its own rows
module _ (s : List ℕ) (is : Sheet s) (bytes : Bytes s) where
  abbrev n : ℕ
  n = count_of s

  abbrev again : List ℕ
  again = spelled_of (addresses_of s) (values_of s)

  xs_length : length (addresses_of s) ≡ n
  xs_length = listed_length (address_of s) n

  ws_length : length (values_of s) ≡ n
  ws_length = listed_length (value_of s) n

  -- its contents
  row_kept : (i m : ℕ) → i < n → m < 3 → byte_of s (suc (3 * i + m)) ≡ byte_of again (suc (3 * i + m))
  row_kept i m h g =
      row_bytes s bytes i m g
      ∙ sym (spelled_row (addresses_of s) (values_of s) i m (omega (arith, xs_length)) g
      ∙ ap (λ x. get_or (contents_of (x ∷ []) (body_place (length (addresses_of s)) 0 + 4 * i)) m 0) (listed_at (address_of s) n i h)
      ∙ ap (λ z. get_or (contents_of (address_of s i ∷ []) z) m 0) (let e = is.placed i h in omega (arith, xs_length)))

  -- its bodies
  body_kept : (j m : ℕ) → j < n → m < 4 → byte_of s (body_place n 0 + (4 * j + m)) ≡ byte_of again (body_place n 0 + (4 * j + m))
  body_kept j m h g =
      ap (byte_of s) (let e = is.placed j h in omega arith)
      ∙ value_bytes s bytes j m g
      ∙ sym (rw xs_length at (spelled_body (addresses_of s) (values_of s) j m (omega (arith, ws_length)) g)
      ∙ ap (λ x. get_or (bodies_of (x ∷ [])) m 0) (listed_at (value_of s) n j h))

  pub spelled_only : s ≡ spelled_of (addresses_of s) (values_of s)
  spelled_only = ext_get_or 0 s again (is.whole ∙ sym (rw xs_length at (spelled_length (addresses_of s) (values_of s) (xs_length ∙ sym ws_length)))) at
    where
      row : (k : ℕ) → suc k < body_place n 0 → byte_of s (suc k) ≡ byte_of again (suc k)
      row k h = let e : 3 * (k / 3) + k % 3 ≡ k = omega arith in rw e at (row_kept (k / 3) (k % 3) (omega arith) (omega arith))

      body : (k : ℕ) → body_place n 0 ≤ k → k < length s → byte_of s k ≡ byte_of again k
      body k h l =
          let d = k - body_place n 0 in
          let e : body_place n 0 + (4 * (d / 4) + d % 4) ≡ k = omega arith in
          rw e at (body_kept (d / 4) (d % 4) (let w = is.whole in omega arith) (omega arith))

      at : (k : ℕ) → k < length s → byte_of s k ≡ byte_of again k
      at zero h = sym (spelled_count (addresses_of s) (values_of s) (xs_length ∙ sym ws_length) ∙ xs_length)
      at (suc k) h = go (ltb (suc k) (body_place n 0)) refl
        where
          go : (t : Bool) → ltb (suc k) (body_place n 0) ≡ t → byte_of s (suc k) ≡ byte_of again (suc k)
          go true e = row k (ltb-true _ _ e)
          go false e = body (suc k) (ltb-false _ _ e) h
