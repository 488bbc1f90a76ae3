-- Bytes fed one after another: none, a stretch of them more, those of a send as they stand in its line, and the room that is lent for them.
-- Assumes nothing.
use Rattle.std.proofs.Common.{◌≡◌, ℕ, zero, suc, ◌+◌, ◌-◌, ◌<◌, ◌≤◌, List, length, take, drop, replicate, sym, refl, ap, ◌∙◌, subst, arith, length-drop, length-take-le, drop-cons, Ok, Err, Result}
use Rattle.line.specs.declared.calls.Line.{Line}
use Rattle.line.specs.declared.calls.Stretch.{Stretch}
use Rattle.line.specs.Calls.{byte_of}
use Rattle.line.specs.Stretch.{until_of}
use Rattle.line.proofs.Stretch.{fed_all, until_stretched, until_refused}
use Rattle.simulate.specs.declared.desk.Desk.{Desk}
use Rattle.simulate.specs.Feeding.{nth_of, fed_of, after_of}
use Rattle.simulate.specs.Desk.{room_of, left_of, feed_of}
use Rattle.head.specs.declared.refusal.Refusal.{Refusal}

module _ (time : ℕ) (l₀ : Line) where
  -- the line before the first byte
  pub fed_none : (nth : ℕ → ℕ) (room : ℕ) → l₀ ≡ fed_of nth time room l₀ 0
  unfolding fed_of
  fed_none nth room = refl

  -- of two rows of bytes that begin alike, so far
  pub fed_alike : (f g : ℕ → ℕ) (room n : ℕ) → ((i : ℕ) → i < n → f i ≡ g i) → fed_of f time room l₀ n ≡ fed_of g time room l₀ n
  unfolding fed_of
  fed_alike f g room zero h = refl
  fed_alike f g room (suc n) h =
      ap (λ (b : ℕ). (byte_of (fed_of f time room l₀ n) b time room).line) (h n (omega arith))
      ∙ ap (λ (k : Line). (byte_of k (g n) time room).line) (fed_alike f g room n (λ i p. h i (omega arith)))

  module _ (bytes : List ℕ) where
    -- byte calls from place j on
    fed_on : (room c j : ℕ) → j + c ≤ length bytes
        → fed_all (fed_of (nth_of bytes) time room l₀ j) (take c (drop j bytes)) time room ≡ fed_of (nth_of bytes) time room l₀ (j + c)
    unfolding fed_of
    fed_on room zero j p = let e : j ≡ j + 0 = omega arith in ap (fed_of (nth_of bytes) time room l₀) e
    fed_on room (suc c) j p =
        let e : suc j + c ≡ j + suc c = omega arith in
        ap (λ (bs : List ℕ). fed_all (fed_of (nth_of bytes) time room l₀ j) (take (suc c) bs) time room) (drop-cons bytes j 0 (omega arith))
        ∙ fed_on room c (suc j) (omega arith)
        ∙ ap (fed_of (nth_of bytes) time room l₀) e

    -- a stretch from place j on: it goes further, and the line is that of feeding so many bytes one at a time
    record Further (room j : ℕ) (s : Stretch) : Type 0 where
      more : j < after_of s.heard s.next (length bytes)
      within : after_of s.heard s.next (length bytes) ≤ length bytes
      line : s.line ≡ fed_of (nth_of bytes) time room l₀ (after_of s.heard s.next (length bytes))

    fed_stretch : (space : List ℕ) {l : Line} {s : Stretch} (j : ℕ) → j < length bytes → s ≡ until_of l (drop j bytes) j time (length space)
        → l ≡ fed_of (nth_of bytes) time (length space) l₀ j → Further (length space) j s
    fed_stretch space {l} {s} j p e fed = subst (λ (x : Stretch). Further (length space) j x) (sym e) (go u.heard refl)
      where
        u : Stretch
        u = until_of l (drop j bytes) j time (length space)

        left : length (drop j bytes) ≡ length bytes - j
        left = length-drop j bytes

        calls : (c : ℕ) → j + c ≤ length bytes → fed_all l (take c (drop j bytes)) time (length space) ≡ fed_of (nth_of bytes) time (length space) l₀ (j + c)
        calls c q = ap (λ (k : Line). fed_all k (take c (drop j bytes)) time (length space)) fed ∙ fed_on (length space) c j q

        to : (k : ℕ) → after_of u.heard u.next (length bytes) ≡ k → j < k → k ≤ length bytes
            → u.line ≡ fed_of (nth_of bytes) time (length space) l₀ k → Further (length space) j u
        to k is m n f = record { more = rw is m; within = rw is n; line = rw is f }

        go : (h : Result ℕ Refusal) → u.heard ≡ h → Further (length space) j u
        go (Ok n) q =
            let t = until_stretched l (drop j bytes) j time space q in
            let some : 0 < t.count = t.some (omega (arith, left)) in
            let within : j + t.count ≤ length bytes = omega (arith, left, t.within) in
            to (j + t.count) (ap (λ (h : Result ℕ Refusal). after_of h u.next (length bytes)) q ∙ t.next) (omega arith) within (t.line ∙ calls t.count within)
        go (Err why) q =
            let w = until_refused l (drop j bytes) j time space q in
            let all : j + (length bytes - j) ≡ length bytes = omega arith in
            let c = calls (length bytes - j) (omega arith) in
            to (length bytes) (ap (λ (h : Result ℕ Refusal). after_of h u.next (length bytes)) q) p (omega arith)
            (w.0 ∙ sym (w.1 (take (length bytes - j) (drop j bytes))) ∙ c ∙ ap (fed_of (nth_of bytes) time (length space) l₀) all)

    -- as the call is made: the room stays, and the bytes go on from place k
    pub fed_further : {room : ℕ} (space : List ℕ) {l : Line} {s : Stretch} (j : ℕ) {k : ℕ} → j < length bytes
        → s ≡ until_of l (drop j bytes) j time (length space) → k ≡ after_of s.heard s.next (length bytes) → length space ≡ room
        → l ≡ fed_of (nth_of bytes) time room l₀ j → (j < k) × (k ≤ length bytes) × (s.line ≡ fed_of (nth_of bytes) time room l₀ k)
    fed_further space j p e a r fed =
        let f = fed_stretch space j p e (fed ∙ ap (λ (n : ℕ). fed_of (nth_of bytes) time n l₀ j) (sym r)) in
        (rw a f.more, rw a f.within, rw (a, ← r) f.line)

-- of 1,024 bytes as many are lent as there is room
pub feeds : (d : Desk) (nth : ℕ → ℕ) (time count : ℕ) {size : ℕ} {l : Line} → size ≡ room_of d.space → size ≤ 1024
    → l ≡ fed_of nth time (length (take size (replicate {A = ℕ} 1024 0))) d.line count → left_of d l ≡ feed_of d nth time count
unfolding feed_of
feeds d nth time count {size} room within fed = rw (fed, length-take-le {A = ℕ} size (replicate 1024 0) within, room)
