-- What the calls on a line promise: a refused call changes nothing and says why, a call that names a head changes that head alone, a byte
-- and a tick do to each head what they do to it alone, and a line that fits stays one and keeps its serial numbers.
-- Assumes nothing.
use Rattle.std.specs.Prelude.{Err, Ok}
use Prim.Native.Nat.{ℕ, ◌+◌, ◌<◌, ◌≤◌}
use mathlib.Core.Path.{◌≡◌, refl, ◌∙◌, ap}
use mathlib.Core.Logic.{◌≢◌}
use mathlib.Core.Bool.{Bool, true, false, cond, not}
use mathlib.Core.List.{List, [], ◌∷◌, ◌++◌}
use native.Mathlib.Omega.{arith}
use native.Mathlib.Numerals.{add-one}
use borrow.Author.Tests.{ltb-true, lt-ltb, le-ltb}
use lib.Dec.{ltb}
use lib.ListN.{length, set, length-set}
use lib.Seq.{get_or-set_same, get_or-set_other}
use Rattle.state.specs.declared.parts.Head.{Head}
use Rattle.state.specs.Wellformed.{wellformed_of}
use Rattle.state.specs.Older.{passes_of}
use Rattle.effects.specs.Stored.{restarted_stored}
use Rattle.effects.specs.Restart.{restarted_of, fresh_of}
use Rattle.head.specs.declared.refusal.Refusal.{Refusal}
use Rattle.head.specs.declared.refusal.Refusal.TheVariants.{Space, Malformed}
use Rattle.head.specs.declared.calls.Called as alone
use Rattle.head.specs.declared.calls.Fed as lent
use Rattle.head.specs.Hear.{step_of}
use Rattle.head.specs.Moves.{ticked_of}
use Rattle.head.specs.Calls as head
use Rattle.head.specs.Calls.{Tests, guarded, factory_of}
use Rattle.head.specs.Outcome.{keys, of_heard}
use Rattle.head.proofs.Tests.{Hold, either, part}
use Rattle.head.proofs.Asked.{passes, lent_keys_fits, lent_keys_same}
use Rattle.head.proofs.Refused.{refused_nothing}
use Rattle.head.proofs.Serials.{step_serial, tick_serial, keys_serial}
use Rattle.head.proofs.Keeps.{fresh_fits, factory_fits, step_fits, tick_fits}
use Rattle.line.specs.declared.calls.Line.{Line}
use Rattle.line.specs.declared.calls.Called.{Called}
use Rattle.line.specs.declared.calls.Fed.{Fed}
use Rattle.line.specs.Round.{each, all_fit, stepped_by, ticked_at}
use Rattle.line.specs.Serials.{serials_of}
use Rattle.line.specs.Calls.{empty_of, serials_at, fits_by, fits_of, done_with, refused_with, head_at, placed_of, grown_by, grow_tests, grow_of}
use Rattle.line.specs.Calls.{replies_at, heard_by, byte_of, laid_by_of, byte_space_of, tick_of, put_back, named_by, named_tests, named_of, unfed, put_back_fed, keys_of, keys_space_of}
use Rattle.line.proofs.Laws.{each_here, each_past, each_length, fit_each, fit_set, fit_grown, by_small, by_heads, fits_small, fits_heads, fits_serials, fits_few, fit_at, set_back}
use Rattle.line.proofs.Apart.{differ_last, serials_set, serials_each, serials_grown}

-- ---- which refusal, exactly when: the tests of each call in their order
abbrev pub byte_tests : Line → ℕ → Tests
byte_tests l room = (fits_of l, Malformed) ∷ (not (ltb room 10), Space) ∷ []

abbrev pub tick_tests : Line → Tests
tick_tests l = (fits_of l, Malformed) ∷ []

abbrev pub ticked_by : Line → ℕ → Line
ticked_by l at = record { heads = each (ticked_at at) l.count l.heads; count = l.count }

flip : {C : Type 0} (b : Bool) (x y : C) → cond b x y ≡ cond (not b) y x
flip true x y = refl
flip false x y = refl

module _ (l : Line) where
  pub grow_when : (node serial : ℕ) → grow_of l node serial ≡ guarded (refused_with l) (grow_tests l node serial) (done_with (grown_by l node serial))
  unfolding grow_of
  grow_when node serial = refl

  pub byte_when : (b at room : ℕ)
      → byte_of l b at room
      ≡ guarded (unfed l) (byte_tests l room) (record { line = heard_by l b at; heard = Ok (length (replies_at l b at)) })
  unfolding byte_of
  byte_when b at room = rw (flip (ltb room 10))

  pub space_when : (b at : ℕ) (space : List ℕ)
      → byte_space_of l b at space ≡ guarded (λ why. space) (byte_tests l (length space)) (laid_by_of (replies_at l b at) space)
  unfolding byte_space_of
  space_when b at space = rw (flip (ltb (length space) 10))

  pub tick_when : (at : ℕ) → tick_of l at ≡ guarded (refused_with l) (tick_tests l) (done_with (ticked_by l at))
  unfolding tick_of
  tick_when at = refl

  pub named_when : (b : Bool) (i : ℕ) (c : alone.Called) → named_of b l i c ≡ guarded (refused_with l) (named_by b l i) (put_back l i c)
  unfolding named_of
  named_when b i c = refl

  -- the line after a call that names a head, of which the call on that head alone makes h
  abbrev pub named_line : Bool → ℕ → Head → Line
  named_line b i h = guarded (λ why. l) (named_by b l i) (placed_of l i h)

  pub named_line_lem : (b : Bool) (i : ℕ) (c : alone.Called) → (named_of b l i c).line ≡ named_line b i c.head
  named_line_lem b i c = rw (named_when b i c) (part (λ (x : Called). x.line) (refused_with l) (put_back l i c) (named_by b l i))

  pub keys_line : (i s room : ℕ) → (keys_of l i s room).line ≡ named_line false i (head.keys_of (head_at l i) s room).head
  unfolding keys_of
  keys_line i s room = part (λ (x : Fed). x.line) (unfed l) (put_back_fed l i (head.keys_of (head_at l i) s room)) (named_tests l i)

-- ---- a refused call leaves the line as it was
abbrev pub Untouched : Line → Called → Type 0
Untouched l c = (why : Refusal) → c.answer ≡ Err why → c.line ≡ l

module _ (l : Line) where
  untouched : (ts : Tests) (k : Line) → Untouched l (guarded (refused_with l) ts (done_with k))
  untouched ts k =
      either (Untouched l) (refused_with l) (done_with k) ts (λ w why e. refl) (λ h why e. let z : ◌≡◌ {A = ℕ} 0 1 = cc in absurd (omega arith))

  pub grow_refused : (node serial : ℕ) → Untouched l (grow_of l node serial)
  grow_refused node serial = rw (grow_when l node serial) (untouched (grow_tests l node serial) _)

  pub tick_refused : (at : ℕ) → Untouched l (tick_of l at)
  tick_refused at = rw (tick_when l at) (untouched (tick_tests l) _)

  -- where the call on the head alone leaves a refused head as it was
  pub named_refused : (b : Bool) (i : ℕ) (c : alone.Called) → ((why : Refusal) → c.answer ≡ Err why → c.head ≡ head_at l i)
      → Untouched l (named_of b l i c)
  unfolding placed_of
  named_refused b i c k =
      rw (named_when l b i c)
      (either (Untouched l) (refused_with l) (put_back l i c) (named_by b l i) (λ w why e. refl)
      (λ h why e. rw (k why e, set_back (factory_of 0) i l.heads)))

  -- a refused key state too
  pub keys_refused : (i s room : ℕ) (why : Refusal) → (keys_of l i s room).heard ≡ Err why → (keys_of l i s room).line ≡ l
  unfolding keys_of placed_of
  keys_refused i s room why = go (named_tests l i)
    where
      f : lent.Fed
      f = head.keys_of (head_at l i) s room

      go : (ts : Tests) → (guarded (unfed l) ts (put_back_fed l i f)).heard ≡ Err why → (guarded (unfed l) ts (put_back_fed l i f)).line ≡ l
      go [] e = rw (lent_keys_same (head_at l i) s room (ap of_heard e), set_back (factory_of 0) i l.heads)
      go ((true, w) ∷ ts) e = go ts e
      go ((false, w) ∷ ts) e = refl

  -- and the space with it
  pub keys_spared : (i s : ℕ) (space : List ℕ) (why : Refusal) → (keys_of l i s (length space)).heard ≡ Err why → keys_space_of l i s space ≡ space
  unfolding keys_of keys_space_of
  keys_spared i s space why = go (named_tests l i)
    where
      go : (ts : Tests) → (guarded (unfed l) ts (put_back_fed l i (head.keys_of (head_at l i) s (length space)))).heard ≡ Err why
          → guarded (λ w. space) ts (head.keys_space_of (head_at l i) s space) ≡ space
      go [] e = (refused_nothing (keys s space) (head_at l i) (ap of_heard e)).space
      go ((true, w) ∷ ts) e = go ts e
      go ((false, w) ∷ ts) e = refl

  -- and a refused byte both
  pub byte_refused : (b at : ℕ) (space : List ℕ) (why : Refusal) → (byte_of l b at (length space)).heard ≡ Err why
      → ((byte_of l b at (length space)).line ≡ l) × (byte_space_of l b at space ≡ space)
  byte_refused b at space why =
      rw (byte_when l b at (length space), space_when l b at space) (go (heard_by l b at) _ _ (byte_tests l (length space))) where
        go : (k : Line) (n : ℕ) (laid : List ℕ) (ts : Tests)
            → (guarded (unfed l) ts (record { line = k; heard = Ok n })).heard ≡ Err why
            → ((guarded (unfed l) ts (record { line = k; heard = Ok n })).line ≡ l) × (guarded (λ w. space) ts laid ≡ space)
        go k n laid [] e = let z : ◌≡◌ {A = ℕ} 0 1 = cc in absurd (omega arith)
        go k n laid ((true, w) ∷ ts) e = go k n laid ts e
        go k n laid ((false, w) ∷ ts) e = (refl, refl)

-- ---- a call that names a head leaves every other head and the count as they were
abbrev pub OnlyAt : Line → ℕ → Line → Type 0
OnlyAt l i k = (k.count ≡ l.count) × ((j : ℕ) → j ≢ i → head_at k j ≡ head_at l j)

named_only : (l : Line) (b : Bool) (i : ℕ) (h : Head) → OnlyAt l i (named_line l b i h)
unfolding placed_of
named_only l b i h =
    either (λ (k : Line). OnlyAt l i k) (λ why. l) (placed_of l i h) (named_by b l i) (λ why. (refl, λ j n. refl))
    (λ _. (refl, λ j n. get_or-set_other l.heads i j h (factory_of 0) n))

pub named_one : (l : Line) (b : Bool) (i : ℕ) (c : alone.Called) → OnlyAt l i (named_of b l i c).line
named_one l b i c = rw (named_line_lem l b i c) (named_only l b i c.head)

pub keys_one : (l : Line) (i s room : ℕ) → OnlyAt l i (keys_of l i s room).line
keys_one l i s room = rw (keys_line l i s room) (named_only l false i (head.keys_of (head_at l i) s room).head)

-- ---- a head below the count of a line that passes the test passes its own; on one that fits it is well-formed
pub pass_at : (b : Bool) (l : Line) → fits_by b l ≡ true → (i : ℕ) → i < l.count → passes_of b (head_at l i) ≡ true
pass_at b l f i p = fit_at b (factory_of 0) (passes b (factory_of 0) (factory_fits 0)) i l.count l.heads p (by_heads b l f)

pub well_at : (l : Line) → fits_of l ≡ true → (i : ℕ) → i < l.count → wellformed_of (head_at l i) ≡ true
well_at l f i p = pass_at false l f i p

-- ---- where a call is done, each head that it reaches becomes what the call makes of that head alone
within : (b : Bool) (l : Line) → fits_by b l ≡ true → length l.heads ≡ 32 → (i : ℕ) → i < l.count → i < length l.heads
within b l f e i p = let q : l.count ≤ 32 = by_small b l f in omega arith

pub named_there : (b : Bool) (l : Line) → fits_by b l ≡ true → length l.heads ≡ 32 → (i : ℕ) → i < l.count → (c : alone.Called)
    → ((named_of b l i c).answer ≡ c.answer) × (head_at (named_of b l i c).line i ≡ c.head)
unfolding named_of placed_of
named_there b l f e i p c = (rw (f, lt-ltb _ _ p), rw (f, lt-ltb _ _ p) (get_or-set_same l.heads i c.head (factory_of 0) (within b l f e i p)))

module _ (l : Line) (f : fits_of l ≡ true) (e : length l.heads ≡ 32) where
  here : (i : ℕ) → i < l.count → i < length l.heads
  here i p = within false l f e i p

  module _ (i : ℕ) (p : i < l.count) where
    pub keys_there : (s room : ℕ) → let alone = head.keys_of (head_at l i) s room in
        ((keys_of l i s room).heard ≡ alone.heard) × (head_at (keys_of l i s room).line i ≡ alone.head)
    unfolding keys_of placed_of
    keys_there s room = (rw (f, lt-ltb _ _ p), rw (f, lt-ltb _ _ p) (get_or-set_same l.heads i _ (factory_of 0) (here i p)))

    pub keys_lays : (s : ℕ) (space : List ℕ) → keys_space_of l i s space ≡ head.keys_space_of (head_at l i) s space
    unfolding keys_space_of
    keys_lays s space = rw (f, lt-ltb _ _ p)

    pub tick_alone : (at : ℕ) → head_at (tick_of l at).line i ≡ ticked_of (head_at l i) at
    unfolding tick_of
    tick_alone at = rw f (each_here (ticked_at at) (factory_of 0) i l.count l.heads p (here i p))

    pub byte_alone : (b at room : ℕ) → 10 ≤ room → head_at (byte_of l b at room).line i ≡ (step_of (head_at l i) b at).head
    unfolding byte_of
    byte_alone b at room r = rw (f, le-ltb _ _ r) (each_here (stepped_by b at) (factory_of 0) i l.count l.heads p (here i p))

-- what stands past the count is as it was
pub byte_past : (l : Line) (b at room k : ℕ) → l.count ≤ k → head_at (byte_of l b at room).line k ≡ head_at l k
byte_past l b at room k p =
    rw (byte_when l b at room)
    (either (λ (c : Fed). head_at c.line k ≡ head_at l k) (unfed l) _ (byte_tests l room) (λ why. refl)
    (λ _. each_past (stepped_by b at) (factory_of 0) k l.count l.heads p))

-- the answer counts the replies that the heads give, and the space takes the one that is alone
module _ (l : Line) (f : fits_of l ≡ true) (b at : ℕ) (space : List ℕ) (r : 10 ≤ length space) where
  pub byte_counts : (byte_of l b at (length space)).heard ≡ Ok (length (replies_at l b at))
  unfolding byte_of
  byte_counts = rw (f, le-ltb _ _ r)

  pub byte_lays : byte_space_of l b at space ≡ laid_by_of (replies_at l b at) space
  unfolding byte_space_of
  byte_lays = rw (f, le-ltb _ _ r)

-- ---- through every call but one that makes a head, a line that fits stays one, with its heads, its 32 places and the serial numbers of its heads
pub record Kept (l k : Line) : Type 0 where
  pub count : k.count ≡ l.count
  pub fits : fits_of l ≡ true → fits_of k ≡ true
  pub places : length k.heads ≡ length l.heads
  pub serials : serials_at k ≡ serials_at l

pub empty_fits : (fits_of empty_of ≡ true) × (length empty_of.heads ≡ 32)
unfolding empty_of fits_by
empty_fits = (refl, refl)

-- as many heads, well-formed where they were, with the serial numbers that they had
refit : (l : Line) (hs : List Head) → (all_fit l.count l.heads ≡ true → all_fit l.count hs ≡ true) → serials_of l.count hs ≡ serials_at l
    → fits_of l ≡ true → fits_of (record { heads = hs; count = l.count }) ≡ true
refit l hs k e f =
    fits_few (record { heads = hs; count = l.count }) (fits_small l f) ∙ rw (e, fits_serials l f, k (fits_heads l f))

pub unmoved : (l : Line) → Kept l l
unmoved l = record { count = refl; fits = λ f. f; places = refl; serials = refl }

module _ (l : Line) where
  placed_kept : (i : ℕ) (h : Head) → ltb i l.count ≡ true → (wellformed_of (head_at l i) ≡ true → wellformed_of h ≡ true)
      → h.stored.serial ≡ (head_at l i).stored.serial → Kept l (placed_of l i h)
  unfolding placed_of
  placed_kept i h p k e =
      let s = serials_set (factory_of 0) h i l.count l.heads e in
      record {
        count = refl;
        fits = refit l (set l.heads i h) (fit_set false (factory_of 0) h i l.count l.heads (ltb-true _ _ p) k) s;
        places = length-set l.heads i h;
        serials = s;
      }

  -- what keeps each head well-formed, and its serial number, keeps the line so
  pub each_kept : (g : Head → Head) → ((h : Head) → wellformed_of h ≡ true → wellformed_of (g h) ≡ true)
      → ((h : Head) → (g h).stored.serial ≡ h.stored.serial) → Kept l (record { heads = each g l.count l.heads; count = l.count })
  each_kept g k e =
      let s = serials_each g e l.count l.count l.heads in
      record { count = refl; fits = refit l _ (fit_each g k l.count l.heads) s; places = each_length g l.count l.heads; serials = s }

  pub byte_keeps : (b at room : ℕ) → Kept l (byte_of l b at room).line
  byte_keeps b at room =
      rw (byte_when l b at room)
      (either (λ c. Kept l c.line) (unfed l) _ (byte_tests l room) (λ why. unmoved l)
      (λ h. each_kept (stepped_by b at) (λ x. step_fits x b at) (λ x. step_serial x b at)))

  pub tick_keeps : (at : ℕ) → Kept l (tick_of l at).line
  tick_keeps at =
      rw (tick_when l at)
      (either (λ c. Kept l c.line) (refused_with l) _ (tick_tests l) (λ why. unmoved l)
      (λ h. each_kept (ticked_at at) (λ x. tick_fits x at) (λ x. tick_serial x at)))

  -- where the call on the head alone keeps it well-formed, and its serial number
  named_kept : (b : Bool) (i : ℕ) (h : Head) → (wellformed_of (head_at l i) ≡ true → wellformed_of h ≡ true) → h.stored.serial ≡ (head_at l i).stored.serial
      → Kept l (named_line l b i h)
  named_kept b i h k e = either (λ (x : Line). Kept l x) (λ why. l) (placed_of l i h) (named_by b l i) (λ why. unmoved l) (λ t. placed_kept i h t.1.0 k e)

  pub named_keeps : (b : Bool) (i : ℕ) (c : alone.Called) → (wellformed_of (head_at l i) ≡ true → wellformed_of c.head ≡ true)
      → c.head.stored.serial ≡ (head_at l i).stored.serial → Kept l (named_of b l i c).line
  named_keeps b i c k e = rw (named_line_lem l b i c) (named_kept b i c.head k e)

  pub keys_keeps : (i s room : ℕ) → Kept l (keys_of l i s room).line
  keys_keeps i s room =
      rw (keys_line l i s room) (named_kept false i _ (lent_keys_fits (head_at l i) s room) (keys_serial (head_at l i) s room))

-- and so does one that is grown, but that the new head's serial number stands after the others
fresh_serial : (node serial : ℕ) → (fresh_of node serial).stored.serial ≡ serial
unfolding fresh_of restarted_of restarted_stored
fresh_serial node serial = refl

pub grown_serials : (l : Line) (node serial : ℕ) → l.count < length l.heads → serials_at (grown_by l node serial) ≡ serials_at l ++ (serial ∷ [])
grown_serials l node serial p =
    rw add-one (serials_grown (fresh_of node serial) l.count l.heads p ∙ ap (λ x. serials_at l ++ (x ∷ [])) (fresh_serial node serial))

pub grow_keeps : (l : Line) (node serial : ℕ) → length l.heads ≡ 32
    → (fits_of l ≡ true → fits_of (grow_of l node serial).line ≡ true) × (length (grow_of l node serial).line.heads ≡ length l.heads)
grow_keeps l node serial e =
    rw (grow_when l node serial)
    (either (λ (c : Called). (fits_of l ≡ true → fits_of c.line ≡ true) × (length c.line.heads ≡ length l.heads)) (refused_with l)
    (done_with (grown_by l node serial)) (grow_tests l node serial) (λ why. (λ f. f, refl)) grown)
  where
    grown : Hold (grow_tests l node serial) → (fits_of l ≡ true → fits_of (grown_by l node serial) ≡ true) × (length (grown_by l node serial).heads ≡ length l.heads)
    grown h =
        let p : l.count < 32 = ltb-true _ _ h.1.0 in
        let q : l.count + 1 ≤ 32 = omega arith in
        let n = fresh_fits node serial h.1.1.0 in
        let s = grown_serials l node serial (omega arith) in (
          λ f. fits_few (grown_by l node serial) q
              ∙ rw (s, differ_last (serials_at l) serial, fits_serials l f, h.1.1.1.0) (rw add-one (rw (fit_grown (fresh_of node serial) l.count l.heads n (fits_heads l f)))),
          length-set l.heads l.count (fresh_of node serial),
        )
