-- Demand 3 of a line that takes calls and racks in turn (document 02, request (x)): for the account a rack is one dropping and its byte calls, so every
-- sentence holds of it. Whether it is taken goes by its lengths alone, and so is found by looking back over the calls.
-- Assumes nothing.
use Rattle.std.specs.Prelude.{ℕ, ◌-◌, ◌*◌, ◌%◌, ◌<◌, ◌≤◌, ◌≡◌, Bool, cond, ◌&&◌, List, ◌∷◌, ◌++◌, leb, eqb, length, Ok}
use Rattle.line.specs.declared.calls.Line.{Line}
use Rattle.line.specs.Calls.{empty_of, head_at}
use Rattle.rack.specs.declared.Tally.{Tally}
use Rattle.demands.specs.Calls.{Call, named, power, dropped, Calls, start, ◌▸◌, Bytes, hearing_at}
use Rattle.demands.specs.Past.{count, value, in_force}
use Rattle.demands.specs.Run.{System, after, machine_of, runs}
use Rattle.demands.specs.Demand3.{Last, Differ, ReadsBack}

-- a call, or a rack of these bytes at a time, with so much space lent and the place in it
pub data Turn : Type 0 where
  call : Call → Turn
  rack : List ℕ → ℕ → ℕ → ℕ → Turn

-- in the order of time: the last stands last
infixl 60 ◌▹◌
pub data Turns : Type 0 where
  none : Turns
  ◌▹◌ : Turns → Turn → Turns

-- the line after them, grown from none
abbrev pub line_after : System → Turns → Line
line_after m none = empty_of
line_after m (ts ▹ call c) = after m.on_line_of c (line_after m ts)
line_after m (ts ▹ rack bs t n p) = (m.on_line_of.rack (line_after m ts) bs t n p).line

-- the calls that they are for the account: a rack that is taken, neither 15 nor 16, is one dropping and its byte calls
unfoldable pub taken : ℕ → ℕ → ℕ → Bool
taken n room place = (eqb (n % 10) 0 && leb n 640) && (leb place room && leb n (room - place))

abbrev pub rack_calls : Calls → List ℕ → ℕ → Calls
rack_calls cs bs t = hearing_at t (cs ▸ dropped t) bs

abbrev pub spread : Turns → Calls
spread none = start
spread (ts ▹ call c) = spread ts ▸ c
spread (ts ▹ rack bs t n p) = cond (taken (length bs) n p) (rack_calls (spread ts) bs t) (spread ts)

-- what looking back finds of the parameter at place r of head k is what was given last, and is read back, then and after a power cut
pub record HoldsAfter (m : System) (ts : Turns) (k r : ℕ) : Type 0 where
  pub is_last : Last k r (value (spread ts) k r) (spread ts)
  pub now : ReadsBack (machine_of m) (head_at (line_after m ts) k) (in_force (spread ts) k) r (value (spread ts) k r)
  pub after_cut : let cut = ts ▹ call (named k power) in ReadsBack (machine_of m) (head_at (line_after m cut) k) (in_force (spread cut) k) r (value (spread ts) k r)

pub record InTurns (m : System) : Type 0 where
  -- the line is the one after those calls, so each sentence of Demand3 about them is one about it; so are these two
  pub same : (ts : Turns) → line_after m ts ≡ runs (machine_of m) (spread ts)
  pub holds : (ts : Turns) (k r : ℕ) → Bytes (spread ts) → k < count (spread ts) → r < 39 → HoldsAfter m ts k r
  -- "no byte call draws two replies", of a rack: while the numbers in force differ, before each of its bytes, there is no collision, and each telegram
  -- draws one reply at most
  pub one_reply : (ts : Turns) (bs : List ℕ) (t n p : ℕ) (counts : Tally)
      → ((heard : List ℕ) (b : ℕ) (left : List ℕ) → bs ≡ heard ++ (b ∷ left) → Differ (rack_calls (spread ts) heard t))
      → (m.on_line_of.rack (line_after m ts) bs t n p).answer ≡ Ok counts → (counts.collisions ≡ 0) × (10 * counts.replies ≤ length bs)
