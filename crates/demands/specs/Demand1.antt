-- Demand 1: every byte, time, key state and measurement is met without harm; a refused call returns its number from the documents, exactly when
-- the table gives it, and changes no head, no line and no byte of the lent reply space. (That no call does harm is what the checker proves of
-- every function, for every input: no public function has a `requires`.)
-- Assumes nothing.
use Rattle.std.specs.Prelude.{ℕ, ◌-◌, ◌%◌, ◌≡◌, Bool, cond, not, ◌&&◌, ◌||◌, List, [], ◌∷◌, leb, ltb, eqb, pos, length, Ok, Err, Result, ⊤}
use Rattle.std.proofs.Math.Option.{Option, none, some}
use Rattle.std.specs.Int.Signed.{le_z}
use Rattle.signed.specs.Number.{minus}
use Rattle.state.specs.declared.parts.Head.{Head}
use Rattle.state.specs.Settings.{value_at, node_place}
use Rattle.state.specs.Wellformed.{wellformed_of}
use Rattle.rows.specs.Among.{among}
use Rattle.head.specs.Refusals.{refusal_of}
use Rattle.head.specs.Calls.{factory_of}
use Rattle.head.specs.Outcome as alone
use Rattle.line.specs.declared.calls.Line.{Line}
use Rattle.line.specs.Calls.{serials_at, fits_of}
use Rattle.sheet.specs.Format.{well_formed_of}
use Rattle.demands.specs.Calls.{Call, new_head, byte, tick, named, keys, dropped}
use Rattle.demands.specs.Past.{all_stored, all_right}
use Rattle.demands.specs.Twenty.{takes_head, takes_line, Twenty}
use Rattle.demands.specs.Run.{OnHead, OnLine, System, alone_of, after}
use Rattle.head.specs.declared.refusal.Refusal.{Refusal}
use Rattle.rack.specs.declared.Tally.{Tally}

-- ---- the table of document 01, "The line, and calls refused": a number, and whether its clause holds
pub record Row : Type 0 where
  pub number : ℕ
  pub holds : Bool

abbrev pub row : ℕ → Bool → Row
row n b = record { number = n; holds = b }

-- the first row whose clause holds is the refusal
abbrev pub first : List Row → Option ℕ
first [] = none
first (r ∷ rs) = cond r.holds (some r.number) (first rs)

-- what a tick, a measurement, power, a sheet loaded and an older head brought over are refused for on their own, on a head alone and on a line
abbrev pub own_rows : alone.Ask → List Row
own_rows (alone.tick t) = []
own_rows (alone.measure m) = row 4 (not (le_z (minus 2500000) m && le_z m (pos 2500000))) ∷ []
own_rows alone.power = []
own_rows (alone.load s) = row 11 (not (well_formed_of s)) ∷ row 12 (not (all_stored s)) ∷ row 13 (not (all_right s)) ∷ []
own_rows alone.bring = []

abbrev pub node_row : ℕ → Row
node_row node = row 1 (not (leb 1 node && leb node 127))

abbrev pub space_row : ℕ → Row
space_row s = row 6 (ltb s 10)

-- a key state, with so much space lent: 6 after 5
abbrev pub keys_rows : ℕ → ℕ → List Row
keys_rows s n = row 5 (ltb 7 s) ∷ space_row n ∷ []

-- a sheet written, with so much space lent
abbrev pub save_rows : ℕ → List Row
save_rows n = row 14 (ltb n 274) ∷ []

-- a call that names a head, with the test of its line and the rows of its own, and one on a head alone; the one that brings a head over goes by the old row
-- (document 02, request (xii)): Twenty
abbrev pub rows_by : Bool → Line → ℕ → List Row → List Row
rows_by takes l j own = row 20 (not takes) ∷ row 3 (leb l.count j) ∷ own

abbrev pub named_rows : Line → ℕ → List Row → List Row
named_rows l j own = rows_by (fits_of l) l j own

abbrev pub head_rows : Head → List Row → List Row
head_rows h own = row 20 (not (wellformed_of h)) ∷ own

-- a rack of so many bytes, with so much space lent and the place in it (document 02, request (x)): 15 for a length that is no multiple of ten or above
-- 640; 16 for less space from that place than the bytes are, a place beyond the end included
abbrev pub rack_rows : Line → ℕ → ℕ → ℕ → List Row
rack_rows l n room place =
    row 20 (not (fits_of l)) ∷ row 15 (not (eqb (n % 10) 0) || ltb 640 n) ∷ row 16 (ltb room place || ltb (room - place) n) ∷ []

-- 20 goes before all others, 2 before 1, 1 before 17, 3 before 4, 5, 6 and 11 to 14, and 15 before 16
abbrev pub rows_for : Call → Line → List Row
rows_for (new_head node serial) l = row 20 (not (fits_of l)) ∷ row 2 (leb 32 l.count) ∷ node_row node ∷ row 17 (among (serials_at l) serial) ∷ []
rows_for (byte b t s) l = row 20 (not (fits_of l)) ∷ space_row s ∷ []
rows_for (tick t) l = row 20 (not (fits_of l)) ∷ own_rows (alone.tick t)
rows_for (named j a) l = rows_by (takes_line a l) l j (own_rows (alone_of a))
rows_for (keys j s n) l = named_rows l j (keys_rows s n)
rows_for (dropped t) l = rack_rows l 0 0 0

-- the same for a head alone
abbrev pub rows_alone : alone.Call → Head → List Row
rows_alone (alone.byte b t space) h = head_rows h (space_row (length space) ∷ [])
rows_alone (alone.keys s space) h = head_rows h (keys_rows s (length space))
rows_alone (alone.asked a) h = row 20 (not (takes_head a h)) ∷ own_rows a

-- ---- the number that a call returns
abbrev pub of_answer : Result ⊤ Refusal → Option ℕ
of_answer (Ok tt) = none
of_answer (Err why) = some (refusal_of why)

abbrev pub of_heard : Result ℕ Refusal → Option ℕ
of_heard (Ok n) = none
of_heard (Err why) = some (refusal_of why)

abbrev pub of_hit : Result ℕ Refusal → Option ℕ
of_hit (Ok x) = none
of_hit (Err why) = some (refusal_of why)

abbrev pub of_serial : Result ℕ Refusal → Option ℕ
of_serial (Ok n) = none
of_serial (Err why) = some (refusal_of why)

abbrev pub of_rack : Result Tally Refusal → Option ℕ
of_rack (Ok counts) = none
of_rack (Err why) = some (refusal_of why)

abbrev pub refused_as : OnLine → Call → Line → Option ℕ
refused_as m (new_head node serial) l = of_answer (m.grow l node serial).answer
refused_as m (byte b t s) l = of_heard (m.byte l b t s).heard
refused_as m (tick t) l = of_answer (m.tick l t).answer
refused_as m (named j a) l = of_answer (m.ask a l j).answer
refused_as m (keys j s n) l = of_heard (m.keys l j s n).heard
refused_as m (dropped t) l = of_rack (m.rack l [] t 0 0).answer

abbrev pub refused_alone : OnHead → alone.Call → Head → Option ℕ
refused_alone m (alone.byte b t space) h = of_heard (m.byte h b t (length space)).heard
refused_alone m (alone.keys s space) h = of_heard (m.keys h s (length space)).heard
refused_alone m (alone.asked a) h = of_answer (m.ask a h).answer

-- the head after a call on a head alone, and the lent space before and after it; what lends no space has none
abbrev pub head_after : OnHead → alone.Call → Head → Head
head_after m (alone.byte b t space) h = (m.byte h b t (length space)).head
head_after m (alone.keys s space) h = (m.keys h s (length space)).head
head_after m (alone.asked a) h = (m.ask a h).head

abbrev pub lent_by : alone.Call → List ℕ
lent_by (alone.byte b t space) = space
lent_by (alone.keys s space) = space
lent_by (alone.asked a) = []

abbrev pub space_after : OnHead → alone.Call → Head → List ℕ
space_after m (alone.byte b t space) h = m.space h b t space
space_after m (alone.keys s space) h = m.key_space h s space
space_after m (alone.asked a) h = []

-- the number in force and 00h, which stands at place 0
abbrev pub Numbered : Head → ℕ → Type 0
Numbered h node = (h.stored.number ≡ node) × (value_at h.stored.values node_place ≡ node)

pub record Demand1 (m : System) : Type 0 where
  -- a call on a line, or on a head alone, returns the number of the table, exactly when the table gives it
  pub line_number : (c : Call) (l : Line) → refused_as m.on_line_of c l ≡ first (rows_for c l)
  pub head_number : (c : alone.Call) (h : Head) → refused_alone m.on_head c h ≡ first (rows_alone c h)
  -- document 02, request (i): so does the call that reads the last non-zero exclusive-or, which has no row of its own
  pub line_hit : (l : Line) (j : ℕ) → of_hit (m.on_line_of.hit l j) ≡ first (named_rows l j [])
  pub head_hit : (h : Head) → of_hit (m.on_head.hit h) ≡ first (head_rows h [])
  -- and so does the call that writes a sheet (request (vii)), which hands back no line and no head
  pub line_save : (l : Line) (j n : ℕ) → of_answer (m.on_line_of.save l j n) ≡ first (named_rows l j (save_rows n))
  pub head_save : (h : Head) (n : ℕ) → of_answer (m.on_head.save h n) ≡ first (head_rows h (save_rows n))
  -- and the call that reads the serial number (request (xi)), which has no row of its own either
  pub line_serial : (l : Line) (j : ℕ) → of_serial (m.on_line_of.serial l j) ≡ first (named_rows l j [])
  pub head_serial : (h : Head) → of_serial (m.on_head.serial h) ≡ first (head_rows h [])
  -- and a rack (request (x)), by the length of its bytes
  pub line_rack : (l : Line) (bs : List ℕ) (t n p : ℕ) → of_rack (m.on_line_of.rack l bs t n p).answer ≡ first (rack_rows l (length bs) n p)
  pub made_number : (node serial : ℕ) → of_answer (m.on_head.make node serial).answer ≡ first (node_row node ∷ [])
  -- 20 exactly when one of its clauses fails
  pub twenty : Twenty
  -- a head that is made has the number given in force and in 00h; refused, it is the factory head, which is the one made with 31; either way it has
  -- the serial number given
  pub made_head : (node serial : ℕ) → of_answer (m.on_head.make node serial).answer ≡ none → Numbered (m.on_head.make node serial).head node
  pub made_factory : (node serial n : ℕ) → of_answer (m.on_head.make node serial).answer ≡ some n
      → ((m.on_head.make node serial).head ≡ factory_of serial) × (factory_of serial ≡ (m.on_head.make 31 serial).head) × Numbered (factory_of serial) 31
  pub made_serial : (node serial : ℕ) → (m.on_head.make node serial).head.stored.serial ≡ serial
  -- refused, it changes no line and no head, and no byte of the space (a call that reads what a head keeps, or writes its sheet, hands back neither)
  pub line_same : (c : Call) (l : Line) (n : ℕ) → refused_as m.on_line_of c l ≡ some n → after m.on_line_of c l ≡ l
  pub space_same : (l : Line) (b t : ℕ) (space : List ℕ) (n : ℕ)
      → refused_as m.on_line_of (byte b t (length space)) l ≡ some n → m.on_line_of.space l b t space ≡ space
  pub keys_same : (l : Line) (j s : ℕ) (space : List ℕ) (n : ℕ)
      → refused_as m.on_line_of (keys j s (length space)) l ≡ some n → m.on_line_of.key_space l j s space ≡ space
  pub save_same : (l : Line) (j : ℕ) (space : List ℕ) (n : ℕ)
      → of_answer (m.on_line_of.save l j (length space)) ≡ some n → m.on_line_of.sheet l j space ≡ space
  pub saved_same : (h : Head) (space : List ℕ) (n : ℕ) → of_answer (m.on_head.save h (length space)) ≡ some n → m.on_head.sheet h space ≡ space
  pub rack_same : (l : Line) (bs : List ℕ) (t : ℕ) (space : List ℕ) (p n : ℕ) → of_rack (m.on_line_of.rack l bs t (length space) p).answer ≡ some n
      → ((m.on_line_of.rack l bs t (length space) p).line ≡ l) × (m.on_line_of.rack_space l bs t space p ≡ space)
  pub head_same : (c : alone.Call) (h : Head) (n : ℕ) → refused_alone m.on_head c h ≡ some n
      → (head_after m.on_head c h ≡ h) × (space_after m.on_head c h ≡ lent_by c)
