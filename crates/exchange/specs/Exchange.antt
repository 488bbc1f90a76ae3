-- Both ends of the wire (document 02, request (vi)): what a head with no bytes gathered sends to a telegram that the master built, given to it whole with no
-- gap above 10 ms, is read back as what the head meant. Of any system of calls (demands, Run) and any master.
-- Assumes nothing.
use Rattle.std.specs.Prelude.{ℕ, suc, ◌<◌, ◌≤◌, ◌≡◌, true, ◌≢◌, ◌⊎◌, ◌↔◌, List, [], ◌∷◌, ◌++◌, map, length, take, Ok}
use Rattle.wire.specs.declared.telegram.Telegram.{Telegram}
use Rattle.wire.specs.Telegram as wire
use Rattle.rows.specs.Table.{row_of, address}
use Rattle.state.specs.declared.parts.Head.{Head}
use Rattle.state.specs.Wellformed.{wellformed_of}
use Rattle.line.specs.declared.calls.Line.{Line}
use Rattle.line.specs.Calls.{head_at}
use Rattle.demands.specs.Calls.{Calls, Bytes}
use Rattle.demands.specs.Past.{count, value, in_force}
use Rattle.demands.specs.Run.{System, OnLine, machine_of, head_after, replied, answers}
use Rattle.demands.specs.Alone.{Taken}
use Rattle.demands.specs.Lines.{Fits}
use Rattle.demands.specs.Demand3.{Steady}
use Rattle.master.specs.declared.Reading.TheVariants.{Value, Foreign}
use Rattle.master.specs.Demand.{Master, May}
use Rattle.exchange.specs.Typed.{Typed}
use Rattle.exchange.specs.Meant.{meant_of, unanswered}

-- fields that their bytes can hold, of a telegram that may be built
pub record Asks (question : Telegram) : Type 0 where
  pub fits : wire.Fits question
  pub may : May question

-- a head that no call refuses with 20, as its types hold it, with no bytes gathered
pub record Ready (h : Head) : Type 0 where
  pub typed : Typed h
  pub well : wellformed_of h ≡ true
  pub none : h.ear.count ≡ 0

-- byte i comes at τ i, no gap is above 10 ms, and ten bytes or more are lent
pub record Given (τ : ℕ → ℕ) (space : List ℕ) : Type 0 where
  pub steady : Steady τ
  pub room : 10 ≤ length space

-- what the head sends to the ten bytes that are built, one byte call each
abbrev pub drawn : System → Master → Telegram → (ℕ → ℕ) → List ℕ → Head → List (List ℕ)
drawn m e question τ space h = answers (machine_of m) (e.build question).ten τ 0 h space

-- a read of the parameter at a place, at a node, whatever its control word and data
abbrev pub asks_for : ℕ → ℕ → ℕ → ℕ → Telegram
asks_for node r word value' = record { command = 0; node = node; parameter = address (row_of r); word = word; value = value' }

-- ---- on a line: what its byte calls lay in the space, call by call. A collision lays nothing; it stands here as two, so that it is never taken for one reply
abbrev pub line_answers : OnLine → List ℕ → (ℕ → ℕ) → ℕ → Line → List ℕ → List (List ℕ)
line_answers m [] τ i l space = []
line_answers m (b ∷ bs) τ i l space =
    replied (m.byte l b (τ i) (length space)).heard (take 10 (m.space l b (τ i) space))
    ++ line_answers m bs τ (suc i) (m.byte l b (τ i) (length space)).line space

-- a line that no call refuses with 20, whose heads have no bytes gathered and differ in their numbers in force
pub record Quiet (l : Line) : Type 0 where
  pub fits : Fits l
  pub ready : (k : ℕ) → k < l.count → Ready (head_at l k)
  pub differ : (j k : ℕ) → j < l.count → k < l.count → j ≢ k → (head_at l j).stored.number ≢ (head_at l k).stored.number

pub record Exchange (m : System) (e : Master) : Type 0 where
  -- what is sent is read back as it was meant, and nothing is sent where nothing is meant
  pub read_back : (question : Telegram) (τ : ℕ → ℕ) (space : List ℕ) (h : Head) → Asks question → Given τ space → Ready h
      → map (e.read question) (drawn m e question τ space h) ≡ meant_of question h
  -- the head is silent just where document 01, as amended, has silence
  pub silent : (question : Telegram) (τ : ℕ → ℕ) (space : List ℕ) (h : Head) → Asks question → Given τ space → Ready h
      → drawn m e question τ space h ≡ [] ↔ unanswered question h ≡ true
  -- of two heads whose numbers in force differ one is silent
  pub one : (question : Telegram) (τ σ : ℕ → ℕ) (space room : List ℕ) (h k : Head) → Asks question → Given τ space → Ready h → Given σ room → Ready k
      → h.stored.number ≢ k.stored.number
      → (drawn m e question τ space h ≡ []) ⊎ (drawn m e question σ room k ≡ [])
  -- and whatever bytes they have gathered: of two replies, each drawn by a byte, at most one belongs to the question
  pub apart : (question : Telegram) (b t c u : ℕ) (space room : List ℕ) (h k : Head) → Taken h space → Taken k room
      → (m.on_head.byte h b t (length space)).heard ≡ Ok 1 → (m.on_head.byte k c u (length room)).heard ≡ Ok 1
      → h.stored.number ≢ k.stored.number
      → (e.read question (take 10 (m.on_head.space h b t space)) ≡ Foreign) ⊎ (e.read question (take 10 (m.on_head.space k c u room)) ≡ Foreign)
  -- on a line whose heads differ in their numbers: the head that has the question's number is heard, and no other
  pub on_line : (question : Telegram) (τ : ℕ → ℕ) (space : List ℕ) (l : Line) → Asks question → Given τ space → Quiet l
      → (k : ℕ) → k < l.count → (head_at l k).stored.number ≡ question.node
      → map (e.read question) (line_answers m.on_line_of (e.build question).ten τ 0 l space) ≡ meant_of question (head_at l k)
  -- and nothing, where no head has it
  pub nobody : (question : Telegram) (τ : ℕ → ℕ) (space : List ℕ) (l : Line) → Asks question → Given τ space → Quiet l
      → ((k : ℕ) → k < l.count → (head_at l k).stored.number ≢ question.node)
      → line_answers m.on_line_of (e.build question).ten τ 0 l space ≡ []
  -- what demand 3 finds by looking back over the calls on a line grown from none is what a master reads that asks for it: any of the 39, of any head, put to
  -- that head alone with no bytes gathered
  pub kept : (cs : Calls) (k r : ℕ) (word value' : ℕ) (τ : ℕ → ℕ) (space : List ℕ) → Bytes cs → k < count cs → r < 39 → Given τ space
      → let question = asks_for (in_force cs k) r word value' in
      map (e.read question) (drawn m e question τ space ((machine_of m).emptied (head_after (machine_of m) cs k))) ≡ Value (value cs k r) ∷ []
