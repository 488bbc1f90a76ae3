-- Whole telegrams, a second way (document 02, request (xiii)): an engine, which takes ten bytes at once, and the byte-fed head agree in reply and in state, for every head with no
-- bytes gathered and every ten bytes that come less than 11 ms apart, the last one's time being the time given. Of any system of calls (demands, Run) and any engine. The
-- request excepts what a head keeps of earlier byte times; our heads keep none but the last, so nothing is excepted here.
-- Assumes nothing.
use Rattle.std.specs.Prelude.{ℕ, suc, ◌<◌, ◌≤◌, ◌≡◌, true, false, List, [], ◌∷◌, ◌++◌, map, length, get_or, replicate}
use Rattle.wire.specs.Check.{hit_of}
use Rattle.state.specs.declared.parts.Head.{Head}
use Rattle.state.specs.declared.parts.Ear.{Ear}
use Rattle.state.specs.Wellformed.{wellformed_of}
use Rattle.state.specs.With.{with_ear}
use Rattle.head.specs.Calls.{factory_of}
use Rattle.engine.specs.declared.Answered.{Answered}
use Rattle.engine.specs.declared.Outcome.TheVariants.{Silence, Reply, Refused}
use Rattle.engine.specs.declared.Refusal.TheVariants.{Malformed}
use Rattle.demands.specs.Run.{System, machine_of, answers}
use Rattle.demands.specs.Demand3.{Steady}
use Rattle.agreement.specs.Answers.{drawn}

-- what is made of a head, ten bytes and their time
abbrev pub Engine : Type 0
Engine = Head → List ℕ → ℕ → Answered

-- ten bytes
pub record TenBytes (ten : List ℕ) : Type 0 where
  pub long : length ten ≡ 10
  pub small : (i : ℕ) → get_or ten i 0 < 256

-- a head with no bytes gathered, in ten places
pub record Idle (h : Head) : Type 0 where
  pub none : h.ear.count ≡ 0
  pub places : length h.ear.bytes ≡ 10

-- byte i comes at τ i, no gap is above 10 ms, and ten bytes or more are lent
pub record Given (τ : ℕ → ℕ) (space : List ℕ) : Type 0 where
  pub steady : Steady τ
  pub room : 10 ≤ length space

-- the head after bytes, one byte call each
abbrev pub fed_by : System → List ℕ → (ℕ → ℕ) → ℕ → Head → List ℕ → Head
fed_by m [] τ i h space = h
fed_by m (b ∷ bs) τ i h space = fed_by m bs τ (suc i) (m.on_head.byte h b (τ i) (length space)).head space

-- ---- telegrams one after another: each with the times of its bytes
pub record Sent : Type 0 where
  pub ten : List ℕ
  pub times : ℕ → ℕ

pub data AllSent (space : List ℕ) : List Sent → Type 0 where
  end : AllSent space []
  then : {s : Sent} {ss : List Sent} → TenBytes s.ten → Given s.times space → AllSent space ss → AllSent space (s ∷ ss)

-- the replies of the head, and its state after all
abbrev pub head_draws : System → List Sent → Head → List ℕ → List (List ℕ)
head_draws m [] h space = []
head_draws m (s ∷ ss) h space = answers (machine_of m) s.ten s.times 0 h space ++ head_draws m ss (fed_by m s.ten s.times 0 h space) space

abbrev pub head_last : System → List Sent → Head → List ℕ → Head
head_last m [] h space = h
head_last m (s ∷ ss) h space = head_last m ss (fed_by m s.ten s.times 0 h space) space

-- and of the engine
abbrev pub engine_draws : Engine → List Sent → Head → List (List ℕ)
engine_draws e [] h = []
engine_draws e (s ∷ ss) h = drawn (e h s.ten (s.times 9)) ++ engine_draws e ss (e h s.ten (s.times 9)).head

abbrev pub engine_last : Engine → List Sent → Head → Head
engine_last e [] h = h
engine_last e (s ∷ ss) h = engine_last e ss (e h s.ten (s.times 9)).head

-- ---- at a desk: all telegrams at time 0
abbrev pub at_once : List ℕ → Sent
at_once ten = record { ten = ten; times = λ i. 0 }

pub data AllTen : List (List ℕ) → Type 0 where
  none : AllTen []
  more : {ten : List ℕ} {tens : List (List ℕ)} → TenBytes ten → AllTen tens → AllTen (ten ∷ tens)

pub record Agreement (m : System) (e : Engine) : Type 0 where
  -- the byte-fed head's state is the engine's
  pub state : (h : Head) (ten : List ℕ) (τ : ℕ → ℕ) (space : List ℕ) → Idle h → TenBytes ten → Given τ space → fed_by m ten τ 0 h space ≡ (e h ten (τ 9)).head
  -- and its replies are: the engine's one, or none
  pub replies : (h : Head) (ten : List ℕ) (τ : ℕ → ℕ) (space : List ℕ) → Idle h → TenBytes ten → Given τ space
      → answers (machine_of m) ten τ 0 h space ≡ drawn (e h ten (τ 9))
  -- so it is for telegrams one after another
  pub all_replies_lem : (ss : List Sent) (h : Head) (space : List ℕ) → Idle h → AllSent space ss → head_draws m ss h space ≡ engine_draws e ss h
  pub last_state : (ss : List Sent) (h : Head) (space : List ℕ) → Idle h → AllSent space ss → head_last m ss h space ≡ engine_last e ss h
  -- and so the replies of bench, which feeds the bytes one by one to a head as the factory delivers it, are those of office, which puts the telegrams whole to such a head
  pub desks : (tens : List (List ℕ)) → AllTen tens
      → head_draws m (map at_once tens) (factory_of 0) (replicate 10 0) ≡ engine_draws e (map at_once tens) (factory_of 0)
  -- 20 first: a head that is not well-formed is handed back as it is; no other is refused
  pub refuses : (h : Head) (ten : List ℕ) (t : ℕ) → wellformed_of h ≡ false → e h ten t ≡ record { head = h; outcome = Refused Malformed; reply = replicate 10 0 }
  pub takes : (h : Head) (ten : List ℕ) (t : ℕ) → wellformed_of h ≡ true → (e h ten t).outcome ≡ Refused Malformed → ⊥
  -- where there is no reply its ten bytes are 0
  pub quiet : (h : Head) (ten : List ℕ) (t : ℕ) → TenBytes ten → (e h ten t).outcome ≡ Silence → (e h ten t).reply ≡ replicate 10 0
  -- bytes that a head has gathered are dropped: they make no difference
  pub drops : (h : Head) (ear : Ear) (ten : List ℕ) (t : ℕ) → TenBytes ten → wellformed_of h ≡ true → wellformed_of (with_ear h ear) ≡ true → e (with_ear h ear) ten t ≡ e h ten t
  -- each reply passes its own check
  pub sound : (h : Head) (ten : List ℕ) (t : ℕ) → TenBytes ten → (e h ten t).outcome ≡ Reply → hit_of (e h ten t).reply ≡ 0
