-- Versions that are wrong in Auto-ID (document 02, request (ii)): one as a system of its own, which does not meet Demand3; the others wrong in one call on
-- a head alone or on a line, whatever the other calls do, and no system that is so meets Demand2, or Offers with it, or OfferUnseen.
-- Assumes nothing.
use Rattle.std.specs.Prelude.{ℕ, ◌≡◌, true, cond, ◌≢◌, List, [], ◌∷◌, eqb, set, Ok}
use Rattle.wire.specs.Check.{hit_of}
use Rattle.wire.specs.Telegram.{bytes_of, fields_of, ten_in}
use Rattle.state.specs.declared.parts.Head.{Head}
use Rattle.state.specs.Status.{status_of}
use Rattle.state.specs.declared.parts.Measurement.{Measurement}
use Rattle.state.specs.With.{with_stored, with_faults, with_measurement, with_keys, with_offer, with_pending}
use Rattle.effects.specs.Restart.{restarted_of, adopted_of}
use Rattle.reply.specs.Reply.{adoption_of}
use Rattle.head.specs.Hear.{gathered_of}
use Rattle.head.specs.Moves.{keyed_of}
use Rattle.head.specs.Calls as head
use Rattle.head.specs.Outcome as alone
use Rattle.line.specs.declared.calls.Line.{Line}
use Rattle.line.specs.Calls as line
use Rattle.rack.specs.Rack as rack
use Rattle.demands.specs.Run.{System, product, ask_of, machine_of}
use Rattle.demands.specs.Demand2.{Demand2}
use Rattle.demands.specs.Demand3.{Demand3}
use Rattle.demands.specs.AutoId.{Offers}
use Rattle.demands.specs.Unseen.{OfferUnseen}

-- ---- adopts at the write: after each byte, every head that is offered a number has adopted it
abbrev pub at_write : List Head → List Head
at_write [] = []
at_write (h ∷ hs) = cond (eqb h.stored.offer 0) h (adopted_of h) ∷ at_write hs

abbrev pub eager : System
eager =
    record {
      on_head = product.on_head;
      on_line_of = record {
        grow = line.grow_of;
        byte = λ l b t n.
            let f = line.byte_of l b t n in
            record { line = record { heads = at_write f.line.heads; count = f.line.count }; heard = f.heard };
        space = line.byte_space_of;
        tick = line.tick_of;
        ask = ask_of;
        hit = line.last_hit_of;
        keys = line.keys_of;
        key_space = line.keys_space_of;
        save = line.save_of;
        sheet = line.save_space_of;
        serial = line.serial_number_of;
        rack = rack.rack_of;
        rack_space = rack.rack_space_of;
      };
    }

-- ---- the key state 4 of a head alone: adopts 5 without an offer
abbrev pub Unoffered : System → Type 0
Unoffered m =
    (h : Head) (n : ℕ) → m.on_head.keys h 4 n ≡ record { head = adopted_of (with_stored h (with_offer h.stored 5)); heard = Ok 1 }

-- switches incremental on as well, as older heads did
abbrev pub switched_on : Measurement → Measurement
switched_on g = record { m = g.m; zero = g.zero; adopted = g.adopted; incremental = true; start = g.m; frozen = g.frozen; kept = g.kept }

abbrev pub SwitchesToo : System → Type 0
SwitchesToo m = (h : Head) (n : ℕ) → (m.on_head.keys h 4 n).head ≡ with_measurement (keyed_of h 4).head (switched_on (keyed_of h 4).head.measurement)

-- stores the number, and 31 stays in force
abbrev pub StoredOnly : System → Type 0
StoredOnly m =
    (h : Head) (n : ℕ)
    → let s = (keyed_of h 4).head.stored in
    (m.on_head.keys h 4 n).head
    ≡ with_stored (keyed_of h 4).head (record { values = s.values; number = 31; baud = s.baud; offer = s.offer; serial = s.serial; unlocked = s.unlocked })

-- leaves the keys down
abbrev pub KeysDown : System → Type 0
KeysDown m = (h : Head) (n : ℕ) → (m.on_head.keys h 4 n).head ≡ with_keys (keyed_of h 4).head 4

-- drops no offer when it adopts it
abbrev pub OffersOn : System → Type 0
OffersOn m =
    (h : Head) (n : ℕ) → (m.on_head.keys h 4 n).head ≡ with_stored (keyed_of h 4).head (with_offer (keyed_of h 4).head.stored h.stored.offer)

-- tells the status word of after the new key state; tells it as the new node
abbrev pub LateWord : System → Type 0
LateWord m = (h : Head) (space : List ℕ) → m.on_head.key_space h 4 space ≡ head.laid_on_of space (adoption_of (status_of (with_keys h 4)) h.stored.offer)

abbrev pub NewNode : System → Type 0
NewNode m =
    (h : Head) (space : List ℕ)
    → m.on_head.key_space h 4 space
    ≡ head.laid_on_of space (bytes_of (record { command = 1; node = h.stored.offer; parameter = 0xD2; word = status_of h; value = h.stored.offer }))

-- ---- keeps the offer over a restart
abbrev pub OfferKept : System → Type 0
OfferKept m = (h : Head) → m.on_head.ask alone.power h ≡ head.done_with (with_stored (restarted_of h) (with_offer (restarted_of h).stored h.stored.offer))

-- ---- drops it at a damaged telegram
abbrev pub DropsAtNoise : System → Type 0
DropsAtNoise m =
    (h : Head) (b t n : ℕ) → hit_of (ten_in (gathered_of h.ear b t).ten) ≢ 0
    → (m.on_head.byte h b t n).head ≡ with_stored (head.byte_of h b t n).head (with_offer (head.byte_of h b t n).head.stored 0)

-- ---- clears the pending error when it is written D2h, refused or not
abbrev pub ClearsError : System → Type 0
ClearsError m =
    (h : Head) (b t n : ℕ) → (fields_of (ten_in (gathered_of h.ear b t).ten)).parameter ≡ 0xD2
    → let k = (head.byte_of h b t n).head in (m.on_head.byte h b t n).head ≡ with_faults k (with_pending k.faults 0)

-- ---- answers no telegram while a number is offered
abbrev pub WaitsMute : System → Type 0
WaitsMute m = (h : Head) (b t n : ℕ) → (m.on_head.byte h b t n).heard ≡ cond (eqb h.stored.offer 0) (head.byte_of h b t n).heard (Ok 0)

-- ---- a key state of head 1 of a line drops the offer of head 0
abbrev pub DropsAnothers : System → Type 0
DropsAnothers m =
    (l : Line) (s n : ℕ)
    → let k = (line.keys_of l 1 s n).line in
    let h = line.head_at k 0 in
    (m.on_line_of.keys l 1 s n).line ≡ record { heads = set k.heads 0 (with_stored h (with_offer h.stored 0)); count = k.count }

pub record WrongOffers : Type 0 where
  pub eager_fails : Demand3 (machine_of eager) → ⊥
  pub unoffered_fails : (m : System) → Unoffered m → Demand2 m → ⊥
  pub switches_too_fails : (m : System) → SwitchesToo m → Demand2 m → ⊥
  pub stored_only_fails : (m : System) → StoredOnly m → Demand2 m → ⊥
  pub keys_down_fails : (m : System) → KeysDown m → Demand2 m → ⊥
  pub offers_on_fails : (m : System) → OffersOn m → Demand2 m → ⊥
  pub late_word_fails : (m : System) → LateWord m → Demand2 m → ⊥
  pub new_node_fails : (m : System) → NewNode m → Demand2 m → ⊥
  pub offer_kept_fails : (m : System) → OfferKept m → Demand2 m → ⊥
  pub drops_at_noise_fails : (m : System) → DropsAtNoise m → Demand2 m → ⊥
  pub clears_error_fails : (m : System) → ClearsError m → Offers m → Demand2 m → ⊥
  pub waits_mute_fails : (m : System) → WaitsMute m → OfferUnseen m → ⊥
  pub drops_anothers_fails : (m : System) → DropsAnothers m → Demand2 m → ⊥
