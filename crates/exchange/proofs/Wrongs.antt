-- The wrong ends fail: each by a question, put to a new head at 31 or to a line of it, that is read back as something else than was meant, or not met with
-- silence; the master that takes any node by the replies of two heads. Head and line are as the promise asks, so that it is not an empty one.
-- Assumes nothing.
use Prim.Native.Nat.{ℕ, ◌+◌, ◌*◌, ◌<◌}
use mathlib.Core.Path.{◌≡◌, refl, sym, ◌∙◌, ap}
use mathlib.Core.Bool.{true}
use mathlib.Core.Logic.{◌≢◌, ⊎_elim}
use mathlib.Core.List.{List, [], ◌∷◌, map}
use native.Mathlib.Omega.{arith}
use lib.ListN.{length, replicate, take}
use Rattle.wire.specs.declared.telegram.Telegram.{Telegram}
use Rattle.state.specs.declared.parts.Head.{Head}
use Rattle.effects.specs.Restart.{fresh_of}
use Rattle.head.specs.Calls.{byte_space_of}
use Rattle.line.specs.declared.calls.Line.{Line}
use Rattle.line.specs.Calls as line
use Rattle.demands.specs.Run.{System, product}
use Rattle.demands.specs.Wrong.{refusing, counting, inventing, zeroing}
use Rattle.demands.proofs.Computing.{computing}
use Rattle.demands.proofs.Bounded.{bounded}
use Rattle.demands.specs.Cases.{gathered}
use Rattle.master.specs.declared.Reading.{Reading}
use Rattle.master.specs.declared.Reading.TheVariants.{Value, Error, Foreign}
use Rattle.master.specs.Master.{built_of, meaning_of, reading_of}
use Rattle.master.specs.Demand as master
use Rattle.master.specs.Demand.{Master}
use Rattle.master.specs.Wrong.{any_node, no_errors, always_error, never_error, value_to_write, value_to_read}
use Rattle.exchange.specs.Typed.{Typed}
use Rattle.exchange.specs.Meant.{is_offer, meant_of, unanswered}
use Rattle.exchange.specs.Exchange.{Asks, Ready, Given, Quiet, drawn, line_answers, Exchange}
use Rattle.exchange.specs.Wrong.{saying, next_node, error_at_zero, one_more_of, Wrong}

-- ---- a head at 31 as it is made is ready, and so is a line of it alone
abbrev new : Head
new = fresh_of 31 0

new_typed : Typed new
unfolding computing
new_typed =
    record {
      stored = record { values = bounded 4294967296 (omega arith) new.stored.values refl };
      targets = record { first = omega arith; second = omega arith };
      faults = record {
        memory = record { codes = bounded 65536 (omega arith) new.faults.memory.codes refl; count = omega arith };
        inputs = record { codes = bounded 65536 (omega arith) new.faults.inputs.codes refl; count = omega arith };
        pending = omega arith;
      };
      ear = record { places = refl };
    }

new_ready : Ready new
unfolding computing
new_ready = record { typed = new_typed; well = refl; none = refl }

abbrev alone : Line
alone = (line.grow_of line.empty_of 31 0).line

alone_quiet : Quiet alone
unfolding computing
alone_quiet =
    record {
      fits = record { fits = refl; places = refl };
      ready = λ k p. let z : k ≡ 0 = omega arith in rw z new_ready;
      differ = λ j k p q n. absurd (n (omega arith));
    }

abbrev space : List ℕ
space = replicate 10 0

-- all bytes at time 0
at_once_lem : Given (λ i. 0) space
unfolding computing
at_once_lem = record { steady = λ i. omega arith; room = omega arith }

-- ---- a read and a write at node 31
abbrev reads : ℕ → Telegram
reads parameter = record { command = 0; node = 31; parameter = parameter; word = 0; value = 0 }

abbrev writes : ℕ → ℕ → Telegram
writes parameter value = record { command = 1; node = 31; parameter = parameter; word = 0; value = value }

reads_asks : (p : ℕ) → p < 256 → Asks (reads p)
reads_asks p small =
    record {
      fits = record { command = omega arith; node = omega arith; parameter = small; word = omega arith; value = omega arith };
      may = record { command = omega arith; node = omega arith };
    }

writes_asks : (p v : ℕ) → p < 256 → v < 4294967296 → Asks (writes p v)
writes_asks p v small word =
    record {
      fits = record { command = omega arith; node = omega arith; parameter = small; word = omega arith; value = word };
      may = record { command = omega arith; node = omega arith };
    }

-- ---- what is read, as a number: others for other readings
abbrev told : List Reading → ℕ
told [] = 0
told (Value v ∷ rs) = 3 * v + 1
told (Error code ∷ rs) = 3 * code + 2
told (Foreign ∷ rs) = 3

-- a question that is read back as x, where y was meant
module _ (m : System) (e : Master) (x y : List Reading) where
  abbrev ReadsAs : Telegram → Type 0
  ReadsAs q = (map (e.read q) (drawn m e q (λ i. 0) space new) ≡ x) × (meant_of q new ≡ y)

  misread : told x ≢ told y → (q : Telegram) → Asks q → ReadsAs q → Exchange m e → ⊥
  misread differ q a (is, meant) exchange = differ (ap told (sym is ∙ exchange.read_back q (λ i. 0) space new a at_once_lem new_ready ∙ meant))

  misread_line : told x ≢ told y → (q : Telegram) → Asks q → q.node ≡ 31
      → (map (e.read q) (line_answers m.on_line_of (e.build q).ten (λ i. 0) 0 alone space) ≡ x) × (meant_of q new ≡ y) → Exchange m e → ⊥
  unfolding computing
  misread_line differ q a own (is, meant) exchange =
      differ (ap told (sym is ∙ exchange.on_line q (λ i. 0) space alone a at_once_lem alone_quiet 0 (omega arith) (sym own) ∙ meant))

-- one that is not to be answered, and draws something
answered : (m : System) (e : Master) (q : Telegram) → Asks q → unanswered q new ≡ true → length (drawn m e q (λ i. 0) space new) ≢ 0 → Exchange m e → ⊥
answered m e q a due some exchange = some (ap length ((exchange.silent q (λ i. 0) space new a at_once_lem new_ready).1 due))

-- ---- a reply of a head at 12, and one of a head at 31, to a read of 20h, whose tenth bytes are 2Ch and 3Fh
abbrev asked12 : Head
asked12 = gathered (fresh_of 12 0) 0x000C20000000000000

abbrev asked31 : Head
asked31 = gathered new 0x001F20000000000000

both_read : (e : Master) → told (e.read (reads 0x20) (take 10 (byte_space_of asked12 0x2C 0 space)) ∷ []) ≢ 3
    → told (e.read (reads 0x20) (take 10 (byte_space_of asked31 0x3F 0 space)) ∷ []) ≢ 3 → Exchange product e → ⊥
unfolding computing
both_read e not12 not31 exchange =
    ⊎_elim (λ f. not12 (ap (λ (r : Reading). told (r ∷ [])) f)) (λ f. not31 (ap (λ (r : Reading). told (r ∷ [])) f))
    (exchange.apart (reads 0x20) 0x2C 0 0x3F 0 space space asked12 asked31 (record { well = refl; room = omega arith }) (record { well = refl; room = omega arith }) refl refl (λ n. omega arith))

abbrev five : List Reading
five = Value 5 ∷ []

-- a write of 90 to 04h is above its range
abbrev above : List Reading
above = Error 0x0282 ∷ []

pub wrong : Wrong
unfolding computing built_of meaning_of reading_of meant_of is_offer
wrong =
    record {
      refusing_fails = λ why. misread (refusing why) master.product [] five (λ n. omega arith) (reads 0x20) (reads_asks 0x20 (omega arith)) (refl, refl);
      counting_fails = λ exchange. answered (counting 1) master.product (writes 0xD2 5) (writes_asks 0xD2 5 (omega arith) (omega arith)) refl (λ n. omega arith) exchange;
      next_node_fails = misread (saying next_node) master.product (Foreign ∷ []) five (λ n. omega arith) (reads 0x20) (reads_asks 0x20 (omega arith)) (refl, refl);
      error_at_zero_fails =
          misread (saying error_at_zero) master.product (Foreign ∷ []) above (λ n. omega arith) (writes 0x04 90) (writes_asks 0x04 90 (omega arith) (omega arith)) (refl, refl);
      one_more_fails = misread (saying one_more_of) master.product (Value 6 ∷ []) five (λ n. omega arith) (reads 0x20) (reads_asks 0x20 (omega arith)) (refl, refl);
      inventing_fails = misread (inventing 0x80 7) master.product (Value 7 ∷ []) (Value 0 ∷ []) (λ n. omega arith) (reads 0x80) (reads_asks 0x80 (omega arith)) (refl, refl);
      zeroing_fails = misread_line zeroing master.product (Foreign ∷ []) five (λ n. omega arith) (reads 0x20) (reads_asks 0x20 (omega arith)) refl (refl, refl);
      any_node_fails = both_read any_node (λ n. omega arith) (λ n. omega arith);
      no_errors_fails =
          misread product no_errors (Foreign ∷ []) above (λ n. omega arith) (writes 0x04 90) (writes_asks 0x04 90 (omega arith) (omega arith)) (refl, refl);
      always_error_fails = misread product always_error (Error 0 ∷ []) (Value 0 ∷ []) (λ n. omega arith) (reads 0xFD) (reads_asks 0xFD (omega arith)) (refl, refl);
      never_error_fails =
          misread product never_error (Value 0x0282 ∷ []) above (λ n. omega arith) (writes 0x04 90) (writes_asks 0x04 90 (omega arith) (omega arith)) (refl, refl);
      value_to_write_fails =
          misread product value_to_write (Value 0x0184 ∷ []) (Error 0x0184 ∷ []) (λ n. omega arith) (writes 0xFD 5) (writes_asks 0xFD 5 (omega arith) (omega arith)) (refl, refl);
      value_to_read_fails = misread product value_to_read (Value 0x0083 ∷ []) (Error 0x0083 ∷ []) (λ n. omega arith) (reads 0x23) (reads_asks 0x23 (omega arith)) (refl, refl);
    }
