-- Talks between a master and a head, tried: one built question after another, put to a head made with a number, and what each is read back as. From the
-- documents: the readings are written out, and no definition of the head has a part in them.
-- Assumes nothing.
use Rattle.std.specs.Prelude.{ℕ, ◌≡◌, List, [], ◌∷◌, map, replicate}
use Rattle.wire.specs.declared.telegram.Telegram.{Telegram}
use Rattle.state.specs.declared.parts.Head.{Head}
use Rattle.effects.specs.Restart.{fresh_of}
use Rattle.demands.specs.Run as system
use Rattle.demands.specs.Cases.{split, heard_all}
use Rattle.master.specs.declared.Reading.{Reading}
use Rattle.master.specs.declared.Reading.TheVariants.{Value, Error}
use Rattle.master.specs.Demand as master
use Rattle.exchange.specs.Exchange.{drawn}

-- a question at a node, with no control word; and one of a set point, with one
abbrev reads : ℕ → ℕ → ℕ → Telegram
reads node parameter value = record { command = 0; node = node; parameter = parameter; word = 0; value = value }

abbrev writes : ℕ → ℕ → ℕ → Telegram
writes node parameter value = record { command = 1; node = node; parameter = parameter; word = 0; value = value }

abbrev casts : ℕ → ℕ → Telegram
casts parameter value = record { command = 2; node = 31; parameter = parameter; word = 0; value = value }

abbrev aims : ℕ → ℕ → ℕ → Telegram
aims node word value = record { command = 1; node = node; parameter = 0xFF; word = word; value = value }

-- what a question is read back as, and the head after it, where all bytes come at time 0
abbrev pub heard_back : Telegram → Head → List Reading
heard_back q h = map ((master.product).read q) (drawn system.product master.product q (λ i. 0) (replicate 10 0) h)

abbrev pub after : Telegram → Head → Head
after q h = heard_all ((master.product).build q).ten 0 h

-- one question, and what it means: one reading, or silence
pub record Turn : Type 0 where
  pub question : Telegram
  pub means : List Reading

abbrev gives : Telegram → ℕ → Turn
gives q value = record { question = q; means = Value value ∷ [] }

abbrev errs : Telegram → ℕ → Turn
errs q code = record { question = q; means = Error code ∷ [] }

abbrev silence : Telegram → Turn
silence q = record { question = q; means = [] }

abbrev pub talked : List Turn → Head → List (List Reading)
talked [] h = []
talked (t ∷ ts) h = heard_back t.question h ∷ talked ts (after t.question h)

abbrev pub Talk : List Turn → Head → Type 0
Talk ts h = talked ts h ≡ map (λ t. t.means) ts

-- the ten bytes that are built, written as one number
abbrev pub Built : Telegram → ℕ → Type 0
Built q ten = ((master.product).build q).ten ≡ split 10 ten

pub record Tried : Type 0 where
  -- document 01's telegrams: a read of 20h, a write of 90 to 04h; the manual's set point example, with the check sum that the formula gives
  pub built_read : Built (reads 31 0x20 0) 0x001F200000000000003F
  pub built_write : Built (writes 31 0x04 90) 0x011F0400000000005A40
  pub built_aim : Built (aims 1 0x0200 1234) 0x0101FF0200000004D22B
  -- values, and errors of checks 4, 5 and 7; each enters the input list
  pub checks : Talk (
      gives (reads 31 0x20 0) 5
      ∷ errs (reads 31 0x23 0) 0x0083
      ∷ errs (writes 31 0x65 11) 0x0184
      ∷ errs (reads 31 0xA0 0) 0x0284
      ∷ errs (writes 31 0x1E 4294947296) 0x0182
      ∷ gives (writes 31 0x1E 4294947297) 4294947297
      ∷ errs (writes 31 0x04 90) 0x0282
      ∷ errs (writes 31 0x3E 1) 0x0082
      ∷ gives (reads 31 0x96 0) 6
      ∷ gives (reads 31 0x96 0x01000000) 0x01000083
      ∷ errs (reads 31 0x96 0x09000000) 0x0282
      ∷ []
      ) (fresh_of 31 0)
  -- locked: what is refused then, and how it is opened
  pub locks : Talk (
      gives (writes 31 0x0E 1) 1
      ∷ errs (writes 31 0x04 6) 0x0385
      ∷ gives (writes 31 0xA8 1) 1
      ∷ gives (writes 31 0x04 6) 6
      ∷ gives (reads 31 0x04 0) 6
      ∷ []
      ) (fresh_of 31 0)
  -- FDh: a read of it is a value, also where the value is an error's code (three damaged telegrams raise 0080h); a write of it is an error
  pub errors : Talk (gives (reads 31 0xFD 0) 0 ∷ errs (writes 31 0xFD 5) 0x0184 ∷ []) (fresh_of 31 0)
  pub pending : Talk (gives (reads 31 0xFD 0) 0x0080 ∷ errs (writes 31 0xFD 0x0080) 0x0184 ∷ [])
      (let damaged = 0 ∷ 31 ∷ 0x20 ∷ 0 ∷ 0 ∷ 0 ∷ 0 ∷ 0 ∷ 0 ∷ 0 ∷ [] in heard_all damaged 0 (heard_all damaged 0 (heard_all damaged 0 (fresh_of 31 0))))
  -- silence: a broadcast, done or not; another node, and node 0
  pub silences : Talk (
      silence (casts 0xAA 1)
      ∷ silence (casts 0xA7 1)
      ∷ silence (reads 12 0x20 0)
      ∷ silence (reads 0 0x20 0)
      ∷ silence (writes 12 0x04 90)
      ∷ gives (reads 31 0xFA 0) 0x0100
      ∷ []
      ) (fresh_of 31 0)
  -- Auto-ID: an offer draws no reply, out of its range an error, and so does one where the number in force is not 31
  pub offers : Talk (
      silence (writes 31 0xD2 1)
      ∷ silence (writes 31 0xD2 31)
      ∷ errs (writes 31 0xD2 0) 0x0182
      ∷ errs (writes 31 0xD2 32) 0x0282
      ∷ errs (reads 31 0xD2 5) 0x0284
      ∷ []
      ) (fresh_of 31 0)
  pub refused_offers : Talk (errs (writes 12 0xD2 5) 0x0085 ∷ errs (writes 12 0xD2 32) 0x0085 ∷ []) (fresh_of 12 0)
  -- a set point's write is answered by 03h: the set point, the current value, the differential value
  pub aims_answered : Talk (
      gives (aims 31 0x0200 100) 100
      ∷ gives (writes 31 0x03 1) 1
      ∷ gives (aims 31 0x0200 100) 0
      ∷ gives (writes 31 0x03 2) 2
      ∷ gives (aims 31 0x0200 100) 4294967196
      ∷ gives (reads 31 0xFF 0) 100
      ∷ gives (reads 31 0xFC 0) 4294967196
      ∷ []
      ) (fresh_of 31 0)
  -- a new number is read back at once, and in force after A0h 9
  pub numbers : Talk (
      gives (writes 31 0x00 12) 12
      ∷ gives (reads 31 0x00 0) 12
      ∷ silence (reads 12 0x00 0)
      ∷ gives (writes 31 0xA0 9) 9
      ∷ silence (reads 31 0x00 0)
      ∷ gives (reads 12 0x00 0) 12
      ∷ []
      ) (fresh_of 31 0)
