-- Whatever a head can send is a word of four bytes, and a code one of two, where the head is as its types hold it.
-- Assumes nothing.
use Prim.Native.Nat.{ℕ, ◌-◌, ◌<◌}
use mathlib.Core.Bool.{Bool, true, false, cond}
use native.Mathlib.Omega.{arith}
use lib.Dec.{eqb, ltb}
use lib.ListN.{get_or}
use Rattle.wire.specs.declared.fault.Fault.{Fault}
use Rattle.wire.specs.declared.fault.Fault.TheVariants.{CheckSum, Timeout, Unlisted, Below, Above, UnknownParameter, NoAccess, WriteRefused, ReadRefused, DeviceState, Locked}
use Rattle.wire.specs.Word.{byte0}
use Rattle.wire.specs.Faults.{code_of}
use Rattle.signed.proofs.Laws.{word_fits}
use Rattle.rows.specs.declared.kind.Kind.{Kind}
use Rattle.rows.specs.declared.kind.Kind.TheVariants.{Stored, SetPoint1, SetPoint2, ReadOnly, WriteOnly, Unknown}
use Rattle.rows.specs.declared.kind.Shown.{Shown}
use Rattle.rows.specs.declared.kind.Shown.TheVariants.{Identification, Version, ErrorCount, ErrorAt, InputErrors, StatusWord, Differential, Pending, Position}
use Rattle.state.specs.declared.parts.Head.{Head}
use Rattle.state.specs.declared.parts.ErrorList.{ErrorList}
use Rattle.state.specs.Settings.{value_at, response_place}
use Rattle.state.specs.Errors.{entry_of}
use Rattle.state.proofs.Laws.{status_fits}
use Rattle.reply.specs.Reply.{input_of, position_word, read_of, answer_of}
use Rattle.exchange.specs.Typed.{Typed, TypedList}

abbrev IsWord : ℕ → Type 0
IsWord n = n < 4294967296

either : (b : Bool) (x y : ℕ) → IsWord x → IsWord y → IsWord (cond b x y)
either true x y p q = p
either false x y p q = q

-- ---- the error lists
code_small : (l : ErrorList) → TypedList l → (i : ℕ) → entry_of l i < 65536
unfolding entry_of
code_small l t i = go (ltb i l.count)
  where
    go : (b : Bool) → cond b (get_or l.codes i 0) 0 < 65536
    go true = t.codes i
    go false = omega arith

input_word : (l : ErrorList) → TypedList l → (v : ℕ) → IsWord (input_of l (byte0 v))
unfolding input_of
input_word l t v = either (eqb (byte0 v) 0) l.count _ t.count (omega (arith, code_small l t (byte0 v - 1)))

pub fault_small : (f : Fault) → code_of f < 65536
fault_small CheckSum = omega arith
fault_small Timeout = omega arith
fault_small Unlisted = omega arith
fault_small Below = omega arith
fault_small Above = omega arith
fault_small UnknownParameter = omega arith
fault_small NoAccess = omega arith
fault_small WriteRefused = omega arith
fault_small ReadRefused = omega arith
fault_small DeviceState = omega arith
fault_small Locked = omega arith

-- ---- what a read shows, and what a write is answered with
module _ (h : Head) (t : Typed h) (v : ℕ) where
  shown_word : (s : Shown) → IsWord (read_of (ReadOnly s) h v)
  unfolding read_of position_word
  shown_word Identification = omega arith
  shown_word Version = omega arith
  shown_word ErrorCount = t.faults.memory.count
  shown_word (ErrorAt i) = omega (arith, code_small h.faults.memory t.faults.memory i)
  shown_word InputErrors = input_word h.faults.inputs t.faults.inputs v
  shown_word StatusWord = omega (arith, status_fits h)
  shown_word Differential = word_fits _
  shown_word Pending = omega (arith, t.faults.pending)
  shown_word Position = word_fits _

  pub read_word : (k : Kind) → IsWord (read_of k h v)
  unfolding read_of
  read_word (Stored i) = t.stored.values i
  read_word SetPoint1 = t.targets.first
  read_word SetPoint2 = t.targets.second
  read_word (ReadOnly s) = shown_word s
  read_word (WriteOnly o) = omega arith
  read_word Unknown = omega arith

  pub answer_word : (a : ℕ) → IsWord v → IsWord (answer_of a h v)
  unfolding answer_of
  answer_word a p =
      let r = value_at h.stored.values response_place in
      either (eqb a 0xFF) _ _ (either (eqb r 1) _ _ (word_fits _) (either (eqb r 2) _ _ (word_fits _) p)) p
