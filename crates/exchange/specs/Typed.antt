-- A head as its types hold it: 39 words of 32 bits, set points of 32 bits, codes of 16 bits, ten places for bytes. Every head that a program can hand in is
-- so: the function `typed` is the proof.
-- Assumes nothing.
use Rattle.std.specs.Prelude.{ℕ, ◌<◌, ◌≡◌, length, get_or}
use Rattle.state.specs.declared.parts.Head.{Head}
use Rattle.state.specs.declared.parts.Stored.{Stored}
use Rattle.state.specs.declared.parts.Targets.{Targets}
use Rattle.state.specs.declared.parts.Faults.{Faults}
use Rattle.state.specs.declared.parts.ErrorList.{ErrorList}
use Rattle.state.specs.declared.parts.Ear.{Ear}
use Rattle.state.specs.Settings.{value_at}

pub record TypedValues (s : Stored) : Type 0 where
  pub values : (i : ℕ) → value_at s.values i < 4294967296

pub record TypedTargets (t : Targets) : Type 0 where
  pub first : t.first < 4294967296
  pub second : t.second < 4294967296

pub record TypedList (l : ErrorList) : Type 0 where
  pub codes : (i : ℕ) → get_or l.codes i 0 < 65536
  pub count : l.count < 4294967296

pub record TypedFaults (f : Faults) : Type 0 where
  pub memory : TypedList f.memory
  pub inputs : TypedList f.inputs
  pub pending : f.pending < 65536

pub record TypedEar (e : Ear) : Type 0 where
  pub places : length e.bytes ≡ 10

pub record Typed (h : Head) : Type 0 where
  pub stored : TypedValues h.stored
  pub targets : TypedTargets h.targets
  pub faults : TypedFaults h.faults
  pub ear : TypedEar h.ear
