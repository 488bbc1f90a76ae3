-- What an accepted write or broadcast does to a head alone, by its address, value and control word (document 01, "What each one does"; alpha-numeric display:
-- document 02, request (ix)), in every part that is not stored. What it stores is found by looking back (Past; call by call: `stores` of Every), and A0h 9 restarts the head (`restarts` of Demand2).
-- Assumes nothing.
use Rattle.std.specs.Prelude.{ℕ, ◌≡◌, Bool, false, cond, not, ◌&&◌, ◌||◌, eqb}
use Rattle.state.specs.declared.parts.Head.{Head}
use Rattle.state.specs.Bits.{bit_set}
use Rattle.state.specs.Errors.{empty_list}
use Rattle.state.specs.Position.{view_of}
use Rattle.demands.specs.Alone.{setting, displays, stays, bit5}

-- what it does: FBh, FFh, A7h or A0h 7, AAh, A0h 8; any other does none of these
pub record Act : Type 0 where
  pub first : Bool
  pub second : Bool
  pub calibrates : Bool
  pub freezes : Bool
  pub empties : Bool

abbrev pub act_of : ℕ → ℕ → Act
act_of p v =
    record {
      first = eqb p 0xFB;
      second = eqb p 0xFF;
      calibrates = eqb p 0xA7 || (eqb p 0xA0 && eqb v 7);
      freezes = eqb p 0xAA;
      empties = eqb p 0xA0 && eqb v 8;
    }

-- FBh and FFh take the control word
abbrev pub takes : Act → Bool
takes a = a.first || a.second

-- the head h became k by the value v and the control word w. What changes 28h, which is a write of it or a reset, may enter or leave alpha-numeric display: both
-- set points are invalid and unacknowledged then, and the static bit is cleared
pub record Acted (h k : Head) (a : Act) (v w : ℕ) : Type 0 where
  pub first : k.targets.first ≡ cond a.first v h.targets.first
  pub valid1 : k.targets.valid1 ≡ (stays h k && cond a.first (bit_set w 2) h.targets.valid1)
  pub second : k.targets.second ≡ cond a.second v h.targets.second
  pub valid2 : k.targets.valid2 ≡ (stays h k && cond a.second (bit_set w 9) h.targets.valid2)
  pub word : k.targets.word ≡ cond (takes a) w h.targets.word
  -- bit 4 clears the static bit, before an FFh write may set it, which in alpha-numeric display none does
  pub reached : k.targets.reached
      ≡ (stays h k && cond (takes a) ((h.targets.reached && not (bit_set w 4)) || (a.second && (not (displays k) && bit5 k))) h.targets.reached)
  -- a write of a set point withdraws its acknowledgement; then bits 10 and 6 give those of set points 1 and 2, where they are valid now, in alpha-numeric
  -- display alone
  pub acknowledged1 : k.targets.acknowledged1
      ≡ (stays h k && cond (takes a) (displays h && (cond a.first false h.targets.acknowledged1 || (bit_set w 10 && cond a.first (bit_set w 2) h.targets.valid1))) h.targets.acknowledged1)
  pub acknowledged2 : k.targets.acknowledged2
      ≡ (stays h k && cond (takes a) (displays h && (cond a.second false h.targets.acknowledged2 || (bit_set w 6 && cond a.second (bit_set w 9) h.targets.valid2))) h.targets.acknowledged2)
  -- bit 5 acknowledges the error if the last taken word had it 0
  pub pending : k.faults.pending ≡ cond (takes a && (bit_set w 5 && not (bit_set h.targets.word 5))) 0 h.faults.pending
  pub memory : k.faults.memory ≡ cond a.empties empty_list h.faults.memory
  pub inputs : k.faults.inputs ≡ h.faults.inputs
  pub zero : k.measurement.zero ≡ cond a.calibrates h.measurement.m h.measurement.zero
  pub adopted : k.measurement.adopted ≡ cond a.calibrates (setting h 19) h.measurement.adopted
  pub frozen : k.measurement.frozen ≡ (a.freezes || h.measurement.frozen)
  pub kept : k.measurement.kept ≡ cond a.freezes (view_of h.stored.values h.measurement).shown h.measurement.kept
  pub m : k.measurement.m ≡ h.measurement.m
  pub incremental : k.measurement.incremental ≡ h.measurement.incremental
  pub start : k.measurement.start ≡ h.measurement.start
  pub keys : k.keys ≡ h.keys
