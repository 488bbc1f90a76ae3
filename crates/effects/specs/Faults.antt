-- What a telegram does to the errors (document 01, check 1, "What each one does" and "Times and keys").
-- Assumes nothing.
use Rattle.std.specs.Prelude.{ℕ, ◌+◌, cond, not, ◌&&◌, ltb, eqb}
use Rattle.wire.specs.Faults.{code_of}
use Rattle.wire.specs.declared.fault.Fault.TheVariants.{CheckSum}
use Rattle.judge.specs.declared.deed.Deed.{Deed}
use Rattle.judge.specs.declared.deed.Deed.TheVariants.{Nothing, Store, Reset, Restart, Calibrate, Forget, Unlock, Freeze, Aim1, Aim2, ClearStatic, Release, Offer, Withdraw}
use Rattle.judge.specs.declared.verdict.Verdict.{Verdict}
use Rattle.judge.specs.declared.verdict.Verdict.TheVariants.{Obeyed, Silent, Refused}
use Rattle.state.specs.declared.parts.Faults.{Faults}
use Rattle.state.specs.Bits.{bit_set}
use Rattle.state.specs.Errors.{empty_list, remembered_of}
use Rattle.state.specs.With.{with_memory, with_inputs, with_pending, with_damaged, with_hit}

-- a raised error becomes the pending one and enters the error memory
unfoldable pub raised_of : Faults → ℕ → Faults
raised_of f code = with_pending (with_memory f (remembered_of f.memory code)) code

-- one damaged more: three in a row raise error 0080h and the count returns to 0
abbrev pub damaged_of : Faults → Faults
damaged_of f = cond (ltb f.damaged 2) (with_damaged f (f.damaged + 1)) (raised_of (with_damaged f 0) (code_of CheckSum))

-- a telegram by the exclusive-or of its ten bytes: a sound one sets the count to 0; that of a damaged one is kept, the last non-zero one
-- (document 02, request (i)), and it counts
unfoldable pub counted_of : ℕ → Faults → Faults
counted_of hit f = cond (eqb hit 0) (with_damaged f 0) (damaged_of (with_hit f hit))

-- every error reply enters the input list
unfoldable pub complained_of : Verdict → Faults → Faults
complained_of Obeyed f = f
complained_of Silent f = f
complained_of (Refused fault) f = with_inputs f (remembered_of f.inputs (code_of fault))

-- bit 5 acknowledges the error if the last taken word had it 0
unfoldable pub acknowledged_of : ℕ → ℕ → Faults → Faults
acknowledged_of word last f = cond (bit_set word 5 && not (bit_set last 5)) (with_pending f 0) f

-- a restart keeps the error memory, and clears the input list, the pending error, the last non-zero exclusive-or and the count
unfoldable pub restarted_faults : Faults → Faults
restarted_faults f = record { memory = f.memory; inputs = empty_list; pending = 0; hit = 0; damaged = 0 }

-- what a deed does to them; last is the control word that was taken before
unfoldable pub faults_by : Deed → ℕ → Faults → Faults
faults_by Nothing last f = f
faults_by (Store i word) last f = f
faults_by (Reset command) last f = f
faults_by Restart last f = f
faults_by Calibrate last f = f
faults_by Forget last f = with_memory f empty_list
faults_by (Unlock b) last f = f
faults_by Freeze last f = f
faults_by (Aim1 v word) last f = acknowledged_of word last f
faults_by (Aim2 v word) last f = acknowledged_of word last f
faults_by ClearStatic last f = f
faults_by Release last f = f
faults_by (Offer n) last f = f
faults_by Withdraw last f = f
