-- Each wrong master is refuted by fields of which it builds, or bytes in which it reads, something else, since what is asked of a master leaves nothing
-- open (Only).
-- Assumes nothing.
use Prim.Native.Nat.{ℕ}
use mathlib.Core.Path.{ap}
use mathlib.Core.Bool.{true≢false}
use mathlib.Core.Logic.{◌≢◌}
use mathlib.Core.List.{List, [], ◌∷◌, ◌++◌}
use native.Mathlib.Omega.{arith}
use lib.ListN.{get_or}
use Rattle.wire.specs.declared.telegram.Telegram.{Telegram}
use Rattle.wire.specs.Check.{hit_of}
use Rattle.wire.specs.Telegram.{fields_of, bytes_of}
use Rattle.master.specs.declared.Built.{Built}
use Rattle.master.specs.Master.{built_of, meaning_of, reading_of}
use Rattle.master.specs.Demand.{Master, product, number_of, Demanded}
use Rattle.master.specs.Wrong.{any_node, any_command, any_parameter, cast_answered, no_errors, nine_taken, more_taken, unchecked, always_error, never_error, value_to_write, value_to_read, upper_looked_at, upper_code, command_three, node_above, node_from_one, built_anyhow}
use Rattle.master.proofs.Demands.{demanded}
use Rattle.master.proofs.Only.{only_built, only_read}

-- fields with no control or status word
abbrev of : ℕ → ℕ → ℕ → ℕ → Telegram
of command node parameter value = record { command = command; node = node; parameter = parameter; word = 0; value = value }

-- a read and a write of 20h, a read and a write of FDh, all at node 31
abbrev reads20 : Telegram
reads20 = of 0 31 0x20 0

abbrev writes20 : Telegram
writes20 = of 1 31 0x20 5

abbrev reads_fd : Telegram
reads_fd = of 0 31 0xFD 0

abbrev writes_fd : Telegram
writes_fd = of 1 31 0xFD 5

-- a master that reads some bytes otherwise, or builds otherwise of some fields, does not do what is asked
misread : (m : Master) (q : Telegram) (x : List ℕ) → m.read q x ≢ reading_of q x → Demanded m → ⊥
misread m q x differs does = differs (only_read m product does demanded q x)

misbuilt : (m : Master) (q : Telegram) → m.build q ≢ built_of q → Demanded m → ⊥
misbuilt m q differs does = differs (only_built m product does demanded q)

-- the reply of node 12; of a write; of 21h; of a broadcast
pub any_node_lem : Demanded any_node → ⊥
unfolding reading_of meaning_of hit_of fields_of bytes_of
any_node_lem = misread any_node reads20 (bytes_of (of 0 12 0x20 5)) (λ e. true≢false (cc e))

pub any_command_lem : Demanded any_command → ⊥
unfolding reading_of meaning_of hit_of fields_of bytes_of
any_command_lem = misread any_command reads20 (bytes_of writes20) (λ e. true≢false (cc e))

pub any_parameter_lem : Demanded any_parameter → ⊥
unfolding reading_of meaning_of hit_of fields_of bytes_of
any_parameter_lem = misread any_parameter reads20 (bytes_of (of 0 31 0x21 5)) (λ e. true≢false (cc e))

pub cast_answered_lem : Demanded cast_answered → ⊥
unfolding reading_of meaning_of hit_of fields_of bytes_of
cast_answered_lem = misread cast_answered (of 2 31 0xAA 1) (bytes_of (of 2 31 0xAA 1)) (λ e. true≢false (cc e))

-- an error reply
pub no_errors_lem : Demanded no_errors → ⊥
unfolding reading_of meaning_of hit_of fields_of bytes_of
no_errors_lem = misread no_errors writes20 (bytes_of (of 1 31 0xFD 0x0282)) (λ e. true≢false (cc e))

-- nine bytes whose exclusive-or is 0; ten bytes that pass the check, and an eleventh, 0; a check sum that is hit
pub nine_taken_lem : Demanded nine_taken → ⊥
unfolding reading_of meaning_of hit_of fields_of
nine_taken_lem = misread nine_taken reads20 (0 ∷ 31 ∷ 0x20 ∷ 0 ∷ 0 ∷ 0 ∷ 0 ∷ 0 ∷ 0x3F ∷ []) (λ e. true≢false (cc e))

pub more_taken_lem : Demanded more_taken → ⊥
unfolding reading_of meaning_of hit_of fields_of bytes_of
more_taken_lem = misread more_taken reads20 (bytes_of (of 0 31 0x20 5) ++ (0 ∷ [])) (λ e. true≢false (cc e))

pub not_unchecked : Demanded unchecked → ⊥
unfolding reading_of meaning_of hit_of fields_of
not_unchecked = misread unchecked reads20 (0 ∷ 31 ∷ 0x20 ∷ 0 ∷ 0 ∷ 0 ∷ 0 ∷ 0 ∷ 5 ∷ 0x3B ∷ []) (λ e. true≢false (cc e))

-- the pending error is read; an error reply; FDh is written; an error reply to a read of 20h
pub always_error_lem : Demanded always_error → ⊥
unfolding reading_of meaning_of hit_of fields_of bytes_of
always_error_lem = misread always_error reads_fd (bytes_of (of 0 31 0xFD 0x0080)) (λ e. true≢false (cc e))

pub never_error_lem : Demanded never_error → ⊥
unfolding reading_of meaning_of hit_of fields_of bytes_of
never_error_lem = misread never_error writes20 (bytes_of (of 1 31 0xFD 0x0282)) (λ e. true≢false (cc e))

pub value_to_write_lem : Demanded value_to_write → ⊥
unfolding reading_of meaning_of hit_of fields_of bytes_of
value_to_write_lem = misread value_to_write writes_fd (bytes_of (of 1 31 0xFD 0x0184)) (λ e. true≢false (cc e))

pub value_to_read_lem : Demanded value_to_read → ⊥
unfolding reading_of meaning_of hit_of fields_of bytes_of
value_to_read_lem = misread value_to_read reads20 (bytes_of (of 0 31 0xFD 0x0083)) (λ e. true≢false (cc e))

-- an error reply with something in its upper data bytes
pub upper_looked_at_lem : Demanded upper_looked_at → ⊥
unfolding reading_of meaning_of hit_of fields_of bytes_of
upper_looked_at_lem = misread upper_looked_at writes20 (bytes_of (of 1 31 0xFD 0x01000282)) (λ e. true≢false (cc e))

pub upper_code_lem : Demanded upper_code → ⊥
unfolding reading_of meaning_of hit_of fields_of bytes_of
upper_code_lem = misread upper_code writes20 (bytes_of (of 1 31 0xFD 0x0282)) (λ e. true≢false (cc e))

-- ---- what is built
-- 0, or the number of the refusal
abbrev number : Built → ℕ
number b = number_of b.answer

-- byte 3, the parameter
abbrev third : Built → ℕ
third b = get_or b.ten 2 0

pub command_three_lem : Demanded command_three → ⊥
unfolding built_of
command_three_lem = misbuilt command_three (of 3 31 0x20 0) (λ e. omega (arith, ap number e))

pub node_above_lem : Demanded node_above → ⊥
unfolding built_of
node_above_lem = misbuilt node_above (of 0 128 0x20 0) (λ e. omega (arith, ap number e))

pub node_from_one_lem : Demanded node_from_one → ⊥
unfolding built_of
node_from_one_lem = misbuilt node_from_one (of 0 0 0x20 0) (λ e. omega (arith, ap number e))

pub built_anyhow_lem : Demanded built_anyhow → ⊥
unfolding built_of bytes_of
built_anyhow_lem = misbuilt built_anyhow (of 3 31 0x20 0) (λ e. true≢false (cc (ap third e)))
