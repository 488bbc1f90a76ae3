-- The verdict on a telegram (document 01, "A telegram's way through the head"): the checks in order, from the telegram, the number in
-- force, the lock and the count of input errors alone.
-- Assumes nothing.
use Rattle.std.specs.Prelude.{ℕ, Bool, eqb}
use Rattle.wire.specs.declared.telegram.Telegram.{Telegram}
use Rattle.wire.specs.Word.{byte0}
use Rattle.rows.specs.Access.{access_of, broadcast_of}
use Rattle.rows.specs.Ranges.{range_of}
use Rattle.judge.specs.declared.verdict.Verdict.{Verdict}
use Rattle.judge.specs.declared.verdict.Standing.{Standing}
use Rattle.judge.specs.Commands.{command_of}
use Rattle.judge.specs.Checks.{◌else◌, sum_check, node_check, command_check, parameter_check, access_check, lock_check, state_check, value_check, number_check, hush_of}

-- checks 3 to 7
unfoldable pub late_of : Telegram → Standing → Verdict
late_of t s =
    hush_of (command_of t.command)
    (command_check (command_of t.command)
    else parameter_check (access_of t.parameter)
    else access_check (command_of t.command) (access_of t.parameter) (broadcast_of t.parameter)
    else lock_check s.locked (command_of t.command) t.parameter
    else state_check s.number (command_of t.command) t.parameter
    else value_check (command_of t.command) (range_of t.parameter t.value)
    else number_check t.parameter (byte0 t.value) s.inputs)

-- the node byte is the number in force
abbrev pub mine_of : Telegram → Standing → Bool
mine_of t s = eqb t.node s.number

-- checks 1 and 2, then the others; hit is the exclusive-or of the ten bytes
unfoldable pub verdict_of : ℕ → Telegram → Standing → Verdict
verdict_of hit t s =
    sum_check hit (command_of t.command) (mine_of t s)
    else node_check (command_of t.command) (mine_of t s)
    else late_of t s
