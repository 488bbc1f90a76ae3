-- The command byte (document 01, "Ten bytes"): 00h read, 01h write, 02h broadcast; any other is above 02h.
-- Assumes nothing.
use Rattle.std.specs.Prelude.{ℕ, Bool, true, false, cond, ◌||◌, eqb}
use Rattle.judge.specs.declared.command.Command.{Command}
use Rattle.judge.specs.declared.command.Command.TheVariants.{Read, Write, Broadcast, Other}

unfoldable pub command_of : ℕ → Command
command_of b = cond (eqb b 0) Read (cond (eqb b 1) Write (cond (eqb b 2) Broadcast Other))

abbrev pub reads_of : Command → Bool
reads_of Read = true
reads_of Write = false
reads_of Broadcast = false
reads_of Other = false

abbrev pub writes_of : Command → Bool
writes_of Read = false
writes_of Write = true
writes_of Broadcast = false
writes_of Other = false

abbrev pub casts_of : Command → Bool
casts_of Read = false
casts_of Write = false
casts_of Broadcast = true
casts_of Other = false

-- a write or a broadcast
abbrev pub changes_of : Command → Bool
changes_of c = writes_of c || casts_of c
