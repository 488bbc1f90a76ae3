-- The seven checks of a telegram's way through the head (document 01), one definition each.
-- Assumes nothing.
use Rattle.std.specs.Prelude.{ℕ, Bool, cond, not, ◌&&◌, ◌||◌, eqb, ltb}
use Rattle.wire.specs.declared.fault.Fault.TheVariants.{CheckSum, Unlisted, Below, Above, UnknownParameter, NoAccess, WriteRefused, ReadRefused, DeviceState, Locked}
use Rattle.rows.specs.declared.access.Access.{Access}
use Rattle.rows.specs.declared.access.Access.TheVariants.{ReadWrite, ReadOnly, WriteOnly, Unknown}
use Rattle.rows.specs.declared.range.Range.{Range}
use Rattle.rows.specs.declared.range.Range.TheVariants.{Right, Low, High, Between}
use Rattle.rows.specs.Among.{among}
use Rattle.rows.specs.Access.{stored}
use Rattle.judge.specs.declared.command.Command.{Command}
use Rattle.judge.specs.declared.command.Command.TheVariants.{Read, Write, Broadcast, Other}
use Rattle.judge.specs.declared.verdict.Verdict.{Verdict}
use Rattle.judge.specs.declared.verdict.Verdict.TheVariants.{Obeyed, Silent, Refused}
use Rattle.judge.specs.Commands.{reads_of, writes_of, casts_of, changes_of}

-- the first check that applies decides
infixr 20 ◌else◌
unfoldable pub ◌else◌ : Verdict → Verdict → Verdict
Obeyed else v = v
Silent else v = Silent
Refused f else v = Refused f

-- 1. exclusive-or not 0: answered only if the node byte is the number in force and the command is not 02h
unfoldable pub sum_check : ℕ → Command → Bool → Verdict
sum_check hit c mine = cond (eqb hit 0) Obeyed (cond (mine && not (casts_of c)) (Refused CheckSum) Silent)

-- 2. not a broadcast, and the node byte is not the number in force
unfoldable pub node_check : Command → Bool → Verdict
node_check c mine = cond (casts_of c || mine) Obeyed Silent

-- 3. command above 02h
unfoldable pub command_check : Command → Verdict
command_check Read = Obeyed
command_check Write = Obeyed
command_check Broadcast = Obeyed
command_check Other = Refused NoAccess

-- 4. unknown parameter
unfoldable pub parameter_check : Access → Verdict
parameter_check ReadWrite = Obeyed
parameter_check ReadOnly = Obeyed
parameter_check WriteOnly = Obeyed
parameter_check Unknown = Refused UnknownParameter

-- 5. a broadcast only where one is allowed; no write to read only, no read of write only
abbrev pub group_check : Command → Access → Verdict
group_check c ReadWrite = Obeyed
group_check c ReadOnly = cond (writes_of c) (Refused WriteRefused) Obeyed
group_check c WriteOnly = cond (reads_of c) (Refused ReadRefused) Obeyed
group_check c Unknown = Obeyed

unfoldable pub access_check : Command → Access → Bool → Verdict
access_check c a castable = cond (casts_of c) (cond castable Obeyed Silent) (group_check c a)

-- 6. locked, and the write or broadcast is to one of the 39 or A0h
unfoldable pub lockable_of : ℕ → Bool
lockable_of a = among stored a || eqb a 0xA0

unfoldable pub lock_check : Bool → Command → ℕ → Verdict
lock_check locked c a = cond (locked && (changes_of c && lockable_of a)) (Refused Locked) Obeyed

-- 6. (document 02, request (ii)) a number is offered, by D2h, where the number in force is not 31
unfoldable pub state_check : ℕ → Command → ℕ → Verdict
state_check number c a = cond (changes_of c && (eqb a 0xD2 && not (eqb number 31))) (Refused DeviceState) Obeyed

-- 7. value below low, above high, in between and not listed
unfoldable pub range_check : Range → Verdict
range_check Right = Obeyed
range_check Low = Refused Below
range_check High = Refused Above
range_check Between = Refused Unlisted

unfoldable pub value_check : Command → Range → Verdict
value_check c g = cond (changes_of c) (range_check g) Obeyed

-- 7. for 96h a number above the count
unfoldable pub number_check : ℕ → ℕ → ℕ → Verdict
number_check a number inputs = cond (eqb a 0x96 && ltb inputs number) (Refused Above) Obeyed

-- a refused broadcast is silent
abbrev quiet : Verdict → Verdict
quiet Obeyed = Obeyed
quiet Silent = Silent
quiet (Refused f) = Silent

unfoldable pub hush_of : Command → Verdict → Verdict
hush_of c v = cond (casts_of c) (quiet v) v
