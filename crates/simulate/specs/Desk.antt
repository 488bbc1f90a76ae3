-- What a command does to the desk: each line of a script makes just the calls that its meaning names.
-- Assumes nothing.
use Rattle.std.specs.Prelude.{ℕ, min, List, [], ◌∷◌, ◌++◌, slice_index, Ok, Err, Result, ⊤}
use Prim.Native.Char.{code}
use Rattle.hex_digits.specs.Digits.{digits_of}
use Rattle.wire.specs.declared.telegram.Telegram.{Telegram}
use Rattle.master.specs.Master.{built_of}
use Rattle.line.specs.declared.calls.Line.{Line}
use Rattle.line.specs.declared.calls.Called.{Called}
use Rattle.line.specs.Calls.{empty_of, grow_of, tick_of, measure_of, keys_of, power_of, bring_of, load_of}
use Rattle.rack.specs.Rack.{rack_of}
use Rattle.script.specs.declared.Command.{Command}
use Rattle.script.specs.declared.Command.TheVariants as command
use Rattle.script.specs.Meaning.{meaning_of, byte_at_of, largest_space}
use Rattle.simulate.specs.declared.desk.Desk.{Desk}
use Rattle.simulate.specs.Ask.{question_of}
use Rattle.simulate.specs.Carried.{brought_of}
use Rattle.simulate.specs.Feeding.{fed_of}
use Rattle.master.specs.declared.Refusal.{Refusal}

-- no head, and space for one reply
unfoldable pub desk_of : Desk
desk_of = record { line = empty_of; space = 10 }

-- the answer that shows an exclusive-or: its two digits
unfoldable pub hit_line_of : ℕ → List ℕ
hit_line_of x = code "x" ∷ code "o" ∷ code "r" ∷ code " " ∷ (digits_of (x ∷ []) ++ (code "\n" ∷ []))

-- there never is more space than the most
abbrev pub room_of : ℕ → ℕ
room_of size = min size largest_space

-- the line that is left; the space stays
abbrev pub left_of : Desk → Line → Desk
left_of d l = record { line = l; space = d.space }

-- the line after a call, and after a key state with the room that there is
abbrev pub called_of : Desk → Called → Desk
called_of d c = left_of d c.line

abbrev pub pressed_of : Desk → ℕ → ℕ → Desk
pressed_of d at state = left_of d (keys_of d.line at state (room_of d.space)).line

-- the desk after so many bytes, with the room that there is
unfoldable pub feed_of : Desk → (ℕ → ℕ) → ℕ → ℕ → Desk
feed_of d nth time count = left_of d (fed_of nth time (room_of d.space) d.line count)

-- a question: the ten bytes of its telegram; where none is built nothing changes
abbrev pub if_built : Result ⊤ Refusal → Desk → Desk → Desk
if_built (Ok tt) fed d = fed
if_built (Err why) fed d = d

unfoldable pub asked_of : Desk → ℕ → Telegram → Desk
asked_of d time question =
    let b = built_of question in
    if_built b.answer (feed_of d (λ (i : ℕ). slice_index b.ten i) time 10) d

-- the line after a rack of these bytes, with the room that there is
unfoldable pub racked_of : Desk → ℕ → ℕ → List ℕ → Desk
racked_of d time place bytes = left_of d (rack_of d.line bytes time (room_of d.space) place).line

-- other space
abbrev pub spaced_of : Desk → ℕ → Desk
spaced_of d size = record { line = d.line; space = size }

-- what each command calls; a line that is passed over, one that is none of the commands, and the calls that only read change nothing
abbrev pub did_of : Command → List ℕ → Desk → Desk
did_of command.Blank text d = d
did_of command.Malformed text d = d
did_of (command.Grow node serial) text d = called_of d (grow_of d.line node serial)
did_of (command.Send time from count) text d = feed_of d (byte_at_of text from) time count
did_of (command.Tick time) text d = called_of d (tick_of d.line time)
did_of (command.Measure at value) text d = called_of d (measure_of d.line at value)
did_of (command.Keys at state) text d = pressed_of d at state
did_of (command.Power at) text d = called_of d (power_of d.line at)
did_of (command.Space size) text d = spaced_of d size
did_of (command.Xor at) text d = d
did_of (command.Ask time command node parameter word value) text d = asked_of d time (question_of command node parameter word value)
did_of (command.Save at) text d = d
did_of (command.Load at from count) text d = called_of d (load_of d.line at (brought_of text from count))
did_of (command.Rack time place from count) text d = racked_of d time place (brought_of text from count)
did_of (command.Bring at) text d = called_of d (bring_of d.line at)

unfoldable pub obeyed_of : Desk → List ℕ → Desk
obeyed_of d text = did_of (meaning_of text) text d
