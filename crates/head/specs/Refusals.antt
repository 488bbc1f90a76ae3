-- The numbers of the refusals (document 01, "The line, and calls refused"; sheets, serial numbers and racks: document 02, requests
-- (vii), (xi) and (x)).
-- Assumes nothing.
use Rattle.std.specs.Prelude.{ℕ}
use Rattle.sheet.specs.Refusals as sheet
use Rattle.head.specs.declared.refusal.Refusal.{Refusal}
use Rattle.head.specs.declared.refusal.Refusal.TheVariants.{Node, Full, NoHead, OutOfReach, Keys, Space, Sheet, Malformed, SerialTaken, RackLength, RackSpace}

abbrev pub refusal_of : Refusal → ℕ
refusal_of Node = 1
refusal_of Full = 2
refusal_of NoHead = 3
refusal_of OutOfReach = 4
refusal_of Keys = 5
refusal_of Space = 6
refusal_of (Sheet why) = sheet.refusal_of why
refusal_of Malformed = 20
refusal_of SerialTaken = 17
refusal_of RackLength = 15
refusal_of RackSpace = 16
