-- The two-byte code of each kind of error, code 2 above code 1 (document 01, "A telegram's way through the head"; manual 6.5.1).
-- Assumes nothing.
use Rattle.std.specs.Prelude.{ℕ}
use Rattle.wire.specs.declared.fault.Fault.{Fault}
use Rattle.wire.specs.declared.fault.Fault.TheVariants.{CheckSum, Timeout, Unlisted, Below, Above, UnknownParameter, NoAccess, WriteRefused, ReadRefused, DeviceState, Locked}

abbrev pub code_of : Fault → ℕ
code_of CheckSum = 0x0080
code_of Timeout = 0x0081
code_of Unlisted = 0x0082
code_of Below = 0x0182
code_of Above = 0x0282
code_of UnknownParameter = 0x0083
code_of NoAccess = 0x0084
code_of WriteRefused = 0x0184
code_of ReadRefused = 0x0284
code_of DeviceState = 0x0085
code_of Locked = 0x0385
