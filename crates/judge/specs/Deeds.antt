-- What a telegram does, once it is judged (document 01, "What each one does"; D2h: document 02, request (ii)).
-- Assumes nothing.
use Rattle.std.specs.Prelude.{ℕ, Bool, cond, ◌&&◌, ◌||◌, eqb}
use Rattle.wire.specs.declared.fault.Fault.{Fault}
use Rattle.wire.specs.declared.fault.Fault.TheVariants.{Below, Above}
use Rattle.wire.specs.Faults.{code_of}
use Rattle.wire.specs.declared.telegram.Telegram.{Telegram}
use Rattle.rows.specs.declared.kind.Kind.{Kind}
use Rattle.rows.specs.declared.kind.Kind.TheVariants.{Stored, SetPoint1, SetPoint2, ReadOnly, WriteOnly, Unknown}
use Rattle.rows.specs.declared.kind.Order.{Order}
use Rattle.rows.specs.declared.kind.Order.TheVariants.{System, Calibration, Interlock, Freezing, Assignment}
use Rattle.judge.specs.declared.command.Command.{Command}
use Rattle.judge.specs.declared.verdict.Verdict.{Verdict}
use Rattle.judge.specs.declared.verdict.Verdict.TheVariants.{Obeyed, Silent, Refused}
use Rattle.judge.specs.declared.deed.Deed.{Deed}
use Rattle.judge.specs.declared.deed.Deed.TheVariants.{Nothing, Store, Reset, Restart, Calibrate, Forget, Unlock, Freeze, Aim1, Aim2, ClearStatic, Release, Offer, Withdraw}
use Rattle.judge.specs.Commands.{changes_of}

-- A0h: 1, 2 and 5 reset stored values, 7 calibrates, 8 empties the error memory, 9 restarts
unfoldable pub system_of : ℕ → Deed
system_of value = cond (eqb value 7) Calibrate (cond (eqb value 8) Forget (cond (eqb value 9) Restart (Reset value)))

-- the write only ones: A7h calibrates; A8h 1 opens the interlock, 0 closes it; AAh freezes; D2h offers a number
abbrev pub ordered_by : Order → ℕ → Deed
ordered_by System value = system_of value
ordered_by Calibration value = Calibrate
ordered_by Interlock value = Unlock (eqb value 1)
ordered_by Freezing value = Freeze
ordered_by Assignment value = Offer value

-- a write or a broadcast that is obeyed; FBh and FFh take the control word
unfoldable pub done_by : Kind → ℕ → ℕ → Deed
done_by (Stored i) value word = Store i value
done_by SetPoint1 value word = Aim1 value word
done_by SetPoint2 value word = Aim2 value word
done_by (ReadOnly s) value word = Nothing
done_by (WriteOnly o) value word = ordered_by o value
done_by Unknown value word = Nothing

-- a read that is obeyed: FAh clears the static bit, FEh releases a kept value
unfoldable pub shown_by : ℕ → Deed
shown_by a = cond (eqb a 0xFA) ClearStatic (cond (eqb a 0xFE) Release Nothing)

-- a telegram that is refused does nothing, save for a write of D2h that is refused for its range, with 01 82 or 02 82: it drops the offer
abbrev pub out_of_range : Fault → Bool
out_of_range f = eqb (code_of f) (code_of Below) || eqb (code_of f) (code_of Above)

unfoldable pub refused_by : Fault → ℕ → Deed
refused_by f a = cond (out_of_range f && eqb a 0xD2) Withdraw Nothing

unfoldable pub deed_of : Verdict → Command → Kind → Telegram → Deed
deed_of Obeyed c k t = cond (changes_of c) (done_by k t.value t.word) (shown_by t.parameter)
deed_of Silent c k t = Nothing
deed_of (Refused f) c k t = refused_by f t.parameter
