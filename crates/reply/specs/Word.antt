-- The status word that a reply carries (document 02, request (iii)), by what the telegram did: most carry the word of the head after its effects. Where
-- nothing is sent it does not matter.
-- Assumes nothing.
use Rattle.std.specs.Prelude.{ℕ, Bool, true, false, cond}
use Rattle.judge.specs.declared.deed.Deed.{Deed}
use Rattle.judge.specs.declared.deed.Deed.TheVariants.{Nothing, Store, Reset, Restart, Calibrate, Forget, Unlock, Freeze, Aim1, Aim2, ClearStatic, Release, Offer, Withdraw}
use Rattle.state.specs.declared.parts.Head.{Head}
use Rattle.state.specs.Status.{status_of}

-- the old word: writes of FBh and FFh, the reading of FAh, and A0h 9
unfoldable pub keeps_old : Deed → Bool
keeps_old Nothing = false
keeps_old (Store i value) = false
keeps_old (Reset command) = false
keeps_old Restart = true
keeps_old Calibrate = false
keeps_old Forget = false
keeps_old (Unlock b) = false
keeps_old Freeze = false
keeps_old (Aim1 value word) = true
keeps_old (Aim2 value word) = true
keeps_old ClearStatic = true
keeps_old Release = false
keeps_old (Offer n) = false
keeps_old Withdraw = false

unfoldable pub carried_of : Deed → Head → Head → ℕ
carried_of d before after = cond (keeps_old d) (status_of before) (status_of after)
