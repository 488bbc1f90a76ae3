-- No deed and no restart changes the serial number of a head (document 02, request (xi)).
-- Assumes nothing.
use mathlib.Core.Path.{◌≡◌, refl}
use Rattle.judge.specs.declared.deed.Deed.{Deed}
use Rattle.judge.specs.declared.deed.Deed.TheVariants.{Nothing, Store, Reset, Restart, Calibrate, Forget, Unlock, Freeze, Aim1, Aim2, ClearStatic, Release, Offer, Withdraw}
use Rattle.state.specs.declared.parts.Head.{Head}
use Rattle.state.specs.declared.parts.Stored.{Stored}
use Rattle.effects.specs.Stored.{adopted_stored, restarted_stored, stored_by}
use Rattle.effects.specs.Restart.{restarted_of, adopted_of}

pub deed_serial : (d : Deed) (s : Stored) → (stored_by d s).serial ≡ s.serial
unfolding stored_by
deed_serial Nothing s = refl
deed_serial (Store i w) s = refl
deed_serial (Reset n) s = refl
deed_serial Restart s = refl
deed_serial Calibrate s = refl
deed_serial Forget s = refl
deed_serial (Unlock b) s = refl
deed_serial Freeze s = refl
deed_serial (Aim1 v w) s = refl
deed_serial (Aim2 v w) s = refl
deed_serial ClearStatic s = refl
deed_serial Release s = refl
deed_serial (Offer n) s = refl
deed_serial Withdraw s = refl

pub restarted_serial : (h : Head) → (restarted_of h).stored.serial ≡ h.stored.serial
unfolding restarted_of restarted_stored
restarted_serial h = refl

pub adopted_serial : (h : Head) → (adopted_of h).stored.serial ≡ h.stored.serial
unfolding adopted_of adopted_stored restarted_of restarted_stored
adopted_serial h = refl
