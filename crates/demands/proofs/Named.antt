-- A call that names a head, as one: it is the call on that head alone, put back; and the test that refusal 20 has in each call.
-- Assumes nothing.
use Prim.Native.Nat.{ℕ}
use mathlib.Core.Path.{◌≡◌, refl}
use mathlib.Core.Bool.{Bool}
use Rattle.state.specs.declared.parts.Head.{Head}
use Rattle.state.specs.Older.{passes_of}
use Rattle.head.specs.Outcome as alone
use Rattle.line.specs.declared.calls.Line.{Line}
use Rattle.line.specs.Calls.{fits_by, head_at, named_of, measure_of, power_of, load_of, bring_of}
use Rattle.demands.specs.Calls.{Ask, measure, power, load, bring}
use Rattle.demands.specs.Run.{ask_of, alone_of}
use Rattle.demands.specs.Twenty.{takes_head, takes_line}

-- whether it brings a head over
abbrev pub brings : Ask → Bool
brings a = alone.brings (alone_of a)

pub ask_is : (a : Ask) (l : Line) (j : ℕ) → ask_of a l j ≡ named_of (brings a) l j (alone.called (alone_of a) (head_at l j))
unfolding ask_of alone.called measure_of power_of load_of bring_of
ask_is (measure m) l j = refl
ask_is power l j = refl
ask_is (load s) l j = refl
ask_is bring l j = refl

pub takes_head_lem : (a : alone.Ask) (h : Head) → takes_head a h ≡ passes_of (alone.brings a) h
takes_head_lem (alone.tick t) h = refl
takes_head_lem (alone.measure m) h = refl
takes_head_lem alone.power h = refl
takes_head_lem (alone.load s) h = refl
takes_head_lem alone.bring h = refl

pub takes_line_lem : (a : Ask) (l : Line) → takes_line a l ≡ fits_by (brings a) l
takes_line_lem (measure m) l = refl
takes_line_lem power l = refl
takes_line_lem (load s) l = refl
takes_line_lem bring l = refl
