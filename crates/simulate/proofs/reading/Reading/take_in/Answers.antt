-- With each line ended, what is left of the piece leads to the same end.
use Rattle.std.proofs.Common.{sym, ◌∙◌}
use Rattle.text.proofs.ReadOn.{fewer, line_read, rest_read}
use Rattle.simulate.specs.Reading.{noted_of, state_of, most}
use Rattle.simulate.proofs.reading.Reading.take_in.Goals as goal

pub loop-next-smaller : goal.loop-next-smaller
loop-next-smaller g c = fewer _ _ _ c.in-Some.ensures.value

pub loop-next-preserved : goal.loop-next-preserved
loop-next-preserved g c =
    rw (c.end.ensures, c.in-Some.ensures.line_after)
    (sym (line_read noted_of most (state_of c.loop-next.self) c.loop-next.line _ _ _ c.in-Some.ensures.value) ∙ c.loop-next.invariant)

pub returns : goal.returns
returns g c =
    rw c.in_default.ensures.line_after
    (sym (rest_read noted_of most (state_of c.loop-next.self) c.loop-next.line _ _ c.in_default.ensures.value) ∙ c.loop-next.invariant)
