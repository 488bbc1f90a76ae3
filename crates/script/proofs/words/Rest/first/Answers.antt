-- `script::words::Rest::first` meets its contract: the first word is the part of the line from its start to its end.
use mathlib.Core.Path.{sym}
use Rattle.script.proofs.Split.{first_none, first_part, first_order, first_within}
use Rattle.script.proofs.words.Rest.first.Goals as goal

pub returns-then-self-s : goal.returns-then-self-s
returns-then-self-s c = sym (first_none _ _ _ 0 c.start-s.ensures c.if-self-s.true)

pub slice_bounds-result-count : goal.slice_bounds-result-count
slice_bounds-result-count c = first_order _ _ _ _ c.start-s.ensures c.end-e.ensures c.if-self-s.false

pub slice_bounds-result-start : goal.slice_bounds-result-start
slice_bounds-result-start c = first_order _ _ _ _ c.start-s.ensures c.end-e.ensures c.if-self-s.false

pub slice_bounds-result-end-2 : goal.slice_bounds-result-end-2
slice_bounds-result-end-2 c = first_within _ _ _ _ c.start-s.ensures c.end-e.ensures c.if-self-s.false

pub returns : goal.returns
returns c = first_part _ _ _ _ c.start-s.ensures c.end-e.ensures c.if-self-s.false
