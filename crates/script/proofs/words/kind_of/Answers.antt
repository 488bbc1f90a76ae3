-- `script::words::kind_of` meets its contract: the first word from the first place on is the one that the definition goes by.
use mathlib.Core.List.{List}
use Rattle.script.specs.declared.words.Kind.{Kind}
use Rattle.script.specs.declared.words.Kind.TheVariants.{Long, Passed, Spoken}
use Rattle.script.specs.Words.{Word}
use Rattle.script.specs.Kinds.{kind_of}
use Rattle.script.proofs.ByKind.{too_long, no_word, a_note, some_said}
use Rattle.script.proofs.words.kind_of.Goals as goal

abbrev at_start : Word → List Word → Kind
at_start w ws = Spoken w.start

pub returns-then-line-gt-LONGEST : goal.returns-then-line-gt-LONGEST
unfolding kind_of
returns-then-line-gt-LONGEST c = too_long Long Passed at_start c.args.line.now c.if-line-gt-LONGEST.true

pub returns-then-line-at : goal.returns-then-line-at
unfolding kind_of
returns-then-line-at c = no_word Long Passed at_start _ c.start-at.ensures c.if-line-gt-LONGEST.false c.if-line-at.true

pub returns-then-line-at-eq35 : goal.returns-then-line-at-eq35
unfolding kind_of
returns-then-line-at-eq35 c =
    a_note Long Passed at_start _ c.start-at.ensures c.if-line-gt-LONGEST.false c.if-line-at.false c.if-line-at-eq35.true

pub returns : goal.returns
unfolding kind_of
returns c =
    some_said Long Passed at_start _ c.start-at.ensures c.if-line-gt-LONGEST.false c.if-line-at.false c.if-line-at-eq35.false
