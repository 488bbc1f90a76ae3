-- `script::spoken` meets its contract: each kind of line is a case of the definition, and what is spoken goes by its first word.
use Rattle.std.specs.Prelude.{Option}
use Prim.Native.Nat.{ℕ}
use mathlib.Core.Path.{◌≡◌, refl, sym, ap, ◌∙◌}
use mathlib.Core.Bool.{cond}
use mathlib.Core.List.{List, [], ◌∷◌}
use lib.Dec.{ltb}
use lib.ListN.{length}
use Rattle.script.specs.declared.Command.{Command}
use Rattle.script.specs.declared.Command.TheVariants.{Blank, Malformed}
use Rattle.script.specs.declared.Name.{Name}
use Rattle.script.specs.declared.words.Kind.{Kind}
use Rattle.script.specs.declared.words.Kind.TheVariants.{Spoken}
use Rattle.script.specs.Words.{Word, words_of}
use Rattle.script.specs.Places.{words_at, after_of, first_of}
use Rattle.script.specs.Kinds.{kind_of, longest, unless_passed}
use Rattle.script.specs.Meaning.{if_named, name_of, command_of, spoken_of}
use Rattle.script.proofs.ByKind.{by_kind, comes_to}
use Rattle.script.proofs.spoken.Goals as goal

-- what is spoken, as the definition has it
abbrev ordering : Word → List Word → Command
ordering w ws = if_named (name_of w.chars) ws

passed_over : (ws : List Word) → unless_passed Blank ordering ws ≡ command_of ws
unfolding command_of
passed_over [] = refl
passed_over (w ∷ ws) = refl

spoken_is : (l : List ℕ) → comes_to Malformed Blank ordering l ≡ spoken_of l
unfolding spoken_of
spoken_is l = ap (λ (x : Command). cond (ltb longest (length l)) Malformed x) (passed_over (words_of l))

-- the order that the first word and the words past it make
ordered : (l : List ℕ) {k : Kind} {at next : ℕ} {n : Option Name} {f : List ℕ} → k ≡ kind_of l → k ≡ Spoken at → n ≡ name_of f
    → f ≡ first_of (words_at l 0) → next ≡ after_of l 0 → if_named n (words_at l next) ≡ spoken_of l
ordered l {k} e s name first after =
    let t = by_kind Malformed Blank ordering l k e s in
    rw (name, first, after, t.1) (t.0 ∙ spoken_is l)

pub returns-in-Long : goal.returns-in-Long
returns-in-Long c = by_kind Malformed Blank ordering _ _ c.kind_of.ensures c.in-Long.is ∙ spoken_is _

pub returns-in-Passed : goal.returns-in-Passed
returns-in-Passed c = by_kind Malformed Blank ordering _ _ c.kind_of.ensures c.in-Passed.is ∙ spoken_is _

pub returns-in-Some : goal.returns-in-Some
returns-in-Some c =
    c.order.ensures
    ∙ rw c.after.ensures.line (ordered _ c.kind_of.ensures c.in-Spoken.is (sym c.in-Some.is ∙ c.named.ensures) c.first.ensures c.after.ensures.from)

pub returns-in-None : goal.returns-in-None
returns-in-None c =
    ordered c.args.line.now {next = after_of c.args.line.now 0} c.kind_of.ensures c.in-Spoken.is (sym c.in-None.is ∙ c.named.ensures) c.first.ensures refl
