-- `script::named` meets its contract: what is found among all names is what the definition finds.
use Rattle.std.proofs.Common.{rules, tests, ◌≡◌, refl, ◌∙◌, Option, Some, None}
use Rattle.std.specs.Option.{option_map}
use Rattle.std.proofs.lemmas.Iterator.{YieldsList-from_slice}
use Rattle.std.proofs.lemmas.Iterator.Consumers.{YieldsList-from_copied}
use Rattle.std.proofs.lemmas.Iterator.Search.{find_from_yields_List}
use Rattle.text.specs.Text.{text}
use Rattle.script.specs.declared.Name.{Name}
use Rattle.script.specs.Words.{same_of}
use Rattle.script.specs.Meaning.{row_of, names, name_of}
use Rattle.script.proofs.named.Goals as goal

as_it_is : (r : Option Name) → r ≡ option_map (λ n. n) r
as_it_is (Some n) = refl
as_it_is None = refl

pub returns : goal.returns
unfolding name_of same_of
returns c =
    as_it_is c.find.result
    ∙ find_from_yields_List (λ n. same_of c.args.word.now (text (row_of n).word)) _ _ c.find.result c.find.ensures.ran (YieldsList-from_copied (YieldsList-from_slice names cc)) (λ x b q k. search (rules, tests))
