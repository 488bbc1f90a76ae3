-- `script::words::Rest::start` meets its contract: past the gaps is the place of the first character that is none.
use Rattle.std.proofs.Common.{rules, tests, ◌≡◌, not, drop, refl}
use Rattle.std.proofs.lemmas.Iterator.{YieldsList-from_slice}
use Rattle.std.proofs.lemmas.Iterator.Search.{position_from_yields_List}
use Rattle.text.proofs.Found.{found_or_end, rest_of}
use Rattle.script.specs.Words.{is_gap}
use Rattle.script.specs.Places.{start_of}
use Rattle.script.proofs.Split.{gaps_end}
use Rattle.script.proofs.words.Rest.start.Goals as goal

pub returns : goal.returns
unfolding start_of
returns c =
    let rest = c.unwrap_or-rest.result.now in
    let is : rest ≡ drop c.args.self.from c.args.self.line.now =
    rw c.unwrap_or-rest.ensures (rest_of c.args.self.line.now c.args.self.from c.get.result c.get.ensures.lookup _ refl) in
    let p = position_from_yields_List (λ x. not (is_gap x)) _ _ c.position.result c.position.ensures.ran (YieldsList-from_slice rest cc) (λ x b q k. search (rules, tests)) in
    rw (c.unwrap_or.ensures, p, found_or_end (λ x. not (is_gap x)) rest, is, gaps_end (drop c.args.self.from c.args.self.line.now))
