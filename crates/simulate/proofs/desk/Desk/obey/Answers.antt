-- A send: its line never carries more bytes than there is room for.
use Rattle.std.proofs.Common.{◌≡◌, ℕ, min, List, sym, ap, ◌∙◌}
use native.Mathlib.Nat.{min-eq_left}
use Rattle.script.specs.declared.Command.{Command}
use Rattle.script.specs.declared.Command.TheVariants as command
use Rattle.script.specs.Meaning.{meaning_of, byte_at_of}
use Rattle.script.proofs.Carried.{send_within}
use Rattle.simulate.specs.Carried.{most_carried}
use Rattle.simulate.specs.declared.desk.Desk.{Desk}
use Rattle.simulate.specs.Desk.{did_of, feed_of, obeyed_of}
use Rattle.simulate.proofs.desk.Desk.obey.Goals as goal

fed : (d : Desk) (text : List ℕ) (x : Desk) (time from count : ℕ) → x ≡ feed_of d (byte_at_of text from) time (min count most_carried)
    → command.Send time from count ≡ meaning_of text → x ≡ obeyed_of d text
unfolding obeyed_of
fed d text x time from count p s =
    p ∙ ap (feed_of d (byte_at_of text from) time) (min-eq_left (send_within text (sym s))) ∙ ap (λ (k : Command). did_of k text d) s

pub returns-in-Send : goal.returns-in-Send
returns-in-Send g c = fed c.args.self.now c.args.text.now _ c.in-Send.time c.in-Send.from c.in-Send.count c.send.ensures c.in-Send.ensures
