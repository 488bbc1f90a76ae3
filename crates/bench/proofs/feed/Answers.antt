-- A byte moves from what is left into the head.
use Rattle.std.proofs.Common.{◌≡◌, ℕ, ◌+◌, ◌<◌, List, length, get_or, drop, sym, ap, ◌∙◌, add-one, drop-cons, arith}
use Rattle.std.proofs.Math.Seq.{drop-length}
use Rattle.state.specs.declared.parts.Head.{Head}
use Rattle.bench.specs.Bench.{fed_of, spoken_of}
use Rattle.bench.specs.declared.Spoken.{Spoken}
use Rattle.bench.proofs.feed.Goals as goal

moved : (bytes : List ℕ) (i : ℕ) (h head : Head) (s : Spoken) → i < length bytes → s ≡ spoken_of head (get_or bytes i 0)
    → fed_of head (drop i bytes) ≡ fed_of h bytes → fed_of s.head (drop (i + 1) bytes) ≡ fed_of h bytes
unfolding fed_of spoken_of
moved bytes i h head s inside is inv =
    ap (λ (r : Spoken). fed_of r.head (drop (i + 1) bytes)) is
    ∙ (rw add-one (sym (ap (fed_of head) (drop-cons bytes i 0 inside))))
    ∙ inv

pub loop-b-preserved : goal.loop-b-preserved
loop-b-preserved g c = moved c.args.bytes.now c.loop-b.b-index c.args.head.now c.loop-b.head c.speak-s.result (omega arith) c.speak-s.ensures c.loop-b.invariant

-- past the last byte nothing is left
ended : (bytes : List ℕ) (i : ℕ) (h head : Head) → i ≡ length bytes → fed_of head (drop i bytes) ≡ fed_of h bytes → head ≡ fed_of h bytes
unfolding fed_of
ended bytes i h head e inv = sym (ap (fed_of head) (ap (λ (n : ℕ). drop n bytes) e ∙ drop-length bytes)) ∙ inv

pub returns : goal.returns
returns g c = ended c.args.bytes.now c.loop-b.b-index c.args.head.now c.loop-b.head (omega arith) c.loop-b.invariant
