-- The space has ten bytes before and after the call, so that twenty digits and the newline are the line.
use Rattle.std.proofs.Common.{◌≡◌, List, ℕ, refl, ap, ◌∙◌, Option, Some}
use Rattle.state.specs.declared.parts.Head.{Head}
use Rattle.head.specs.declared.calls.Fed.{Fed}
use Rattle.hex_digits.specs.Digits.{line_of}
use Rattle.hex_digits.proofs.Ten.{ten_line}
use Rattle.bench.specs.Bench.{replied_of, spoken_of}
use Rattle.bench.specs.declared.Spoken.{Spoken}
use Rattle.bench.proofs.speak.Goals as goal

-- the two parts make the whole
whole : {h g : Head} {l m : Option (List ℕ)} → h ≡ g → l ≡ m → ◌≡◌ {A = Spoken} (record { head = h; reply = l }) (record { head = g; reply = m })
whole p q = rw (p, q)

pub returns-then-replied : goal.returns-then-replied
unfolding spoken_of
returns-then-replied c =
    let line = c.spell.ensures ∙ ten_line c.byte-f.new.space c.byte-f.auto.space ∙ ap line_of c.byte-f.ensures.space_after in
    let is = c.if-replied.ensures ∙ ap (λ (r : Fed). replied_of r.heard) c.byte-f.ensures.value in
    whole (ap (λ (r : Fed). r.head) c.byte-f.ensures.value) (rw (← is) (ap Some line))

pub returns-else-replied : goal.returns-else-replied
unfolding spoken_of
returns-else-replied c =
    let is = c.if-replied.ensures ∙ ap (λ (r : Fed). replied_of r.heard) c.byte-f.ensures.value in
    whole (ap (λ (r : Fed). r.head) c.byte-f.ensures.value) (rw (← is) refl)
