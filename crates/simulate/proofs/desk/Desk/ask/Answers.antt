-- By what the master answers.
use Rattle.std.specs.Prelude.{⊤}
use Rattle.std.proofs.Common.{◌≡◌, ℕ, length, get_or, refl, ap, ◌∙◌, rules, Result}
use Rattle.wire.specs.declared.telegram.Telegram.{Telegram}
use Rattle.master.specs.declared.Built.{Built}
use Rattle.master.specs.Master.{built_of}
use Rattle.simulate.specs.declared.desk.Desk.{Desk}
use Rattle.simulate.specs.Desk.{feed_of, if_built, asked_of}
use Rattle.simulate.proofs.desk.Desk.ask.Goals as goal
use Rattle.master.specs.declared.Refusal.{Refusal}

-- what is built is fed, and where nothing is built nothing changes
answered : (d : Desk) (time : ℕ) (q : Telegram) {b : Built} {a : Result ⊤ Refusal} {x : Desk} → b ≡ built_of q → b.answer ≡ a
    → x ≡ if_built a (feed_of d (λ (i : ℕ). get_or b.ten i 0) time 10) d → x ≡ asked_of d time q
unfolding asked_of
answered d time q e f g = rw (g, ← f, e)

pub returns-in-Ok : goal.returns-in-Ok
returns-in-Ok g c =
    let ten : length c.build-built.result.ten ≡ 10 = search rules in
    answered _ _ _ c.build-built.ensures c.in-Ok.is (c.feed.ensures ∙ ap (feed_of _ _ _) ten)

pub returns-in-Err : goal.returns-in-Err
returns-in-Err g c = answered _ _ _ c.build-built.ensures c.in-Err.is refl
