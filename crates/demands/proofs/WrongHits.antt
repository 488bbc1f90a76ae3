-- The versions that keep the wrong thing fail: each by a line of two heads, some telegrams, and what one of the heads then shows; a restart that leaves
-- it, and a head that answers no more once it keeps something, by a head that keeps 1.
-- Assumes nothing.
use Rattle.std.specs.Prelude.{Ok, Err, Result}
use Prim.Native.Nat.{ℕ, ◌<◌}
use mathlib.Core.Path.{◌≡◌, refl, sym, ◌∙◌, ap}
use mathlib.Core.Logic.{◌≢◌}
use native.Mathlib.Omega.{arith}
use Rattle.effects.specs.Restart.{fresh_of}
use Rattle.demands.specs.Calls.{Calls}
use Rattle.demands.specs.Past.{count}
use Rattle.demands.specs.Run.{System, machine_of, runs}
use Rattle.demands.specs.Demand2.{Demand2}
use Rattle.demands.specs.Hits.{hits, last_hit, Hits, hear, noisy, noisier}
use Rattle.demands.specs.Unseen.{keeping, Unseen}
use Rattle.demands.specs.WrongHits.{zero_kept, others_missed, casts_missed, first_kept, yes_kept, KeptAtPower, muted, pair, WrongHits}
use Rattle.demands.proofs.Computing.{computing}
use Rattle.demands.proofs.Wrongs.{read20}
use Rattle.head.specs.declared.refusal.Refusal.{Refusal}

abbrev bits_in : Result ℕ Refusal → ℕ
bits_in (Ok x) = x
bits_in (Err why) = 256

-- after these calls head k of the version shows x, and looking back finds y
record Differs (m : System) (cs : Calls) (k x y : ℕ) : Type 0 where
  there : k < count cs
  shows : m.on_line_of.hit (runs (machine_of m) cs) k ≡ Ok x
  finds : last_hit cs k ≡ y
  differ : x ≢ y

fails : (m : System) (cs : Calls) (k x y : ℕ) → Differs m cs k x y → Hits m → ⊥
fails m cs k x y p d = p.differ (ap bits_in (sym p.shows ∙ d.on_line cs k p.there) ∙ p.finds)

-- a sound read, after the two damaged ones
abbrev sound : Calls
sound = hear noisier 0x001F200000000000003F

zero_kept_fails : Hits zero_kept → ⊥
unfolding computing hits last_hit
zero_kept_fails = fails zero_kept sound 0 0 0x84 (record { there = omega arith; shows = refl; finds = refl; differ = λ e. omega arith })

-- the head at 12 hears what was for 31; a broadcast; two damaged ones
others_missed_fails : Hits others_missed → ⊥
unfolding computing hits last_hit
others_missed_fails = fails others_missed noisy 1 0 0x01 (record { there = omega arith; shows = refl; finds = refl; differ = λ e. omega arith })

casts_missed_fails : Hits casts_missed → ⊥
unfolding computing hits last_hit
casts_missed_fails = fails casts_missed noisier 0 0x01 0x84 (record { there = omega arith; shows = refl; finds = refl; differ = λ e. omega arith })

first_kept_fails : Hits first_kept → ⊥
unfolding computing hits last_hit
first_kept_fails = fails first_kept noisier 0 0x01 0x84 (record { there = omega arith; shows = refl; finds = refl; differ = λ e. omega arith })

yes_kept_fails : Hits yes_kept → ⊥
unfolding computing hits last_hit
yes_kept_fails = fails yes_kept noisier 0 1 0x84 (record { there = omega arith; shows = refl; finds = refl; differ = λ e. omega arith })

kept_at_power_fails : (m : System) → KeptAtPower m → Demand2 m → ⊥
kept_at_power_fails m e d =
    let h = keeping (fresh_of 31 0) 1 in
    let z : ◌≡◌ {A = ℕ} 1 0 = rw (e h) at (d.powers h (rw (e h))).hit in omega arith

-- the last byte of the read of 20h at 31
muted_fails : Unseen muted → ⊥
unfolding computing
muted_fails u = let e : ◌≡◌ {A = Result ℕ Refusal} (Ok 0) (Ok 1) = u.heard read20 1 0x3F 0 10 in let z : ◌≡◌ {A = ℕ} 0 1 = cc in omega arith

-- the bits that a call shows
abbrev bits_of : Result ℕ Refusal → ℕ
bits_of (Ok n) = n
bits_of (Err why) = 0

nothing_shown_fails : (m : System) → m.on_head.hit (keeping (fresh_of 31 0) 5) ≡ Ok 0 → Demand2 m → ⊥
unfolding computing
nothing_shown_fails m e d = let z : ◌≡◌ {A = ℕ} 0 5 = ap bits_of (sym e ∙ d.shows (keeping (fresh_of 31 0) 5) refl) in omega arith

first_shown_fails : (m : System) → m.on_line_of.hit pair 1 ≡ m.on_head.hit (fresh_of 31 0) → Demand2 m → ⊥
unfolding computing
first_shown_fails m e d =
    let named = d.line_shows pair 1 (record { fits = refl; places = refl }) (omega arith) ∙ d.shows (keeping (fresh_of 12 1) 5) refl in
    let z : ◌≡◌ {A = ℕ} 5 0 = ap bits_of (sym named ∙ e ∙ d.shows (fresh_of 31 0) refl) in omega arith

pub wrong_hits : WrongHits
wrong_hits =
    record {
      zero_kept_fails = zero_kept_fails;
      others_missed_fails = others_missed_fails;
      casts_missed_fails = casts_missed_fails;
      first_kept_fails = first_kept_fails;
      yes_kept_fails = yes_kept_fails;
      kept_at_power_fails = kept_at_power_fails;
      muted_fails = muted_fails;
      nothing_shown_fails = nothing_shown_fails;
      first_shown_fails = first_shown_fails;
    }
