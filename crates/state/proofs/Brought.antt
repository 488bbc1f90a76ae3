-- Older heads: one that the old test lets pass is well-formed once it is brought over; one that refusal 20 lets pass is no older head, and passes the old
-- test too.
-- Assumes nothing.
use Prim.Native.Nat.{ℕ}
use mathlib.Core.Path.{◌≡◌, refl, sym, ap, ◌∙◌}
use mathlib.Core.Bool.{Bool, true, false, cond, not, ◌||◌, and-eq-true_iff}
use mathlib.Core.List.{List}
use lib.Dec.{eqb, leb}
use lib.IntN.{ℤ, pos}
use lib.ListN.{set}
use lib.Seq.{set-get_or}
use borrow.Author.Tests.{eqb-true, not-false}
use native.Mathlib.Omega.{arith}
use Rattle.rows.proofs.Laws.{all_right_at, retired_row}
use Rattle.state.specs.declared.parts.Head.{Head}
use Rattle.state.specs.Settings.{incremental_place}
use Rattle.state.specs.Wellformed.{in_reach_of, wellformed_of}
use Rattle.state.specs.Older.{incremental_of, is_older, retired_of, older_fits, brought_of}
use Rattle.state.proofs.Laws.{stored_told, measurement_told, measurement_holds, told, holds}

module _ (h : Head) (w : wellformed_of h ≡ true) where
  pub zero_35 : incremental_of h ≡ 0
  zero_35 =
      let a = all_right_at h.stored.values incremental_place (stored_told h.stored (told h w).stored).values (omega arith) in
      eqb-true _ _ (sym (retired_row (incremental_of h)) ∙ a)

  pub off : h.measurement.incremental ≡ false
  off = (measurement_told h.measurement (told h w).measurement).off

  pub no_older : is_older h ≡ false
  unfolding is_older
  no_older = rw (zero_35, off)

-- a head with 35h 0 and incremental off is as it was when both are set aside
abbrev rebuilt : Head → List ℕ → Bool → Head
rebuilt h vs on =
    record {
      stored = record { values = vs; number = h.stored.number; baud = h.stored.baud; offer = h.stored.offer; serial = h.stored.serial; unlocked = h.stored.unlocked };
      faults = h.faults;
      measurement = record { m = h.measurement.m; zero = h.measurement.zero; adopted = h.measurement.adopted; incremental = on; start = h.measurement.start; frozen = h.measurement.frozen; kept = h.measurement.kept };
      targets = h.targets;
      monitor = h.monitor;
      ear = h.ear;
      keys = h.keys;
    }

plain_same : (h : Head) → incremental_of h ≡ 0 → h.measurement.incremental ≡ false → retired_of h.measurement.start h ≡ h
unfolding retired_of
plain_same h z o =
    ap (λ w. rebuilt h (set h.stored.values incremental_place w) false) (sym z)
    ∙ ap (λ vs. rebuilt h vs false) (set-get_or h.stored.values incremental_place 0)
    ∙ ap (rebuilt h h.stored.values) (sym o)

-- the old test lets pass what refusal 20 lets pass
pub new_passes : (h : Head) → wellformed_of h ≡ true → older_fits h ≡ true
unfolding older_fits
new_passes h w = rw (zero_35 h w, plain_same h (zero_35 h w) (off h w), w)

-- either way it is the head with 35h 0, incremental off and a start
pub brought_is : (h : Head) → brought_of h ≡ retired_of (cond (is_older h) (pos 0) h.measurement.start) h
unfolding brought_of is_older
brought_is h = go (not (eqb (incremental_of h) 0)) refl h.measurement.incremental refl
  where
    go : (above : Bool) → not (eqb (incremental_of h) 0) ≡ above → (on : Bool) → h.measurement.incremental ≡ on
        → cond (above || on) (retired_of (pos 0) h) h ≡ retired_of (cond (above || on) (pos 0) h.measurement.start) h
    go true e on o = refl
    go false e true o = refl
    go false e false o = sym (plain_same h (eqb-true _ _ (not-false _ e)) o)

-- a head that the old test lets pass is well-formed once it is brought over
start_well : (h : Head) (start : ℤ) → in_reach_of start ≡ true → wellformed_of (retired_of h.measurement.start h) ≡ true → wellformed_of (retired_of start h) ≡ true
unfolding retired_of
start_well h start r w =
    let t = told _ w in let g = measurement_told _ t.measurement in
    holds _
    (record {
      stored = t.stored;
      faults = t.faults;
      measurement = measurement_holds _ (record { off = g.off; m = g.m; zero = g.zero; start = r; adopted = g.adopted; kept = g.kept });
      ear = t.ear;
      keys = t.keys;
    })

pub brought_well : (h : Head) → older_fits h ≡ true → wellformed_of (brought_of h) ≡ true
unfolding older_fits in_reach_of
brought_well h f =
    let rest = ((and-eq-true_iff (leb (incremental_of h) 1) _).0 f).1 in
    rw (brought_is h) (go (is_older h) rest)
  where
    go : (b : Bool) → wellformed_of (retired_of h.measurement.start h) ≡ true
        → wellformed_of (retired_of (cond b (pos 0) h.measurement.start) h) ≡ true
    go true w = start_well h (pos 0) refl w
    go false w = w
