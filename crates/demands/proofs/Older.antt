-- An older head brought over, part by part.
-- Assumes nothing.
use Prim.Native.Nat.{ℕ, zero, suc}
use mathlib.Core.Path.{◌≡◌, refl, sym, ◌∙◌}
use mathlib.Core.Bool.{true, false, cond}
use mathlib.Core.List.{List, [], ◌∷◌}
use lib.IntN.{pos}
use lib.ListN.{get_or, set, length-set}
use lib.Seq.{get_or-set_other}
use Rattle.state.specs.declared.parts.Head.{Head}
use Rattle.state.specs.Older.{is_older, retired_of, brought_of}
use Rattle.state.proofs.Brought.{brought_is}
use Rattle.demands.specs.Alone.{older, Brought}

-- 0 put at a place is read there, whether or not there is such a place
set_zero : (vs : List ℕ) (i : ℕ) → get_or (set vs i 0) i 0 ≡ 0
set_zero [] i = refl
set_zero (v ∷ vs) zero = refl
set_zero (v ∷ vs) (suc i) = set_zero vs i

started : (h : Head) → older h ≡ true → cond (is_older h) (pos 0) h.measurement.start ≡ pos 0
unfolding is_older
started h o = rw o

unmoved : (h : Head) → older h ≡ false → brought_of h ≡ h
unfolding brought_of is_older
unmoved h o = rw o

-- either way it is the head with 35h 0, incremental off and a start, which is 0 where it is an older one
pub brought : (h : Head) → Brought h (brought_of h)
unfolding retired_of
brought h =
    rw (brought_is h)
    record {
      retired = set_zero h.stored.values 29;
      incremental = refl;
      start = started h;
      values = λ r n. get_or-set_other h.stored.values 29 r 0 0 n;
      places = length-set h.stored.values 29 0;
      number = refl;
      baud = refl;
      offer = refl;
      serial = refl;
      unlocked = refl;
      m = refl;
      zero = refl;
      adopted = refl;
      frozen = refl;
      kept = refl;
      faults = refl;
      targets = refl;
      monitor = refl;
      ear = refl;
      keys = refl;
      unchanged = λ o. sym (brought_is h) ∙ unmoved h o;
    }
