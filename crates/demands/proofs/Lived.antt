-- Lines grown by forms that are sent back and by forms that are accepted, up to a full one of 32 rows, and calls that give no head its number: whether they
-- do is tried, one by one and head by head. Then the form that was sent back, mended.
-- Assumes nothing.
use Prim.Native.Nat.{ℕ, zero, suc, ◌≤◌}
use mathlib.Core.Path.{◌≡◌, refl}
use mathlib.Core.Bool.{Bool, true, false, ◌&&◌}
use mathlib.Core.Option.{Option, none, some}
use native.Mathlib.Omega.{arith}
use lib.Dec.{T}
use Rattle.rows.proofs.Span.{both, in_span}
use Rattle.rows.proofs.Span as spans
use Rattle.order_form.specs.declared.answer.Answer.TheVariants.{AllDiffer}
use Rattle.order_form.specs.Rows.{first_of}
use Rattle.order_form.specs.Check.{repeat_from, answer_of}
use Rattle.free_number.specs.Lowest.{span, first_free, lowest_of}
use Rattle.free_number.specs.Used.{bit, whole, of_whole, used, flipped, add_of}
use Rattle.free_number.specs.Demand.{after}
use Rattle.free_number.specs.Demand as keeper
use Rattle.demands.specs.Calls.{Calls, start, ◌▸◌}
use Rattle.demands.specs.Past.{asked, count}
use Rattle.demands.specs.Run.{product}
use Rattle.demands.specs.Demand3.{touch}
use Rattle.demands.specs.Ordered.{grown_by, ◌then◌, Unnumbered, FormsAreSafe, Ordered, accident, twin, asking, Accident, apart, full, lived, Lived}
use Rattle.demands.specs.Proposed.{further, IsNew, mended, Mended}
use Rattle.demands.proofs.Computing.{computing}
use Rattle.demands.proofs.Ordered.{safe}

-- a call leaves a parameter alone
leaves : Option ℕ → Bool
leaves none = true
leaves (some v) = false

leaves_none : (o : Option ℕ) → T (leaves o) → o ≡ none
unfolding leaves
leaves_none none t = refl
leaves_none (some v) t = absurd t

-- after the calls cs, none of the calls ds gives a head that is there then its number
tried : Calls → Calls → Bool
tried cs start = true
tried cs (ds ▸ d) = tried cs ds && spans.span (λ k. leaves (touch (cs then ds) d k 0)) 0 (count ((cs then ds) ▸ d))

tried_all : (cs ds : Calls) → T (tried cs ds) → Unnumbered cs ds
unfolding tried
tried_all cs start t = tt
tried_all cs (ds ▸ d) t =
    let q = both (tried cs ds) _ t in
    let n = count ((cs then ds) ▸ d) in
    (tried_all cs ds q.0, λ k h. leaves_none _ (in_span _ 0 n q.1 k (omega arith) (omega arith)))

two_reply : FormsAreSafe product (λ rows. AllDiffer) → ⊥
unfolding computing leaves tried
two_reply passed =
    let two : 2 ≤ 1 = (passed accident refl (omega arith)).one_reply asking 0x3F 0 10 2 (tried_all (grown_by accident) asking tt) refl in
    omega (arith, two)

twin_refused : Ordered product twin → ⊥
unfolding computing
twin_refused o = let e : ◌≡◌ {A = Option ℕ} (some 17) none = o.grows 1 (omega arith) in let z : ◌≡◌ {A = ℕ} 0 1 = cc in omega arith

pub sent_back : Accident product answer_of
unfolding computing answer_of repeat_from first_of
sent_back = record { sent_back = refl; collides = refl; twin_sent_back = refl; twin_refused = twin_refused; needed = two_reply }

pub lived_through : Lived product answer_of
unfolding computing asked answer_of repeat_from first_of leaves tried
lived_through =
    record {
      let_pass = refl;
      full_pass = refl;
      full_worth = safe full refl (omega arith);
      further_pass = refl;
      thirty_third = refl;
      repeated = refl;
      number_first_lem = refl;
      worth = safe apart refl (omega arith);
      unnumbered = tried_all (grown_by apart) lived tt;
      replies = refl;
    }

-- 4711 and 4712 are not 4713
new : IsNew 4713 mended
new zero h e = absurd (omega (arith, e))
new (suc zero) h e = absurd (omega (arith, e))
new (suc (suc i)) h e = absurd (omega arith)

pub made_good : Mended product keeper.product answer_of
unfolding computing answer_of repeat_from first_of lowest_of first_free span used whole bit after add_of of_whole flipped
made_good =
    record {
      sent_back = refl;
      proposes = refl;
      let_pass = refl;
      replies = refl;
      goes_on = refl;
      is_new = new;
      three = refl;
      let_pass_too = refl;
      grows = safe (further mended 4713 2) refl (omega arith);
      later = refl;
      not_again = λ c i j l h. omega (arith, l, h);
      not_refused = λ why h. h;
    }
