-- The calls that lend no space, as one, and those that do: each is its tests in their order, then the head that it makes. So refused it changes nothing, its
-- refusal is that of the first test that fails, and it keeps a head well-formed.
-- Assumes nothing.
use Rattle.std.proofs.Common.{◌≡◌, ℕ, Bool, true, false, cond, not, ◌&&◌, ltb, leb, List, [], ◌∷◌, sym, refl, ◌∙◌, arith, Err}
use mathlib.Core.Option.{some}
use Rattle.judge.proofs.Offers.{flip}
use Rattle.state.specs.declared.parts.Head.{Head}
use Rattle.state.specs.Wellformed.{wellformed_of}
use Rattle.state.specs.Older.{passes_of}
use Rattle.state.proofs.Brought.{new_passes, brought_well}
use Rattle.head.specs.declared.refusal.Refusal.{Refusal}
use Rattle.head.specs.declared.refusal.Refusal.TheVariants.{Keys, Space, Malformed}
use Rattle.head.specs.declared.calls.Called.{Called}
use Rattle.head.specs.declared.calls.Fed.{Fed}
use Rattle.head.specs.declared.hear.Stepped.{Stepped}
use Rattle.head.specs.Moves.{keyed_of}
use Rattle.head.specs.Calls.{Tests, guarded, done_with, refused_with, asked_by, fed_with, unfed, space_with, lent_tests, keys_tests, keys_of, tick_of, measure_of, power_of, bring_of, load_of}
use Rattle.head.specs.Outcome.{Ask, tick, measure, power, load, bring, called, brings, own, next, of_answer, of_heard}
use Rattle.head.proofs.Tests.{failed, Hold, either, says}
use Rattle.head.proofs.Keeps.{tick_fits, measure_fits, keys_fits, restart_fits, load_fits}

pub called_is : (a : Ask) (h : Head) → called a h ≡ asked_by (passes_of (brings a) h) h (own a) (next a h)
unfolding called own next tick_of measure_of power_of load_of bring_of
called_is (tick at) h = refl
called_is (measure m) h = refl
called_is power h = refl
called_is (load s) h = refl
called_is bring h = refl

-- a well-formed head passes either test
pub passes : (bringing : Bool) (h : Head) → wellformed_of h ≡ true → passes_of bringing h ≡ true
passes true h w = new_passes h w
passes false h w = w

pub next_fits : (a : Ask) (h : Head) → passes_of (brings a) h ≡ true → Hold (own a) → wellformed_of (next a h) ≡ true
unfolding own next
next_fits (tick at) h w t = tick_fits h at w
next_fits (measure m) h w t = measure_fits h m t.0 w
next_fits power h w t = restart_fits h w
next_fits (load s) h w t = load_fits h s t.1.1.0 w
next_fits bring h w t = brought_well h w

module _ (a : Ask) (h : Head) where
  -- 20, then the call's own
  abbrev tests : Tests
  tests = (passes_of (brings a) h, Malformed) ∷ own a

  pub called_same : (why : Refusal) → (called a h).answer ≡ Err why → (called a h).head ≡ h
  called_same =
      rw (called_is a h)
      (either (λ (c : Called). (why : Refusal) → c.answer ≡ Err why → c.head ≡ h) (refused_with h) (done_with (next a h)) tests (λ r why e. refl)
      (λ t why e. let z : ◌≡◌ {A = ℕ} 0 1 = cc in absurd (omega arith)))

  pub called_refusal : of_answer (called a h).answer ≡ failed ((passes_of (brings a) h, Malformed) ∷ own a)
  called_refusal =
      rw (called_is a h) (says (λ (c : Called). of_answer c.answer) (refused_with h) (done_with (next a h)) tests (λ why. refl) refl)

  pub called_fits : wellformed_of h ≡ true → wellformed_of (called a h).head ≡ true
  called_fits w =
      rw (called_is a h)
      (either (λ (c : Called). wellformed_of c.head ≡ true) (refused_with h) (done_with (next a h)) tests (λ why. w) (λ t. next_fits a h t.0 t.1))

  -- of a head that is well-formed, it makes what its own tests let it
  pub called_head : wellformed_of h ≡ true → (called a h).head ≡ guarded (λ why. h) (own a) (next a h)
  called_head w = rw (called_is a h, passes (brings a) h w) (go (own a))
    where
      go : (ts : Tests) → (guarded (refused_with h) ts (done_with (next a h))).head ≡ guarded (λ why. h) ts (next a h)
      go [] = refl
      go ((true, why) ∷ ts) = go ts
      go ((false, why) ∷ ts) = refl

-- ---- the calls that lend space, by their tests: what they refuse; refused, they change no head and no byte
module _ (h : Head) (s : Stepped) where
  pub lent_refusal : (ts : Tests) → of_heard (guarded (unfed h) ts (fed_with s)).heard ≡ failed ts
  lent_refusal ts = says (λ (f : Fed). of_heard f.heard) (unfed h) (fed_with s) ts (λ why. refl) refl

  pub lent_same : (ts : Tests) (space : List ℕ) {why : Refusal} → failed ts ≡ some why
      → ((guarded (unfed h) ts (fed_with s)).head ≡ h) × (guarded (λ w. space) ts (space_with s space) ≡ space)
  lent_same [] space e = let z : ◌≡◌ {A = ℕ} 0 1 = cc in absurd (omega arith)
  lent_same ((true, w) ∷ ts) space e = lent_same ts space e
  lent_same ((false, w) ∷ ts) space e = (refl, refl)

-- a key state that is refused leaves the head as it was; it keeps a head well-formed
pub lent_keys_same : (h : Head) (k room : ℕ) {why : Refusal} → of_heard (keys_of h k room).heard ≡ some why → (keys_of h k room).head ≡ h
unfolding keys_of
lent_keys_same h k room e =
    let ts = lent_tests h (keys_tests k) room in (lent_same h (keyed_of h k) ts [] (sym (lent_refusal h (keyed_of h k) ts) ∙ e)).0

pub lent_keys_fits : (h : Head) (k room : ℕ) → wellformed_of h ≡ true → wellformed_of (keys_of h k room).head ≡ true
unfolding keys_of
lent_keys_fits h k room w =
    either (λ (f : Fed). wellformed_of f.head ≡ true) (unfed h) (fed_with (keyed_of h k)) (lent_tests h (keys_tests k) room) (λ why. w)
    (λ t. keys_fits h k t.1.0 w)

-- of a head that is well-formed: what it makes of it where it is 7 at most and ten bytes are lent, and else nothing
pub lent_keys_head : (h : Head) (k room : ℕ) → wellformed_of h ≡ true → (keys_of h k room).head ≡ cond (leb k 7 && leb 10 room) (keyed_of h k).head h
unfolding keys_of
lent_keys_head h k room w = rw (w, flip room 10) (go (leb k 7) (ltb room 10))
  where
    go : (x y : Bool) → (cond x (cond (not y) (fed_with (keyed_of h k)) (unfed h Space)) (unfed h Keys)).head ≡ cond (x && not y) (keyed_of h k).head h
    go true true = refl
    go true false = refl
    go false y = refl
