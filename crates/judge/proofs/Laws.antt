-- What holds of every verdict: who is answered, what is obeyed.
-- Assumes nothing.
use mathlib.Core.Path.{◌≡◌, refl, sym, ◌∙◌, ap}
use mathlib.Core.Bool.{Bool, true, false, cond, not, ◌&&◌, ◌||◌, and_assoc, and-eq-true_iff, true≢false}
use mathlib.Core.List.{[], ◌∷◌}
use mathlib.Core.Logic.{◌⊎◌, inl, inr, ⊎_elim}
use Prim.Native.Nat.{ℕ}
use borrow.Author.Tests.{eqb-true}
use lib.Dec.{eqb, ltb}
use types.Run.{OneOf, miss}
use denote.Enum.Declared.{tag_of}
use Rattle.wire.specs.declared.fault.Fault.{Fault}
use Rattle.wire.specs.declared.fault.Fault.TheVariants.{CheckSum}
use Rattle.wire.specs.declared.telegram.Telegram.{Telegram}
use Rattle.wire.specs.Word.{byte0}
use Rattle.rows.specs.declared.access.Access.{Access}
use Rattle.rows.specs.declared.range.Range.{Range}
use Rattle.rows.specs.declared.range.Range.TheVariants.{Right, Low, High, Between}
use Rattle.rows.specs.Ranges.{range_of, is_right}
use Rattle.rows.specs.Access.{access_of, broadcast_of}
use Rattle.judge.specs.declared.command.Command.{Command}
use Rattle.judge.specs.declared.command.Command.TheVariants.{Read, Write, Broadcast, Other}
use Rattle.judge.specs.declared.verdict.Verdict.{Verdict}
use Rattle.judge.specs.declared.verdict.Verdict.TheVariants.{Obeyed, Silent, Refused}
use Rattle.judge.specs.declared.verdict.Standing.{Standing}
use Rattle.judge.specs.Commands.{command_of, reads_of, writes_of, casts_of, changes_of}
use Rattle.judge.specs.Checks.{◌else◌, sum_check, node_check, command_check, parameter_check, access_check, lockable_of, lock_check, state_check, range_check, value_check, number_check, hush_of}
use Rattle.judge.specs.Verdicts.{late_of, mine_of, verdict_of}
use Rattle.judge.specs.contracts.verdict.Verdict.{the_type}

-- ---- the first check that applies decides
pub else_assoc : (a b c : Verdict) → (a else b) else c ≡ a else (b else c)
unfolding ◌else◌
else_assoc Obeyed b c = refl
else_assoc Silent b c = refl
else_assoc (Refused f) b c = refl

-- a verdict that is silent or refused decides: what the arm of all but `Obeyed` knows
pub else_decided : (a b : Verdict) → OneOf (1 ∷ 2 ∷ []) (tag_of the_type a) → a else b ≡ a
unfolding ◌else◌
else_decided Obeyed b h = absurd (miss (1 ∷ 2 ∷ []) 0 tt h)
else_decided Silent b h = refl
else_decided (Refused f) b h = refl

else_refused : (a b : Verdict) {f : Fault} → a else b ≡ Refused f → (a ≡ Refused f) ⊎ ((a ≡ Obeyed) × (b ≡ Refused f))
unfolding ◌else◌
else_refused Obeyed b h = inr (refl, h)
else_refused Silent b h = inl h
else_refused (Refused g) b h = inl h

-- ---- a refused telegram is for this head, and no broadcast
sum_refused : (sound b : Bool) {f : Fault} → cond sound Obeyed (cond b (Refused CheckSum) Silent) ≡ Refused f → b ≡ true
sum_refused true b h = cc
sum_refused false true h = refl
sum_refused false false h = cc

node_refused : (c : Command) (mine : Bool) (v : Verdict) {f : Fault} → node_check c mine else hush_of c v ≡ Refused f → (mine && not (casts_of c)) ≡ true
unfolding node_check hush_of ◌else◌
node_refused Read true v h = refl
node_refused Read false v h = cc
node_refused Write true v h = refl
node_refused Write false v h = cc
node_refused Broadcast mine v {f} h = go v h
  where
    go : (v : Verdict) → hush_of Broadcast v ≡ Refused f → (mine && false) ≡ true
    go Obeyed e = cc
    go Silent e = cc
    go (Refused g) e = cc
node_refused Other true v h = refl
node_refused Other false v h = cc

pub refused_plain : (hit : ℕ) (t : Telegram) (s : Standing) {f : Fault} →
    verdict_of hit t s ≡ Refused f → (mine_of t s && not (casts_of (command_of t.command))) ≡ true
unfolding verdict_of late_of sum_check
refused_plain hit t s h =
    ⊎_elim (λ e. sum_refused (eqb hit 0) _ e) (λ e. node_refused (command_of t.command) (mine_of t s) _ e.1) (else_refused _ _ h)

pub refused_mine : (hit : ℕ) (t : Telegram) (s : Standing) {f : Fault} → verdict_of hit t s ≡ Refused f → mine_of t s ≡ true
refused_mine hit t s h = ((and-eq-true_iff (mine_of t s) _).0 (refused_plain hit t s h)).0

pub cast_never_refused : (hit : ℕ) (t : Telegram) (s : Standing) (f : Fault) →
    command_of t.command ≡ Broadcast → verdict_of hit t s ≡ Refused f → ⊥
cast_never_refused hit t s f c h = true≢false (sym (rw (c, refused_mine hit t s h) at (refused_plain hit t s h)))

-- ---- what a command is, by its byte
pub command_is : (c : ℕ) → (reads_of (command_of c) ≡ eqb c 0) × (writes_of (command_of c) ≡ eqb c 1) × (casts_of (command_of c) ≡ eqb c 2)
unfolding command_of
command_is c = go (eqb c 0) (eqb c 1) (eqb c 2) refl refl refl
  where
    go : (x y z : Bool) → eqb c 0 ≡ x → eqb c 1 ≡ y → eqb c 2 ≡ z
        → (reads_of (command_of c) ≡ eqb c 0) × (writes_of (command_of c) ≡ eqb c 1) × (casts_of (command_of c) ≡ eqb c 2)
    go true y z p q r = rw (eqb-true c 0 p) (refl, refl, refl)
    go false true z p q r = rw (eqb-true c 1 q) (refl, refl, refl)
    go false false true p q r = rw (p, q, r) (refl, refl, refl)
    go false false false p q r = rw (p, q, r) (refl, refl, refl)

pub casts_is : (c : ℕ) → casts_of (command_of c) ≡ eqb c 2
casts_is c = (command_is c).2

-- ---- a telegram is obeyed where each check lets it pass
abbrev pub is_obeyed : Verdict → Bool
is_obeyed Obeyed = true
is_obeyed Silent = false
is_obeyed (Refused f) = false

else_is : (a b : Verdict) → is_obeyed (a else b) ≡ is_obeyed a && is_obeyed b
unfolding ◌else◌
else_is Obeyed b = refl
else_is Silent b = refl
else_is (Refused f) b = refl

sum_is : (hit : ℕ) (c : Command) (mine : Bool) → is_obeyed (sum_check hit c mine) ≡ eqb hit 0
unfolding sum_check
sum_is hit c mine = go (eqb hit 0) (mine && not (casts_of c))
  where
    go : (sound b : Bool) → is_obeyed (cond sound Obeyed (cond b (Refused CheckSum) Silent)) ≡ sound
    go true b = refl
    go false true = refl
    go false false = refl

node_is : (c : Command) (mine : Bool) → is_obeyed (node_check c mine) ≡ casts_of c || mine
unfolding node_check
node_is c mine = elim (casts_of c || mine) as (λ b. is_obeyed (cond b Obeyed Silent) ≡ b) [ true ↦ refl | false ↦ refl ]

hush_is : (c : Command) (v : Verdict) → is_obeyed (hush_of c v) ≡ is_obeyed v
unfolding hush_of
hush_is Read v = refl
hush_is Write v = refl
hush_is Broadcast Obeyed = refl
hush_is Broadcast Silent = refl
hush_is Broadcast (Refused f) = refl
hush_is Other v = refl

-- a check that refuses by one test
test_is : (b : Bool) (f : Fault) → is_obeyed (cond b (Refused f) Obeyed) ≡ not b
test_is true f = refl
test_is false f = refl

value_is : (b : Bool) (g : Range) → is_obeyed (cond b (range_check g) Obeyed) ≡ not b || is_right g
unfolding range_check
value_is true Right = refl
value_is true Low = refl
value_is true High = refl
value_is true Between = refl
value_is false g = refl

twice : (b : Bool) → not (not b) ≡ true → b ≡ true
twice true h = refl
twice false h = h

right_only : (g : Range) → is_right g ≡ true → g ≡ Right
right_only Right h = refl
right_only Low h = cc
right_only High h = cc
right_only Between h = cc

-- the ordered checks, as one conjunction of their tests
module _ (hit : ℕ) (t : Telegram) (s : Standing) where
  abbrev c : Command
  c = command_of t.command

  abbrev group : Access
  group = access_of t.parameter

  -- checks 3 to 5
  abbrev allowed : Bool
  allowed = is_obeyed (command_check c) && (is_obeyed (parameter_check group) && is_obeyed (access_check c group (broadcast_of t.parameter)))

  -- the two of check 6, and the two of check 7
  abbrev unlocked : Bool
  unlocked = not (s.locked && (changes_of c && lockable_of t.parameter))

  abbrev unnumbered : Bool
  unnumbered = changes_of c && (eqb t.parameter 0xD2 && not (eqb s.number 31))

  abbrev right : Bool
  right = not (changes_of c) || is_right (range_of t.parameter t.value)

  abbrev counted : Bool
  counted = not (eqb t.parameter 0x96 && ltb s.inputs (byte0 t.value))

  pub obeyed_is : is_obeyed (verdict_of hit t s) ≡ eqb hit 0 && ((casts_of c || mine_of t s) && (allowed && (unlocked && (not unnumbered && (right && counted)))))
  unfolding verdict_of late_of lock_check state_check value_check number_check
  obeyed_is = simp (else_is, sum_is, node_is, hush_is, value_is, test_is, and_assoc)

  module _ (h : verdict_of hit t s ≡ Obeyed) where
    tests : (eqb hit 0 ≡ true) × ((casts_of c || mine_of t s) ≡ true) × (not unnumbered ≡ true) × (right ≡ true)
    tests =
        let one = (and-eq-true_iff (eqb hit 0) _).0 (sym obeyed_is ∙ ap is_obeyed h) in
        let two = (and-eq-true_iff (casts_of c || mine_of t s) _).0 one.1 in
        let six = (and-eq-true_iff unlocked _).0 ((and-eq-true_iff allowed _).0 two.1).1 in
        let state = (and-eq-true_iff (not unnumbered) _).0 six.1 in
        (one.0, two.0, state.0, ((and-eq-true_iff right _).0 state.1).0)

    pub obeyed_sound : hit ≡ 0
    obeyed_sound = eqb-true hit 0 tests.0

    pub obeyed_mine : (casts_of c || mine_of t s) ≡ true
    obeyed_mine = tests.1

    pub obeyed_range : changes_of c ≡ true → range_of t.parameter t.value ≡ Right
    obeyed_range changes = right_only _ (rw changes at tests.3)

    -- a number is offered to a head whose number in force is 31
    pub obeyed_offer : changes_of c ≡ true → eqb t.parameter 0xD2 ≡ true → s.number ≡ 31
    obeyed_offer changes is = eqb-true _ 31 (twice _ (rw (changes, is) at tests.2))
