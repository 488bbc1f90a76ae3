-- What a head shows, in the engine's reading and in the crate state's, is the same: the position, A, FEh and the differential value by their definitions, and the status
-- word by the weights of its bits.
-- Assumes nothing.
use Prim.Native.Nat.{ℕ, zero, suc, ◌+◌, ◌*◌, ◌/◌, ◌%◌, ◌^◌, ◌<◌}
use mathlib.Core.Path.{◌≡◌, refl, ◌∙◌, ap}
use mathlib.Core.Bool.{Bool, true, false, not, ◌&&◌, ◌||◌}
use native.Mathlib.Nat.{div-div-eq-div-mul}
use native.Mathlib.Omega.{arith}
use borrow.Author.Tests.{le-ltb, ne_eqb}
use lib.Dec.{eqb, ltb}
use Rattle.signed.specs.Number.{distance_of}
use Rattle.signed.specs.Position.{absolute_of}
use Rattle.signed.specs.Difference.{differential_of}
use Rattle.state.specs.declared.parts.Head.{Head}
use Rattle.state.specs.Bits.{bit, bit_set}
use Rattle.state.specs.Mode.{is_display}
use Rattle.state.specs.Position.{position_of, actual_of, shown_of, view_of}
use Rattle.state.specs.Status.{aim_of, aim_bits_of, display_bits_of, rest_bits_of, aimed_of, status_of, within_of, difference_of}
use Rattle.state.proofs.Bits.{bit_weighs}
use Rattle.engine.specs.Addresses.{the39, place}
use Rattle.engine.specs.Shows.{value, displays, position, actual, current, differential, near, status}
use Rattle.engine.specs.Does.{settles}

-- 0 or 1
below_two : (x : ℕ) → ltb x 2 ≡ (eqb x 0 || eqb x 1)
below_two zero = refl
below_two (suc zero) = refl
below_two (suc (suc x)) = rw (le-ltb (suc (suc x)) 2 (omega arith), ne_eqb (suc (suc x)) 0 (λ e. omega arith), ne_eqb (suc (suc x)) 1 (λ e. omega arith))

pub actual_is : (h : Head) → (view_of h.stored.values h.measurement).actual ≡ actual h
unfolding view_of actual_of position_of absolute_of actual position place the39
actual_is h = rw (below_two (value 0x33 h))

pub current_is : (h : Head) → (view_of h.stored.values h.measurement).shown ≡ current h
unfolding view_of actual_of shown_of position_of absolute_of current actual position place the39
current_is h = rw (below_two (value 0x33 h))

pub differential_is : (h : Head) (s : ℕ) → difference_of h.stored.values h.measurement s ≡ differential h s
unfolding difference_of differential_of differential place the39
differential_is h s = rw (actual_is h)

joined : (a b c : Bool) → (a && (b && c)) ≡ ((a && b) && c)
joined true b c = refl
joined false b c = refl

pub settles_is : (h : Head) → within_of h.stored.values h.measurement h.targets ≡ settles h
unfolding within_of aimed_of aim_of distance_of is_display place the39
settles_is h = rw (actual_is h) (joined (not (displays h)) h.targets.valid2 (near 0x20 h))

-- ---- the status word
-- a digit of a number, as a bit
digit : (d : ℕ) → d < 2 → bit 0 (eqb d 1) ≡ d
digit zero p = refl
digit (suc zero) p = refl
digit (suc (suc d)) p = absurd (omega arith)

bit_digit : (n d : ℕ) → d < 2 → bit n (eqb d 1) ≡ 2 ^ n * d
bit_digit n d p = bit_weighs n (eqb d 1) ∙ ap (λ (x : ℕ). 2 ^ n * x) (digit d p)

-- the keys' number, by its three digits and so by its three bits
three : (k : ℕ) → k % 8 ≡ k / 2 ^ 0 % 2 + 2 * (k / 2 ^ 1 % 2) + 4 * (k / 2 ^ 2 % 2)
three k =
    let first : k % 8 ≡ k / 2 ^ 0 % 2 + 2 * (k / 2 % 4) = omega arith in
    let second : k / 2 % 4 ≡ k / 2 ^ 1 % 2 + 2 * (k / 2 / 2 % 2) = omega arith in
    let third : k / 2 / 2 ≡ k / 2 ^ 2 = div-div-eq-div-mul k 2 2 in
    first ∙ ap (λ (x : ℕ). k / 2 ^ 0 % 2 + 2 * x) (second ∙ ap (λ (x : ℕ). k / 2 ^ 1 % 2 + 2 * (x % 2)) third) ∙ omega arith

weighed : (k x y z : ℕ) → k ≡ x + 2 * y + 4 * z → k * 2 ^ 13 ≡ 2 ^ 13 * x + 2 ^ 14 * y + 2 ^ 15 * z
weighed k x y z e = omega arith

keys_are : (k : ℕ) → k % 8 * 2 ^ 13 ≡ bit 13 (bit_set k 0) + bit 14 (bit_set k 1) + bit 15 (bit_set k 2)
keys_are k =
    rw (bit_digit 13 (k / 2 ^ 0 % 2) (omega arith), bit_digit 14 (k / 2 ^ 1 % 2) (omega arith), bit_digit 15 (k / 2 ^ 2 % 2) (omega arith))
    (weighed (k % 8) _ _ _ (three k))

pub status_is : (h : Head) → status_of h ≡ status h
unfolding status_of aim_bits_of display_bits_of rest_bits_of aimed_of aim_of is_display distance_of status place the39
status_is h = go (displays h) refl
  where
    go : (b : Bool) → displays h ≡ b → status_of h ≡ status h
    go true e = rw (e, keys_are h.keys) (omega arith)
    go false e = rw (e, keys_are h.keys, actual_is h) (omega arith)
