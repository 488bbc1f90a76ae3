-- The status word, bit by bit: a sum of weights, each once or not at all.
-- Assumes nothing.
use Prim.Native.Nat.{ℕ, ◌+◌, ◌*◌, ◌/◌, ◌%◌, ◌^◌, ◌≤◌}
use mathlib.Core.Path.{◌≡◌, refl}
use mathlib.Core.Bool.{Bool, true, false, cond, not, ◌&&◌}
use native.Mathlib.Omega.{arith}
use lib.Dec.{eqb}
use lib.Signed.{lt_z}
use Rattle.state.specs.declared.parts.Head.{Head}
use Rattle.state.specs.Settings.{window1_place, window2_place}
use Rattle.state.specs.Bits.{bit, bit_set}
use Rattle.state.specs.Mode.{is_display}
use Rattle.state.specs.Status.{aim_of, aim_bits_of, display_bits_of, rest_bits_of, aimed_of, status_of}
use Rattle.state.proofs.Bits.{bit_most, bit_weighs}
use Rattle.state.proofs.Laws.{status_fits}
use Rattle.demands.specs.Alone.{displays}
use Rattle.demands.specs.Bits.{actual, aimed, near, onward, Bits}

is_set : (w n : ℕ) (on : Bool) → w / 2 ^ n % 2 ≡ bit 0 on → bit_set w n ≡ on
is_set w n true e = rw e
is_set w n false e = rw e

-- the digits of a sum of weights, each taken once or not at all, and of the keys' number above them
module _ (b0 b1 b2 b3 b4 b5 b6 b7 b8 b9 b10 k : ℕ) where
  abbrev sum : ℕ
  sum = b0 + 2 * b1 + 4 * b2 + 8 * b3 + 16 * b4 + 32 * b5 + 64 * b6 + 128 * b7 + 256 * b8 + 512 * b9 + 1024 * b10 + 8192 * k

  digits : b0 ≤ 1 → b1 ≤ 1 → b2 ≤ 1 → b3 ≤ 1 → b4 ≤ 1 → b5 ≤ 1 → b6 ≤ 1 → b7 ≤ 1 → b8 ≤ 1 → b9 ≤ 1 → b10 ≤ 1
      → (sum / 2 ^ 0 % 2 ≡ b0)
      × (sum / 2 ^ 1 % 2 ≡ b1)
      × (sum / 2 ^ 2 % 2 ≡ b2)
      × (sum / 2 ^ 3 % 2 ≡ b3)
      × (sum / 2 ^ 4 % 2 ≡ b4)
      × (sum / 2 ^ 5 % 2 ≡ b5)
      × (sum / 2 ^ 6 % 2 ≡ b6)
      × (sum / 2 ^ 7 % 2 ≡ b7)
      × (sum / 2 ^ 8 % 2 ≡ b8)
      × (sum / 2 ^ 9 % 2 ≡ b9)
      × (sum / 2 ^ 10 % 2 ≡ b10)
      × (sum / 2 ^ 13 % 2 ≡ k % 2)
      × (sum / 2 ^ 14 % 2 ≡ k / 2 % 2)
      × (sum / 2 ^ 15 % 2 ≡ k / 4 % 2)
      × (sum / 2 ^ 11 % 2 ≡ 0)
      × (sum / 2 ^ 12 % 2 ≡ 0)
  digits p0 p1 p2 p3 p4 p5 p6 p7 p8 p9 p10 =
      (omega arith, omega arith, omega arith, omega arith, omega arith, omega arith, omega arith, omega arith, omega arith, omega arith, omega arith, omega arith, omega arith, omega arith, omega arith, omega arith)

module _ (h : Head) where
  abbrev on0 : Bool
  on0 = not (displays h) && (h.targets.valid2 && (not (near h window1_place) && onward h))

  abbrev on1 : Bool
  on1 = not (displays h) && (h.targets.valid2 && (not (near h window1_place) && not (onward h)))

  abbrev on2 : Bool
  on2 = h.targets.valid1

  abbrev on3 : Bool
  on3 = cond (displays h) h.targets.acknowledged1 (h.targets.valid2 && near h window2_place)

  abbrev on4 : Bool
  on4 = not (displays h) && h.targets.reached

  abbrev on5 : Bool
  on5 = cond (displays h) h.targets.acknowledged2 (h.targets.valid2 && near h window1_place)

  abbrev on6 : Bool
  on6 = not (displays h) && (h.targets.valid2 && lt_z (aimed h) (actual h))

  abbrev on7 : Bool
  on7 = not (eqb h.faults.pending 0)

  abbrev on8 : Bool
  on8 = h.measurement.frozen

  abbrev on9 : Bool
  on9 = displays h && bit_set h.targets.word 7

  abbrev on10 : Bool
  on10 = h.targets.valid2

  abbrev keys : ℕ
  keys = h.keys % 8

  -- the weights in their order, by whether the head displays
  abbrev weighed : ℕ
  weighed = bit 0 on0 + 2 * bit 0 on1 + 4 * bit 0 on2 + 8 * bit 0 on3 + 16 * bit 0 on4 + 32 * bit 0 on5 + 64 * bit 0 on6 + 128 * bit 0 on7 + 256 * bit 0 on8 + 512 * bit 0 on9 + 1024 * bit 0 on10 + 8192 * keys

  status_is : status_of h ≡ weighed
  unfolding status_of aim_bits_of display_bits_of rest_bits_of aimed_of aim_of is_display
  status_is = go (displays h) refl
    where
      go : (b : Bool) → displays h ≡ b → status_of h ≡ weighed
      go true e = rw e (omega (arith, bit_weighs 2 on2, bit_weighs 3 h.targets.acknowledged1, bit_weighs 5 h.targets.acknowledged2, bit_weighs 7 on7, bit_weighs 8 on8, bit_weighs 9 (bit_set h.targets.word 7), bit_weighs 10 on10))
      go false e = rw e (omega (arith, bit_weighs 1 (h.targets.valid2 && (not (near h window1_place) && not (onward h))), bit_weighs 2 on2, bit_weighs 3 (h.targets.valid2 && near h window2_place), bit_weighs 4 h.targets.reached, bit_weighs 5 (h.targets.valid2 && near h window1_place), bit_weighs 6 (h.targets.valid2 && lt_z (aimed h) (actual h)), bit_weighs 7 on7, bit_weighs 8 on8, bit_weighs 10 on10))

  pub bits : Bits h
  bits =
      let d =
      digits (bit 0 on0) (bit 0 on1) (bit 0 on2) (bit 0 on3) (bit 0 on4) (bit 0 on5) (bit 0 on6) (bit 0 on7) (bit 0 on8) (bit 0 on9) (bit 0 on10) keys
      (bit_most 0 on0) (bit_most 0 on1) (bit_most 0 on2) (bit_most 0 on3) (bit_most 0 on4) (bit_most 0 on5) (bit_most 0 on6) (bit_most 0 on7)
      (bit_most 0 on8) (bit_most 0 on9) (bit_most 0 on10)
      in
      record {
        bit0 = is_set (status_of h) 0 on0 (rw status_is d.0);
        bit1 = is_set (status_of h) 1 on1 (rw status_is d.1);
        bit2 = is_set (status_of h) 2 on2 (rw status_is d.2);
        bit3 = is_set (status_of h) 3 on3 (rw status_is d.3);
        bit4 = is_set (status_of h) 4 on4 (rw status_is d.4);
        bit5 = is_set (status_of h) 5 on5 (rw status_is d.5);
        bit6 = is_set (status_of h) 6 on6 (rw status_is d.6);
        bit7 = is_set (status_of h) 7 on7 (rw status_is d.7);
        bit8 = is_set (status_of h) 8 on8 (rw status_is d.8);
        bit9 = is_set (status_of h) 9 on9 (rw status_is d.9);
        bit10 = is_set (status_of h) 10 on10 (rw status_is d.10);
        bit11 = is_set (status_of h) 11 false (rw status_is d.14);
        bit12 = is_set (status_of h) 12 false (rw status_is d.15);
        sixteen = status_fits h;
        bit13 = rw (status_is, d.11, low);
        bit14 = rw (status_is, d.12, middle);
        bit15 = rw (status_is, d.13, high);
      }
    where
      low : keys % 2 ≡ h.keys / 2 ^ 0 % 2
      low = omega arith

      middle : keys / 2 % 2 ≡ h.keys / 2 ^ 1 % 2
      middle = omega arith

      high : keys / 4 % 2 ≡ h.keys / 2 ^ 2 % 2
      high = omega arith
