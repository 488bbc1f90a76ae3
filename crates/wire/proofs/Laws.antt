-- Laws of words, check sums and telegrams: round trips, and what is built passes its own check.
-- Assumes nothing.
use Prim.Native.Nat.{ℕ, ◌/◌, ◌<◌}
use native.Mathlib.Nat.{div-add-mod'}
use native.Mathlib.Omega.{arith}
use mathlib.Core.Path.{◌≡◌, refl, ◌∙◌}
use mathlib.Core.List.{List, [], ◌∷◌}
use lib.ListN.{length}
use lib.Bits.{bit_xor, xor_self}
use Rattle.std.proofs.lemmas.List.Sums.{fold-append}
use Rattle.wire.specs.declared.telegram.Telegram.{Telegram}
use Rattle.wire.specs.Word.{half_of, whole_of, byte0, byte1, byte2, byte3}
use Rattle.wire.specs.Check.{xor_all, hit_of, with_check}
use Rattle.wire.specs.Telegram.{fields_of, nine_of, bytes_of, Fits}

-- the bytes of a word make the word
pub word_bytes : (w : ℕ) → w < 4294967296 → whole_of (byte0 w) (byte1 w) (byte2 w) (byte3 w) ≡ w
word_bytes w h = omega (arith, div-add-mod' (w / 256) 256, div-add-mod' (w / 256 / 256) 256, div-add-mod' w 256)

pub half_bytes : (h : ℕ) → h < 65536 → half_of (byte2 h) (byte3 h) ≡ h
half_bytes h k = omega arith

-- and a word of bytes has those bytes
module _ (b0 b1 b2 b3 : ℕ) (h0 : b0 < 256) (h1 : b1 < 256) (h2 : b2 < 256) (h3 : b3 < 256) where
  pub bytes_word : (byte0 (whole_of b0 b1 b2 b3) ≡ b0) × (byte1 (whole_of b0 b1 b2 b3) ≡ b1) × (byte2 (whole_of b0 b1 b2 b3) ≡ b2) × (byte3 (whole_of b0 b1 b2 b3) ≡ b3)
  bytes_word = (omega arith, omega arith, omega arith, omega arith)

pub bytes_half : (b0 b1 : ℕ) → b0 < 256 → b1 < 256 → (byte2 (half_of b0 b1) ≡ b0) × (byte3 (half_of b0 b1) ≡ b1)
bytes_half b0 b1 h0 h1 = (omega arith, omega arith)

-- bytes that are sent with their exclusive-or pass the check
pub check_passes : (bs : List ℕ) → xor_all (with_check bs) ≡ 0
check_passes bs = fold-append bit_xor 0 bs (xor_all bs ∷ []) ∙ xor_self (xor_all bs)

-- whatever is built of fields is sound
pub built_sound : (t : Telegram) → hit_of (bytes_of t) ≡ 0
unfolding hit_of bytes_of
built_sound t = check_passes (nine_of t)

pub built_ten : (t : Telegram) → length (bytes_of t) ≡ 10
unfolding bytes_of
built_ten t = refl

-- the fields of what was built are the fields
pub built_fields : (t : Telegram) → Fits t → fields_of (bytes_of t) ≡ t
unfolding fields_of bytes_of
built_fields t f = rw (half_bytes t.word f.word, word_bytes t.value f.value)
