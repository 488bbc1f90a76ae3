-- Words of two and four bytes, high byte first, and the bytes of a word (document 01, "Ten bytes").
-- Assumes nothing.
use Rattle.std.specs.Prelude.{ℕ, ◌+◌, ◌*◌, ◌/◌, ◌%◌}

-- two bytes, and four bytes, as one number
abbrev pub half_of : ℕ → ℕ → ℕ
half_of b0 b1 = b0 * 256 + b1

abbrev pub whole_of : ℕ → ℕ → ℕ → ℕ → ℕ
whole_of b0 b1 b2 b3 = b0 * 16777216 + b1 * 65536 + b2 * 256 + b3

-- the bytes of a word of four, the highest first; byte2 and byte3 are also the bytes of a word of two
abbrev pub byte0 : ℕ → ℕ
byte0 w = w / 256 / 256 / 256 % 256

abbrev pub byte1 : ℕ → ℕ
byte1 w = w / 256 / 256 % 256

abbrev pub byte2 : ℕ → ℕ
byte2 w = w / 256 % 256

abbrev pub byte3 : ℕ → ℕ
byte3 w = w % 256
