-- Numbers with a sign in 32 bits, two's complement (document 01, "Stored parameters").
-- Assumes nothing.
use Rattle.std.specs.Prelude.{ℕ, ◌-◌, ◌%◌, Bool, cond, ltb, ℤ, pos, negsuc, nat_abs, neg_ℤ, ◌-ℤ◌}

-- a number below 0: minus 5 is -5
abbrev pub minus : ℕ → ℤ
minus n = neg_ℤ (pos n)

-- the number that a word stands for
unfoldable pub number_of : ℕ → ℤ
number_of w = cond (ltb w 2147483648) (pos w) (pos w -ℤ pos 4294967296)

-- the word that stands for a number: of 0, 1, 2, .. the number itself, of -1, -2, .. counted down from the highest word
unfoldable pub word_of : ℤ → ℕ
word_of (pos n) = n % 4294967296
word_of (negsuc n) = 4294967295 - n % 4294967296

-- how far two numbers are apart
unfoldable pub distance_of : ℤ → ℤ → ℕ
distance_of a b = nat_abs (a -ℤ b)

-- a size with a sign
abbrev pub with_sign : Bool → ℕ → ℤ
with_sign negative n = cond negative (minus n) (pos n)
