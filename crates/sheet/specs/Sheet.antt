-- The sentences about a sheet (document 02, request (vii)), byte by byte, without a test in them. That the test of Format holds of just these bytes is a law.
-- Assumes nothing.
use Rattle.std.specs.Prelude.{ℕ, ◌+◌, ◌*◌, ◌<◌, ◌≤◌, ◌≡◌, List, length, get_or}

-- n, the first byte, is 39 at most; the sheet ends after n rows of three bytes and n bodies of four; row i has the place where its body stands, high byte
-- first; its address is above those of the rows before it
pub record Sheet (s : List ℕ) : Type 0 where
  pub few : get_or s 0 0 ≤ 39
  pub whole : length s ≡ 1 + 3 * get_or s 0 0 + 4 * get_or s 0 0
  pub placed : (i : ℕ) → i < get_or s 0 0 → get_or s (2 + 3 * i) 0 * 256 + get_or s (3 + 3 * i) 0 ≡ 1 + 3 * get_or s 0 0 + 4 * i
  pub rising : (i j : ℕ) → i < j → j < get_or s 0 0 → get_or s (1 + 3 * i) 0 < get_or s (1 + 3 * j) 0

-- the number that four bytes stand for, high byte first
abbrev pub four : List ℕ → ℕ → ℕ
four s p = get_or s p 0 * 16777216 + get_or s (p + 1) 0 * 65536 + get_or s (p + 2) 0 * 256 + get_or s (p + 3) 0
