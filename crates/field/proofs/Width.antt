-- A product has at most as many bits as its factors together.
-- Assumes nothing.
use Rattle.std.proofs.Common.{ℕ, ◌+◌, ◌*◌, ◌^◌, ◌<◌, lt_of_le_of_lt, le_of_lt, mul-le-mul_left, shl_lt}

-- a number of s bits times one of t bits has at most s + t bits
pub mul-lt_pow : {a b : ℕ} (s t : ℕ) → a < 2 ^ s → b < 2 ^ t → a * b < 2 ^ (s + t)
mul-lt_pow {a} s t ha hb = lt_of_le_of_lt (mul-le-mul_left a (le_of_lt hb)) (shl_lt s t ha)
