-- The work parts of the frame calls: their lengths. Ours: the code stands in front of each, and what builds it behind.
-- Assumes nothing.
use Rattle.std.specs.Prelude.{ℕ}

-- the nine parts of a code but two (512 + 257 + 257 + 512 + 256 + 256 + 256), and 2 * 256
abbrev pub words_length : ℕ
words_length = 2818

-- its coefficients and its table (512 + 16,384), and 2 * 65,536
abbrev pub bytes_length : ℕ
bytes_length = 147968
