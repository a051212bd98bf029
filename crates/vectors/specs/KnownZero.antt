-- The channel vector of a symbol that is known to be 0: 1 at 0, 0 elsewhere. nb.rs, `decode_soft`.
-- Assumes nothing.
use Rattle.std.specs.Prelude.{ℕ, ◌<◌, ◌≡◌, true, set, replicate}
use Rattle.std.specs.Float.Ieee.{eq}
use Rattle.vectors.specs.Float32.{zero32, one32}
use Rattle.vectors.specs.Vector.{Vector, at}

abbrev pub known_zero : Vector
known_zero = set (replicate 32 zero32) 0 one32

-- a vector that does not differ in value from it: -0 is equal to +0
abbrev pub KnownInValue : Vector → Type 0
KnownInValue p = (x : ℕ) → x < 32 → eq (at p x) (at known_zero x) ≡ true
