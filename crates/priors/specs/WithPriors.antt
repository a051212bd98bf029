-- A frame's metrics with its priors added: a prior a of a bit adds 0.5a where the bit is 0 and −0.5a where it is 1, bits most significant first; a
-- padding bit of 1 adds −100. nb.rs, `decode_bits_prior_at`, before its rounds.
-- Assumes nothing.
use Rattle.std.specs.Prelude.{ℕ, ◌+◌, ◌-◌, ◌*◌, ◌/◌, ◌%◌, ◌^◌, Bool, List, Float, eqb, leb, ltb, length}
use Rattle.std.specs.Float.{binary32}
use Rattle.std.specs.Float.Ieee.{add, mul, neg, of_bits}
use Rattle.lists.specs.Choice.{pick}
use Rattle.lists.specs.Iter.{iter}
use Rattle.lists.specs.Values.{values}
use Rattle.vectors.specs.Vector.{Vector, at, vector, stored}

-- 0.5 and -100
abbrev pub half32 : Float
half32 = of_bits binary32 0x3F00_0000

abbrev pub ruled_out32 : Float
ruled_out32 = neg (of_bits binary32 0x42C8_0000)

-- whether bit k of a value's five is 1
unfoldable pub is_one : ℕ → ℕ → Bool
is_one v k = eqb (v / 2 ^ (4 - k) % 2) 1

-- the metric l of a value one of whose bits, `one` or not, is padded bit b: the padding begins at 256, and a prior that is not there adds nothing
unfoldable pub with_bit : List Float → ℕ → Bool → Float → Float
with_bit prior b one l =
    pick (leb 256 b)
    (pick one (add binary32 l ruled_out32) l)
    (pick (ltb b (length prior)) (add binary32 l (mul binary32 (pick one (neg half32) half32) (at prior b))) l)

-- a symbol's metrics by its bits, of which bit k is padded bit b k
unfoldable pub with_bits : List Float → (ℕ → ℕ) → Vector → Vector
with_bits prior b m = values 32 (λ v. iter 5 (λ k l. with_bit prior (b k) (is_one v k) l) (at m v))

-- all metrics: packed symbol j stands at position `place j`, and the padded bit of each packed position is given by `bit`
unfoldable pub with_priors : (ℕ → ℕ) → (ℕ → ℕ) → List Float → List Float → List Float
with_priors bit place prior metrics =
    iter 52 (λ j w. stored w (place j) (with_bits prior (λ k. bit (5 * j + k)) (vector w (place j)))) metrics
