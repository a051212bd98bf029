-- A vector carried to the multiples of its values by a coefficient, and read back from them; an entry raised to 1e-30. Document 01, "A round"; nb.rs, `decode_soft`.
-- Assumes nothing.
use Rattle.std.specs.Prelude.{ℕ, Float, set, replicate}
use Rattle.std.specs.Float.Ieee.{lt}
use Rattle.lists.specs.Choice.{pick}
use Rattle.lists.specs.Iter.{iter}
use Rattle.lists.specs.Values.{values}
use Rattle.field.specs.Field.{product}
use Rattle.vectors.specs.Float32.{zero32, tiny32}
use Rattle.vectors.specs.Vector.{Vector, at}

-- the entry at value x goes to h times x
unfoldable pub permuted : ℕ → Vector → Vector
permuted h p = iter 32 (λ x t. set t (product h x) (at p x)) (replicate 32 zero32)

-- "raises below 1e-30 to 1e-30"; a NaN too
unfoldable pub raised : Float → Float
raised y = pick (lt tiny32 y) y tiny32

-- the entry at h times x, raised, comes to x
unfoldable pub read_back : ℕ → Vector → Vector
read_back h p = values 32 (λ x. raised (at p (product h x)))
