-- Normalising: a vector times 1 / its sum; "a sum not above 1e-30, or not finite, gives 1/32 everywhere". Document 01's corner on `normalize`; nb.rs, `normalize`.
-- Assumes nothing.
use Rattle.std.specs.Prelude.{◌&&◌, Float, replicate}
use Rattle.std.specs.Float.{binary32}
use Rattle.std.specs.Float.Ieee.{add, mul, div, lt, le}
use Rattle.lists.specs.Choice.{pick}
use Rattle.lists.specs.Iter.{iter}
use Rattle.lists.specs.Values.{values}
use Rattle.vectors.specs.Float32.{zero32, one32, uniform32, tiny32, greatest32}
use Rattle.vectors.specs.Vector.{Vector, at}

-- the sum, from the first entry on
unfoldable pub entry_sum : Vector → Float
entry_sum p = iter 32 (λ x s. add binary32 s (at p x)) zero32

unfoldable pub scaled : Vector → Float → Vector
scaled p k = values 32 (λ x. mul binary32 (at p x) k)

-- a sum above 1e-30 is finite where the greatest f32 is not below it
unfoldable pub normalized : Vector → Vector
normalized p =
    let s = entry_sum p in
    pick (lt tiny32 s && le s greatest32) (scaled p (div binary32 one32 s)) (replicate 32 uniform32)
