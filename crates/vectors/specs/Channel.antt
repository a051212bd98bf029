-- The channel rule: a symbol's probabilities from its 32 metrics. Document 01's corner on `decode_soft`; nb.rs, `decode_soft`, "Channel probabilities".
-- Assumes nothing.
use Rattle.std.specs.Prelude.{Float}
use Rattle.std.specs.Float.{binary32}
use Rattle.std.specs.Float.Ieee.{sub, lt}
use Rattle.lists.specs.Choice.{pick}
use Rattle.lists.specs.Iter.{iter}
use Rattle.lists.specs.Values.{values}
use Rattle.vectors.specs.Float32.{least32, minus_sixty32}
use Rattle.vectors.specs.Vector.{Vector, at}
use Rattle.vectors.specs.Exp.{exp}
use Rattle.vectors.specs.Normalized.{normalized}

-- "NaN metrics are passed over in the maximum, which starts at the least finite f32"
unfoldable pub greatest : Vector → Float
greatest m = iter 32 (λ x a. pick (lt a (at m x)) (at m x) a) least32

-- "after subtraction they count as −60", and so does what is below
unfoldable pub likelihood : Float → Float → Float
likelihood most l = let t = sub binary32 l most in exp (pick (lt minus_sixty32 t) t minus_sixty32)

unfoldable pub channel : Vector → Vector
channel m = normalized (values 32 (λ x. likelihood (greatest m) (at m x)))
