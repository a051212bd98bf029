-- The channel rule gives finite probabilities that are not negative, whatever metrics it is given, NaNs and infinities among them.
-- Assumes nothing.
use lib.Dec.{T}
use lib.Ieee.{Float, nan, binary32, of_bits}
use Rattle.lists.proofs.Iter.{iter_keeps}
use Rattle.lists.proofs.Values.{values_at}
use Rattle.vectors.specs.Vector.{Vector, at}
use Rattle.vectors.specs.Exp.{reduced, series, shrink, exp}
use Rattle.vectors.specs.Channel.{greatest, likelihood, channel}
use Rattle.vectors.specs.Fine.{unsigned, Fine}
use Rattle.vectors.proofs.FineFloats.{mul-unsigned, square_unsigned}
use Rattle.vectors.proofs.FineVectors.{normalized_unsigned}

-- the series ends with a square, and a factor that is finite and not negative makes nothing negative
exp-unsigned : (t : Float) → T (unsigned (exp t))
unfolding exp
exp-unsigned t =
    let s = reduced t in
    iter_keeps (λ _ q. T (unsigned q)) s.1 (λ _ q. shrink q) (series s.0) (square_unsigned _)
    (λ _ _ q u. mul-unsigned q (of_bits binary32 0x3EBC_5AB2) u (unfold of_bits in tt))

likelihood-unsigned : (most l : Float) → T (unsigned (likelihood most l))
unfolding likelihood
likelihood-unsigned most l = exp-unsigned _

pub channel_fine : (m : Vector) → Fine (channel m)
unfolding channel
channel_fine m =
    normalized_unsigned _
    (λ x l. rw (values_at (λ x. likelihood (greatest m) (at m x)) 32 x nan l) (likelihood-unsigned (greatest m) (at m x)))
