-- Whether a frame has a prior: some entry, even past the 256th, is not equal to 0.0, as a NaN is not. nb.rs, `with_prior` in `decode_bits_prior_at`.
-- Assumes nothing.
use Rattle.std.specs.Prelude.{Bool, List, Float}
use Rattle.std.specs.Float.Ieee.{ne}
use Rattle.std.specs.List.{list_any}
use Rattle.vectors.specs.Float32.{zero32}

abbrev pub present : List Float → Bool
present prior = list_any (λ a. ne a zero32) prior
