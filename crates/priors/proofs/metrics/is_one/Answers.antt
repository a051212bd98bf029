-- `priors::metrics::is_one` meets its contract.
use mathlib.Core.Path.{refl}
use Rattle.priors.specs.WithPriors.{is_one}
use Rattle.priors.proofs.metrics.is_one.Goals as goal

pub returns : goal.returns
unfolding is_one
returns c = refl
