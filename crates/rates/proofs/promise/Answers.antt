use Rattle.rates.proofs.Theorem.{promise}
use Rattle.rates.proofs.promise.Goals as goal

pub returns : goal.returns
returns c = promise
