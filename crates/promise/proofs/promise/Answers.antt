use Rattle.promise.proofs.Theorem.{promise}
use Rattle.promise.proofs.promise.Goals as goal

pub returns : goal.returns
returns c = promise
