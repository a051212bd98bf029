use Rattle.peeling.proofs.Theorem.{promise}
use Rattle.peeling.proofs.promise.Goals as goal

pub returns : goal.returns
returns c = promise
