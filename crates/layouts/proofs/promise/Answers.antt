use Rattle.layouts.proofs.Theorem.{promise}
use Rattle.layouts.proofs.promise.Goals as goal

pub returns : goal.returns
returns c = promise
