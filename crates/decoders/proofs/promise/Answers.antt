use Rattle.decoders.proofs.Theorem.{promise}
use Rattle.decoders.proofs.promise.Goals as goal

pub returns : goal.returns
returns c = promise
