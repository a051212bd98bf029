use Rattle.frames.proofs.Theorem.{promise}
use Rattle.frames.proofs.promise.Goals as goal

pub returns : goal.returns
returns c = promise
