use Rattle.words.proofs.Theorem.{promise}
use Rattle.words.proofs.promise.Goals as goal

pub returns : goal.returns
returns c = promise
