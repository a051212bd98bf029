use Rattle.promise.proofs.StarredValues.{starred_values}
use Rattle.promise.proofs.starred_values.Goals as goal

pub returns : goal.returns
returns c = starred_values
