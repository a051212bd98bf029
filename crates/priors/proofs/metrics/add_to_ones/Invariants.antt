use mathlib.Core.Path.{◌≡◌}
use lib.Ieee.{binary32, add}
use Rattle.lists.specs.Choice.{pick}
use Rattle.lists.specs.Laid.{laid}
use Rattle.lists.specs.Values.{values}
use Rattle.vectors.specs.Vector.{at}
use Rattle.priors.specs.WithPriors.{is_one}
use Rattle.priors.proofs.metrics.add_to_ones.Given as goal

abbrev pub invariant-loop-v : goal.invariant-loop-v
invariant-loop-v l =
    l.x-items ≡ laid (values l.v (λ v. pick (is_one v l.k) (add binary32 (at l.initial.x-items v) l.one) (at l.initial.x-items v))) l.initial.x-items
