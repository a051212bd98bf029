use mathlib.Core.Path.{◌≡◌}
use Rattle.lists.specs.Values.{values}
use Rattle.lists.specs.Laid.{laid}
use Rattle.rates.specs.Rate.{degree_at}
use Rattle.rates.proofs.degrees.lay.Given as goal

abbrev pub invariant-loop-v : goal.invariant-loop-v
invariant-loop-v l = l.degrees ≡ laid (values l.v (degree_at l.rate)) l.initial.degrees
