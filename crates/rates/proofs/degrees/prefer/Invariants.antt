use mathlib.Core.Path.{◌≡◌}
use lib.IntN.{pos}
use Rattle.lists.specs.Entry.{nth}
use Rattle.lists.specs.Values.{values}
use Rattle.lists.specs.Laid.{laid}
use Rattle.rates.proofs.degrees.prefer.Given as goal

abbrev pub invariant-loop-v : goal.invariant-loop-v
invariant-loop-v l = l.prefer ≡ laid (values l.v (λ v. pos (nth l.degrees v))) l.initial.prefer
