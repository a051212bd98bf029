use mathlib.Core.Path.{◌≡◌}
use Rattle.lists.specs.Laid.{laid}
use Rattle.lists.specs.Values.{values}
use Rattle.layouts.proofs.maps.own_slots.Given as goal

abbrev pub invariant-loop-j : goal.invariant-loop-j
invariant-loop-j l = l.s-items ≡ laid (values l.j (λ j. j)) l.initial.s-items
