use Prim.Native.Nat.{◌*◌, ◌%◌}
use mathlib.Core.Path.{◌≡◌}
use Rattle.lists.specs.Laid.{laid}
use Rattle.lists.specs.Values.{values}
use Rattle.layouts.proofs.maps.spread.Given as goal

abbrev pub invariant-loop-i : goal.invariant-loop-i
invariant-loop-i l = l.p-items ≡ laid (values l.i (λ i. 53 * i % 260)) l.initial.p-items
