use Prim.Native.Nat.{◌≤◌}
use mathlib.Core.Path.{◌≡◌}
use Rattle.lists.specs.Entry.{nth}
use Rattle.lists.specs.Placed.{placed}
use Rattle.layouts.proofs.maps.inverse.Given as goal

abbrev pub invariant-loop-i : goal.invariant-loop-i
invariant-loop-i l =
    (l.i ≤ 260) × (l.bit ≡ placed l.i (nth l.pos) (λ t. t) l.initial.bit)
