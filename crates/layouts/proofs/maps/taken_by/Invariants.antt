use Prim.Native.Nat.{◌≤◌}
use mathlib.Core.Path.{◌≡◌}
use Rattle.lists.specs.Entry.{nth}
use Rattle.lists.specs.Placed.{placed}
use Rattle.lists.specs.Values.{values}
use Rattle.layouts.specs.Heavy.{symbol_order}
use Rattle.layouts.proofs.maps.taken_by.Given as goal

abbrev pub invariant-loop-r : goal.invariant-loop-r
invariant-loop-r l =
    (l.r ≤ 52) × (l.j-items ≡ values 52 symbol_order) × (l.slot ≡ placed l.r symbol_order (nth l.slots) l.initial.slot)
