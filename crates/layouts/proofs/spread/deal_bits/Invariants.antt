use Prim.Native.Nat.{◌≤◌}
use mathlib.Core.Path.{◌≡◌}
use Rattle.lists.specs.Placed.{placed}
use Rattle.layouts.specs.SpreadHeavy.{dealt, deal}
use Rattle.layouts.specs.VariableBits.{variable}
use Rattle.lists.specs.Marks.{Marks}
use Rattle.layouts.proofs.spread.deal_bits.Given as goal

abbrev pub invariant-loop-t : goal.invariant-loop-t
invariant-loop-t l =
    (l.t ≤ l.t-end) × (l.t-end ≡ dealt l.slots) × (l.pos ≡ placed l.t variable (deal l.slots) l.initial.pos) × (Marks 260 variable l.t l.used) × (Marks 260 (deal l.slots) l.t l.taken)
