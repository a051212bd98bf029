use Prim.Native.Nat.{◌≤◌}
use mathlib.Core.Path.{◌≡◌}
use Rattle.lists.specs.Chain.{chain}
use Rattle.layouts.proofs.VariableIndex.{range_at}
use Rattle.layouts.proofs.variable.variable_bits.Given as goal

abbrev pub invariant-loop-from : goal.invariant-loop-from
invariant-loop-from l = record { in_range : l.from-index ≤ 5; listed : l.bits.items ≡ chain l.from-index range_at }
