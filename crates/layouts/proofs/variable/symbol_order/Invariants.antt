use Prim.Native.Nat.{◌≤◌}
use mathlib.Core.Path.{◌≡◌}
use mathlib.Core.List.{[]}
use Rattle.lists.specs.Iter.{iter}
use Rattle.layouts.specs.Heavy.{touched}
use Rattle.layouts.specs.VariableBits.{variable_bits}
use Rattle.layouts.proofs.SymbolOrder.{touch_turn, other_turn}
use Rattle.layouts.proofs.variable.symbol_order.Given as goal

abbrev pub invariant-loop-b : goal.invariant-loop-b
invariant-loop-b l = record { all : l.b-items ≡ variable_bits; ordered : l.order.items ≡ iter l.b-index touch_turn [] }

abbrev pub invariant-loop-j : goal.invariant-loop-j
invariant-loop-j l = record { in_range : l.j ≤ 52; ordered : l.order.items ≡ iter l.j other_turn touched }
