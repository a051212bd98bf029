use Prim.Native.Nat.{◌+◌, ◌-◌, ◌≤◌}
use mathlib.Core.Path.{◌≡◌}
use mathlib.Core.List.{◌++◌}
use Rattle.lists.specs.Values.{values}
use Rattle.layouts.proofs.variable.push_range.Given as goal

abbrev pub invariant-loop-b : goal.invariant-loop-b
invariant-loop-b l = record {
  above : l.from ≤ l.b;
  below : l.b ≤ l.to;
  listed : l.bits.items ≡ l.initial.bits.items ++ values (l.b - l.from) (λ k. l.from + k);
}
