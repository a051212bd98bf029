use Prim.Native.Nat.{ℕ, ◌+◌, ◌*◌, ◌≤◌}
use mathlib.Core.Path.{◌≡◌}
use mathlib.Core.List.{List}
use Rattle.lists.specs.Entry.{nth}
use Rattle.layouts.specs.Packing.{join_turn}
use Rattle.lists.specs.Iter.{iter}
use Rattle.layouts.proofs.packing.symbol_at.Given as goal

abbrev pub bit : List ℕ → ℕ → ℕ → ℕ
bit b j i = nth b (j * 5 + i)

abbrev pub invariant-loop-i : goal.invariant-loop-i
invariant-loop-i l =
    (l.i ≤ 5) × (l.a ≡ iter l.i (join_turn (bit l.b l.j)) 0)
