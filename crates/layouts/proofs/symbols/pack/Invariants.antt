use Prim.Native.Nat.{◌%◌, ◌≤◌}
use mathlib.Core.Path.{◌≡◌}
use Rattle.lists.specs.Entry.{nth}
use Rattle.lists.specs.Placed.{placed}
use Rattle.layouts.proofs.symbols.pack.Given as goal

abbrev pub invariant-loop-i : goal.invariant-loop-i
invariant-loop-i l =
    (l.i ≤ l.i-end) × (l.i-end ≡ 256) × (l.packed ≡ placed l.i (nth l.pos) (λ i. nth l.bits i % 2) l.initial.packed)
