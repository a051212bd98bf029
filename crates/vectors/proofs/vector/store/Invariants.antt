use Prim.Native.Nat.{◌*◌}
use mathlib.Core.Path.{◌≡◌}
use Rattle.lists.specs.Laid.{laid_from}
use Rattle.lists.specs.Values.{values}
use Rattle.vectors.specs.Vector.{at}
use Rattle.vectors.proofs.vector.store.Given as goal

abbrev pub invariant-loop-x : goal.invariant-loop-x
invariant-loop-x l = l.part ≡ laid_from (l.i * 32) (values l.x (at l.p)) l.initial.part
