use mathlib.Core.Path.{◌≡◌}
use Rattle.lists.specs.Laid.{laid}
use Rattle.lists.specs.Values.{values}
use Rattle.lists.specs.Entry.{nth}
use Rattle.layouts.proofs.symbols.unpack.Given as goal

abbrev pub invariant-loop-i : goal.invariant-loop-i
invariant-loop-i l = l.bit-items ≡ laid (values l.i (λ i. nth l.packed (nth l.pos i))) l.initial.bit-items
