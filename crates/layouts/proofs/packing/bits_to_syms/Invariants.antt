use mathlib.Core.Path.{◌≡◌}
use Rattle.lists.specs.Laid.{laid}
use Rattle.lists.specs.Values.{values}
use Rattle.layouts.specs.Packing.{symbol_at}
use Rattle.layouts.proofs.packing.bits_to_syms.Given as goal

abbrev pub invariant-loop-j : goal.invariant-loop-j
invariant-loop-j l = l.out ≡ laid (values l.j (symbol_at l.b)) l.initial.out
