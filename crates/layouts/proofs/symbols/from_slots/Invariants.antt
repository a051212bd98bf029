use mathlib.Core.Path.{◌≡◌}
use Rattle.lists.specs.Laid.{laid}
use Rattle.lists.specs.Values.{values}
use Rattle.lists.specs.Entry.{nth}
use Rattle.layouts.proofs.symbols.from_slots.Given as goal

abbrev pub invariant-loop-j : goal.invariant-loop-j
invariant-loop-j l = l.symbol-items ≡ laid (values l.j (λ j. nth l.syms (nth l.slot j))) l.initial.symbol-items
