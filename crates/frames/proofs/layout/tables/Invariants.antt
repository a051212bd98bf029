use mathlib.Core.Path.{◌≡◌}
use Rattle.lists.specs.Laid.{laid}
use Rattle.lists.specs.Values.{values}
use Rattle.frames.specs.SlotSymbols.{slot_degree}
use Rattle.frames.proofs.layout.tables.Given as goal

abbrev pub invariant-loop-j : goal.invariant-loop-j
invariant-loop-j l = l.d-items ≡ laid (values l.j (slot_degree l.code)) l.initial.d-items
