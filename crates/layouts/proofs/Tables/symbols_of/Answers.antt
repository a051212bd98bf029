-- `layouts::Tables::symbols_of` meets its contract.
use mathlib.Core.Path.{ap, ◌∙◌}
use mathlib.Core.List.{List}
use Prim.Native.Nat.{ℕ}
use lib.ListN.{replicate}
use Rattle.lists.specs.Entry.{nth}
use Rattle.lists.specs.Placed.{placed}
use Rattle.layouts.specs.Packing.{bits_to_syms}
use Rattle.layouts.specs.Symbols.{packed, symbols_of}
use Rattle.layouts.proofs.Tables.symbols_of.Goals as goal

pub returns : goal.returns
unfolding symbols_of packed
returns c = rw (← c.self.view_is) (c.to_slots.ensures ∙ ap (λ (l : List ℕ). placed 52 (nth c.self.inside.slot) (nth l) (replicate 52 0)) (c.bits_to_syms.ensures ∙ ap bits_to_syms c.pack-packed.ensures))
