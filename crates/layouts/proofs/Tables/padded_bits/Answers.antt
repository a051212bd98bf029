-- `layouts::Tables::padded_bits` meets its contract.
use mathlib.Core.Path.{ap, ◌∙◌}
use mathlib.Core.List.{List}
use Prim.Native.Nat.{ℕ}
use Rattle.lists.specs.Entry.{nth}
use Rattle.lists.specs.Values.{values}
use Rattle.layouts.specs.Packing.{syms_to_bits}
use Rattle.layouts.specs.Symbols.{unpacked, padded_bits}
use Rattle.layouts.proofs.Tables.padded_bits.Goals as goal

pub returns : goal.returns
unfolding padded_bits unpacked
returns c = rw (← c.self.view_is) (c.unpack.ensures ∙ ap (λ (l : List ℕ). values 260 (λ i. nth l (nth c.self.inside.pos i))) (c.syms_to_bits.ensures ∙ ap syms_to_bits c.from_slots-own.ensures))
