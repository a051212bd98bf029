-- `layouts::Tables::of` meets its contract.
use Rattle.layouts.specs.Maps.{layout_of}
use Rattle.layouts.proofs.Layouts.{pos_once, layout_held}
use Rattle.layouts.proofs.Tables.of.Goals as goal

pub inverse-bit-requires : goal.inverse-bit-requires
inverse-bit-requires c = rw c.positions-pos.ensures (pos_once c.args.map c.args.degrees.now).inside

pub invariant_of-result : goal.invariant_of-result
unfolding layout_of
invariant_of-result c = rw (c.inverse-bit.ensures, c.positions-pos.ensures, c.slots-slot.ensures) (layout_held c.args.map c.args.degrees.now)

pub returns : goal.returns
unfolding layout_of
returns c = rw (c.inverse-bit.ensures, c.positions-pos.ensures, c.slots-slot.ensures)
