-- `layouts::symbols::to_slots` meets its contract. The invariant: the first j symbols stand in their slots.
use native.Mathlib.Omega.{arith}
use Rattle.lists.proofs.Placed.{placed_start, placed_on}
use Rattle.layouts.proofs.symbols.to_slots.Goals as goal

pub loop-j-init : goal.loop-j-init
loop-j-init c = (omega arith, placed_start _ _ _)

pub loop-j-preserved : goal.loop-j-preserved
loop-j-preserved c = (omega arith, placed_on _ _ _ c.loop-j.j _ c.loop-j.invariant.1)
