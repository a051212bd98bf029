-- `layouts::spread::fill` meets its contract. The invariant: the first i bits stand at their places.
use native.Mathlib.Omega.{arith}
use Rattle.lists.proofs.Placed.{placed_start, placed_on}
use Rattle.layouts.proofs.spread.fill.Goals as goal

pub loop-i-init : goal.loop-i-init
loop-i-init c = (omega arith, omega arith, placed_start _ _ _)

pub loop-i-preserved : goal.loop-i-preserved
loop-i-preserved c = (omega arith, omega arith, placed_on _ _ _ c.loop-i.i _ c.loop-i.invariant.2)
