-- `layouts::maps::inverse` meets its contract. The invariant: the first i bits stand at their positions.
use native.Mathlib.Omega.{arith}
use Rattle.lists.proofs.Placed.{placed_start, placed_on, placed_end}
use Rattle.layouts.specs.Layout.{bit_of}
use Rattle.layouts.proofs.maps.inverse.Goals as goal

pub loop-i-init : goal.loop-i-init
loop-i-init c = (omega arith, placed_start _ _ _)

pub loop-i-preserved : goal.loop-i-preserved
loop-i-preserved c = (omega arith, placed_on _ (λ t. t) _ c.loop-i.i _ c.loop-i.invariant.1)

pub returns : goal.returns
unfolding bit_of
returns c = placed_end _ _ _ 260 _ _ (omega arith) c.loop-i.invariant.1
