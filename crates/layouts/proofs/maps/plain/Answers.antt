-- `layouts::maps::plain` meets its contract. The invariant: the first i entries are written.
use native.Mathlib.Omega.{arith}
use Rattle.lists.proofs.Laid.{fill_start, fill_on, fill_whole}
use Rattle.layouts.proofs.maps.plain.Goals as goal

pub loop-i-init : goal.loop-i-init
loop-i-init c = fill_start _ _

pub loop-i-preserved : goal.loop-i-preserved
loop-i-preserved c = fill_on (λ i. i) _ _ _ (omega arith) c.loop-i.invariant

pub returns : goal.returns
returns c = fill_whole _ 260 _ _ _ (omega arith) (omega arith) c.loop-i.invariant
