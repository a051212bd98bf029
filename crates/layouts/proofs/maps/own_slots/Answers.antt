-- `layouts::maps::own_slots` meets its contract. The invariant: the first j entries are written.
use native.Mathlib.Omega.{arith}
use Rattle.lists.proofs.Laid.{fill_start, fill_on, fill_whole}
use Rattle.layouts.proofs.maps.own_slots.Goals as goal

pub loop-j-init : goal.loop-j-init
loop-j-init c = fill_start _ _

pub loop-j-preserved : goal.loop-j-preserved
loop-j-preserved c = fill_on (λ j. j) _ _ _ (omega arith) c.loop-j.invariant

pub returns : goal.returns
returns c = fill_whole _ 52 _ _ _ (omega arith) (omega arith) c.loop-j.invariant
