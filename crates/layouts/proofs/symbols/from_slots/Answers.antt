-- `layouts::symbols::from_slots` meets its contract. The invariant: the first j symbols are written.
use native.Mathlib.Omega.{arith}
use Rattle.lists.proofs.Laid.{fill_start, fill_on, fill_whole}
use Rattle.lists.specs.Entry.{nth}
use Rattle.layouts.proofs.symbols.from_slots.Goals as goal

pub loop-j-init : goal.loop-j-init
loop-j-init c = fill_start _ _

pub loop-j-preserved : goal.loop-j-preserved
loop-j-preserved c = fill_on (λ j. nth c.args.syms.now (nth c.args.slot.now j)) _ _ _ (omega arith) c.loop-j.invariant

pub returns : goal.returns
returns c = fill_whole _ 52 _ _ _ (omega arith) (omega arith) c.loop-j.invariant
