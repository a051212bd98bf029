-- `layouts::packing::bits_to_syms` meets its contract. The invariant: the first j entries are written.
use mathlib.Core.Path.{ap, sym, ◌∙◌}
use native.Mathlib.Omega.{arith}
use lib.ListN.{set}
use Rattle.lists.proofs.Laid.{fill_start, fill_on, fill_end, fill_all}
use Rattle.layouts.specs.Packing.{symbol_at, bits_to_syms}
use Rattle.layouts.proofs.packing.bits_to_syms.Goals as goal

pub loop-j-init : goal.loop-j-init
loop-j-init c = fill_start _ _

pub loop-j-preserved : goal.loop-j-preserved
loop-j-preserved c =
    let l = c.loop-j in
    ap (set l.out l.j) c.symbol_at.ensures ∙ fill_on (symbol_at c.args.b.now) _ _ _ (omega arith) l.invariant

pub returns : goal.returns
unfolding bits_to_syms
returns c = fill_end (symbol_at c.args.b.now) _ _ _ _ (omega arith) c.loop-j.invariant ∙ fill_all _ _ _ (sym c.requires)
