-- `layouts::packing::syms_to_bits` meets its contract. The invariant: the first p entries are written.
use Prim.Native.Nat.{◌/◌, ◌%◌}
use mathlib.Core.Path.{ap, sym, ◌∙◌}
use native.Mathlib.Omega.{arith}
use lib.ListN.{set}
use Rattle.lists.specs.Entry.{nth}
use Rattle.lists.proofs.Laid.{fill_start, fill_on, fill_end, fill_all}
use Rattle.layouts.specs.Packing.{bit_at, syms_to_bits}
use Rattle.layouts.proofs.packing.syms_to_bits.Goals as goal

pub loop-p-init : goal.loop-p-init
loop-p-init c = fill_start _ _

pub loop-p-preserved : goal.loop-p-preserved
loop-p-preserved c =
    let l = c.loop-p in
    ap (set l.out l.p) c.bit_at.ensures ∙ fill_on (λ p. bit_at (nth c.args.syms.now (p / 5)) (p % 5)) _ _ _ (omega arith) l.invariant

pub returns : goal.returns
unfolding syms_to_bits
returns c = fill_end (λ p. bit_at (nth c.args.syms.now (p / 5)) (p % 5)) _ _ _ _ (omega arith) c.loop-p.invariant ∙ fill_all _ _ _ (sym c.requires)
