-- `layouts::symbols::pack` meets its contract. The invariant: the first i bits stand at their positions.
use Prim.Native.Nat.{◌%◌}
use native.Mathlib.Omega.{arith}
use Rattle.lists.specs.Entry.{nth}
use Rattle.lists.proofs.Placed.{placed_start, placed_on}
use Rattle.layouts.proofs.symbols.pack.Goals as goal

pub loop-i-init : goal.loop-i-init
loop-i-init c = (omega arith, omega arith, placed_start _ _ _)

pub loop-i-preserved : goal.loop-i-preserved
loop-i-preserved c =
    let bits = c.args.bits.now in
    (omega arith, omega arith, placed_on _ (λ i. nth bits i % 2) _ c.loop-i.i _ c.loop-i.invariant.2)
