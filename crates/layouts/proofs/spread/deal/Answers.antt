-- `layouts::spread::deal` meets its contract.
use Prim.Native.Nat.{◌%◌}
use mathlib.Core.Path.{sym}
use native.Mathlib.Omega.{arith}
use lib.ListN.{length}
use Rattle.layouts.proofs.DealtOnce.{deal_is, deal_some, deal_slot, deal_bit}
use Rattle.layouts.proofs.spread.deal.Goals as goal

pub nonzero_rem-result : goal.nonzero_rem-result
nonzero_rem-result c = omega (arith, deal_some c.args.slots.now c.args.t c.requires.1)

pub bounds-slots-t : goal.bounds-slots-t
bounds-slots-t c = omega (arith, deal_slot c.args.slots.now c.args.t c.requires.1)

pub nonzero_div-result : goal.nonzero_div-result
nonzero_div-result c = omega (arith, deal_some c.args.slots.now c.args.t c.requires.1)

pub overflow_add-result : goal.overflow_add-result
overflow_add-result c =
    let a = c.args in
    omega
    (arith, deal_bit a.slots.now a.t c.requires.1, c.requires.0.inside (a.t % length a.slots.now) (deal_slot a.slots.now a.t c.requires.1))

pub returns : goal.returns
returns c = sym (deal_is c.args.slots.now c.args.t c.requires.1)
