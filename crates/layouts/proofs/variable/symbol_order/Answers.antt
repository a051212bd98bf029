-- `layouts::variable::symbol_order` meets its contract. The invariants: the symbols of the bits so far, and then the symbols below j, are in order.
use mathlib.Core.Path.{◌∙◌}
use mathlib.Core.List.{[]}
use native.Mathlib.Omega.{arith}
use Rattle.lists.proofs.Iter.{iter_start, iter_on, iter_end}
use Rattle.layouts.specs.Heavy.{touched}
use Rattle.layouts.proofs.SymbolOrder.{touch_turn, other_turn, bit_symbol, touch_more, touch_fits, touch_all, other_fits, order_is}
use Rattle.layouts.proofs.variable.symbol_order.Goals as goal

pub loop-b-init : goal.loop-b-init
loop-b-init c = record { all = c.deref-b-items.ensures.0 ∙ c.variable_bits-bits.ensures; ordered = c.new-order.ensures ∙ iter_start touch_turn [] }

pub loop-b-preserved : goal.loop-b-preserved
loop-b-preserved c =
    let i = c.loop-b.invariant in
    record { all = i.all; ordered = c.push_new.ensures ∙ touch_more _ i.all c.loop-b.b-index c.loop-b-test.true _ i.ordered }

pub overflow_cast-b : goal.overflow_cast-b
overflow_cast-b c = omega (arith, bit_symbol _ c.loop-b.invariant.all c.loop-b.b-index c.loop-b-test.true)

pub push_new-requires : goal.push_new-requires
push_new-requires c = touch_fits _ c.loop-b.invariant.all c.loop-b.b-index c.loop-b-test.true _ c.loop-b.invariant.ordered

pub loop-j-init : goal.loop-j-init
loop-j-init c =
    let i = c.loop-b.invariant in
    record { in_range = omega arith; ordered = touch_all _ _ i.all c.loop-b.b-index (omega arith) i.ordered ∙ iter_start other_turn touched }

pub push_new-requires-in-loop-j : goal.push_new-requires-in-loop-j
push_new-requires-in-loop-j c = other_fits c.loop-j.j _ c.loop-j-test.true c.loop-j.invariant.ordered

pub loop-j-preserved : goal.loop-j-preserved
loop-j-preserved c = record { in_range = omega arith; ordered = c.push_new-in-loop-j.ensures ∙ iter_on c.loop-j.j other_turn touched _ c.loop-j.invariant.ordered }

pub returns : goal.returns
returns c = iter_end 52 c.loop-j.j other_turn touched _ (omega arith) c.loop-j.invariant.ordered ∙ order_is
