-- `layouts::packing::symbol_at` meets its contract. The invariant: the first i bits are joined.
use Prim.Native.Nat.{ℕ, ◌+◌, ◌*◌, ◌<◌}
use mathlib.Core.Path.{ap, ◌∙◌}
use native.Mathlib.Omega.{arith}
use Rattle.layouts.specs.Packing.{joined, symbol_at, join_turn}
use Rattle.layouts.proofs.Digits.{joined_room}
use Rattle.lists.proofs.Iter.{iter_start, iter_on, iter_end}
use Rattle.layouts.proofs.packing.symbol_at.Invariants.{bit}
use Rattle.layouts.proofs.packing.symbol_at.Goals.{In-loop-i}
use Rattle.layouts.proofs.packing.symbol_at.Goals as goal

-- a turn: there is room for one bit more
room : (c : In-loop-i) → c.loop-i.a < 16
room c =
    let s = c.args in
    omega (arith, c.loop-i.invariant.1, joined_room (bit s.b.now s.j) c.loop-i.i c.loop-i-test.true)

pub loop-i-init : goal.loop-i-init
unfolding symbol_at joined
loop-i-init c = (omega arith, iter_start _ 0)

pub overflow_mul-a : goal.overflow_mul-a
unfolding symbol_at joined
overflow_mul-a c = omega (arith, room c)

pub overflow_add-a : goal.overflow_add-a
unfolding symbol_at joined
overflow_add-a c = omega (arith, room (goal.at.overflow_add-a c).In-loop-i, c.low.ensures)

pub loop-i-preserved : goal.loop-i-preserved
unfolding symbol_at joined
loop-i-preserved c =
    let l = c.loop-i in
    let s = c.args in
    (omega arith, ap (λ (x : ℕ). l.a * 2 + x) c.low.ensures ∙ iter_on l.i (join_turn (bit s.b.now s.j)) 0 l.a l.invariant.1)

pub returns : goal.returns
unfolding symbol_at joined
returns c = iter_end 5 _ _ 0 _ (omega arith) c.loop-i.invariant.1
