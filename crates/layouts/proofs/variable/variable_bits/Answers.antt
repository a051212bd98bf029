-- `layouts::variable::variable_bits` meets its contract. The invariant: the bits of the ranges before this one are listed.
use Prim.Native.Nat.{ℕ}
use mathlib.Core.Path.{◌≡◌, sym, ap, ◌∙◌}
use mathlib.Core.List.{List, ◌++◌}
use native.Mathlib.Omega.{arith}
use Rattle.lists.specs.Chain.{chain}
use Rattle.lists.proofs.Chain.{chain_none, chain_more}
use Rattle.layouts.specs.VariableBits.{ranges}
use Rattle.layouts.proofs.VariableIndex.{range_at, range_room, range_up, bits_are}
use Rattle.layouts.proofs.variable.variable_bits.Goals as goal

pub loop-from-init : goal.loop-from-init
loop-from-init c = record { in_range = omega arith; listed = c.new-bits.ensures ∙ sym (chain_none range_at) }

pub loop-from-preserved : goal.loop-from-preserved
unfolding ranges
loop-from-preserved c =
    let l = c.loop-from in
    record {
      in_range = omega arith;
      listed = c.push_range.ensures ∙ ap (λ (x : List ℕ). x ++ range_at l.from-index) l.invariant.listed ∙ sym (chain_more range_at l.from-index);
    }

pub push_range-requires : goal.push_range-requires
unfolding ranges
push_range-requires c =
    let k = c.loop-from.from-index in
    let up = range_up k c.loop-from-test.true in
    (up, rw c.loop-from.invariant.listed (range_room k c.loop-from-test.true))

pub returns : goal.returns
returns c = let e : c.loop-from.from-index ≡ 5 = omega arith in c.loop-from.invariant.listed ∙ ap (λ (k : ℕ). chain k range_at) e ∙ bits_are
