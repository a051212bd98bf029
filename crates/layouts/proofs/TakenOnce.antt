-- Heavy: the order of the packed symbols has each symbol once, so each slot is taken once.
-- Assumes nothing.
use Prim.Native.Nat.{ℕ}
use mathlib.Core.Path.{◌≡◌, refl}
use mathlib.Core.Bool.{false}
use mathlib.Core.List.{List}
use native.Mathlib.Omega.{arith}
use lib.ListN.{length}
use Rattle.lists.specs.Among.{among}
use Rattle.lists.specs.AnyBelow.{any_below}
use Rattle.lists.specs.Chain.{chain}
use Rattle.lists.specs.Choice.{pick}
use Rattle.lists.specs.EachOnce.{EachOnce, outside, repeated}
use Rattle.lists.specs.Entry.{nth}
use Rattle.lists.specs.Iter.{iter}
use Rattle.lists.specs.Values.{values}
use Rattle.lists.proofs.Completed.{completed_once}
use Rattle.lists.proofs.EachOnce.{not_outside, not_repeated}
use Rattle.lists.proofs.PlacedOnce.{placed_once}
use Rattle.lists.proofs.Values.{values-length}
use Rattle.layouts.specs.Heavy.{touched, symbol_order, taken_by}
use Rattle.layouts.specs.VariableBits.{ranges, variable_bits, variable}

pub touched-length : length touched ≡ 22
unfolding touched variable variable_bits ranges chain iter values pick among any_below
touched-length = refl

touched_inside : outside 52 22 (nth touched) ≡ false
unfolding outside touched variable variable_bits ranges chain iter values pick among any_below
touched_inside = refl

touched_distinct : repeated 22 (nth touched) ≡ false
unfolding repeated touched variable variable_bits ranges chain iter values pick among any_below
touched_distinct = refl

pub order_once : EachOnce 52 symbol_order
unfolding symbol_order
order_once =
    completed_once 52 (length touched) (nth touched)
    (λ t h. not_outside 22 (nth touched) 52 touched_inside t (omega (arith, touched-length)))
    (λ t v h l. not_repeated 22 (nth touched) touched_distinct t v (omega (arith, touched-length)) (omega (arith, touched-length)))

pub taken_once : (slots : List ℕ) → EachOnce 52 (nth slots) → EachOnce 52 (nth (taken_by slots))
unfolding taken_by
taken_once slots w = placed_once 52 symbol_order (values 52 (λ j. j)) (values-length (λ j. j) 52) order_once (nth slots) w
