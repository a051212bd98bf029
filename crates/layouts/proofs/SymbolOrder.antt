-- The order of the packed symbols as code makes it: the symbols of the variable bits one after another, and then each symbol that is not there yet. By computed tests.
-- Assumes nothing.
use Prim.Native.Nat.{ℕ, suc, ◌+◌, ◌/◌, ◌<◌, ◌≤◌}
use mathlib.Core.Path.{◌≡◌, refl, ap, ◌∙◌}
use mathlib.Core.List.{List, []}
use native.Mathlib.Numerals.{add-one}
use native.Mathlib.Omega.{arith}
use borrow.Author.Tests.{leb-true}
use lib.Dec.{leb}
use lib.ListN.{length}
use Rattle.lists.specs.Among.{among}
use Rattle.lists.specs.AnyBelow.{any_below}
use Rattle.lists.specs.Chain.{chain}
use Rattle.lists.specs.Choice.{pick}
use Rattle.lists.specs.Completed.{rest, completed}
use Rattle.lists.specs.Entry.{nth}
use Rattle.lists.specs.Iter.{iter}
use Rattle.lists.specs.Keep.{keep_below}
use Rattle.lists.specs.Values.{values}
use Rattle.lists.proofs.Cases.{holds}
use Rattle.lists.proofs.Computed.{all_below_at}
use Rattle.lists.proofs.Iter.{iter_on}
use Rattle.layouts.specs.Heavy.{push_new, touched, symbol_order}
use Rattle.layouts.specs.VariableBits.{ranges, variable_bits, variable}
use Rattle.layouts.proofs.VariableIndex.{variable_inside, bits_count}

abbrev pub touch_turn : ℕ → List ℕ → List ℕ
touch_turn i order = push_new order (variable i / 5)

abbrev pub other_turn : ℕ → List ℕ → List ℕ
other_turn j order = push_new order j

pub touch_room : (i : ℕ) → i < 96 → length (iter (i + 1) touch_turn []) ≤ 52
unfolding variable variable_bits ranges chain iter values pick among any_below
touch_room i h = rw (add-one i) (leb-true _ 52 (holds _ (all_below_at 96 (λ i. leb (length (iter (suc i) touch_turn [])) 52) tt i h)))

pub other_room : (j : ℕ) → j < 52 → length (iter (j + 1) other_turn touched) ≤ 52
unfolding touched variable variable_bits ranges chain iter values pick among any_below
other_room j h = rw (add-one j) (leb-true _ 52 (holds _ (all_below_at 52 (λ j. leb (length (iter (suc j) other_turn touched)) 52) tt j h)))

pub order_is : iter 52 other_turn touched ≡ values 52 symbol_order
unfolding symbol_order completed rest keep_below touched variable variable_bits ranges chain iter values pick among any_below
order_is = refl

-- a turn at an entry of the variable bits
module _ (bits : List ℕ) (e : bits ≡ variable_bits) (i : ℕ) (h : i < length bits) where
  below : i < 96
  below = omega (arith, ap length e, bits_count)

  pub bit_is : nth bits i ≡ variable i
  unfolding variable
  bit_is = ap (λ (l : List ℕ). nth l i) e

  pub bit_symbol : nth bits i / 5 < 52
  bit_symbol = omega (arith, bit_is, variable_inside i below)

  pub touch_more : (order : List ℕ) → order ≡ iter i touch_turn [] → push_new order (nth bits i / 5) ≡ iter (i + 1) touch_turn []
  touch_more order o = ap (λ (b : ℕ). push_new order (b / 5)) bit_is ∙ iter_on i touch_turn [] order o

  pub touch_fits : (order : List ℕ) → order ≡ iter i touch_turn [] → length (push_new order (nth bits i / 5)) ≤ 52
  touch_fits order o = rw (touch_more order o) (touch_room i below)

pub touch_all : (bits order : List ℕ) → bits ≡ variable_bits → (i : ℕ) → i ≡ length bits → order ≡ iter i touch_turn [] → order ≡ touched
unfolding touched
touch_all bits order e i n o = o ∙ ap (λ (k : ℕ). iter k touch_turn []) (n ∙ ap length e ∙ bits_count)

pub other_fits : (j : ℕ) (order : List ℕ) → j < 52 → order ≡ iter j other_turn touched → length (push_new order j) ≤ 52
other_fits j order h o = rw (iter_on j other_turn touched order o) (other_room j h)
