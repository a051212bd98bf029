-- Heavy: the packed symbols that hold variable bits, in the list's order and each once, then the others ascending; the r-th of these takes the r-th strongest slot. nb.rs,
-- `order` in `Tables::new`.
-- Assumes nothing.
use Rattle.std.specs.Prelude.{ℕ, ◌/◌, List, [], ◌∷◌, ◌++◌, length}
use Rattle.lists.specs.Among.{among}
use Rattle.lists.specs.Choice.{pick}
use Rattle.lists.specs.Completed.{completed}
use Rattle.lists.specs.Entry.{nth}
use Rattle.lists.specs.Iter.{iter}
use Rattle.lists.specs.Placed.{placed}
use Rattle.lists.specs.Values.{values}
use Rattle.layouts.specs.VariableBits.{variable}

abbrev pub push_new : List ℕ → ℕ → List ℕ
push_new order j = pick (among (length order) (nth order) j) order (order ++ j ∷ [])

-- the symbols that hold variable bits
unfoldable pub touched : List ℕ
touched = iter 96 (λ i order. push_new order (variable i / 5)) []

unfoldable pub symbol_order : ℕ → ℕ
symbol_order = completed 52 (length touched) (nth touched)

-- the slot of each packed symbol, from the slots by strength
unfoldable pub taken_by : List ℕ → List ℕ
taken_by slots = placed 52 symbol_order (nth slots) (values 52 (λ j. j))
