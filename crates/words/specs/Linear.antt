-- Sums and field multiples of symbols, position by position: a sum is by exclusive or, as long as the longer list, and a missing symbol is 0.
-- Assumes nothing.
use Rattle.std.specs.Prelude.{ℕ, max, List, map, length}
use Rattle.std.specs.Int.Bits.{bit_xor}
use Rattle.lists.specs.Entry.{nth}
use Rattle.lists.specs.Values.{values}
use Rattle.field.specs.Field.{product}

unfoldable pub sum_of : List ℕ → List ℕ → List ℕ
sum_of x y = values (max (length x) (length y)) (λ j. bit_xor (nth x j) (nth y j))

unfoldable pub multiple_of : ℕ → List ℕ → List ℕ
multiple_of f x = map (product f) x
