-- The field sum of many elements: `field_sum n f` is f 0 + f 1 + .. + f (n - 1), each sum the exclusive or. Ours.
-- Assumes nothing.
use Rattle.std.specs.Prelude.{ℕ, bit_xor}
use Rattle.lists.specs.Iter.{iter}

unfoldable pub field_sum : ℕ → (ℕ → ℕ) → ℕ
field_sum n f = iter n (λ k s. bit_xor s (f k)) 0
