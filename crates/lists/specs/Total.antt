-- The sum of numbers: `total n f` is f 0 + f 1 + .. + f (n - 1). Ours.
-- Assumes nothing.
use Rattle.std.specs.Prelude.{ℕ, ◌+◌}
use Rattle.lists.specs.Iter.{iter}

unfoldable pub total : ℕ → (ℕ → ℕ) → ℕ
total n f = iter n (λ k s. s + f k) 0
