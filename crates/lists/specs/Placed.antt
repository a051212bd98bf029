-- Values v 0, .., v (k - 1) stored at positions p 0, .., p (k - 1) of a list, in this order. Ours.
-- Assumes nothing.
use Rattle.std.specs.Prelude.{ℕ, List, set}
use Rattle.lists.specs.Iter.{iter}

unfoldable pub placed : ℕ → (ℕ → ℕ) → (ℕ → ℕ) → List ℕ → List ℕ
placed k p v x = iter k (λ t y. set y (p t) (v t)) x
