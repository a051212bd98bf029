-- Whether a number is one of f 0, .., f (r - 1). Ours, for the source's `contains`.
-- Assumes nothing.
use Rattle.std.specs.Prelude.{ℕ, Bool, eqb}
use Rattle.lists.specs.AnyBelow.{any_below}

unfoldable pub among : ℕ → (ℕ → ℕ) → ℕ → Bool
among r f j = any_below r (λ t. eqb (f t) j)
