-- Lists one after another: `chain n f` is f 0, then f 1, .., then f (n - 1). Ours, for lists of lists that stand in one part.
-- Assumes nothing.
use Rattle.std.specs.Prelude.{ℕ, List, [], ◌++◌, length}
use Rattle.lists.specs.Iter.{iter}

unfoldable pub chain {ℓ} : {A : Type ℓ} → ℕ → (ℕ → List A) → List A
chain n f = iter n (λ k l. l ++ f k) []

-- where f k begins
unfoldable pub start_of {ℓ} : {A : Type ℓ} → (ℕ → List A) → ℕ → ℕ
start_of f k = length (chain k f)
