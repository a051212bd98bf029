-- The list of given values: `values n f` is f 0, f 1, .., f (n - 1). Ours; tables and filled parts are stated by it.
-- Assumes nothing.
use Rattle.std.specs.Prelude.{ℕ, zero, suc, List, [], ◌∷◌}

-- f i, f (i + 1) and so on, n of them
abbrev pub values_from {ℓ} : {A : Type ℓ} → ℕ → ℕ → (ℕ → A) → List A
values_from i zero f = []
values_from i (suc n) f = f i ∷ values_from (suc i) n f

unfoldable pub values {ℓ} : {A : Type ℓ} → ℕ → (ℕ → A) → List A
values n f = values_from 0 n f
