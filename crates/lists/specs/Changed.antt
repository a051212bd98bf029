-- A function with another value at one place. Ours, for an entry stored where a definition has a function in the place of a part.
-- Assumes nothing.
use Rattle.std.specs.Prelude.{ℕ, eqb}
use Rattle.lists.specs.Choice.{pick}

unfoldable pub changed {ℓ} : {A : Type ℓ} → (ℕ → A) → ℕ → A → ℕ → A
changed f place value j = pick (eqb j place) value (f j)
