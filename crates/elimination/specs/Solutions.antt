-- The words that a parity-check matrix admits: those whose product with each of its rows is 0. Davey and MacKay 1998.
-- Assumes nothing.
use Rattle.std.specs.Prelude.{◌≡◌, ℕ, ◌<◌}
use Rattle.field.specs.Field.{product}
use Rattle.field.specs.FieldSum.{field_sum}
use Rattle.elimination.specs.Matrix.{Matrix}

-- row i of h times a word of n symbols
unfoldable pub row_times : ℕ → Matrix → (ℕ → ℕ) → ℕ → ℕ
row_times n h word i = field_sum n (λ j. product (h i j) (word j))

-- of a matrix of m rows and n columns
abbrev pub Solves : ℕ → ℕ → Matrix → (ℕ → ℕ) → Type 0
Solves m n h word = (i : ℕ) → i < m → row_times n h word i ≡ 0
