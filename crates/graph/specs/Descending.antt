-- The column order of `new`: n - 1 down to 0. Document 01, part 2; nb.rs, `NbCode::new`.
-- Assumes nothing.
use Rattle.std.specs.Prelude.{ℕ, ◌+◌, ◌-◌, List}
use Rattle.lists.specs.Values.{values}

unfoldable pub descending : ℕ → List ℕ
descending n = values n (λ k. n - (k + 1))
