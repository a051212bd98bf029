-- A search that answers where: the lowest of the k numbers from r on at which the test holds, or r + k where there is none. Ours, for the source's `find`.
-- Assumes nothing.
use Rattle.std.specs.Prelude.{ℕ, zero, suc, Bool}
use Rattle.lists.specs.Choice.{pick}

unfoldable pub lowest : (ℕ → Bool) → ℕ → ℕ → ℕ
lowest test zero r = r
lowest test (suc k) r = pick (test r) r (lowest test k (suc r))
