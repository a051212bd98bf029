-- What passes a test: of a list, in the list's order; of the numbers below m, ascending. Ours, for the source's `filter`.
-- Assumes nothing.
use Rattle.std.specs.Prelude.{ℕ, zero, suc, Bool, List, [], ◌∷◌, ◌++◌}
use Rattle.lists.specs.Choice.{pick}

unfoldable pub keep : (ℕ → Bool) → List ℕ → List ℕ
keep test [] = []
keep test (x ∷ l) = pick (test x) (x ∷ []) [] ++ keep test l

unfoldable pub keep_below : (ℕ → Bool) → ℕ → List ℕ
keep_below test zero = []
keep_below test (suc m) = keep_below test m ++ pick (test m) (m ∷ []) []
