-- How often a number stands in a list. Ours; membership and 'at most once' are stated by it.
-- Assumes nothing.
use Rattle.std.specs.Prelude.{ℕ, ◌+◌, List, [], ◌∷◌, eqb}
use Rattle.lists.specs.Choice.{pick}

unfoldable pub times : ℕ → List ℕ → ℕ
times x [] = 0
times x (y ∷ l) = pick (eqb x y) 1 0 + times x l
