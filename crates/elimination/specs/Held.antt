-- The graph that stands in the parts of a lent code: check c has the edges from its row start to the next one's. Ours, for document 01's "code in lent memory".
-- Assumes nothing.
use Rattle.std.specs.Prelude.{ℕ, ◌+◌, ◌-◌, List}
use Rattle.lists.specs.Entry.{nth}
use Rattle.lists.specs.Values.{values}
use Rattle.elimination.specs.Graph.{Edge, Graph}

-- the edges from place `from` to place `to`
abbrev pub edges_in : List ℕ → List ℕ → ℕ → ℕ → List Edge
edges_in var coef from to = values (to - from) (λ j. (nth var (from + j), nth coef (from + j)))

unfoldable pub held : ℕ → ℕ → List ℕ → List ℕ → List ℕ → Graph
held n m var coef row = record { n = n; checks = values m (λ c. edges_in var coef (nth row c) (nth row (c + 1))) }
