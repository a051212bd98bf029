-- The graph that `new` builds: grown from the seed, then weighted with coefficients from the same generator. nb.rs, `NbCode::new`.
-- Assumes nothing.
use Rattle.std.specs.Prelude.{ℕ, List}
use Rattle.lists.specs.Entry.{nth}
use Rattle.lists.specs.Values.{values}
use Rattle.lists.specs.Chain.{start_of}
use Rattle.elimination.specs.Graph.{Edge, Graph}
use Rattle.growth.specs.Adjacency.{empty}
use Rattle.growth.specs.Growth.{Growth, grown}
use Rattle.graph.specs.Coefficients.{weighted}

-- m checks with the variables of g, their coefficients drawn check by check from state s on
unfoldable pub weighted_checks : ℕ → Growth → List (List Edge)
weighted_checks m w = values m (λ c. weighted w.1 (start_of w.0.chk c) (w.0.chk c))

unfoldable pub built : ℕ → ℕ → List ℕ → ℕ → Graph
built n m degrees seed = record { n = n; checks = weighted_checks m (grown m n (nth degrees) (empty, seed)) }
