-- The row starts of a graph go from 0 to the edge count without falling, and edge j of a check stands j places past its start.
-- Assumes nothing.
use Prim.Native.Nat.{ℕ, ◌+◌, ◌<◌, ◌≤◌}
use mathlib.Core.Path.{◌≡◌, ap, ◌∙◌}
use native.Mathlib.Omega.{arith}
use lib.ListN.{length, get_or, get_or-map}
use Rattle.lists.specs.Chain.{start_of}
use Rattle.lists.specs.Entry.{nth}
use Rattle.lists.proofs.Chain.{start_none, start_up, start_is, start_of-le, chain_at}
use Rattle.elimination.specs.Graph.{Edge, Graph, check_count, check, edges}
use Rattle.graph.specs.Parts.{variables, coefficients}

module _ (g : Graph) where
  pub rows_first : start_of (check g) 0 ≡ 0
  rows_first = start_none (check g)

  pub rows_rise : (c d : ℕ) → c ≤ d → start_of (check g) c ≤ start_of (check g) d
  rows_rise c d h = start_up (check g) d c h

  pub rows_last : start_of (check g) (check_count g) ≡ length (edges g)
  unfolding edges
  rows_last = start_is (check g) (check_count g)

  -- ---- edge j of check c

  module _ (c j : ℕ) (h : c < check_count g) (l : j < length (check g c)) where
    pub edge_inside : start_of (check g) c + j < length (edges g)
    edge_inside = omega (arith, start_of-le (check g) (check_count g) c h, rows_last)

    edge_at : get_or (edges g) (start_of (check g) c + j) (0, 0) ≡ get_or (check g c) j (0, 0)
    unfolding edges
    edge_at = chain_at (check g) (check_count g) c j (0, 0) h l

    pub variable_at : nth (variables g) (start_of (check g) c + j) ≡ (get_or (check g c) j (0, 0)).0
    variable_at = get_or-map (λ (e : Edge). e.0) (edges g) (start_of (check g) c + j) (0, 0) ∙ ap (λ (e : Edge). e.0) edge_at

    pub coefficient_at : nth (coefficients g) (start_of (check g) c + j) ≡ (get_or (check g c) j (0, 0)).1
    coefficient_at = get_or-map (λ (e : Edge). e.1) (edges g) (start_of (check g) c + j) (0, 0) ∙ ap (λ (e : Edge). e.1) edge_at
