-- What parts hold a graph: its edges' variables and coefficients at their places, and its row starts.
-- Assumes nothing.
use Prim.Native.Nat.{ℕ, ◌+◌, ◌-◌, ◌<◌, ◌≤◌}
use mathlib.Core.Path.{◌≡◌, ap, ap₂, ◌∙◌}
use mathlib.Core.List.{List, []}
use native.Mathlib.Omega.{arith}
use lib.ListN.{length}
use lib.Seq.{ext_get_or}
use Rattle.lists.specs.Entry.{nth}
use Rattle.lists.specs.Chain.{start_of}
use Rattle.lists.proofs.Values.{values-length, values_at, values_ext, values_own}
use Rattle.lists.proofs.Chain.{start_more}
use Rattle.elimination.specs.Graph.{Edge, Graph, check_count, check, edges}
use Rattle.graph.specs.Parts.{variables, coefficients}
use Rattle.elimination.specs.Held.{edges_in, held}
use Rattle.graph.proofs.RowStarts.{edge_inside, variable_at, coefficient_at}

module _ (g : Graph) (var coef row : List ℕ)
    (vars : (e : ℕ) → e < length (edges g) → nth var e ≡ nth (variables g) e)
    (coefs : (e : ℕ) → e < length (edges g) → nth coef e ≡ nth (coefficients g) e)
    (starts : (c : ℕ) → c ≤ check_count g → nth row c ≡ start_of (check g) c) where
  same_check : (c : ℕ) → c < check_count g → edges_in var coef (nth row c) (nth row (c + 1)) ≡ check g c
  same_check c h =
      ap₂ (edges_in var coef) (starts c (omega arith)) (starts (c + 1) (omega arith))
      ∙ ext_get_or (0, 0) (edges_in var coef from to) (check g c) long
      (λ j l.
      let k : j < length (check g c) = omega (arith, long) in
      values_at (λ j. (nth var (from + j), nth coef (from + j))) (to - from) j (0, 0) (omega (arith, long'))
      ∙ ap₂ (λ (x y : ℕ). (x, y)) (vars (from + j) (edge_inside g c j h k) ∙ variable_at g c j h k) (coefs (from + j) (edge_inside g c j h k) ∙ coefficient_at g c j h k))
    where
      from : ℕ
      from = start_of (check g) c

      to : ℕ
      to = start_of (check g) (c + 1)

      long' : length (edges_in var coef from to) ≡ to - from
      long' = values-length (λ j. (nth var (from + j), nth coef (from + j))) (to - from)

      long : length (edges_in var coef from to) ≡ length (check g c)
      long = long' ∙ (let s = start_more (check g) c in let e : to - from ≡ length (check g c) = omega arith in e)

  pub held_is : held g.n (check_count g) var coef row ≡ g
  unfolding held
  held_is =
      ap (λ (cs : List (List Edge)). record { n = g.n; checks = cs })
      (values_ext (check_count g) (λ c. edges_in var coef (nth row c) (nth row (c + 1))) (check g) [] same_check ∙ values_own [] g.checks)
