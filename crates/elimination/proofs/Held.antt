-- The graph that stands in parts: how many checks it has, the edges of each, and their variables.
-- Assumes nothing.
use Prim.Native.Nat.{ℕ, ◌+◌, ◌-◌, ◌<◌}
use mathlib.Core.Path.{◌≡◌, ap, ◌∙◌}
use mathlib.Core.List.{List, [], map}
use Rattle.lists.specs.Entry.{nth}
use Rattle.lists.specs.Values.{values}
use Rattle.lists.proofs.Values.{values-length, values_at, map-values}
use Rattle.elimination.specs.Graph.{Edge, check_count, check}
use Rattle.elimination.specs.Held.{edges_in, held}

module _ (n m : ℕ) (var coef row : List ℕ) where
  pub held_checks : check_count (held n m var coef row) ≡ m
  unfolding held
  held_checks = values-length (λ c. edges_in var coef (nth row c) (nth row (c + 1))) m

  pub held-check : (c : ℕ) → c < m → check (held n m var coef row) c ≡ edges_in var coef (nth row c) (nth row (c + 1))
  unfolding held
  held-check c h = values_at (λ c. edges_in var coef (nth row c) (nth row (c + 1))) m c [] h

  pub held_symbols : (c : ℕ) → c < m → map (λ (e : Edge). e.0) (check (held n m var coef row) c) ≡ values (nth row (c + 1) - nth row c) (λ j. nth var (nth row c + j))
  held_symbols c h =
      ap (map (λ (e : Edge). e.0)) (held-check c h)
      ∙ map-values (λ (e : Edge). e.0) (nth row (c + 1) - nth row c) (λ j. (nth var (nth row c + j), nth coef (nth row c + j)))
