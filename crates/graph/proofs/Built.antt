-- What `built` gives, in the terms in which the code lays it out: the variables of all checks one after another, and a coefficient for each.
-- Assumes nothing.
use Prim.Native.Nat.{ℕ, ◌+◌, ◌<◌, ◌≤◌}
use mathlib.Core.Path.{◌≡◌, refl, ap, sym, ◌∙◌}
use mathlib.Core.List.{List, [], map}
use native.Mathlib.Omega.{arith}
use lib.ListN.{length, get_or, length-map}
use Rattle.lists.specs.Entry.{nth}
use Rattle.lists.specs.Values.{values}
use Rattle.lists.specs.Chain.{chain, start_of}
use Rattle.lists.proofs.Values.{values-length, values_at, values_ext, values_own, map-values}
use Rattle.lists.specs.Total.{total}
use Rattle.lists.proofs.Chain.{chain_ext, map-chain, chain-values, chain-length, start_is, start_lengths}
use Rattle.elimination.specs.Graph.{Edge, check_count, check, edges}
use Rattle.graph.specs.Parts.{variables, coefficients, row_starts, places, columns, column_starts}
use Rattle.growth.specs.Adjacency.{empty}
use Rattle.growth.specs.Growth.{Growth, grown}
use Rattle.graph.specs.Coefficients.{coefficient, weighted}
use Rattle.graph.specs.Built.{weighted_checks, built}
use Rattle.graph.specs.Buildable.{Buildable}
use Rattle.growth.proofs.Grown.{GrownWell, grown_well}

-- ---- variables with coefficients

module _ (s e : ℕ) (vars : List ℕ) where
  pub weighted-length : length (weighted s e vars) ≡ length vars
  unfolding weighted
  weighted-length = values-length (λ j. (nth vars j, coefficient s (e + j))) (length vars)

  pub weighted_at : (j : ℕ) → j < length vars → get_or (weighted s e vars) j (0, 0) ≡ (nth vars j, coefficient s (e + j))
  unfolding weighted
  weighted_at j h = values_at (λ j. (nth vars j, coefficient s (e + j))) (length vars) j (0, 0) h

  weighted_variables : map (λ (x : Edge). x.0) (weighted s e vars) ≡ vars
  unfolding weighted
  weighted_variables = map-values (λ (x : Edge). x.0) (length vars) (λ j. (nth vars j, coefficient s (e + j))) ∙ values_own 0 vars

  weighted_coefficients : map (λ (x : Edge). x.1) (weighted s e vars) ≡ values (length vars) (λ j. coefficient s (e + j))
  unfolding weighted
  weighted_coefficients = map-values (λ (x : Edge). x.1) (length vars) (λ j. (nth vars j, coefficient s (e + j)))

-- ---- the graph, from what was grown

module _ (n m : ℕ) (degrees : List ℕ) (seed : ℕ) where
  abbrev pub growth : Growth
  growth = grown m n (nth degrees) (empty, seed)

  -- each check's variables
  abbrev pub grown_chk : ℕ → List ℕ
  grown_chk = growth.0.chk

  abbrev given : ℕ → List Edge
  given c = weighted growth.1 (start_of grown_chk c) (grown_chk c)

  pub built_n : (built n m degrees seed).n ≡ n
  unfolding built
  built_n = refl

  pub built_m : check_count (built n m degrees seed) ≡ m
  unfolding built weighted_checks
  built_m = values-length given m

  pub built-check : (c : ℕ) → c < m → check (built n m degrees seed) c ≡ given c
  unfolding built weighted_checks
  built-check c h = values_at given m c [] h

  built-edges : edges (built n m degrees seed) ≡ chain m given
  unfolding edges
  built-edges =
      ap (λ (k : ℕ). chain k (check (built n m degrees seed))) built_m
      ∙ chain_ext m (check (built n m degrees seed)) given built-check

  pub built-variables : variables (built n m degrees seed) ≡ chain m grown_chk
  built-variables =
      ap (map (λ (x : Edge). x.0)) built-edges ∙ map-chain (λ (x : Edge). x.0) m given
      ∙ chain_ext m (λ c. map (λ (x : Edge). x.0) (given c)) grown_chk (λ c h. weighted_variables growth.1 (start_of grown_chk c) (grown_chk c))

  pub built-coefficients : coefficients (built n m degrees seed) ≡ values (start_of grown_chk m) (coefficient growth.1)
  built-coefficients =
      ap (map (λ (x : Edge). x.1)) built-edges ∙ map-chain (λ (x : Edge). x.1) m given
      ∙ chain_ext m (λ c. map (λ (x : Edge). x.1) (given c)) (λ c. values (length (grown_chk c)) (λ j. coefficient growth.1 (start_of grown_chk c + j)))
      (λ c h. weighted_coefficients growth.1 (start_of grown_chk c) (grown_chk c))
      ∙ chain-values m grown_chk (coefficient growth.1)

  pub built_starts : (c : ℕ) → c ≤ m → start_of (check (built n m degrees seed)) c ≡ start_of grown_chk c
  built_starts c h =
      start_lengths c (check (built n m degrees seed)) grown_chk
      (λ k l. ap length (built-check k (omega arith)) ∙ weighted-length growth.1 (start_of grown_chk k) (grown_chk k))

  pub built_count : length (edges (built n m degrees seed)) ≡ start_of grown_chk m
  built_count = sym (length-map (edges (built n m degrees seed)) (λ (x : Edge). x.0)) ∙ ap length built-variables ∙ sym (start_is grown_chk m)

  pub built-row_starts : row_starts (built n m degrees seed) ≡ values (m + 1) (start_of grown_chk)
  built-row_starts =
      ap (λ (k : ℕ). values (k + 1) (start_of (check (built n m degrees seed)))) built_m
      ∙ values_ext (m + 1) (start_of (check (built n m degrees seed))) (start_of grown_chk) 0 (λ c h. built_starts c (omega arith))

  pub built-columns : columns (built n m degrees seed) ≡ chain n (places (variables (built n m degrees seed)))
  built-columns = ap (λ (k : ℕ). chain k (places (variables (built n m degrees seed)))) built_n

  pub built-column_starts : column_starts (built n m degrees seed) ≡ values (n + 1) (start_of (places (variables (built n m degrees seed))))
  built-column_starts = ap (λ (k : ℕ). values (k + 1) (start_of (places (variables (built n m degrees seed))))) built_n

  -- ---- where nothing turns the build down

  module _ (ok : Buildable n m degrees) where
    pub built_well : GrownWell m n (nth degrees) growth.0
    built_well = grown_well m n (nth degrees) seed ok.m_small ok.n_small ok.low

    -- as many edges as the degrees' sum
    pub grown_total : start_of grown_chk m ≡ total n (nth degrees)
    grown_total = start_is grown_chk m ∙ chain-length grown_chk m ∙ built_well.edges

    pub grown_few : start_of grown_chk m ≤ 512
    grown_few = omega (arith, grown_total, ok.sum)
