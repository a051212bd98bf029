-- The variables of a graph that parts hold.
-- Assumes nothing.
use Prim.Native.Nat.{ℕ, zero, suc, ◌+◌, ◌-◌, ◌<◌, ◌≤◌}
use mathlib.Core.Path.{◌≡◌, sym, ap, ap₂, ◌∙◌}
use mathlib.Core.List.{List, map}
use native.Mathlib.Nat.{le_refl}
use native.Mathlib.Numerals.{add-one}
use native.Mathlib.Omega.{arith}
use lib.ListN.{length}
use Rattle.lists.specs.Entry.{nth}
use Rattle.lists.specs.Chain.{chain, start_of}
use Rattle.lists.specs.Values.{values}
use Rattle.lists.proofs.Values.{values-length}
use Rattle.lists.proofs.Chain.{start_none, start_more, chain_ext, map-chain, chain-values}
use Rattle.elimination.specs.Graph.{Edge, check_count, check, edges}
use Rattle.elimination.specs.Held.{held}
use Rattle.elimination.proofs.Held.{held_checks, held_symbols}
use Rattle.graph.specs.Parts.{variables}
use Rattle.lent.specs.Sound.{Starts}

module _ (n m count : ℕ) (var coef row : List ℕ) (w : Starts m count (nth row)) where
  -- the variables of check c
  abbrev own : ℕ → List ℕ
  own c = values (nth row (c + 1) - nth row c) (λ j. nth var (nth row c + j))

  own_start : (c : ℕ) → c ≤ m → start_of own c ≡ nth row c
  own_start zero h = start_none own ∙ sym w.first
  own_start (suc c) h =
      let e = start_more own c in
      let l = values-length (λ j. nth var (nth row c + j)) (nth row (c + 1) - nth row c) in
      let i = own_start c (omega arith) in
      let r = w.rise c (omega arith) in
      let q : start_of own (c + 1) ≡ nth row (c + 1) = omega arith in
      rw (← add-one c) q

  abbrev variable : Edge → ℕ
  variable e = e.0

  -- check c of the graph that the parts hold
  abbrev check_at : ℕ → List Edge
  check_at = check (held n m var coef row)

  check_own : (c : ℕ) → c < m → map variable (check_at c) ≡ values (length (own c)) (λ j. nth var (start_of own c + j))
  check_own c h =
      let l = values-length (λ j. nth var (nth row c + j)) (nth row (c + 1) - nth row c) in
      held_symbols n m var coef row c h ∙ ap₂ (λ (k i : ℕ). values k (λ j. nth var (i + j))) (sym l) (sym (own_start c (omega arith)))

  pub held-variables : variables (held n m var coef row) ≡ values count (nth var)
  unfolding edges
  held-variables =
      map-chain variable (check_count (held n m var coef row)) check_at
      ∙ ap (λ (k : ℕ). chain k (λ c. map variable (check_at c))) (held_checks n m var coef row)
      ∙ chain_ext m (λ c. map variable (check_at c)) (λ c. values (length (own c)) (λ j. nth var (start_of own c + j))) check_own
      ∙ chain-values m own (nth var)
      ∙ ap (λ (k : ℕ). values k (nth var)) (own_start m (le_refl m) ∙ w.last)
