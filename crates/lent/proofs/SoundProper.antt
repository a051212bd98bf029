-- The graph of a lent code that the refusals leave is proper: so what holds of a proper graph's elimination in any column order holds of it.
-- Assumes nothing.
use Prim.Native.Nat.{ℕ, ◌+◌, ◌-◌, ◌<◌}
use mathlib.Core.Path.{◌≡◌, ap, sym, subst, ◌∙◌}
use mathlib.Core.List.{List}
use native.Mathlib.Omega.{arith}
use lib.ListN.{length, get_or, get_or-map}
use Rattle.lists.specs.Entry.{nth}
use Rattle.lists.specs.Values.{values}
use Rattle.lists.proofs.Chain.{chain_each}
use Rattle.lists.proofs.Values.{values-length, values_at}
use Rattle.graph.specs.declared.Code.{Code}
use Rattle.elimination.specs.Graph.{Edge, Graph, check_count, check, edges}
use Rattle.elimination.specs.Held.{held}
use Rattle.lent.specs.Misencoded.{graph_in}
use Rattle.graph.specs.Parts.{Parts, variables}
use Rattle.lent.specs.Sound.{IsSound}
use Rattle.elimination.proofs.Held.{held_checks, held-check}
use Rattle.lent.proofs.Formed.{starts_end}
use Rattle.lent.proofs.HeldVariables.{held-variables}
use Rattle.graph.proofs.Proper.{Proper, vars_long}

module _ (c : Code) (p : Parts) (w : IsSound c p) where
  abbrev g : Graph
  g = graph_in c p

  checks : check_count g ≡ c.m
  checks = held_checks c.n c.m p.var p.coef p.row

  vars : variables g ≡ values c.edges (nth p.var)
  vars = held-variables c.n c.m c.edges p.var p.coef p.row w.formed.rows

  count : length (edges g) ≡ c.edges
  count = sym (vars_long g) ∙ ap length vars ∙ values-length (nth p.var) c.edges

  -- edge t of check i in its place
  abbrev place : ℕ → ℕ → ℕ
  place i t = nth p.row i + t

  edge_held : (i t : ℕ) → i < check_count g → t < length (check g i) → (place i t < nth p.row (i + 1)) × (get_or (check g i) t (0, 0) ≡ (nth p.var (place i t), nth p.coef (place i t)))
  edge_held i t h l =
      let k = nth p.row (i + 1) - nth p.row i in
      let f : ℕ → Edge = λ j. (nth p.var (place i j), nth p.coef (place i j)) in
      let e = held-check c.n c.m p.var p.coef p.row i (omega (arith, checks)) in
      let b : t < k = omega (arith, ap length e, values-length f k, l) in
      (omega (arith, b), ap (λ (es : List Edge). get_or es t (0, 0)) e ∙ values_at f k t (0, 0) b)

  -- it is one of the edges
  edge_inside : (i t : ℕ) → i < check_count g → place i t < nth p.row (i + 1) → place i t < c.edges
  edge_inside i t h l = omega (arith, starts_end w.formed.rows i (omega (arith, checks)))

  abbrev Good : Edge → Type 0
  Good e = (0 < e.1) × (e.1 < 32)

  coefs : (e : ℕ) → e < length (edges g) → Good (get_or (edges g) e (0, 0))
  unfolding edges
  coefs =
      chain_each (check g) Good (0, 0) (check_count g)
      (λ i t h l. let r = edge_held i t h l in subst Good (sym r.1) (w.formed.coefs (place i t) (edge_inside i t h r.0)))

  pub sound_proper : Proper (graph_in c p)
  unfolding held
  sound_proper = record {
    n_small = w.fits.n_small;
    m_small = omega (arith, checks, w.fits.m_small);
    few = omega (arith, count, w.formed.few);
    variable = λ e h.
        let l : e < c.edges = omega (arith, count) in
        subst (λ (x : ℕ). x < c.n) (sym (ap (λ (vs : List ℕ). nth vs e) vars ∙ values_at (nth p.var) c.edges e 0 l)) (w.formed.vars e l);
    coefficient = λ e h. subst (λ (x : ℕ). (0 < x) × (x < 32)) (sym (get_or-map (λ (e : Edge). e.1) (edges g) e (0, 0))) (coefs e h);
    once = λ i s t h a b q.
        let r = edge_held i s h a in
        let u = edge_held i t h b in
        w.formed.once i s t (omega (arith, checks)) r.0 u.0 (sym (ap (λ (e : Edge). e.0) r.1) ∙ q ∙ ap (λ (e : Edge). e.0) u.1);
  }
