-- What the layers above may count on of a graph that `new` builds.
-- Assumes nothing.
use Prim.Native.Nat.{ℕ, ◌+◌, ◌%◌, ◌<◌}
use mathlib.Core.Path.{◌≡◌, ap, sym, ◌∙◌, subst, subst₂}
use mathlib.Core.List.{List}
use native.Mathlib.Nat.{mod-lt}
use native.Mathlib.Omega.{arith}
use lib.Dec.{lit<}
use lib.ListN.{length, get_or}
use Rattle.lists.specs.Entry.{nth}
use Rattle.lists.specs.Chain.{start_of}
use Rattle.lists.specs.EachOnce.{EachOnce}
use Rattle.lists.specs.Times.{times}
use Rattle.lists.specs.Total.{total}
use Rattle.lists.proofs.Chain.{chain_each}
use Rattle.lists.proofs.Total.{total_ext}
use Rattle.lists.proofs.Times.{times_has, times-chain, total-times}
use Rattle.lists.proofs.Values.{values_at}
use Rattle.calls.specs.Parts.{padded}
use Rattle.field.specs.SplitMix64.{draw, after}
use Rattle.elimination.specs.Graph.{Edge, Graph, check_count, check, edges}
use Rattle.graph.specs.Parts.{variables, coefficients, places}
use Rattle.graph.specs.Coefficients.{coefficient}
use Rattle.elimination.specs.Matrix.{matrix_of}
use Rattle.elimination.specs.Elimination.{reduced}
use Rattle.elimination.specs.Held.{held}
use Rattle.elimination.specs.Encodable.{Encodable}
use Rattle.graph.specs.Descending.{descending}
use Rattle.graph.specs.Built.{built}
use Rattle.graph.specs.Buildable.{Buildable}
use Rattle.growth.proofs.Grown.{GrownWell}
use Rattle.graph.proofs.Places.{places-times}
use Rattle.graph.proofs.Built.{growth, grown_chk, built_n, built_m, built-check, built-variables, built-coefficients, built_count, built_well, grown_total, weighted_at, weighted-length}
use Rattle.graph.proofs.Descending.{descending-length, descending_once}
use Rattle.elimination.proofs.Entries.{Small}
use Rattle.elimination.proofs.Eliminated.{Eliminated}
use Rattle.elimination.proofs.Reduced.{reduced_is}
use Rattle.graph.proofs.Proper.{Proper, vars_long, var_part, coef_part, row_part, parts_encodable, parts_reduced}

coefficient-lt : (s e : ℕ) → coefficient s e < 32
coefficient-lt s e = let h : draw (after e s) % 31 < 31 = mod-lt (draw (after e s)) (lit< tt) in omega arith

-- a graph of m checks and n variables of the given degrees
pub record BuiltWell (n m : ℕ) (degrees : List ℕ) (g : Graph) : Type 0 where
  pub symbols : g.n ≡ n
  pub checks : check_count g ≡ m
  -- every variable has its degree
  pub degree : (v : ℕ) → v < n → length (places (variables g) v) ≡ nth degrees v
  -- and stands at most once in a check
  pub once : (c s t : ℕ) → c < m → s < length (check g c) → t < length (check g c) → (get_or (check g c) s (0, 0)).0 ≡ (get_or (check g c) t (0, 0)).0 → s ≡ t
  -- edges are as many as the degrees' sum, of variables below n, with coefficients 1 to 31
  pub count : length (edges g) ≡ total n (nth degrees)
  pub variable : (e : ℕ) → e < length (edges g) → nth (variables g) e < n
  pub coefficient : (e : ℕ) → e < length (edges g) → (0 < nth (coefficients g) e) × (nth (coefficients g) e < 32)

pub built_well_is : (n m : ℕ) (degrees : List ℕ) (seed : ℕ) → Buildable n m degrees → BuiltWell n m degrees (built n m degrees seed)
built_well_is n m degrees seed ok = record {
  symbols = built_n n m degrees seed;
  checks = built_m n m degrees seed;
  degree = λ v h. places-times (variables g) v ∙ ap (times v) (built-variables n m degrees seed) ∙ times-chain v m chk ∙ sides v ∙ w.degree v h;
  once = λ c s t h a b e. w.distinct c s t (long c s h a) (long c t h b) (sym (own c s h a) ∙ e ∙ own c t h b);
  count = built_count n m degrees seed ∙ grown_total n m degrees seed ok;
  variable = λ e h.
      subst (λ (l : List ℕ). nth l e < n) (sym (built-variables n m degrees seed))
      (chain_each chk (λ (x : ℕ). x < n) 0 m (λ c j a b. w.variables c j b) e (subst (λ (l : List ℕ). e < length l) (built-variables n m degrees seed) (omega (arith, vars_long g))));
  coefficient = λ e h.
      let q = ap (λ (l : List ℕ). nth l e) (built-coefficients n m degrees seed) ∙ values_at (coefficient (growth n m degrees seed).1) (start_of chk m) e 0 (omega (arith, built_count n m degrees seed)) in
      let b = coefficient-lt (growth n m degrees seed).1 e in
      (omega arith, omega arith);
}
  where
    g : Graph
    g = built n m degrees seed

    chk : ℕ → List ℕ
    chk = grown_chk n m degrees seed

    w : GrownWell m n (nth degrees) (growth n m degrees seed).0
    w = built_well n m degrees seed ok

    -- v's edges by check are its edges by variable
    sides : (v : ℕ) → total m (λ c. times v (chk c)) ≡ length ((growth n m degrees seed).0.var v)
    sides v =
        total_ext m (λ c. times v (chk c)) (λ c. times c ((growth n m degrees seed).0.var v)) (λ c h. w.both c v)
        ∙ total-times m ((growth n m degrees seed).0.var v)
        (λ c h. let r = times_has c ((growth n m degrees seed).0.var v) h in subst (λ (x : ℕ). x < m) r.2 (w.checks v r.0 r.1))

    long : (c s : ℕ) → c < m → s < length (check g c) → s < length (chk c)
    long c s h a = subst (λ (k : ℕ). s < k) (ap length (built-check n m degrees seed c h) ∙ weighted-length (growth n m degrees seed).1 (start_of chk c) (chk c)) a

    own : (c s : ℕ) → c < m → s < length (check g c) → (get_or (check g c) s (0, 0)).0 ≡ nth (chk c) s
    own c s h a =
        ap (λ (l : List Edge). (get_or l s (0, 0)).0) (built-check n m degrees seed c h)
        ∙ ap (λ (x : Edge). x.0) (weighted_at (growth n m degrees seed).1 (start_of chk c) (chk c) s (long c s h a))

-- ---- and of its elimination, from the last column back: the laws of Infos.antt follow

module _ (n m : ℕ) (degrees : List ℕ) (seed : ℕ) where
  pub built_small : Small (built n m degrees seed)
  built_small c t h a =
      let k : c < m = subst (λ (x : ℕ). c < x) (built_m n m degrees seed) h in
      let f = grown_chk n m degrees seed in
      let s = (growth n m degrees seed).1 in
      let e = built-check n m degrees seed c k in
      let l : t < length (f c) = subst (λ (x : ℕ). t < x) (ap length e ∙ weighted-length s (start_of f c) (f c)) a in
      subst (λ (x : ℕ). x < 32)
      (sym (ap (λ (es : List Edge). (get_or es t (0, 0)).1) e ∙ ap (λ (x : Edge). x.1) (weighted_at s (start_of f c) (f c) t l)))
      (coefficient-lt s (start_of f c + t))

  -- its column order is one of the graph's
  pub built_long : length (descending n) ≡ (built n m degrees seed).n
  built_long = descending-length n ∙ sym (built_n n m degrees seed)

  pub built_once : EachOnce (built n m degrees seed).n (nth (descending n))
  built_once = subst (λ (k : ℕ). EachOnce k (nth (descending n))) (sym (built_n n m degrees seed)) (descending_once n)

  pub built_eliminated : Eliminated m n (nth (descending n)) (matrix_of (built n m degrees seed)) n (reduced (built n m degrees seed) (descending n))
  built_eliminated =
      subst₂ (λ (x y : ℕ). Eliminated x y (nth (descending n)) (matrix_of (built n m degrees seed)) y (reduced (built n m degrees seed) (descending n)))
      (built_m n m degrees seed) (built_n n m degrees seed)
      (reduced_is (built n m degrees seed) (descending n) built_small built_once.inside)

-- ---- it may stand in a code's parts

module _ (n m : ℕ) (degrees : List ℕ) (seed : ℕ) (ok : Buildable n m degrees) where
  abbrev built_graph : Graph
  built_graph = built n m degrees seed

  pub built_proper : Proper built_graph
  built_proper = record {
    n_small = omega (arith, w.symbols, ok.n_small);
    m_small = omega (arith, w.checks, ok.m_small);
    few = omega (arith, w.count, ok.sum);
    variable = λ e h. omega (arith, w.symbols, w.variable e h);
    coefficient = w.coefficient;
    once = λ c s t h. w.once c s t (omega (arith, w.checks));
  }
    where
      w : BuiltWell n m degrees built_graph
      w = built_well_is n m degrees seed ok

  -- elimination may be run on the parts, and gives what it gives of the graph
  pub built_encodable : Encodable n m (var_part built_graph) (coef_part built_graph) (row_part built_graph) (padded 256 0 (descending n))
  built_encodable =
      subst₂ (λ (x y : ℕ). Encodable x y (var_part built_graph) (coef_part built_graph) (row_part built_graph) (padded 256 0 (descending n))) (built_n n m degrees seed) (built_m n m degrees seed)
      (parts_encodable built_graph built_proper (descending n) (built_long n m degrees seed) (built_once n m degrees seed))

  pub built_reduced : reduced (held n m (var_part built_graph) (coef_part built_graph) (row_part built_graph)) (padded 256 0 (descending n)) ≡ reduced built_graph (descending n)
  built_reduced =
      subst₂ (λ (x y : ℕ). reduced (held x y (var_part built_graph) (coef_part built_graph) (row_part built_graph)) (padded 256 0 (descending n)) ≡ reduced built_graph (descending n))
      (built_n n m degrees seed) (built_m n m degrees seed)
      (parts_reduced built_graph built_proper (descending n) (built_long n m degrees seed) (built_once n m degrees seed))
