-- A lent code in another column order, from what stands in the parts after elimination.
-- Assumes nothing.
use Prim.Native.Nat.{ℕ, ◌<◌}
use mathlib.Core.Path.{◌≡◌, ap, ap₂, ◌∙◌}
use mathlib.Core.List.{List}
use Rattle.lists.specs.Entry.{nth}
use Rattle.lists.specs.Values.{values}
use Rattle.calls.specs.Parts.{padded}
use Rattle.elimination.specs.Elimination.{State, reduced, infos, table}
use Rattle.elimination.proofs.Reduced.{reduced_order}
use Rattle.elimination.specs.Held.{held}
use Rattle.graph.specs.declared.Code.{Code}
use Rattle.graph.specs.Parts.{Parts}
use Rattle.lent.specs.Misencoded.{graph_in}
use Rattle.peeling.specs.WithPeeledInfo.{code_in, parts_in}

-- what elimination gives for the order as it stands in its part is what it gives for the order
module _ (c : Code) (p : Parts) (order part : List ℕ) (front : (t : ℕ) → t < c.n → nth part t ≡ nth order t) where
  same : reduced (graph_in c p) part ≡ reduced (graph_in c p) order
  unfolding held
  same = reduced_order (graph_in c p) part order front

  pub recoded_code : {rank : ℕ} → rank ≡ (reduced (graph_in c p) part).rank → ◌≡◌ {A = Code} (record { n = c.n; m = c.m; edges = c.edges; rank = rank }) (code_in c p order)
  unfolding code_in
  recoded_code {rank} e = ap (λ (k : ℕ). record { n = c.n; m = c.m; edges = c.edges; rank = k }) (e ∙ ap (λ (s : State). s.rank) same)

  pub recoded_parts : part ≡ padded 256 0 order → {parity info a : List ℕ}
      → parity ≡ padded 256 0 (values (reduced (graph_in c p) part).rank (reduced (graph_in c p) part).pivot)
      → info ≡ padded 256 0 (infos c.n (reduced (graph_in c p) part))
      → a ≡ padded 16384 0 (table c.n (reduced (graph_in c p) part))
      → ◌≡◌ {A = Parts} (record { var = p.var; coef = p.coef; row = p.row; start = p.start; col = p.col; order = part; parity = parity; info = info; a = a }) (parts_in c p order)
  unfolding parts_in held
  recoded_parts o {parity} {info} {a} x y z =
      ap₂ (λ (q r : List ℕ). record { var = p.var; coef = p.coef; row = p.row; start = p.start; col = p.col; order = q; parity = r; info = info; a = a })
      o (x ∙ ap (λ (s : State). padded 256 0 (values s.rank s.pivot)) same)
      ∙ ap₂ (λ (q r : List ℕ). record {
        var = p.var;
        coef = p.coef;
        row = p.row;
        start = p.start;
        col = p.col;
        order = padded 256 0 order;
        parity = padded 256 0 (values (reduced (graph_in c p) order).rank (reduced (graph_in c p) order).pivot);
        info = q;
        a = r;
      })
      (y ∙ ap (λ (s : State). padded 256 0 (infos c.n s)) same) (z ∙ ap (λ (s : State). padded 16384 0 (table c.n s)) same)
