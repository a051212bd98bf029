-- A graph that may stand in a code's parts: with any order of its columns the parts hold it, and elimination may be run on them.
-- Assumes nothing.
use Prim.Native.Nat.{ℕ, ◌+◌, ◌-◌, ◌*◌, ◌<◌, ◌≤◌}
use mathlib.Core.Path.{◌≡◌, ap, sym, ◌∙◌, subst}
use mathlib.Core.List.{List, map}
use native.Mathlib.Omega.{arith}
use lib.ListN.{length, get_or, length-map}
use Rattle.lists.specs.Chain.{start_of}
use Rattle.lists.specs.EachOnce.{EachOnce}
use Rattle.lists.specs.Entry.{nth}
use Rattle.lists.specs.Values.{values}
use Rattle.lists.proofs.Chain.{start_is, start_more, chain_even}
use Rattle.lists.proofs.EachOnce.{each_once_ext}
use Rattle.lists.proofs.Values.{values-length, values_at}
use Rattle.calls.specs.Parts.{padded}
use Rattle.calls.proofs.Parts.{Padded, padded_is}
use Rattle.elimination.specs.Graph.{Edge, Graph, check_count, check, edges}
use Rattle.elimination.specs.Matrix.{matrix_of}
use Rattle.elimination.specs.Elimination.{State, reduced, infos, table}
use Rattle.graph.specs.Parts.{variables, coefficients, row_starts, places, columns, column_starts}
use Rattle.elimination.specs.Held.{held}
use Rattle.elimination.specs.Encodable.{Encodable}
use Rattle.graph.proofs.RowStarts.{rows_last, edge_inside, coefficient_at}
use Rattle.graph.proofs.Places.{places_all}
use Rattle.graph.proofs.Held.{held_is}
use Rattle.elimination.proofs.Entries.{Small}
use Rattle.elimination.proofs.Eliminated.{Eliminated}
use Rattle.elimination.proofs.Infos.{infos_count, rank_columns, table_fits}
use Rattle.elimination.proofs.Reduced.{reduced_is, reduced_order}

pub record Proper (g : Graph) : Type 0 where
  pub n_small : g.n ≤ 256
  pub m_small : check_count g ≤ 256
  pub few : length (edges g) ≤ 512
  -- each edge is of a variable below n, with a coefficient of 1 to 31
  pub variable : (e : ℕ) → e < length (edges g) → nth (variables g) e < g.n
  pub coefficient : (e : ℕ) → e < length (edges g) → (0 < nth (coefficients g) e) × (nth (coefficients g) e < 32)
  -- in no check a variable stands twice
  pub once : (c s t : ℕ) → c < check_count g → s < length (check g c) → t < length (check g c) → (get_or (check g c) s (0, 0)).0 ≡ (get_or (check g c) t (0, 0)).0 → s ≡ t

-- the parts of a graph
abbrev pub var_part : Graph → List ℕ
var_part g = padded 512 0 (variables g)

abbrev pub coef_part : Graph → List ℕ
coef_part g = padded 512 0 (coefficients g)

abbrev pub row_part : Graph → List ℕ
row_part g = padded 257 0 (row_starts g)

abbrev pub start_part : Graph → List ℕ
start_part g = padded 257 0 (column_starts g)

abbrev pub col_part : Graph → List ℕ
col_part g = padded 512 0 (columns g)

pub vars_long : (g : Graph) → length (variables g) ≡ length (edges g)
vars_long g = length-map (edges g) (λ (e : Edge). e.0)

table-length : (n : ℕ) (s : State) → length (table n s) ≡ s.rank * length (infos n s)
unfolding table
table-length n s = chain_even (length (infos n s)) s.rank (λ i. map (s.matrix i) (infos n s)) (λ i h. length-map (infos n s) (s.matrix i))

module _ (g : Graph) (ok : Proper g) where
  -- ---- what stands in the parts of the graph

  pub vars_below : (e : ℕ) → e < length (variables g) → nth (variables g) e < g.n
  vars_below e h = ok.variable e (omega (arith, vars_long g))

  pub places_last : start_of (places (variables g)) g.n ≡ length (edges g)
  places_last = places_all (variables g) g.n vars_below ∙ vars_long g

  pub var_padded : Padded 512 (length (edges g)) (variables g)
  var_padded = padded_is 512 (length (edges g)) (variables g) (vars_long g) ok.few

  pub coef_padded : Padded 512 (length (edges g)) (coefficients g)
  coef_padded = padded_is 512 (length (edges g)) (coefficients g) (length-map (edges g) (λ (e : Edge). e.1)) ok.few

  pub row_padded : Padded 257 (check_count g + 1) (row_starts g)
  row_padded = padded_is 257 (check_count g + 1) (row_starts g) (values-length (start_of (check g)) (check_count g + 1)) (omega (arith, ok.m_small))

  pub start_padded : Padded 257 (g.n + 1) (column_starts g)
  start_padded = padded_is 257 (g.n + 1) (column_starts g) (values-length (start_of (places (variables g))) (g.n + 1)) (omega (arith, ok.n_small))

  pub col_padded : Padded 512 (length (edges g)) (columns g)
  col_padded = padded_is 512 (length (edges g)) (columns g) (sym (start_is (places (variables g)) g.n) ∙ places_last) ok.few

  pub row_in : (c : ℕ) → c ≤ check_count g → nth (row_part g) c ≡ start_of (check g) c
  row_in c h = row_padded.front c (omega arith) ∙ values_at (start_of (check g)) (check_count g + 1) c 0 (omega arith)

  pub start_in : (v : ℕ) → v ≤ g.n → nth (start_part g) v ≡ start_of (places (variables g)) v
  start_in v h = start_padded.front v (omega arith) ∙ values_at (start_of (places (variables g))) (g.n + 1) v 0 (omega arith)

  pub var_in : (e : ℕ) → e < length (edges g) → nth (var_part g) e < g.n
  var_in e h = omega (arith, var_padded.front e h, ok.variable e h)

  pub coef_in : (e : ℕ) → e < length (edges g) → (0 < nth (coef_part g) e) × (nth (coef_part g) e < 32)
  coef_in e h = let b = ok.coefficient e h in let q = coef_padded.front e h in (omega arith, omega arith)

  pub parts_hold : held g.n (check_count g) (var_part g) (coef_part g) (row_part g) ≡ g
  parts_hold = held_is g (var_part g) (coef_part g) (row_part g) var_padded.front coef_padded.front row_in

  pub proper_small : Small g
  proper_small c t h l = subst (λ (x : ℕ). x < 32) (coefficient_at g c t h l) (ok.coefficient (start_of (check g) c + t) (edge_inside g c t h l)).1

  -- ---- with an order of the columns

  module _ (order : List ℕ) (long : length order ≡ g.n) (each : EachOnce g.n (nth order)) where
    abbrev s : State
    s = reduced g order

    pub order_padded : Padded 256 g.n order
    order_padded = padded_is 256 g.n order long ok.n_small

    pub order_each : EachOnce g.n (nth (padded 256 0 order))
    order_each = each_once_ext g.n (nth (padded 256 0 order)) (nth order) order_padded.front each

    pub parts_encodable : Encodable g.n (check_count g) (var_part g) (coef_part g) (row_part g) (padded 256 0 order)
    parts_encodable = record {
      graph = record {
        m_small = ok.m_small;
        var_long = var_padded.whole;
        coef_long = coef_padded.whole;
        row_long = row_padded.whole;
        rise = λ c h. omega (arith, row_in c (omega arith), row_in (c + 1) (omega arith), start_more (check g) c);
        end = omega (arith, last, ok.few);
        vars = λ e h. omega (arith, var_in e (omega (arith, last)), ok.n_small);
      };
      n_small = ok.n_small;
      vars = λ e h. var_in e (omega (arith, last));
      coefs = λ e h. (coef_in e (omega (arith, last))).1;
      order_long = order_padded.whole;
      columns = order_each.inside;
    }
      where
        last : nth (row_part g) (check_count g) ≡ length (edges g)
        last = row_in (check_count g) (omega arith) ∙ rows_last g

    pub parts_reduced : reduced (held g.n (check_count g) (var_part g) (coef_part g) (row_part g)) (padded 256 0 order) ≡ s
    parts_reduced = ap (λ (x : Graph). reduced x (padded 256 0 order)) parts_hold ∙ reduced_order g (padded 256 0 order) order order_padded.front

    -- ---- what elimination gives

    pub proper_eliminated : Eliminated (check_count g) g.n (nth order) (matrix_of g) g.n s
    proper_eliminated = reduced_is g order proper_small each.inside

    pub infos_long : length (infos g.n s) ≡ g.n - s.rank
    infos_long = omega (arith, infos_count proper_eliminated)

    pub table_long : length (table g.n s) ≡ s.rank * (g.n - s.rank)
    table_long = table-length g.n s ∙ ap (λ (k : ℕ). s.rank * k) infos_long

    pub parity_padded : Padded 256 s.rank (values s.rank s.pivot)
    parity_padded = padded_is 256 s.rank (values s.rank s.pivot) (values-length s.pivot s.rank) (omega (arith, rank_columns proper_eliminated, ok.n_small))

    pub info_padded : Padded 256 (g.n - s.rank) (infos g.n s)
    info_padded = padded_is 256 (g.n - s.rank) (infos g.n s) infos_long (omega (arith, ok.n_small))

    pub table_padded : Padded 16384 (s.rank * (g.n - s.rank)) (table g.n s)
    table_padded =
        padded_is 16384 (s.rank * (g.n - s.rank)) (table g.n s) table_long
        (omega (arith, table-length g.n s, table_long, table_fits proper_eliminated ok.n_small))
