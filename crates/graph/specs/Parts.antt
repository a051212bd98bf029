-- The nine parts in which a code, a graph with a column order, stands in lent memory; an entry that is not used is 0. Document 01, number 3 and "an unused entry is not 0";
-- nb.rs, `NbCode`.
-- Assumes nothing.
use Rattle.std.specs.Prelude.{ℕ, ◌+◌, List, [], map, eqb, length}
use Rattle.lists.specs.Entry.{nth}
use Rattle.lists.specs.Values.{values}
use Rattle.lists.specs.Chain.{chain, start_of}
use Rattle.lists.specs.Keep.{keep_below}
use Rattle.calls.specs.Parts.{padded}
use Rattle.elimination.specs.Graph.{Edge, Graph, check_count, check, edges}
use Rattle.elimination.specs.Elimination.{reduced, infos, table}

-- the variable of each edge, and its coefficient
abbrev pub variables : Graph → List ℕ
variables g = map (λ (e : Edge). e.0) (edges g)

abbrev pub coefficients : Graph → List ℕ
coefficients g = map (λ (e : Edge). e.1) (edges g)

-- where each check's edges start; the last entry is the edge count
abbrev pub row_starts : Graph → List ℕ
row_starts g = values (check_count g + 1) (start_of (check g))

-- the places of variable v's edges, ascending, where each edge has the given variable
unfoldable pub places : List ℕ → ℕ → List ℕ
places vars v = keep_below (λ e. eqb (nth vars e) v) (length vars)

-- the places of all variables' edges, and where each variable's start
abbrev pub columns : Graph → List ℕ
columns g = chain g.n (places (variables g))

abbrev pub column_starts : Graph → List ℕ
column_starts g = values (g.n + 1) (start_of (places (variables g)))

pub record Parts : Type 0 where
  pub var : List ℕ
  pub coef : List ℕ
  pub row : List ℕ
  pub start : List ℕ
  pub col : List ℕ
  pub order : List ℕ
  pub parity : List ℕ
  pub info : List ℕ
  pub a : List ℕ

-- what stands in the parts that are lent
abbrev pub lent : List ℕ → List ℕ → List ℕ → List ℕ → List ℕ → List ℕ → List ℕ → List ℕ → List ℕ → Parts
lent var coef row start col order parity info a =
    record { var = var; coef = coef; row = row; start = start; col = col; order = order; parity = parity; info = info; a = a }

-- the parts of a code in another column order: parity, information and table as elimination gives them, the graph's parts as they are
abbrev pub ordered : Graph → List ℕ → Parts → Parts
ordered g order p = record {
  var = p.var;
  coef = p.coef;
  row = p.row;
  start = p.start;
  col = p.col;
  order = padded 256 0 order;
  parity = padded 256 0 (values (reduced g order).rank (reduced g order).pivot);
  info = padded 256 0 (infos g.n (reduced g order));
  a = padded 16384 0 (table g.n (reduced g order));
}

-- of a graph and a column order
unfoldable pub parts : Graph → List ℕ → Parts
parts g order =
    ordered g order
    (record {
      var = padded 512 0 (variables g);
      coef = padded 512 0 (coefficients g);
      row = padded 257 0 (row_starts g);
      start = padded 257 0 (column_starts g);
      col = padded 512 0 (columns g);
      order = [];
      parity = [];
      info = [];
      a = [];
    })
