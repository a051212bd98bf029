-- A code's Tanner graph as its parts hold it: edges by their places, grouped by check, and each variable's list of places, in whose order products go. Tanner 1981;
-- nb.rs, `NbCode`'s `edges`, `row` and `col`.
-- Assumes nothing.
use Rattle.std.specs.Prelude.{ℕ, ◌+◌, ◌-◌, List, ltb}
use Rattle.lists.specs.Entry.{nth}
use Rattle.lists.specs.Lowest.{lowest}
use Rattle.elimination.specs.Graph.{Graph}
use Rattle.elimination.specs.Held.{held}
use Rattle.graph.specs.declared.Code.{Code}
use Rattle.graph.specs.Parts.{Parts}
use Rattle.lent.specs.Held.{Held}

pub record Tanner : Type 0 where
  pub n : ℕ
  pub m : ℕ
  pub edges : ℕ
  pub var : List ℕ
  pub coef : List ℕ
  pub row : List ℕ
  pub start : List ℕ
  pub col : List ℕ

-- of a lent code
abbrev pub tanner_in : Code → Parts → Tanner
tanner_in c p = record { n = c.n; m = c.m; edges = c.edges; var = p.var; coef = p.coef; row = p.row; start = p.start; col = p.col }

-- of a lent code as a value
abbrev pub tanner_of : Held → Tanner
tanner_of l = tanner_in l.code l.parts

-- the graph that it is
abbrev pub graph_of : Tanner → Graph
graph_of t = held t.n t.m t.var t.coef t.row

-- the check of the edge at place e
unfoldable pub check_of : ℕ → List ℕ → ℕ → ℕ
check_of m row e = lowest (λ c. ltb e (nth row (c + 1))) m 0

-- how many edges variable v has, and the place of its edge j
abbrev pub degree_of : List ℕ → ℕ → ℕ
degree_of start v = nth start (v + 1) - nth start v

abbrev pub place_of : List ℕ → List ℕ → ℕ → ℕ → ℕ
place_of start col v j = nth col (nth start v + j)
