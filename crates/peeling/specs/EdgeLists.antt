-- What stands in the parts of a code that peeling reads. Ours; no public call's contract cites it.
-- Assumes nothing.
use Rattle.std.specs.Prelude.{ℕ, Bool, false, not, ◌+◌, ◌-◌, List, Option, eqb, find, get_or}
use Rattle.std.specs.List.{position}
use Rattle.std.specs.Option.{option_and_then}
use Rattle.lists.specs.Entry.{nth}
use Rattle.lists.specs.Values.{values}
use Rattle.elimination.specs.Graph.{Graph}
use Rattle.elimination.specs.Held.{held}
use Rattle.peeling.specs.declared.edges.Edges.{Edges}
use Rattle.peeling.specs.Peelable.{symbols_in, edges_on}

-- the symbols of check c, and the places of variable v's edges
abbrev pub symbols : Edges → ℕ → List ℕ
symbols e c = symbols_in e.var.now (nth e.row.now c) (nth e.row.now (c + 1))

abbrev pub places : Edges → ℕ → List ℕ
places e v = values (nth e.start.now (v + 1) - nth e.start.now v) (λ j. nth e.col.now (nth e.start.now v + j))

-- how many of variable v's edges stand in check c
abbrev pub edges_in : Edges → ℕ → ℕ → ℕ
edges_in e v c = edges_on e.row.now e.start.now e.col.now v c

-- the graph, with coefficients that peeling does not read
abbrev pub graph_with : Edges → List ℕ → Graph
graph_with e coef = held e.n e.m e.var.now coef e.row.now

-- the first of some symbols that is unknown
abbrev pub first_new : List Bool → List ℕ → Option ℕ
first_new known symbols = find (λ v. not (get_or known v false)) symbols

-- the unknown symbol of the first check that counts one
abbrev pub followed_by : Edges → List Bool → List ℕ → Option ℕ
followed_by e known unknown = option_and_then (λ c. first_new known (symbols e c)) (position (λ u. eqb u 1) unknown)
