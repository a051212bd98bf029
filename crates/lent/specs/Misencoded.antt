-- Number 7: whether a lent code's "parity, information or table is not what elimination gives for its graph and order". Document 01, "Turning a call down".
-- Assumes nothing.
use Rattle.std.specs.Prelude.{Bool, not, [], ◌∷◌, eqb}
use Rattle.lists.specs.Front.{differs}
use Rattle.lists.specs.Values.{values}
use Rattle.calls.specs.Refusal.{one_holds}
use Rattle.graph.specs.declared.Code.{Code}
use Rattle.elimination.specs.Graph.{Graph}
use Rattle.elimination.specs.Held.{held}
use Rattle.elimination.specs.Elimination.{State, reduced, infos, table}
use Rattle.graph.specs.Parts.{Parts}

-- the graph of a lent code, and its elimination
abbrev pub graph_in : Code → Parts → Graph
graph_in c p = held c.n c.m p.var p.coef p.row

abbrev pub reduced_in : Code → Parts → State
reduced_in c p = reduced (graph_in c p) p.order

unfoldable pub misencoded : Code → Parts → Bool
misencoded c p =
    one_holds
    (not (eqb c.rank (reduced_in c p).rank)
    ∷ differs (values (reduced_in c p).rank (reduced_in c p).pivot) p.parity
    ∷ differs (infos c.n (reduced_in c p)) p.info
    ∷ differs (table c.n (reduced_in c p)) p.a
    ∷ [])
