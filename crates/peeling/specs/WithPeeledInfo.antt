-- The call with_peeled_info: the lent code in the column order that peeling gives, its graph as it was. Document 01, part 2; nb.rs, `with_peeled_info`.
-- Assumes nothing.
use Rattle.std.specs.Prelude.{ℕ, Bool, List, [], ◌∷◌, ℤ, length}
use Rattle.calls.specs.declared.Refusal.{Refusal}
use Rattle.calls.specs.Refusal.{misfit}
use Rattle.graph.specs.declared.Code.{Code}
use Rattle.elimination.specs.Elimination.{reduced}
use Rattle.graph.specs.Parts.{Parts, ordered}
use Rattle.lent.specs.Misencoded.{graph_in}
use Rattle.lent.specs.LentCode.{code_refusals}
use Rattle.peeling.specs.Best.{last_of_equal}
use Rattle.peeling.specs.Peeling.{picks_of}
use Rattle.peeling.specs.PeeledOrder.{peeled_order}

-- the column order that peeling gives a lent code; `last` as in Best
unfoldable pub order_of : Bool → Code → Parts → List ℤ → List ℕ
order_of last c p prefer = peeled_order c.n (picks_of last (graph_in c p) prefer)

-- a lent code in another column order: its numbers, and its parts
unfoldable pub code_in : Code → Parts → List ℕ → Code
code_in c p order = record { n = c.n; m = c.m; edges = c.edges; rank = (reduced (graph_in c p) order).rank }

unfoldable pub parts_in : Code → Parts → List ℕ → Parts
parts_in c p order = ordered (graph_in c p) order p

-- by which refusals the call is turned down; h and pivots are the work parts' lengths
abbrev pub peeled_refusals : Code → Parts → List ℤ → ℕ → ℕ → List (Bool × Refusal)
peeled_refusals c p prefer h pivots = code_refusals c p h pivots (misfit ((length prefer, c.n) ∷ []))

-- the code in the order by the last of equal picks
abbrev pub peeled_code : Code → Parts → List ℤ → Code
peeled_code c p prefer = code_in c p (order_of last_of_equal c p prefer)

abbrev pub peeled_parts : Code → Parts → List ℤ → Parts
peeled_parts c p prefer = parts_in c p (order_of last_of_equal c p prefer)
