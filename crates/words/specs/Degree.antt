-- The call degree: how many edges a variable has. Document 01, part 3; nb.rs, `degree`.
-- Assumes nothing.
use Rattle.std.specs.Prelude.{ℕ, Bool, false, List, [], ◌∷◌, ◌++◌, leb}
use Rattle.lists.specs.Times.{times}
use Rattle.calls.specs.declared.Refusal.{Refusal}
use Rattle.calls.specs.declared.Refusal.TheVariants.{Value}
use Rattle.elimination.specs.Graph.{Graph}
use Rattle.graph.specs.Parts.{variables}
use Rattle.lent.specs.Held.{Held}
use Rattle.lent.specs.LentCode.{lent_refusals}

-- how often v stands among the edges' variables
unfoldable pub degree_in : Graph → ℕ → ℕ
degree_in g v = times v (variables g)

-- `h` and `pivots` are the parts' lengths. 8: "a position not below n"
abbrev pub degree_refusals : Held → ℕ → ℕ → ℕ → List (Bool × Refusal)
degree_refusals l v h pivots = lent_refusals l h pivots false ++ (leb l.code.n v, Value) ∷ []
