-- The parity-check matrix of a graph: row i and column j hold the field sum of the coefficients that check i has for variable j. nb.rs, `build_encoder`'s `h`.
-- Assumes nothing.
use Rattle.std.specs.Prelude.{ℕ, eqb}
use mathlib.Core.List.{List, foldl}
use Rattle.std.specs.Int.Bits.{bit_xor}
use Rattle.lists.specs.Choice.{pick}
use Rattle.elimination.specs.Graph.{Edge, Graph, check}

-- a matrix by row and column
abbrev pub Matrix : Type 0
Matrix = ℕ → ℕ → ℕ

-- an edge of variable j adds its coefficient
abbrev pub entry_turn : ℕ → ℕ → Edge → ℕ
entry_turn j sum e = pick (eqb e.0 j) (bit_xor sum e.1) sum

unfoldable pub entry : List Edge → ℕ → ℕ
entry es j = foldl (entry_turn j) 0 es

unfoldable pub matrix_of : Graph → Matrix
matrix_of g i j = entry (check g i) j
