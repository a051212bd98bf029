-- The encoding of information symbols, and the information symbols of a word. Document 01, part 3 and "Words of the third demand"; nb.rs, `encode` and `info_of`.
-- Assumes nothing.
use Rattle.std.specs.Prelude.{ℕ, ◌%◌, List, map, length, replicate}
use Rattle.lists.specs.Entry.{nth}
use Rattle.lists.specs.Placed.{placed}
use Rattle.field.specs.Field.{product}
use Rattle.field.specs.FieldSum.{field_sum}
use Rattle.elimination.specs.Graph.{Graph}
use Rattle.elimination.specs.Elimination.{State, reduced, infos}

-- the information positions of a graph in a column order: "those that elimination in the code's column order gives no pivot, in the source's order"
unfoldable pub information_of : Graph → List ℕ → List ℕ
information_of g order = infos g.n (reduced g order)

-- "each symbol is taken mod 32; missing ones are zero"
abbrev pub symbol : List ℕ → ℕ → ℕ
symbol syms t = nth syms t % 32

-- row i of the reduced matrix makes its pivot's symbol the sum over the information symbols, each times the row's entry at its position
abbrev pub parity_symbol : State → List ℕ → (ℕ → ℕ) → ℕ → ℕ
parity_symbol s positions u i = field_sum (length positions) (λ t. product (s.matrix i (nth positions t)) (u t))

unfoldable pub encoding : Graph → List ℕ → List ℕ → List ℕ
encoding g order syms =
    let s = reduced g order in
    let positions = information_of g order in
    placed s.rank s.pivot (parity_symbol s positions (symbol syms)) (placed (length positions) (nth positions) (symbol syms) (replicate g.n 0))

-- a word's own information symbols
unfoldable pub info_symbols : Graph → List ℕ → List ℕ → List ℕ
info_symbols g order x = map (nth x) (information_of g order)
