-- Gauss-Jordan elimination over the field: columns in the given order, of each the lowest row at or past the rank that is not 0 there, scaled to 1 and taken
-- from all other rows. nb.rs, `build_encoder`.
-- Assumes nothing.
use Rattle.std.specs.Prelude.{ℕ, suc, ◌-◌, not, List, map, eqb, ltb}
use Rattle.std.specs.Int.Bits.{bit_xor}
use Rattle.lists.specs.Iter.{iter}
use Rattle.lists.specs.Choice.{pick}
use Rattle.lists.specs.Changed.{changed}
use Rattle.lists.specs.Lowest.{lowest}
use Rattle.lists.specs.Among.{among}
use Rattle.lists.specs.Keep.{keep_below}
use Rattle.lists.specs.Entry.{nth}
use Rattle.lists.specs.Chain.{chain}
use Rattle.field.specs.Field.{product, inverse}
use Rattle.elimination.specs.Graph.{Graph, check_count}
use Rattle.elimination.specs.Matrix.{Matrix, matrix_of}

-- rows r and p exchanged
unfoldable pub swapped : ℕ → ℕ → Matrix → Matrix
swapped r p h i = pick (eqb i r) (h p) (pick (eqb i p) (h r) (h i))

-- row r scaled so that its entry in column c is 1
abbrev pub scaled : ℕ → ℕ → Matrix → ℕ → ℕ
scaled r c h j = product (inverse (h r c)) (h r j)

-- its multiples taken from the other rows so that their entries in column c are 0
unfoldable pub cleared : ℕ → ℕ → Matrix → Matrix
cleared r c h i j = pick (eqb i r) (scaled r c h j) (bit_xor (h i j) (product (h i c) (scaled r c h j)))

-- the matrix, the rank so far, and the pivot column of each row below the rank
pub record State : Type 0 where
  pub matrix : Matrix
  pub rank : ℕ
  pub pivot : ℕ → ℕ

-- the lowest row at or past the rank that is not 0 in column c; m where there is none
unfoldable pub pivot_row : ℕ → ℕ → State → ℕ
pivot_row m c s = lowest (λ i. not (eqb (s.matrix i c) 0)) (m - s.rank) s.rank

-- column c, with row p
unfoldable pub pivoted : ℕ → ℕ → State → State
pivoted c p s = record {
  matrix = cleared s.rank c (swapped s.rank p s.matrix);
  rank = suc s.rank;
  pivot = changed s.pivot s.rank c;
}

-- column c: passed over where no row is found
unfoldable pub column_turn : ℕ → ℕ → State → State
column_turn m c s = pick (ltb (pivot_row m c s) m) (pivoted c (pivot_row m c s) s) s

-- the first k columns of the order, of a matrix of m rows
unfoldable pub eliminated : ℕ → (ℕ → ℕ) → Matrix → ℕ → State
eliminated m order h k = iter k (λ t s. column_turn m (order t) s) (record { matrix = h; rank = 0; pivot = λ _. 0 })

-- of a graph, all columns
unfoldable pub reduced : Graph → List ℕ → State
reduced g order = eliminated (check_count g) (nth order) (matrix_of g) g.n

-- the information positions: those without a pivot, ascending
unfoldable pub infos : ℕ → State → List ℕ
infos n s = keep_below (λ j. not (among s.rank s.pivot j)) n

-- the table: for each pivot the factors of the information symbols
unfoldable pub table : ℕ → State → List ℕ
table n s = chain s.rank (λ i. map (s.matrix i) (infos n s))
