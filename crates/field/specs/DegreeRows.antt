-- The degree rows of the four rates: document 01, "Parts, lowest first".
-- Assumes nothing.
use Rattle.std.specs.Prelude.{ℕ, List, [], ◌∷◌, slice_index_or}
use Rattle.lists.specs.Entry.{nth}
use Rattle.field.specs.declared.tables.DegreeRow.{DegreeRow}

-- at rates 1/4, 1/3, 1/2 and 2/3: n, m, the number of heavy columns, which come first, and their degree; every other column has degree 2
unfoldable pub degree_rows : List (List ℕ)
degree_rows =
    (205 ∷ 153 ∷ 20 ∷ 6 ∷ [])
    ∷ (156 ∷ 104 ∷ 16 ∷ 5 ∷ [])
    ∷ (104 ∷ 52 ∷ 12 ∷ 4 ∷ [])
    ∷ (78 ∷ 26 ∷ 12 ∷ 3 ∷ [])
    ∷ []

-- the row of a rate, from 0 up
unfoldable pub degree_row : ℕ → DegreeRow
degree_row rate =
    let row = slice_index_or degree_rows rate [] in
    record { n = nth row 0; m = nth row 1; heavy = nth row 2; degree = nth row 3 }
