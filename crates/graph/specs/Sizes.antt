-- Numbers 2 and 3 for the sizes and the parts of a code. Document 01, "Turning a call down".
-- Assumes nothing.
use Rattle.std.specs.Prelude.{ℕ, Bool, ◌||◌, List, [], ◌∷◌, ltb, length}
use Rattle.graph.specs.Parts.{Parts}

-- 2: "n above 256 or m above 256"
abbrev pub too_large : ℕ → ℕ → Bool
too_large n m = ltb 256 n || ltb 256 m

-- 3: each part of a code with its length: "512 edges, 257 row starts, 256 positions, 16,384 table entries"
abbrev pub code_lengths : Parts → List (ℕ × ℕ)
code_lengths p =
    (length p.var, 512)
    ∷ (length p.coef, 512)
    ∷ (length p.row, 257)
    ∷ (length p.start, 257)
    ∷ (length p.col, 512)
    ∷ (length p.order, 256)
    ∷ (length p.parity, 256)
    ∷ (length p.info, 256)
    ∷ (length p.a, 16384)
    ∷ []
