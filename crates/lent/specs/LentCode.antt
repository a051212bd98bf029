-- How a lent code turns a call down: numbers 2, 3, 6 and 7. Document 01, "Turning a call down".
-- Assumes nothing.
use Rattle.std.specs.Prelude.{◌≡◌, Bool, List, [], ◌∷◌, ◌++◌, ℕ, None}
use Rattle.calls.specs.Refusal.{first_of, misfits, misfit}
use Rattle.calls.specs.declared.Refusal.{Refusal}
use Rattle.calls.specs.declared.Refusal.TheVariants.{Size, Length, Malformed, Misencoded}
use Rattle.graph.specs.declared.Code.{Code}
use Rattle.graph.specs.Sizes.{too_large, code_lengths}
use Rattle.graph.specs.Parts.{Parts}
use Rattle.lent.specs.Malformed.{malformed}
use Rattle.elimination.specs.Graph.{Graph}
use Rattle.lent.specs.Held.{Held}
use Rattle.lent.specs.Misencoded.{graph_in, misencoded}

-- "A code, built or lent, is not refused where refusals 2 to 7 pass it": 4 and 5 are a build's
abbrev pub NotRefused : Code → Parts → Type 0
NotRefused c p = first_of ((too_large c.n c.m, Size) ∷ (misfit (code_lengths p), Length) ∷ (malformed c p, Malformed) ∷ (misencoded c p, Misencoded) ∷ []) ≡ None

-- the work parts of a call on a lent code, the matrix of the elimination and its pivots: their lengths
abbrev pub matrix_lengths : ℕ → ℕ → List (ℕ × ℕ)
matrix_lengths h pivots = (h, 65536) ∷ (pivots, 256) ∷ []

-- the tests of a call on a lent code that come before its own; `rest` says whether a part of its own has a wrong length
abbrev pub code_refusals : Code → Parts → ℕ → ℕ → Bool → List (Bool × Refusal)
code_refusals c p h pivots rest =
    (too_large c.n c.m, Size)
    ∷ (misfits (code_lengths p ++ matrix_lengths h pivots) rest, Length)
    ∷ (malformed c p, Malformed)
    ∷ (misencoded c p, Misencoded)
    ∷ []

-- the graph of a lent code
abbrev pub graph_of : Held → Graph
graph_of l = graph_in l.code l.parts

-- the same tests of a lent code as a value
abbrev pub lent_refusals : Held → ℕ → ℕ → Bool → List (Bool × Refusal)
lent_refusals l h pivots rest = code_refusals l.code l.parts h pivots rest
