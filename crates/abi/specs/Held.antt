-- A lent code made of its numbers and parts. Ours.
-- Assumes nothing.
use Rattle.std.specs.Prelude.{ℕ, List}
use Rattle.graph.specs.declared.Code.{Code}
use Rattle.graph.specs.Parts.{lent}
use Rattle.lent.specs.Held.{Held}

-- its numbers
abbrev pub code_of : ℕ → ℕ → ℕ → ℕ → Code
code_of n m edges rank = record { n = n; m = m; edges = edges; rank = rank }

abbrev pub held_of : ℕ → ℕ → ℕ → ℕ → List ℕ → List ℕ → List ℕ → List ℕ → List ℕ → List ℕ → List ℕ → List ℕ → List ℕ → Held
held_of n m edges rank var coef row start col order parity info a =
    record { code = code_of n m edges rank; parts = lent var coef row start col order parity info a }
