-- The call even_degrees: e edges spread over n variables as evenly as can be, its degrees, and by which refusals it is turned down. nb.rs, `even_degrees`.
-- Assumes nothing.
use Rattle.std.specs.Prelude.{ℕ, ◌+◌, ◌/◌, ◌%◌, Bool, List, [], ◌∷◌, ltb, length}
use Rattle.lists.specs.Choice.{pick}
use Rattle.calls.specs.Refusal.{misfit}
use Rattle.calls.specs.declared.Refusal.{Refusal}
use Rattle.calls.specs.declared.Refusal.TheVariants.{Size, Length}

-- "degrees `e / n` and one more"
abbrev pub even_degree : ℕ → ℕ → ℕ → ℕ
even_degree n e v = e / n + pick (ltb v (e % n)) 1 0

abbrev pub even_refusals : ℕ → List ℕ → List (Bool × Refusal)
even_refusals n degrees =
    (ltb 256 n, Size)
    ∷ (misfit ((length degrees, n) ∷ []), Length)
    ∷ []
