-- The call code_at: the code of a rate for an information set, into the nine parts of a code. nb.rs, `code_at`.
-- Assumes nothing.
use Rattle.std.specs.Prelude.{ℕ, Bool, List, [], ◌∷◌, ◌++◌, ltb}
use Rattle.calls.specs.Refusal.{misfit}
use Rattle.calls.specs.declared.Refusal.{Refusal}
use Rattle.calls.specs.declared.Refusal.TheVariants.{RateOrLayout, Length}
use Rattle.graph.specs.Parts.{Parts}
use Rattle.graph.specs.Sizes.{code_lengths}

-- 1: a set above 1
abbrev pub set_refusals : ℕ → List (Bool × Refusal)
set_refusals set = (ltb 1 set, RateOrLayout) ∷ []

-- `words` and `bytes` are the work parts' lengths: 2 * 256, and 2 * 65,536
abbrev pub code_at_refusals : ℕ → ℕ → Parts → ℕ → ℕ → List (Bool × Refusal)
code_at_refusals rate set code words bytes =
    (ltb 3 rate, RateOrLayout)
    ∷ (ltb 1 set, RateOrLayout)
    ∷ (misfit (code_lengths code ++ (words, 512) ∷ (bytes, 131072) ∷ []), Length)
    ∷ []
