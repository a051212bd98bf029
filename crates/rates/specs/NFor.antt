-- The call n_for: how many symbols a word of a rate has. nb.rs, `n_for`.
-- Assumes nothing.
use Rattle.std.specs.Prelude.{ℕ, Bool, List, [], ◌∷◌, ltb}
use Rattle.calls.specs.declared.Refusal.{Refusal}
use Rattle.calls.specs.declared.Refusal.TheVariants.{RateOrLayout}

-- 1: a rate above 3
abbrev pub rate_refusals : ℕ → List (Bool × Refusal)
rate_refusals rate = (ltb 3 rate, RateOrLayout) ∷ []
