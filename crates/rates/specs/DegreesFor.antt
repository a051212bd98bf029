-- The call degrees_for: the degrees of a rate's positions, into a part of n. nb.rs, `degrees_for`.
-- Assumes nothing.
use Rattle.std.specs.Prelude.{ℕ, Bool, List, [], ◌∷◌, ltb}
use Rattle.calls.specs.Refusal.{misfit}
use Rattle.calls.specs.declared.Refusal.{Refusal}
use Rattle.calls.specs.declared.Refusal.TheVariants.{RateOrLayout, Length}
use Rattle.rates.specs.Rate.{rate_of}

-- `degrees` is the part's length
abbrev pub degrees_for_refusals : ℕ → ℕ → List (Bool × Refusal)
degrees_for_refusals rate degrees = (ltb 3 rate, RateOrLayout) ∷ (misfit ((degrees, (rate_of rate).n) ∷ []), Length) ∷ []
