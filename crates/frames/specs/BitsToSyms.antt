-- The call bits_to_syms: bits to symbols, five to a symbol, into a part of as many as there are. nb.rs, `bits_to_syms`.
-- Assumes nothing.
use Rattle.std.specs.Prelude.{ℕ, ◌+◌, ◌/◌, Bool, List, [], ◌∷◌}
use Rattle.calls.specs.declared.Refusal.{Refusal}
use Rattle.calls.specs.declared.Refusal.TheVariants.{Length}
use Rattle.calls.specs.Refusal.{misfit}

-- `bits` and `syms` are the parts' lengths
abbrev pub bits_to_syms_refusals : ℕ → ℕ → List (Bool × Refusal)
bits_to_syms_refusals bits syms = (misfit ((syms, (bits + 4) / 5) ∷ []), Length) ∷ []
