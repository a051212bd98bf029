-- By which refusals the exported calls of the field are turned down: number 8 is document 01's "a word symbol above 31", and 0, which has no inverse, is turned down
-- as such a symbol is.
-- Assumes nothing.
use Rattle.std.specs.Prelude.{ℕ, Bool, ◌||◌, List, [], ◌∷◌, eqb, ltb}
use Rattle.calls.specs.declared.Refusal.{Refusal}
use Rattle.calls.specs.declared.Refusal.TheVariants.{Value}

abbrev pub mul_refusals : ℕ → ℕ → List (Bool × Refusal)
mul_refusals a b = (ltb 31 a || ltb 31 b, Value) ∷ []

abbrev pub inv_refusals : ℕ → List (Bool × Refusal)
inv_refusals a = (eqb a 0 || ltb 31 a, Value) ∷ []
