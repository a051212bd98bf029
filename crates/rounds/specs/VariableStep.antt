-- The variable step: a variable's posterior, and its messages to checks. Document 01, "A round"; nb.rs, `decode_soft`, "Variable nodes and decisions".
-- Assumes nothing.
use Rattle.std.specs.Prelude.{ℕ, List, eqb}
use Rattle.lists.specs.Choice.{pick}
use Rattle.lists.specs.Iter.{iter}
use Rattle.vectors.specs.Vector.{Vector, entry_product}
use Rattle.vectors.specs.Normalized.{normalized}
use Rattle.rounds.specs.Tanner.{degree_of, place_of}

-- "A variable multiplies channel by messages in edge order": p by the messages at the places of a list of d
unfoldable pub gathered : ℕ → (ℕ → ℕ) → (ℕ → Vector) → Vector → Vector
gathered d place from p = iter d (λ j q. entry_product q (from (place j))) p

-- "without the target's own", which is the one at place e
unfoldable pub gathered_without : ℕ → ℕ → (ℕ → ℕ) → (ℕ → Vector) → Vector → Vector
gathered_without e d place from p = iter d (λ j q. pick (eqb (place j) e) q (entry_product q (from (place j)))) p

-- "and normalises"
unfoldable pub posterior : List ℕ → List ℕ → (ℕ → Vector) → (ℕ → Vector) → ℕ → Vector
posterior start col channel from v = normalized (gathered (degree_of start v) (place_of start col v) from (channel v))

-- to the check of its edge at place e
unfoldable pub to_check : List ℕ → List ℕ → (ℕ → Vector) → (ℕ → Vector) → ℕ → ℕ → Vector
to_check start col channel from v e = normalized (gathered_without e (degree_of start v) (place_of start col v) from (channel v))
