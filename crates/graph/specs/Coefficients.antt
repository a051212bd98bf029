-- Coefficients, drawn after growth, check by check: edge e has 1 + draw mod 31. Document 01, 'Corners of nb.rs'; nb.rs, `NbCode::new`.
-- Assumes nothing.
use Rattle.std.specs.Prelude.{ℕ, ◌+◌, ◌%◌, List, length}
use Rattle.lists.specs.Entry.{nth}
use Rattle.lists.specs.Values.{values}
use Rattle.field.specs.SplitMix64.{draw, after}
use Rattle.elimination.specs.Graph.{Edge}

-- of the edge numbered e, from the generator's state s before all of them
abbrev pub coefficient : ℕ → ℕ → ℕ
coefficient s e = 1 + draw (after e s) % 31

-- variables with their coefficients, the first of them edge number e
unfoldable pub weighted : ℕ → ℕ → List ℕ → List Edge
weighted s e vars = values (length vars) (λ j. (nth vars j, coefficient s (e + j)))
