-- The candidates one after another, in the order of a Gray code, and the best so far. nb.rs, `list_decode`, "Gray code: step i flips alternative `trailing_zeros(i)`";
-- document 01's corner, "a NaN running score is never beaten and never beats".
-- Assumes nothing.
use Rattle.std.specs.Prelude.{ℕ, ◌+◌, List, Float}
use Rattle.std.specs.Int.Count.{count_trailing_zeros}
use Rattle.std.specs.Float.Ieee.{lt}
use Rattle.lists.specs.Choice.{pick}
use Rattle.lists.specs.Iter.{iter}
use Rattle.words.specs.Linear.{sum_of}
use Rattle.candidates.specs.Score.{score, score_after}

-- the candidate at hand with its running score, and the best
pub record Tried : Type 0 where
  pub word : List ℕ
  pub score : Float
  pub best : List ℕ
  pub best_score : Float

unfoldable pub beginning : List Float → List ℕ → Tried
beginning metrics base = record { word = base; score = score metrics base; best = base; best_score = score metrics base }

-- g is added to the candidate at hand
unfoldable pub flipped : List Float → List ℕ → Tried → Tried
flipped metrics g s = record { word = sum_of s.word g; score = score_after metrics g s.word s.score; best = s.best; best_score = s.best_score }

-- it is the best from here on only where its score is greater
unfoldable pub compared : Tried → Tried
compared s = pick (lt s.best_score s.score) (record { word = s.word; score = s.score; best = s.word; best_score = s.score }) s

-- step i + 1; alternative j adds `gens j`
abbrev pub step : List Float → (ℕ → List ℕ) → ℕ → Tried → Tried
step metrics gens i s = compared (flipped metrics (gens (count_trailing_zeros 32 (i + 1))) s)

-- after so many steps
unfoldable pub tried : List Float → (ℕ → List ℕ) → List ℕ → ℕ → Tried
tried metrics gens base steps = iter steps (step metrics gens) (beginning metrics base)
