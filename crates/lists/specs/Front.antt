-- A part that is longer than what it holds: whether its front differs from a list, and whether an entry past the front is not 0. Ours, for document 01's unused entries.
-- Assumes nothing.
use Rattle.std.specs.Prelude.{ℕ, ◌+◌, ◌-◌, Bool, not, List, eqb, length}
use Rattle.lists.specs.AnyBelow.{any_below}
use Rattle.lists.specs.Entry.{nth}

unfoldable pub differs : List ℕ → List ℕ → Bool
differs l part = any_below (length l) (λ k. not (eqb (nth part k) (nth l k)))

-- past the first k entries
unfoldable pub used_past : ℕ → List ℕ → Bool
used_past k part = any_below (length part - k) (λ j. not (eqb (nth part (k + j)) 0))
