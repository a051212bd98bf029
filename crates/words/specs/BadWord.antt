-- Number 8 of a lent word: "A word symbol above 31". Document 01, "Turning a call down".
-- Assumes nothing.
use Rattle.std.specs.Prelude.{ℕ, Bool, List, ltb, length}
use Rattle.lists.specs.AnyBelow.{any_below}
use Rattle.lists.specs.Entry.{nth}

unfoldable pub bad_word : List ℕ → Bool
bad_word x = any_below (length x) (λ j. ltb 31 (nth x j))
