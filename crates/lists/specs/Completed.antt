-- f 0, .., f (r - 1), and after them the numbers below n that are not among them, ascending. Ours, for orders that name some numbers and leave the others in their own order.
-- Assumes nothing.
use Rattle.std.specs.Prelude.{ℕ, ◌-◌, not, List, ltb}
use Rattle.lists.specs.Among.{among}
use Rattle.lists.specs.Choice.{pick}
use Rattle.lists.specs.Entry.{nth}
use Rattle.lists.specs.Keep.{keep_below}

unfoldable pub rest : ℕ → ℕ → (ℕ → ℕ) → List ℕ
rest n r f = keep_below (λ j. not (among r f j)) n

unfoldable pub completed : ℕ → ℕ → (ℕ → ℕ) → ℕ → ℕ
completed n r f t = pick (ltb t r) (f t) (nth (rest n r f) (t - r))
