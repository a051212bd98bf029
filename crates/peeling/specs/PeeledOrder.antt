-- The column order of the peeled information set: "the non-picks ascending, then the picks reversed". Document 01, part 2; nb.rs, `with_peeled_info`.
-- Assumes nothing.
use Rattle.std.specs.Prelude.{ℕ, not, List, ◌++◌, reverse, length}
use Rattle.lists.specs.Among.{among}
use Rattle.lists.specs.Entry.{nth}
use Rattle.lists.specs.Keep.{keep_below}

unfoldable pub peeled_order : ℕ → List ℕ → List ℕ
peeled_order n picks = keep_below (λ v. not (among (length picks) (nth picks) v)) n ++ reverse picks
